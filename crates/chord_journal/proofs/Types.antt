-- What the types of parts hold, part by part.
use Rattle.std.proofs.Common.{◌≡◌, ℕ, ◌<◌, ◌+◌, List, [], ◌∷◌, ◌++◌, length, take, get_or}
use Rattle.chord_base.specs.declared.value.Value as value
use Rattle.chord_base.specs.declared.event.Entry.{Entry}
use Rattle.chord_io.proofs.Joined.{before_next}
use Rattle.chord_journal.specs.Typed.{IsTypedValue, AreTypedValues, IsTypedWhat, AreTyped}

-- one more value, and one more entry
values_push : (vs : List value.Value) (v : value.Value) → AreTypedValues vs → IsTypedValue v → AreTypedValues (vs ++ (v ∷ []))
values_push [] v all here = (here, tt)
values_push (x ∷ vs) v (first, all) here = (first, values_push vs v all here)

-- one more entry whose parts have their types, behind such entries
entries_push : (es : List Entry) (e : Entry) → AreTyped es → IsTypedWhat e.what → AreTyped (es ++ (e ∷ []))
entries_push [] e all here = (here, tt)
entries_push (x ∷ es) e (first, all) here = (first, entries_push es e all here)

-- the values before the next place, and the entries
pub values_next : (vs : List value.Value) (i : ℕ) (v d : value.Value) → i < length vs → v ≡ get_or vs i d → AreTypedValues (take i vs) → IsTypedValue v →
    AreTypedValues (take (i + 1) vs)
values_next vs i v d within at all here = rw (before_next vs i v d within at) (values_push (take i vs) v all here)

-- one more entry whose parts have their types
pub entries_next : (es : List Entry) (i : ℕ) (e d : Entry) → i < length es → e ≡ get_or es i d → AreTyped (take i es) → IsTypedWhat e.what →
    AreTyped (take (i + 1) es)
entries_next es i e d within at all here = rw (before_next es i e d within at) (entries_push (take i es) e all here)
