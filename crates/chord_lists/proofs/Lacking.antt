-- The chords of a class that a search has passed: they lack the method, or a message.
use Rattle.std.proofs.Common.{◌≡◌, ℕ, ◌+◌, ◌<◌, true, false, List, Some, length, sym, ap, ◌∙◌, subst, arith, ⊎_elim}
use Rattle.std.specs.Prelude.{slice_get}
use Rattle.std.proofs.lemmas.Bool.{cases_lt}
use Rattle.std.proofs.lemmas.Option.{slice_get_within}
use Rattle.chord_base.specs.declared.value.Object.{Object}
use Rattle.chord_base.specs.Messages.{has}
use Rattle.chord_code.specs.Headers.{LackHeader}
use Rattle.chord_lists.specs.Bag.{Address, LacksAMessage}
use Rattle.chord_lists.proofs.Spots.{one_some}

-- the chords before this number that have the method lack a message
abbrev pub EachBeforeLacks : List (List ℕ) → Object → ℕ → (Address → List ℕ) → ℕ → Type 0
EachBeforeLacks chords o j index n = (k : ℕ) (js : List ℕ) → k < n → slice_get chords k ≡ Some js → has j js ≡ true → LacksAMessage o js index

-- no chord that lacks the method has it
pub lack_past : (chords : List (List ℕ)) (o : Object) (j : ℕ) (index : Address → List ℕ) (from n : ℕ) → LackHeader j chords from n → EachBeforeLacks chords o j index from → EachBeforeLacks chords o j index n
lack_past chords o j index from n off before k js lt e on =
    ⊎_elim (λ less. before k js less e on)
    (λ le. let z : false ≡ true = sym (off k js le lt e) ∙ on in absurd (cc))
    (cases_lt k from)

-- one chord more lacks a message
pub lacks_one : (chords : List (List ℕ)) (o : Object) (j : ℕ) (index : Address → List ℕ) (n : ℕ) (ms : List ℕ) → slice_get chords n ≡ Some ms → LacksAMessage o ms index → EachBeforeLacks chords o j index n → EachBeforeLacks chords o j index (n + 1)
lacks_one chords o j index n ms is lacks before k js lt e on =
    ⊎_elim (λ less. before k js less e on)
    (λ le.
    let q : k ≡ n = omega (arith, le, lt) in
    subst (λ z. LacksAMessage o z index) (one_some ms js (slice_get chords k) (ap (slice_get chords) q ∙ is) e) lacks)
    (cases_lt k n)

-- all of them do where none of the others has the method
pub all_lack : (chords : List (List ℕ)) (o : Object) (j : ℕ) (index : Address → List ℕ) (from : ℕ) → LackHeader j chords from (length chords) → EachBeforeLacks chords o j index from → (k : ℕ) (js : List ℕ) → slice_get chords k ≡ Some js → has j js ≡ true → LacksAMessage o js index
all_lack chords o j index from off before k js e = lack_past chords o j index from (length chords) off before k js (slice_get_within chords k js e) e
