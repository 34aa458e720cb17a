-- Whether members are taken, one after another.
use Rattle.std.proofs.Common.{◌≡◌, ℕ, List, [], ◌∷◌, length, drop, refl, arith}
use Rattle.chord_base.specs.declared.value.Object.{Object}
use Rattle.chord_base.specs.declared.value.Value as value
use Rattle.chord_base.specs.declared.event.Entry.{Entry}
use Rattle.chord_base.specs.Machine.{Takes}

-- all members are taken exactly where those from this place on are, with the rest of the values
pub record Reaches (h : List Entry) (o : Object) (js ms : List ℕ) (vs : List value.Value) (i : ℕ) (rest : List value.Value) : Type 0 where
  pub on : Takes h o js ms vs → Takes h o (drop i js) (drop i ms) rest
  pub back : Takes h o (drop i js) (drop i ms) rest → Takes h o js ms vs

-- each member has a method
pub takes_lengths : (h : List Entry) (o : Object) (js ms : List ℕ) (vs : List value.Value) → Takes h o js ms vs → length js ≡ length ms
takes_lengths h o [] [] vs t = refl
takes_lengths h o [] (i ∷ ms) vs t = absurd t
takes_lengths h o (j ∷ js) [] vs t = absurd t
takes_lengths h o (j ∷ js) (i ∷ ms) vs t = let e = takes_lengths h o js ms t.1 t.4 in omega (arith, e)
