use Rattle.std.proofs.Common.{◌≡◌, ℕ, max, vec_len}
use Rattle.chord_lists.specs.Bag.{items_at}
use Rattle.chord_lists.proofs.bag.lengthen.Given as goal

abbrev pub invariant-loop : goal.invariant-loop
invariant-loop g l = (vec_len l.lists ≡ l.counter) × ((i : ℕ) → items_at l.lists.items i ≡ items_at l.fn.lists.items i) × (max l.counter l.count ≡ max (vec_len l.fn.lists) l.count)
