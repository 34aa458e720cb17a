use Rattle.std.proofs.Common.{take, drop}
use Rattle.chord_lists.specs.Bag.{numbers_of}
use Rattle.chord_lists.proofs.Taking.{Taking}
use Rattle.chord_lists.proofs.bag.Bag.take_all.Given as goal

abbrev pub invariant-loop-method : goal.invariant-loop-method
invariant-loop-method l = Taking (numbers_of l.fn.self) l.object (take l.method-index l.methods) (drop l.method-index l.methods) l.members (numbers_of l.self)
