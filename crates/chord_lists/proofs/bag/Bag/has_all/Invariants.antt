use Rattle.std.proofs.Common.{take}
use Rattle.chord_lists.specs.Bag.{HasMessages, numbers_of}
use Rattle.chord_lists.proofs.bag.Bag.has_all.Given as goal

abbrev pub invariant-loop-method : goal.invariant-loop-method
invariant-loop-method l = HasMessages l.object (take l.method-index l.methods) (numbers_of l.self)
