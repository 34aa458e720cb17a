use Rattle.std.proofs.Common.{◌≡◌, Some, map, take}
use Rattle.chord_base.specs.Bodies.{answered}
use Rattle.chord_base.specs.BodyTable.{doing_of}
use Rattle.chord_base.proofs.prefix.after_end.Given as goal

abbrev pub invariant-loop-body : goal.invariant-loop-body
invariant-loop-body l = map doing_of l.after.items ≡ map (λ body. answered l.end (Some l.call) (doing_of body)) (take l.body-index l.bodies)
