use Rattle.std.proofs.Common.{◌≡◌, length, take}
use Rattle.std.specs.List.{flat_map}
use Rattle.chord_journal.proofs.merged.count_of.Given as goal

abbrev pub invariant-loop-past : goal.invariant-loop-past
invariant-loop-past l = l.count ≡ length (flat_map (λ past. past.items) (take l.past-index l.pasts))
