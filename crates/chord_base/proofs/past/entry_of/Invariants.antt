use Rattle.std.proofs.Common.{◌≡◌, ◌==◌, take, reverse, find, option_copied}
use Rattle.chord_base.proofs.past.entry_of.Given as goal

abbrev pub invariant-loop-entry : goal.invariant-loop-entry
invariant-loop-entry l = option_copied l.found ≡ find (λ e. e.number == l.number) (reverse (take l.entry-index l.past))
