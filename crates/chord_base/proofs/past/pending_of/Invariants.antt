use Rattle.std.proofs.Common.{◌≡◌, take, reverse, option_and_then, option_copied}
use Rattle.chord_base.specs.Messages.{message_of, pending}
use Rattle.chord_base.proofs.past.pending_of.Given as goal

abbrev pub invariant-loop-entry : goal.invariant-loop-entry
invariant-loop-entry l = option_and_then (λ e. message_of e.what) (option_copied l.found) ≡ pending l.number (reverse (take l.entry-index l.past))
