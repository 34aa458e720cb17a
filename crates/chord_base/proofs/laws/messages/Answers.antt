use Rattle.chord_base.proofs.Sending.{pending_is_sent_not_taken}
use Rattle.chord_base.proofs.Firings.{pending_until_taken, takes_pending, taken_once, members_differ}
use Rattle.chord_base.proofs.laws.messages.Goals as goal

pub returns : goal.returns
returns c = record { pending = pending_is_sent_not_taken; stays = pending_until_taken; taken = takes_pending; once = taken_once; different = members_differ }
