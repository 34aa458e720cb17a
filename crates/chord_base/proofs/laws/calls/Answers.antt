use Rattle.chord_base.proofs.Calls.{serves_its_member, serves_only_calls}
use Rattle.chord_base.proofs.laws.calls.Goals as goal

pub returns : goal.returns
returns c = record { member = serves_its_member; only = serves_only_calls }
