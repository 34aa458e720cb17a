use Rattle.chord_types.proofs.Growth.{call_added}
use Rattle.chord_types.proofs.operand.with_call.Goals as goal

pub returns-in_ok-push-in-Calls-clause-built : goal.returns-in_ok-push-in-Calls-clause-built
returns-in_ok-push-in-Calls-clause-built c = call_added c.in-Calls.first c.in-Calls.begin c.in-Calls.more c.push.new.self c.args.call c.args.receiver c.in-Calls.is c.in_ok-push-in-Calls.ensures.items
