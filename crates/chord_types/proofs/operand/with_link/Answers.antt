use Rattle.chord_types.proofs.Growth.{link_added}
use Rattle.chord_types.proofs.operand.with_link.Goals as goal

pub returns-in_ok-push-in-Chain-clause-built : goal.returns-in_ok-push-in-Chain-clause-built
returns-in_ok-push-in-Chain-clause-built c = link_added c.in-Chain.first c.in-Chain.begin c.in-Chain.more c.push.new.self c.args.link c.args.left c.in-Chain.is c.in_ok-push-in-Chain.ensures.items
