use Rattle.std.proofs.Common.{sym, ap, ◌∙◌}
use Rattle.chord_tree.specs.Tree.{GroupStart}
use Rattle.chord_tree.specs.ViewExprs.{see_expr}
use Rattle.chord_tree.proofs.SeenExprs.{seen_chained, seen_start_chain_group}
use Rattle.chord_tree.proofs.exprs.Start.group.Goals as goal

pub returns-in-Chain : goal.returns-in-Chain
returns-in-Chain c = seen_start_chain_group c.args.at c.in-Chain.chain ∙ ap (GroupStart c.args.at) (sym (ap see_expr c.in-Chain.is ∙ seen_chained c.in-Chain.chain))
