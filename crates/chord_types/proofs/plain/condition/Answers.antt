use Rattle.chord_tree.specs.ViewExprs.{see_expr}
use Rattle.chord_types.specs.Sites.{see_site}
use Rattle.chord_types.proofs.PlainStmts.{condition_checked}
use Rattle.chord_types.proofs.plain.condition.Goals as goal

pub returns : goal.returns
returns c = condition_checked (see_site c.args.site.now) c.args.at (see_expr c.args.test.now) c.args.breaks.now.found c.expr.new.breaks.found c.note_condition.new.breaks.found c.in_ok-test.test c.in_ok-test.ensures c.note_condition.ensures
