use Rattle.chord_tree.specs.ViewExprs.{see_expr}
use Rattle.chord_bodies.proofs.Viewed.{viewed_give}
use Rattle.chord_types.specs.Sites.{see_site}
use Rattle.chord_types.proofs.Doubled.{doubled_give}
use Rattle.chord_types.proofs.PlainStmts.{return_plain}
use Rattle.chord_types.proofs.plain.return_value.Goals as goal

pub returns : goal.returns
returns c =
    return_plain (see_site c.args.site.now) c.args.at (see_expr c.args.value.now) c.args.breaks.now.found c.expr.new.breaks.found c.fit.new.breaks.found c.note_if.new.self.found c.in_ok-value.value c.gives.result c.due_type.result _
    c.in_ok-value.ensures c.fit.ensures.noted c.note_if.ensures c.gives.ensures c.due_type.ensures (viewed_give c.in_ok-value.value.expr) (doubled_give c.in_ok-value.value.expr)
