use Rattle.std.proofs.Common.{map}
use Rattle.chord_tree.specs.Tree.{dots}
use Rattle.chord_tree.specs.Terms.{VariableTerm}
use Rattle.chord_tree.specs.ViewExprs.{see_dot}
use Rattle.chord_types.specs.Sites.{see_site}
use Rattle.chord_types.proofs.Oks.{if_ok}
use Rattle.chord_types.proofs.PlainStmts.{method_plain}
use Rattle.chord_types.proofs.plain.method_call.Goals as goal

pub returns : goal.returns
returns c =
    if_ok c.first_then.result _ _ (λ r h.
    method_plain (see_site c.args.site.now) c.args.name.now (see_dot c.args.first.now) (dots (map see_dot c.args.calls.now)) c.args.breaks.now.found c.first_then.new.breaks.found r (h (VariableTerm c.args.name.now) c.args.breaks.now.found c.variable-receiver.ensures))
    c.first_then.ensures
