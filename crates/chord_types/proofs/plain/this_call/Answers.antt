use Rattle.std.proofs.Common.{map}
use Rattle.chord_tree.specs.Tree.{dots}
use Rattle.chord_tree.specs.Terms.{ThisTerm}
use Rattle.chord_tree.specs.ViewExprs.{see_dot}
use Rattle.chord_types.specs.Sites.{see_site}
use Rattle.chord_types.proofs.Oks.{if_ok}
use Rattle.chord_types.proofs.PlainStmts.{this_plain}
use Rattle.chord_types.proofs.plain.this_call.Goals as goal

pub returns : goal.returns
returns c =
    if_ok c.first_then.result _ _ (λ r h.
    this_plain (see_site c.args.site.now) c.args.at (see_dot c.args.first.now) (dots (map see_dot c.args.calls.now)) c.args.breaks.now.found c.first_then.new.breaks.found r (h (ThisTerm c.args.at) c.args.breaks.now.found c.this-receiver.ensures))
    c.first_then.ensures
