use Rattle.std.proofs.Common.{sym, ap}
use Rattle.chord_classes.specs.NameRules.{may_reach}
use Rattle.chord_classes.specs.MethodViews.{see_access}
use Rattle.chord_types.specs.Sites.{see_site}
use Rattle.chord_types.proofs.calls.may_reach.Goals as goal

pub returns-in-Private : goal.returns-in-Private
returns-in-Private c = ap (λ z. may_reach (see_site c.args.site.now) c.args.receiver c.args.owner (see_access z)) (sym c.in-Private.is)
