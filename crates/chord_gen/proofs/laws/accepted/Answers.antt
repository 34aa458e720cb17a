use Rattle.chord_classes.specs.Types.{signatures_of}
use Rattle.chord_classes.proofs.Kept.{types_kept}
use Rattle.chord_classes.proofs.Plans.{plan_kept}
use Rattle.chord_gen.proofs.laws.accepted.Goals as goal

pub returns : goal.returns
returns c = λ p program types plan. record { sig = signatures_of p; typed = types_kept p program types; planned = plan_kept p program plan }
