use Rattle.chord_base.proofs.Objects.{objects_were_made}
use Rattle.chord_base.proofs.origins.objects.Goals as goal

pub returns : goal.returns
returns c = objects_were_made
