use Rattle.chord_bodies.proofs.ScopesStay.{scopes_kept}
use Rattle.chord_bodies.proofs.laws.scopes.Goals as goal

pub returns : goal.returns
returns c = scopes_kept
