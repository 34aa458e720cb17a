use Rattle.std.proofs.Common.{◌∷◌, []}
use Rattle.chord_base.proofs.Hands.{last_tells}
use Rattle.chord_base.proofs.hand.Hand.is_full.Goals as goal

pub returns-clause-full : goal.returns-clause-full
returns-clause-full g c =
    rw (← c.self.view_is)
    (last_tells (c.self.inside.first ∷ c.self.inside.second ∷ c.self.inside.third ∷ c.self.inside.fourth ∷ c.self.inside.fifth ∷ c.self.inside.sixth ∷ c.self.inside.seventh ∷ []) c.self.inside.eighth c.is_some.result c.is_some.ensures c.self.invariant)
