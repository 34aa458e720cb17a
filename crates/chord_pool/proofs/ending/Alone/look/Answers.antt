use Rattle.std.proofs.Common.{inl}
use Rattle.chord_pool.proofs.ending.Alone.look.Goals as goal

pub returns-in-Some-clause-looked : goal.returns-in-Some-clause-looked
returns-in-Some-clause-looked g c = λ _. inl (c.in-Some.ensures.come, c.in-Some.ensures.stirred)
