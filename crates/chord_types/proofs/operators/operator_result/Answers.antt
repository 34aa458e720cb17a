use Rattle.std.proofs.Common.{inl, inr}
use Rattle.chord_types.proofs.operators.operator_result.Goals as goal

pub returns-in-Or : goal.returns-in-Or
returns-in-Or c = elim c.in-Or.is [ inl y ↦ rw y c.from_bools.ensures | inr y ↦ rw y c.from_bools.ensures ]
