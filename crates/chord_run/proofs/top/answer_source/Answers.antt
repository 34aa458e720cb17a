use Rattle.std.proofs.Common.{inl, inr}
use Rattle.chord_run.proofs.Answering.{code_answers}
use Rattle.chord_run.proofs.top.answer_source.Goals as goal

pub returns-in-Ok-clause-answered : goal.returns-in-Ok-clause-answered
returns-in-Ok-clause-answered g c = elim c.answer_code.ensures.answered [
  | inl memory ↦ inl memory
  | inr r ↦ inr (code_answers c.same_runs.ensures c.args.request.now c.args.source.now c.in-Ok.code c.answer_code.result _ _ c.in-Ok.ensures.code r)
]
