use Rattle.std.proofs.Common.{inl, inr, arith}
use Rattle.chord_run.proofs.Causes.{answers_of, cuts_short, fills, finishes_with, refuses, silence_of, succeeds}
use Rattle.chord_run.proofs.Complete.{refuses_others, runs_accepted}
use Rattle.chord_run.proofs.Exact.{exact}
use Rattle.chord_run.proofs.top.chord.Goals as goal

pub returns-clause-status_0 : goal.returns-clause-status_0
returns-clause-status_0 g c e = succeeds _ _ c.answer.result _ _ (answers_of _ _ c.answer.result _ _ c.answer.ensures.headline (inl e)) e

pub returns-clause-status_1 : goal.returns-clause-status_1
returns-clause-status_1 g c e = refuses _ _ c.answer.result _ _ (answers_of _ _ c.answer.result _ _ c.answer.ensures.headline (inr (inl e))) e

pub returns-clause-status_4 : goal.returns-clause-status_4
returns-clause-status_4 g c e =
    finishes_with _ _ c.answer.result _ _ 4 (λ x. omega (arith, x)) (λ x. omega (arith, x)) (λ x. omega (arith, x)) (λ x. omega (arith, x))
    (answers_of _ _ c.answer.result _ _ c.answer.ensures.headline (inr (inr (inl e)))) e

pub returns-clause-status_5_prefix : goal.returns-clause-status_5_prefix
returns-clause-status_5_prefix g c e = cuts_short _ _ c.answer.result _ _ (answers_of _ _ c.answer.result _ _ c.answer.ensures.headline (inr (inr (inr (inl e))))) e

pub returns-clause-status_6 : goal.returns-clause-status_6
returns-clause-status_6 g c e = fills _ _ c.answer.result _ _ (answers_of _ _ c.answer.result _ _ c.answer.ensures.headline (inr (inr (inr (inr (inl e)))))) e

pub returns-clause-status_8 : goal.returns-clause-status_8
returns-clause-status_8 g c e =
    finishes_with _ _ c.answer.result _ _ 8 (λ x. omega (arith, x)) (λ x. omega (arith, x)) (λ x. omega (arith, x)) (λ x. omega (arith, x))
    (answers_of _ _ c.answer.result _ _ c.answer.ensures.headline (inr (inr (inr (inr (inr e)))))) e

pub returns-clause-silent : goal.returns-clause-silent
returns-clause-silent g c s = silence_of _ _ c.answer.result _ _ c.answer.ensures.headline s

pub returns-clause-exactly : goal.returns-clause-exactly
returns-clause-exactly g c request asks specified = exact _ _ c.answer.result _ _ c.answer.ensures.headline request asks specified

pub returns-clause-accepted : goal.returns-clause-accepted
returns-clause-accepted g c request asks none_failed =
    runs_accepted _ c.answer.result _ _ (record { words = c.answer.ensures.words_refused; read = c.answer.ensures.read_fault; write = c.answer.ensures.write_fault }) c.answer.ensures.headline request asks none_failed

pub returns-clause-not_accepted : goal.returns-clause-not_accepted
returns-clause-not_accepted g c request asks none_failed =
    refuses_others _ c.answer.result _ _ (record { words = c.answer.ensures.words_refused; read = c.answer.ensures.read_fault; write = c.answer.ensures.write_fault }) c.answer.ensures.headline request asks none_failed
