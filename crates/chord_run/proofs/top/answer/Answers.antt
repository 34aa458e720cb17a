use Rattle.std.proofs.Common.{[], ap, ◌∙◌, arith}
use Rattle.chord_io.proofs.Joined.{Gave-nothing}
use Rattle.chord_run.specs.Command.{made_from}
use Rattle.chord_run.specs.declared.command.Request.{Request}
use Rattle.chord_run.proofs.Answering.{request_answered}
use Rattle.chord_run.proofs.Complete.{one_request}
use Rattle.chord_run.proofs.top.answer.Goals as goal

pub returns-in-Ok-clause-headline : goal.returns-in-Ok-clause-headline
returns-in-Ok-clause-headline g c = request_answered _ _ c.in-Ok.request c.answer_request.result _ _ c.in-Ok.ensures.requested c.answer_request.ensures.answered

pub returns-in-Ok-clause-read_within : goal.returns-in-Ok-clause-read_within
returns-in-Ok-clause-read_within g c = c.answer_request.ensures.read_within

pub returns-in-Err-Refused-clause-taken : goal.returns-in-Err-Refused-clause-taken
returns-in-Err-Refused-clause-taken g c = ([], omega arith, Gave-nothing _)

pub returns-in-Err-Memory-clause-taken : goal.returns-in-Err-Memory-clause-taken
returns-in-Err-Memory-clause-taken g c = ([], omega arith, Gave-nothing _)

pub returns-in-Ok-clause-taken : goal.returns-in-Ok-clause-taken
returns-in-Ok-clause-taken g c = c.answer_request.ensures.taken

pub returns-in-Ok-clause-unaccepted_unread : goal.returns-in-Ok-clause-unaccepted_unread
returns-in-Ok-clause-unaccepted_unread g c none = absurd (none (c.in-Ok.request, c.in-Ok.ensures.requested))

pub returns-in-Ok-clause-made_unread : goal.returns-in-Ok-clause-made_unread
returns-in-Ok-clause-made_unread g c request k asks made =
    let same = one_request _ c.in-Ok.request request c.in-Ok.ensures.requested asks in
    c.answer_request.ensures.made_unread k (ap (λ (r : Request). made_from r.mode) same ∙ made)

pub returns-in-Ok-clause-memory_within : goal.returns-in-Ok-clause-memory_within
returns-in-Ok-clause-memory_within g c = c.answer_request.ensures.memory_within

pub returns-in-Err-Refused-clause-memory_within : goal.returns-in-Err-Refused-clause-memory_within
returns-in-Err-Refused-clause-memory_within g c _ = ([], omega arith, Gave-nothing _)

pub returns-in-Err-Memory-clause-memory_within : goal.returns-in-Err-Memory-clause-memory_within
returns-in-Err-Memory-clause-memory_within g c _ = ([], omega arith, Gave-nothing _)
