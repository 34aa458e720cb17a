use Rattle.std.proofs.Common.{refl, inr, arith}
use Rattle.chord_run.proofs.Answering.{long_answers, source_of}
use Rattle.chord_run.proofs.top.answer_read.Goals as goal

pub returns-in-Err-TooLong-clause-answered : goal.returns-in-Err-TooLong-clause-answered
returns-in-Err-TooLong-clause-answered g c =
    let t = c.in-Err-TooLong.ensures.too_long (rw c.in-Err-TooLong.field-0-is refl) in
    let s = source_of (g.S.Source.left c.args.source.now) _ t.0 t.2 in
    inr (record { source = s.0; given = s.1; answered = long_answers c.args.request.now _ s.0 c.refuse.result _ _ (s.2 (omega (arith, t.1))) c.refuse.ensures.answered })

pub returns-in-Err-Failed-clause-read_within : goal.returns-in-Err-Failed-clause-read_within
returns-in-Err-Failed-clause-read_within g c e = c.in-Err-Failed.ensures.failed_within (rw c.in-Err-Failed.field-0-is refl)

pub returns-in-Err-Failed-clause-taken : goal.returns-in-Err-Failed-clause-taken
returns-in-Err-Failed-clause-taken g c = c.in-Err-Failed.ensures.part

pub returns-in-Err-Memory-clause-taken : goal.returns-in-Err-Memory-clause-taken
returns-in-Err-Memory-clause-taken g c = c.in-Err-Memory.ensures.part

pub returns-in-Err-TooLong-clause-taken : goal.returns-in-Err-TooLong-clause-taken
returns-in-Err-TooLong-clause-taken g c = c.in-Err-TooLong.ensures.part

pub returns-in-Ok-clause-taken : goal.returns-in-Ok-clause-taken
returns-in-Ok-clause-taken g c = (c.in-Ok.bytes.items, omega (arith, c.in-Ok.ensures.fits, c.in-Ok.bytes.ok.0), c.in-Ok.ensures.gave)

pub returns-in-Err-Memory-clause-memory_within : goal.returns-in-Err-Memory-clause-memory_within
returns-in-Err-Memory-clause-memory_within g c _ = let m = c.in-Err-Memory.ensures.memory_within (rw c.in-Err-Memory.field-0-is refl) in (m.0, m.2, m.3)

pub returns-in-Err-TooLong-clause-memory_within : goal.returns-in-Err-TooLong-clause-memory_within
returns-in-Err-TooLong-clause-memory_within g c e = absurd (c.refuse.ensures.sure e)

pub returns-in-Ok-clause-memory_within : goal.returns-in-Ok-clause-memory_within
returns-in-Ok-clause-memory_within g c _ = (c.in-Ok.bytes.items, omega (arith, c.in-Ok.ensures.fits, c.in-Ok.bytes.ok.0), c.in-Ok.ensures.gave)
