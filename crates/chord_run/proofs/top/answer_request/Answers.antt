-- Of a source that is made from a number nothing is read.
use Rattle.std.proofs.Common.{[], arith}
use Rattle.chord_io.proofs.Joined.{Gave-nothing}
use Rattle.chord_run.proofs.top.answer_request.Goals as goal

pub returns-in-Some-clause-taken : goal.returns-in-Some-clause-taken
returns-in-Some-clause-taken g c = ([], omega arith, Gave-nothing _)

pub returns-in-None-clause-read_within : goal.returns-in-None-clause-read_within
returns-in-None-clause-read_within g c = c.answer_read.ensures.read_within

pub returns-in-None-clause-taken : goal.returns-in-None-clause-taken
returns-in-None-clause-taken g c = c.answer_read.ensures.taken

pub returns-in-Some-clause-memory_within : goal.returns-in-Some-clause-memory_within
returns-in-Some-clause-memory_within g c _ = ([], omega arith, Gave-nothing _)

pub returns-in-None-clause-memory_within : goal.returns-in-None-clause-memory_within
returns-in-None-clause-memory_within g c = c.answer_read.ensures.memory_within
