-- A pen that holds nothing writes the line, and is finished.
use Rattle.std.proofs.Common.{ap, inl, inr}
use Rattle.chord_run.proofs.top.refuse.Goals as goal

pub returns-in-Ok-clause-answered : goal.returns-in-Ok-clause-answered
returns-in-Ok-clause-answered g c =
    let (line, is_line, writes) = rw c.new-pen.ensures at c.put_line.ensures in
    record {
      journal = ap (λ r. r.journal) c.refused.ensures;
      reported = ap (λ r. r.refusal) c.refused.ensures;
      line = line;
      is_line = is_line;
      written = inl (ap (λ r. r.status) c.refused.ensures, c.in-Ok.ensures.whole _ _ _ writes);
    }

pub returns-in-Ok-clause-told : goal.returns-in-Ok-clause-told
returns-in-Ok-clause-told g c =
    let (line, is_line, writes) = rw c.new-pen.ensures at c.put_line.ensures in
    inr (c.in-Ok.ensures.unfailed _ _ _ writes)

pub returns-in-Err-clause-answered : goal.returns-in-Err-clause-answered
returns-in-Err-clause-answered g c =
    let (line, is_line, writes) = rw c.new-pen.ensures at c.put_line.ensures in
    record {
      journal = ap (λ r. r.journal) c.refused-in-Err.ensures;
      reported = ap (λ r. r.refusal) c.refused-in-Err.ensures;
      line = line;
      is_line = is_line;
      written = inr (ap (λ r. r.status) c.refused-in-Err.ensures, c.in-Err.ensures.prefix _ _ _ writes);
    }

pub returns-in-Err-clause-fault : goal.returns-in-Err-clause-fault
returns-in-Err-clause-fault g c five =
    let (line, is_line, writes) = rw c.new-pen.ensures at c.put_line.ensures in
    c.in-Err.ensures.failed _ _ _ writes
