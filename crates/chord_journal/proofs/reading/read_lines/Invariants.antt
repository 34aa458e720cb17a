use Rattle.std.proofs.Common.{◌≡◌, length}
use Rattle.chord_journal.specs.Wrong.{BeginsWithLines}
use Rattle.chord_journal.proofs.reading.read_lines.Given as goal

abbrev pub invariant-loop-place : goal.invariant-loop-place
invariant-loop-place l = record {
  long : length l.entries.items ≡ l.place;
  begun : BeginsWithLines l.fn.bytes l.count l.entries.items l.rest;
}
