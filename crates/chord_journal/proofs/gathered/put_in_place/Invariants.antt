use Rattle.std.proofs.Common.{◌≡◌, ◌≤◌, length, IsPermutation}
use Rattle.chord_journal.specs.Gathered.{StandInPlace}
use Rattle.chord_journal.proofs.gathered.put_in_place.Given as goal

abbrev pub invariant-loop : goal.invariant-loop
invariant-loop l = IsPermutation l.fn.entries l.entries × StandInPlace l.place l.entries × (l.place ≤ length l.entries) × (l.count ≡ length l.entries)
