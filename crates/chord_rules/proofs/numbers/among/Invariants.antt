use Rattle.std.proofs.Common.{◌≡◌, drop}
use Rattle.chord_classes.specs.Table.{among}
use Rattle.chord_rules.proofs.numbers.among.Given as goal

abbrev pub invariant-loop-other : goal.invariant-loop-other
invariant-loop-other l = among l.number (drop l.other-index l.numbers) ≡ among l.number l.numbers
