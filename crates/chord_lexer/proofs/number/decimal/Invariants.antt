use Rattle.std.proofs.Common.{◌≡◌, ◌≤◌, ◌-◌, length, take, true}
use Rattle.chord_lexer.specs.Letters.{is_digit, all_pass}
use Rattle.chord_lexer.specs.Numbers.{value_after}
use Rattle.chord_lexer.proofs.number.decimal.Given as goal

-- the digits so far have this value
abbrev pub invariant-loop-at : goal.invariant-loop-at
invariant-loop-at l = (l.at ≤ length l.text) × (l.value ≤ 2147483648) × (all_pass is_digit (take l.at l.text) ≡ true) × (l.value ≡ value_after 0 (take l.at l.text))

abbrev pub decreases-loop-at : goal.decreases-loop-at
decreases-loop-at l = length l.text - l.at
