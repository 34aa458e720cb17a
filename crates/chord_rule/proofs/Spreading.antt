-- Two numbers have two words, and each number of a table has one among those that it has.
use Rattle.std.proofs.Common.{◌≡◌, ℕ, ◌<◌, arith}
use Rattle.chord_rule.specs.Layout.{spread, breadth_for}

-- a number of the table has a word
pub spread_inside : (n i : ℕ) → i < n → spread i < breadth_for n
unfolding spread breadth_for
spread_inside n i low = omega arith

-- two numbers have two words
pub spread_one : (i j : ℕ) → spread i ≡ spread j → i ≡ j
unfolding spread
spread_one i j e = omega (arith, e)
