-- The next of a message.
use Rattle.std.proofs.Common.{ℕ, ◌<◌, ◌≤◌, Option, Some, None, IfSome, arith}
use Rattle.chord_word.specs.declared.cells.Cell.TheVariants.{Pending, Consumed}
use Rattle.chord_word.specs.Cells.{NextFits, link_of}
use Rattle.chord_rule.specs.Moment.{LinkOk}

-- a number of the table fits in a word
pub next_fits : (n : ℕ) (next : Option ℕ) → n ≤ 65536 → IfSome next (λ x. x < n) → NextFits Pending next
next_fits n None small low = tt
next_fits n (Some x) small low = (tt, omega arith)

-- and in the word of a head
pub link_low : (above : Option ℕ) → LinkOk above → link_of above ≤ 65536
link_low None ok = omega arith
link_low (Some x) ok = omega arith

-- and in that of a consumed message
pub consumed_fits : (n : ℕ) (next : Option ℕ) → n ≤ 65536 → IfSome next (λ x. x < n) → NextFits Consumed next
consumed_fits n None small low = tt
consumed_fits n (Some x) small low = (tt, omega arith)

-- a number of the table fits in a link
pub link_fits : (n : ℕ) (next : Option ℕ) → n ≤ 65536 → IfSome next (λ x. x < n) → LinkOk next
link_fits n None small low = tt
link_fits n (Some x) small low = omega arith
