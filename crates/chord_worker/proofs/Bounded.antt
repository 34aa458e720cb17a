-- The bound of a class that a message of the code names.
use Rattle.std.proofs.Common.{ℕ, ◌<◌, length, arith}
use Rattle.chord_code.specs.declared.parts.Parts.{Parts}
use Rattle.chord_code.specs.Valid.{IsValid}

-- a class of the code has a number below 1,024
pub class_low : (code : Parts) → IsValid code → (c : ℕ) → c < length code.classes → c < 1024
class_low code valid c low = let few = valid.few in omega (arith, low, few)
