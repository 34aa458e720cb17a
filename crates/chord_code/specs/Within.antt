-- The bounds of what a code names, and so of what it asks. A valid code keeps to them.
use Rattle.std.specs.Prelude.{◌≡◌, ◌<◌, ◌≤◌, ℕ, length, Some}
use Rattle.chord_base.specs.declared.event.What.{What}
use Rattle.chord_base.specs.declared.event.What.TheVariants.{Begun, Made, Sent, Called, Printed, Fired, Ended}
use Rattle.chord_code.specs.declared.instruction.Instruction.{Instruction}
use Rattle.chord_code.specs.declared.instruction.Instruction.TheVariants as instr
use Rattle.chord_code.specs.declared.parts.Parts.{Parts}
use Rattle.chord_code.specs.Machine.{fetch}

-- an instruction names a class below 1,024, and a method below 16 with at most eight arguments
abbrev pub IsInstructionWithin : Instruction → Type 0
IsInstructionWithin (instr.New c n) = c < 1024
IsInstructionWithin (instr.Send j n) = (j < 16) × (n ≤ 8)
IsInstructionWithin (instr.Call j n) = (j < 16) × (n ≤ 8)
IsInstructionWithin _ = Unit {0}

-- each instruction is within its bounds
abbrev pub IsCodeWithin : Parts → Type 0
IsCodeWithin code = (b p : ℕ) (i : Instruction) → fetch code b p ≡ Some i → IsInstructionWithin i

-- an ask names a class below 1,024, and a method below 16 with at most eight arguments
abbrev pub IsAskWithin : What → Type 0
IsAskWithin (Made c) = c < 1024
IsAskWithin (Sent o j vs) = (j < 16) × (length vs ≤ 8)
IsAskWithin (Called o j vs) = (j < 16) × (length vs ≤ 8)
IsAskWithin Begun = Unit {0}
IsAskWithin (Printed t) = Unit {0}
IsAskWithin (Fired k o ms vs) = Unit {0}
IsAskWithin (Ended x) = Unit {0}
