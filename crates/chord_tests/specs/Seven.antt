-- The code of a `Main` that prints 7, and what it does.
use Rattle.std.specs.Prelude.{ℕ, List, [], ◌∷◌, pos}
use Rattle.chord_base.specs.declared.event.Entry.{Entry}
use Rattle.chord_base.specs.declared.event.Limits.{Limits}
use Rattle.chord_base.specs.declared.event.What.TheVariants.{Begun}
use Rattle.chord_base.specs.declared.value.Value.TheVariants as a_value
use Rattle.chord_code.specs.declared.instruction.Instruction.TheVariants as instr
use Rattle.chord_code.specs.declared.parts.Parts.{Parts}
use Rattle.chord_code.specs.Machine.{Machine}

-- the code
abbrev pub seven_code : Parts
seven_code = record { classes = []; blocks = record { slots = 1; instructions = instr.Int (pos 7) ∷ instr.Print ∷ instr.End ∷ [] } ∷ [] }

-- the limits of its runs
abbrev pub seven_limits : Limits
seven_limits = record { events = 9; turns = 9; depth = 9 }

-- its `Main` at this place, with nothing on its stack
abbrev pub seven_at : ℕ → Machine
seven_at p = record { top = record { block = 0; place = p; room = 8; stack = []; slots = a_value.Unit ∷ [] }; below = []; turns = 9 }

-- its `Main` has begun
abbrev pub seven_begun : List Entry
seven_begun = record { number = 0; body = 0; what = Begun } ∷ []
