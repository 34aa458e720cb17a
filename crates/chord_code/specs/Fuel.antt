-- A bound on the instructions up to the next ask, where jumps go forward.
use Rattle.std.specs.Prelude.{ℕ, zero, suc, ◌+◌, ◌*◌, List, [], ◌∷◌, length, Option, Some, None, slice_get, drop}
use Rattle.chord_code.specs.declared.instruction.Instruction.{Instruction}
use Rattle.chord_code.specs.declared.instruction.Instruction.TheVariants as instr
use Rattle.chord_code.specs.declared.parts.Block.{Block}
use Rattle.chord_code.specs.declared.parts.Parts.{Parts}
use Rattle.chord_code.specs.Machine.{Frame, Machine, Did, builder_of, run}

-- the weight of the block that is entered
abbrev pub entered : (ℕ → ℕ) → Option (Option (ℕ × ℕ)) → ℕ
entered w None = 0
entered w (Some None) = 0
entered w (Some (Some b)) = w b.0

-- the instructions of a block, and none where there is no block
abbrev pub items_of : Option Block → List Instruction
items_of None = []
items_of (Some b) = b.instructions

-- the costs of these instructions together
abbrev pub sum_with : (Instruction → ℕ) → List Instruction → ℕ
sum_with f [] = 0
sum_with f (i ∷ is) = f i + sum_with f is

-- an `init` counts the block that it enters
abbrev pub cost_with : Parts → (ℕ → ℕ) → Instruction → ℕ
cost_with code w (instr.Init c) = suc (suc (entered w (builder_of code c)))
cost_with code w _ = 1

-- a block, to a depth of n blocks
abbrev pub whole : ℕ → Parts → ℕ → ℕ
whole zero code b = 0
whole (suc n) code b = sum_with (cost_with code (whole n code)) (items_of (slice_get code.blocks b))

-- the instructions from a place of a block on
abbrev pub left : Parts → ℕ → ℕ → ℕ
left code b p = sum_with (cost_with code (whole b code)) (drop p (items_of (slice_get code.blocks b)))

-- what the blocks that wait have left, and their ways back
abbrev pub waits : Parts → List Frame → ℕ
waits code [] = 0
waits code (f ∷ fs) = suc (left code f.block f.place) + waits code fs

-- all blocks below a number
abbrev pub below_sum : Parts → ℕ → ℕ
below_sum code zero = 0
below_sum code (suc n) = left code n 0 + below_sum code n

-- what all blocks have from their first instruction on
abbrev pub total : Parts → ℕ
total code = below_sum code (length code.blocks)

-- a bound on the instructions of a machine up to its next ask: each turn may run all blocks once more
abbrev pub weight : Parts → Machine → ℕ
weight code m = m.turns * suc (total code) + left code m.top.block m.top.place + waits code m.below

-- what the machine comes to
abbrev pub comes_to : Parts → Machine → Did
comes_to code m = run code (suc (weight code m)) m
