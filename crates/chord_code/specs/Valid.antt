-- Which code is valid: each number that it names is there, its counts are within their limits, and its blocks end and jump as they may.
use Rattle.std.specs.Prelude.{◌≡◌, ◌<◌, ◌≤◌, ◌-◌, ℕ, List, [], ◌∷◌, length, Bool, false, Option, Some, None, slice_get}
use Rattle.chord_base.specs.Meaning.{OneSync}
use Rattle.chord_base.specs.Messages.{AreDifferent}
use Rattle.chord_code.specs.declared.instruction.Instruction.{Instruction}
use Rattle.chord_code.specs.declared.instruction.Instruction.TheVariants as instr
use Rattle.chord_code.specs.declared.parts.ChordLine.{ChordLine}
use Rattle.chord_code.specs.declared.parts.MethodLine.{MethodLine}
use Rattle.chord_code.specs.declared.parts.ClassLine.{ClassLine}
use Rattle.chord_code.specs.declared.parts.Block.{Block}
use Rattle.chord_code.specs.declared.parts.Parts.{Parts}

-- the builder of this class stands before block b
pub record BuildsBefore (code : Parts) (b c : ℕ) : Type 0 where
  pub line : ClassLine
  pub builder : ℕ
  pub found : slice_get code.classes c ≡ Some line
  pub has : line.builder ≡ Some builder
  pub before : builder < b

-- an instruction at place p of block b, which has n instructions and s slots, names what is there, and jumps as it may
abbrev pub IsRight : Parts → (b s n p : ℕ) → Instruction → Type 0
IsRight code b s n p (instr.Load k) = k < s
IsRight code b s n p (instr.Store k) = k < s
IsRight code b s n p (instr.Jump a) = (p < a) × (a < n)
IsRight code b s n p (instr.Skip a) = (p < a) × (a < n)
IsRight code b s n p (instr.Again a) = a < p
IsRight code b s n p (instr.New c k) = (c < length code.classes) × (k ≤ 8)
IsRight code b s n p (instr.Init c) = BuildsBefore code b c
IsRight code b s n p (instr.Send j k) = (j < 16) × (k ≤ 8)
IsRight code b s n p (instr.Call j k) = (j < 16) × (k ≤ 8)
IsRight code b s n p _ = Unit {0}

-- a block ends by this instruction
abbrev pub Closes : Option Instruction → Type 0
Closes (Some instr.End) = Unit {0}
Closes (Some instr.Endv) = Unit {0}
Closes (Some instr.Back) = Unit {0}
Closes _ = ⊥

-- block b ends, and each of its instructions is right
pub record IsBlock (code : Parts) (b : ℕ) (block : Block) : Type 0 where
  pub closes : Closes (slice_get block.instructions (length block.instructions - 1))
  pub right : (p : ℕ) (x : Instruction) → slice_get block.instructions p ≡ Some x → IsRight code b block.slots (length block.instructions) p x

-- each number is below n
abbrev pub AllLess : ℕ → List ℕ → Type 0
AllLess n [] = Unit {0}
AllLess n (j ∷ js) = (j < n) × AllLess n js

-- whether callers of the method wait
abbrev pub line_is_sync : Option MethodLine → Bool
line_is_sync None = false
line_is_sync (Some m) = m.sync

-- whether callers of a method of the class wait
abbrev pub class_is_sync : ClassLine → ℕ → Bool
class_is_sync c j = line_is_sync (slice_get c.methods j)

-- a chord's block is there; it has methods of its class, none twice, and at most one whose callers wait
pub record IsChordLine (code : Parts) (c : ClassLine) (k : ChordLine) : Type 0 where
  pub block : k.block < length code.blocks
  pub some : 0 < length k.methods
  pub few : length k.methods ≤ 8
  pub there : AllLess (length c.methods) k.methods
  pub different : AreDifferent k.methods
  pub one_sync : OneSync (class_is_sync c) k.methods

-- a class's builder is there; it has at most 16 methods of at most eight parameters each, and at most 256 chords
pub record IsClassLine (code : Parts) (c : ClassLine) : Type 0 where
  pub builder : (b : ℕ) → c.builder ≡ Some b → b < length code.blocks
  pub few_methods : length c.methods ≤ 16
  pub few_chords : length c.chords ≤ 256
  pub few_parameters : (j : ℕ) (m : MethodLine) → slice_get c.methods j ≡ Some m → m.parameters ≤ 8
  pub chords : (k : ℕ) (line : ChordLine) → slice_get c.chords k ≡ Some line → IsChordLine code c line

-- there is a block, there are at most 1,024 classes, and each class and block is as it must be
pub record IsValid (code : Parts) : Type 0 where
  pub main : 0 < length code.blocks
  pub few : length code.classes ≤ 1024
  pub classes : (k : ℕ) (c : ClassLine) → slice_get code.classes k ≡ Some c → IsClassLine code c
  pub blocks : (b : ℕ) (block : Block) → slice_get code.blocks b ≡ Some block → IsBlock code b block
