-- The code of a source: its classes, and its blocks with their numbers.
use Rattle.std.specs.Prelude.{ℕ, ◌==◌, zero, suc, List, [], ◌∷◌, ◌++◌, Bool, true, false, ◌||◌, length, map, Option, Some, None, unwrap_or, slice_get, cond}
use Rattle.chord_bodies.specs.Resolved.{BodyOf, ClassOf, ChordOf, MethodOf, Resolved}
use Rattle.chord_bodies.specs.Resolved as body
use Rattle.chord_code.specs.declared.instruction.Instruction.{Instruction}
use Rattle.chord_code.specs.declared.instruction.Instruction.TheVariants as i
use Rattle.chord_code.specs.declared.parts.MethodLine.{MethodLine}
use Rattle.chord_code.specs.declared.parts.ChordLine.{ChordLine}
use Rattle.chord_code.specs.declared.parts.ClassLine.{ClassLine}
use Rattle.chord_code.specs.declared.parts.Block.{Block}
use Rattle.chord_code.specs.declared.parts.Parts.{Parts}
use Rattle.chord_source.specs.Objects.{constructor_of, base_class}
use Rattle.chord_gen.specs.Emitted.{then_code, stmts_code}

-- whether there is a constructor
abbrev pub has_own : Option BodyOf → Bool
has_own None = false
has_own (Some b) = true

-- whether a class, or one of at most n classes above it, has a constructor
abbrev pub builds : Resolved → Option ClassOf → ℕ → Bool
builds p None n = false
builds p (Some x) zero = true
builds p (Some x) (suc n) = has_own (constructor_of p x) || builds p (base_class p x) n

-- A class has a builder where it has a constructor, or a class above it has one. There are fewer classes above a class than classes.
abbrev pub has_builder : Resolved → ℕ → Bool
has_builder p c = builds p (slice_get p.classes c) (length p.classes)

-- what a block is made from: the body of `Main`, the constructor of a class, or the member that is the body of a chord
pub data Origin : Type 0 where
  OfMain : Origin
  OfBuilder : (class : ℕ) → Origin
  OfBody : (member : ℕ) → Origin

-- whether two blocks are made from one
abbrev pub is_origin : Origin → Origin → Bool
is_origin OfMain OfMain = true
is_origin (OfBuilder c) (OfBuilder d) = c == d
is_origin (OfBody j) (OfBody k) = j == k
is_origin _ _ = false

-- the blocks of these classes, of which the first has number c: of each its builder, if it has one, and then the bodies of its own chords
abbrev pub origins_from : Resolved → ℕ → List ClassOf → List Origin
origins_from p c [] = []
origins_from p c (x ∷ xs) = cond (has_builder p c) (OfBuilder c ∷ []) [] ++ (map OfBody x.own ++ origins_from p (suc c) xs)

-- all blocks in order: that of `Main`, and then those of each class
abbrev pub origins : Resolved → List Origin
origins p = OfMain ∷ origins_from p 0 p.classes

-- one more, if there is a number
abbrev pub one_higher : Option ℕ → Option ℕ
one_higher None = None
one_higher (Some n) = Some (suc n)

-- the first place in a list at which what a block is made from stands
abbrev pub block_number : Origin → List Origin → Option ℕ
block_number o [] = None
block_number o (x ∷ xs) = cond (is_origin o x) (Some 0) (one_higher (block_number o xs))

-- the block of a body: the code of its statements, and `end`
abbrev pub body_block : Option BodyOf → Block
body_block None = record { slots = 1; instructions = i.End ∷ [] }
body_block (Some b) = record { slots = body.slots_of b; instructions = stmts_code false b.stmts 0 ++ i.End ∷ [] }

-- the instruction that runs the builder of the base class, if that has one
abbrev pub init_code : Resolved → Option ℕ → List Instruction
init_code p None = []
init_code p (Some b) = cond (has_builder p b) (i.Init b ∷ []) []

-- the code of a class's own constructor, if it has one
abbrev pub own_code : Option BodyOf → ℕ → List Instruction
own_code None a = []
own_code (Some b) a = stmts_code true b.stmts a

-- a builder has the slots of its class's own constructor, or one
abbrev pub own_slots : Option BodyOf → ℕ
own_slots None = 1
own_slots (Some b) = body.slots_of b

-- the block of a builder: the base's builder, the class's own constructor, and `back`
abbrev pub builder_block : Resolved → Option ClassOf → Block
builder_block p None = record { slots = 1; instructions = i.Back ∷ [] }
builder_block p (Some x) = record {
  slots = own_slots (constructor_of p x);
  instructions = then_code 0 (init_code p x.base) (λ a. own_code (constructor_of p x) a ++ i.Back ∷ []);
}

-- the block that is made from this
abbrev pub block_of : Resolved → Origin → Block
block_of p OfMain = body_block (slice_get p.bodies p.main)
block_of p (OfBuilder c) = builder_block p (slice_get p.classes c)
block_of p (OfBody j) = body_block (slice_get p.bodies j)

-- the line of a method
abbrev pub method_line : MethodOf → MethodLine
method_line m = record { name = m.name; sync = m.is_sync; parameters = m.parameters }

-- the line of a chord, with the block of its body
abbrev pub chord_line : Resolved → ChordOf → ChordLine
chord_line p k = record { block = unwrap_or (block_number (OfBody k.body) (origins p)) 0; methods = k.methods }

-- the line of the class of number c
abbrev pub class_line : Resolved → ℕ → ClassOf → ClassLine
class_line p c x = record {
  name = x.name;
  builder = block_number (OfBuilder c) (origins p);
  methods = map method_line x.methods;
  chords = map (chord_line p) x.chords;
}

-- the lines of these classes, of which the first has number c
abbrev pub lines_from : Resolved → ℕ → List ClassOf → List ClassLine
lines_from p c [] = []
lines_from p c (x ∷ xs) = class_line p c x ∷ lines_from p (suc c) xs

-- the code of a source
abbrev pub code_of : Resolved → Parts
code_of p = record { classes = lines_from p 0 p.classes; blocks = map (block_of p) (origins p) }
