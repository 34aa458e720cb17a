-- What the code does while it builds blocks.
use Rattle.std.specs.Prelude.{◌≡◌, ◌<◌, ◌≤◌, ℕ, zero, suc, List, [], ◌∷◌, ◌++◌, map, length, Bool, true, false, cond, Option, Some, None, unwrap_or, slice_get, option_and_then}
use Rattle.chord_bodies.specs.declared.body.Body.{Body}
use Rattle.chord_bodies.specs.declared.plan.ChordPlan.{ChordPlan}
use Rattle.chord_bodies.specs.Resolved.{BodyOf, ChordOf, ClassOf, Resolved}
use Rattle.chord_bodies.specs.BodyView.{view_body}
use Rattle.chord_code.specs.declared.instruction.Instruction.{Instruction}
use Rattle.chord_code.specs.declared.instruction.Instruction.TheVariants as i
use Rattle.chord_code.specs.declared.parts.Block.{Block}
use Rattle.chord_code.specs.declared.parts.ChordLine.{ChordLine}
use Rattle.chord_code.specs.declared.parts.ClassLine.{ClassLine}
use Rattle.chord_gen.specs.Translation.{has_builder, Origin, OfMain, OfBuilder, OfBody, block_number, block_of, method_line}
use Rattle.chord_gen.specs.Emitting.{AreNarrowStmts}

-- each body names what fits an instruction
abbrev pub AreNarrowBodies : List Body → Type 0
AreNarrowBodies bodies = (j : ℕ) (b : Body) → slice_get bodies j ≡ Some b → AreNarrowStmts (view_body b).stmts

-- the body of a member, if one is named and there
abbrev pub named_body : List Body → Option ℕ → Option BodyOf
named_body bodies o = option_and_then (λ j. slice_get (map view_body bodies) j) o

-- whether there is a number
abbrev pub is_told : Option ℕ → Bool
is_told None = false
is_told (Some n) = true

-- these are the blocks of these origins; and of each class so far the number of its builder, and of each member that of its block
pub record IsBuilt (p : Resolved) (blocks : List Block) (builders : List (Option ℕ)) (members : List ℕ) (os : List Origin) : Type 0 where
  pub blocks_are : blocks ≡ map (block_of p) os
  -- the first block is that of `Main`
  pub begun : (more : List Origin) × (os ≡ OfMain ∷ more)
  pub builders_are : (c : ℕ) (b : Option ℕ) → slice_get builders c ≡ Some b → b ≡ block_number (OfBuilder c) os
  pub builders_tell : (c : ℕ) (b : Option ℕ) → slice_get builders c ≡ Some b → is_told b ≡ has_builder p c
  pub none_beyond : (c : ℕ) → length builders ≤ c → block_number (OfBuilder c) os ≡ None
  pub members_are : (j n : ℕ) → slice_get members j ≡ Some n → n ≡ unwrap_or (block_number (OfBody j) os) 0
  pub all_members : length members ≡ length p.bodies

-- a number that is noted for a member that has none yet
abbrev pub numbered_member : List ℕ → ℕ → ℕ → List ℕ
numbered_member [] j n = []
numbered_member (zero ∷ ms) zero n = n ∷ ms
numbered_member (suc m ∷ ms) zero n = suc m ∷ ms
numbered_member (m ∷ ms) (suc j) n = m ∷ numbered_member ms j n

-- the instruction that runs the builder of a class, if there is one
abbrev pub init_listed : Option ℕ → List Instruction
init_listed None = []
init_listed (Some c) = i.Init c ∷ []

-- the base class, if it has a builder
abbrev pub base_told : List (Option ℕ) → Option ℕ → Option ℕ
base_told builders None = None
base_told builders (Some b) = cond (is_told (unwrap_or (slice_get builders b) None)) (Some b) None

-- the blocks of the class of number c: its builder, if it has one, and the bodies of its own chords
abbrev pub class_origins : Resolved → ℕ → List ℕ → List Origin
class_origins p c own = cond (has_builder p c) (OfBuilder c ∷ []) [] ++ map OfBody own

-- a chord has at most eight methods, whose numbers fit a line
pub record ChordFits (chord : ChordPlan) : Type 0 where
  pub few : length chord.methods.items ≤ 8
  pub low : (k j : ℕ) → slice_get chord.methods.items k ≡ Some j → j < 16

-- the line of a chord, by the numbers that are told for members
abbrev pub told_line : List ℕ → ChordOf → ChordLine
told_line members k = record { block = unwrap_or (slice_get members k.body) 0; methods = k.methods }

-- the line of the class of number c, by the numbers that are told
abbrev pub told_class : List (Option ℕ) → List ℕ → ℕ → ClassOf → ClassLine
told_class builders members c x = record {
  name = x.name;
  builder = unwrap_or (slice_get builders c) None;
  methods = map method_line x.methods;
  chords = map (told_line members) x.chords;
}
