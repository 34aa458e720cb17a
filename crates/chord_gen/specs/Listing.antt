-- The listing of a code: one line for each class, method and chord, and for each block and instruction.
use Rattle.std.specs.Prelude.{ℕ, suc, Bool, true, false, List, [], ◌∷◌, ◌++◌, Option, Some, None, codes, decimal}
use Rattle.std.specs.List.{flat_map}
use Rattle.std.specs.Fmt.{signed_decimal}
use Rattle.chord_code.specs.declared.instruction.Instruction.{Instruction}
use Rattle.chord_code.specs.declared.instruction.Instruction.TheVariants as i
use Rattle.chord_code.specs.declared.parts.MethodLine.{MethodLine}
use Rattle.chord_code.specs.declared.parts.ChordLine.{ChordLine}
use Rattle.chord_code.specs.declared.parts.ClassLine.{ClassLine}
use Rattle.chord_code.specs.declared.parts.Block.{Block}
use Rattle.chord_code.specs.declared.parts.Parts.{Parts}
use Rattle.chord_io.specs.Digits.{byte_text}

-- items, each with its number from n on
abbrev pub numbered : {A : Type 0} → (ℕ → A → List ℕ) → ℕ → List A → List ℕ
numbered line n [] = []
numbered line n (x ∷ xs) = line n x ++ numbered line (suc n) xs

-- a number behind a blank
abbrev pub number_listed : ℕ → List ℕ
number_listed n = codes " " ++ decimal n

-- a truth value
abbrev pub flag_listed : Bool → List ℕ
flag_listed true = codes "true"
flag_listed false = codes "false"

-- the name of an instruction
abbrev pub name_listed : Instruction → List ℕ
name_listed (i.Int n) = codes "int"
name_listed (i.Flag b) = codes "flag"
name_listed (i.Text t) = codes "text"
name_listed (i.Load k) = codes "load"
name_listed (i.Store k) = codes "store"
name_listed i.Drop = codes "drop"
name_listed i.Neg = codes "neg"
name_listed i.Not = codes "not"
name_listed i.Add = codes "add"
name_listed i.Sub = codes "sub"
name_listed i.Mul = codes "mul"
name_listed i.Div = codes "div"
name_listed i.Rem = codes "rem"
name_listed i.Cat = codes "cat"
name_listed i.Eq = codes "eq"
name_listed i.Ne = codes "ne"
name_listed i.Lt = codes "lt"
name_listed i.Le = codes "le"
name_listed i.Gt = codes "gt"
name_listed i.Ge = codes "ge"
name_listed (i.Jump a) = codes "jump"
name_listed (i.Skip a) = codes "skip"
name_listed (i.Again a) = codes "again"
name_listed (i.New c n) = codes "new"
name_listed (i.Init c) = codes "init"
name_listed (i.Send j n) = codes "send"
name_listed (i.Call j n) = codes "call"
name_listed i.Print = codes "print"
name_listed i.End = codes "end"
name_listed i.Endv = codes "endv"
name_listed i.Back = codes "back"

-- the operands of an instruction, each behind a blank; a text is an x, and then each byte
abbrev pub operands_listed : Instruction → List ℕ
operands_listed (i.Int n) = codes " " ++ signed_decimal n
operands_listed (i.Flag b) = codes " " ++ flag_listed b
operands_listed (i.Text t) = codes " x" ++ flat_map byte_text t
operands_listed (i.Load k) = number_listed k
operands_listed (i.Store k) = number_listed k
operands_listed (i.Jump a) = number_listed a
operands_listed (i.Skip a) = number_listed a
operands_listed (i.Again a) = number_listed a
operands_listed (i.New c n) = number_listed c ++ number_listed n
operands_listed (i.Init c) = number_listed c
operands_listed (i.Send j n) = number_listed j ++ number_listed n
operands_listed (i.Call j n) = number_listed j ++ number_listed n
operands_listed _ = []

-- the line of an instruction: its place, its name and its operands
abbrev pub instruction_listed : ℕ → Instruction → List ℕ
instruction_listed a x = decimal a ++ (codes " " ++ (name_listed x ++ (operands_listed x ++ codes "\n")))

-- a block: its number and its slots, and then its instructions
abbrev pub block_listed : ℕ → Block → List ℕ
block_listed b block = codes "block" ++ (number_listed b ++ (number_listed block.slots ++ (codes "\n" ++ numbered instruction_listed 0 block.instructions)))

-- whether callers of a method wait
abbrev pub kind_listed : Bool → List ℕ
kind_listed true = codes " sync"
kind_listed false = codes " async"

-- the line of a method: its number, its name, its kind and its number of parameters
abbrev pub method_listed : ℕ → MethodLine → List ℕ
method_listed j m = codes "method" ++ (number_listed j ++ (codes " " ++ (m.name ++ (kind_listed m.sync ++ (number_listed m.parameters ++ codes "\n")))))

-- the line of a chord: its number, its block and its methods in header order
abbrev pub chord_listed : ℕ → ChordLine → List ℕ
chord_listed k c = codes "chord" ++ (number_listed k ++ (number_listed c.block ++ (flat_map number_listed c.methods ++ codes "\n")))

-- the block of a builder, or a dash
abbrev pub builder_listed : Option ℕ → List ℕ
builder_listed None = codes " -"
builder_listed (Some b) = number_listed b

-- a class: its number, its name and its builder, and then its methods and its chords
abbrev pub class_listed : ℕ → ClassLine → List ℕ
class_listed c x =
    codes "class" ++ (number_listed c ++ (codes " " ++ (x.name ++ (builder_listed x.builder ++ (codes "\n" ++ (numbered method_listed 0 x.methods ++ numbered chord_listed 0 x.chords))))))

-- the listing of a code: its classes, and then its blocks
abbrev pub listing_text : Parts → List ℕ
listing_text code = numbered class_listed 0 code.classes ++ numbered block_listed 0 code.blocks
