-- What holds of each list of kinds of tokens: which lists are those of programs, and what is said of every other.
use Rattle.std.specs.Prelude.{◌≡◌, ℕ, ◌+◌, ◌<◌, ◌≤◌, ◌≢◌, ◌↔◌, ◌⊎◌, List, [], ◌∷◌, ◌++◌, length, take}
use Rattle.chord_lexer.specs.declared.token.Kind.{Kind}
use Rattle.chord_tree.specs.Derivation.{Spelled, kinds_of, NotTall, Derives}
use Rattle.chord_tree.specs.Node.{spell}
use Rattle.chord_tree.specs.ClassNodes.{node_program}
use Rattle.chord_tree.specs.Program.{IsProgram, spelling}
use Rattle.chord_tree.specs.Tree.{ProgramTree}
use Rattle.chord_parser.specs.declared.parser.ParseFault.{ParseFault}
use Rattle.chord_parser.specs.declared.parser.ParseFault.TheVariants as faults
use Rattle.chord_parser.specs.Answers.{start, IsAnswer, IsNotTall}

-- a program spells the tokens, each with its depth
abbrev pub IsSpelledBySome : List Spelled → Type 0
IsSpelledBySome w = (program : ProgramTree) × IsProgram program × (spell (node_program program) 0 [] ≡ w)

-- the grammar derives tokens exactly where some program spells them, with the same depths
abbrev pub DerivedWhereSpelled : Type 0
DerivedWhereSpelled = (w : List Spelled) → Derives start w ↔ IsSpelledBySome w

-- some program's tokens begin with these, with the same depths
abbrev pub BeginSome : List Spelled → Type 0
BeginSome front = (rest : List Spelled) × IsSpelledBySome (front ++ rest)

-- some program's tokens are of these kinds
abbrev pub AreOfSome : List Kind → Type 0
AreOfSome ks = (program : ProgramTree) × IsProgram program × (spelling program ≡ ks)

-- some program's tokens begin with these kinds
abbrev pub KindsBeginSome : List Kind → Type 0
KindsBeginSome front = (rest : List Kind) × AreOfSome (front ++ rest)

-- Token k is wrong: some program's tokens begin with the first k, none of which is tall, and none's with token k too; or there are k tokens in all, and no program's.
pub record IsFirstWrong (ks : List Kind) (k : ℕ) : Type 0 where
  pub within : k ≤ length ks
  pub front : List Spelled
  pub first : kinds_of front ≡ take k ks
  pub begin : BeginSome front
  pub not_tall : NotTall front
  pub no_further : k < length ks → KindsBeginSome (take (k + 1) ks) → ⊥
  pub not_whole : k ≡ length ks → AreOfSome ks → ⊥

-- Token k is tall, deeper than 200, and none before it is: some program's tokens begin with those up to k.
pub record IsFirstTall (ks : List Kind) (k : ℕ) : Type 0 where
  pub within : k < length ks
  pub front : List Spelled
  pub kind : Kind
  pub depth : ℕ
  pub first : kinds_of front ++ kind ∷ [] ≡ take (k + 1) ks
  pub begin : BeginSome (front ++ (kind, depth) ∷ [])
  pub not_tall : NotTall front
  pub tall : 200 < depth

-- `At(k)` is the answer exactly where token k is wrong
abbrev pub AtMeansWrong : Type 0
AtMeansWrong = (ks : List Kind) (k : ℕ) → IsAnswer ks (faults.At k) ↔ IsFirstWrong ks k

-- `Tall(k)` is the answer exactly where token k is the first that is tall
abbrev pub TallMeansTall : Type 0
TallMeansTall = (ks : List Kind) (k : ℕ) → IsAnswer ks (faults.Tall k) ↔ IsFirstTall ks k

-- the kinds are those of a program without a tall token
abbrev pub AreOfNotTall : List Kind → Type 0
AreOfNotTall ks = (program : ProgramTree) × IsProgram program × IsNotTall program × (spelling program ≡ ks)

-- kinds are those of a program without a tall token, or have a first token that is wrong, or a first that is tall
abbrev pub EachIsAnswered : Type 0
EachIsAnswered = (ks : List Kind) → AreOfNotTall ks ⊎ ((k : ℕ) × IsAnswer ks (faults.At k)) ⊎ ((k : ℕ) × IsAnswer ks (faults.Tall k))

-- kinds have at most one such answer
abbrev pub HasOneAnswer : Type 0
HasOneAnswer = (ks : List Kind) (f g : ParseFault) → f ≢ faults.Memory → g ≢ faults.Memory → IsAnswer ks f → IsAnswer ks g → f ≡ g

-- those of a program without a tall token have none
abbrev pub NotTallHasNone : Type 0
NotTallHasNone = (ks : List Kind) (f : ParseFault) → f ≢ faults.Memory → AreOfNotTall ks → IsAnswer ks f → ⊥
