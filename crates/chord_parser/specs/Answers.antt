-- What `parse` answers.
use Rattle.std.specs.Prelude.{◌≡◌, ℕ, ◌+◌, ◌≤◌, List, [], ◌∷◌, length}
use Rattle.chord_lexer.specs.declared.token.Kind.{Kind}
use Rattle.chord_tree.specs.Symbols.{Whole_program}
use Rattle.chord_tree.specs.Derivation.{Want, NotTall}
use Rattle.chord_tree.specs.Node.{spell}
use Rattle.chord_tree.specs.ClassNodes.{node_program}
use Rattle.chord_tree.specs.Tree.{ProgramTree}
use Rattle.chord_parser.specs.declared.faults.Fault.{Fault}
use Rattle.chord_parser.specs.declared.faults.Fault.TheVariants as faults
use Rattle.chord_parser.specs.declared.parser.ParseFault.{ParseFault}
use Rattle.chord_parser.specs.declared.parser.ParseFault.TheVariants as answers
use Rattle.chord_parser.specs.Exact.{IsWrong, IsTall}

-- a program, in no node
abbrev pub start : List Want
start = (Whole_program, 0) ∷ []

-- no token of the program is deeper than 200
abbrev pub IsNotTall : ProgramTree → Type 0
IsNotTall program = NotTall (spell (node_program program) 0 [])

-- Token k is the first that fits no program, or the first that is too deep.
abbrev pub IsAnswer : List Kind → ParseFault → Type 0
IsAnswer ks answers.Memory = Unit {0}
IsAnswer ks (answers.At k) = (left : ℕ) × (k + left ≡ length ks) × IsWrong start ks left
IsAnswer ks (answers.Tall k) = (left : ℕ) × (k + left ≡ length ks) × IsTall start ks left

-- the same, by the number of tokens that are left
abbrev pub IsStopped : List Kind → Fault → Type 0
IsStopped ks faults.Memory = Unit {0}
IsStopped ks (faults.At n) = (n ≤ length ks) × IsWrong start ks n
IsStopped ks (faults.Tall n) = (n ≤ length ks) × IsTall start ks n
