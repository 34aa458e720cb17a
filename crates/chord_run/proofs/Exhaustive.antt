-- A source is accepted, or it has a cause of a refusal.
use Rattle.std.proofs.Common.{List, ℕ, length, ◌⊎◌, inl, inr}
use Rattle.std.proofs.lemmas.Bool.{cases_lt}
use Rattle.chord_lexer.proofs.Fronts.{read_or_refused}
use Rattle.chord_lexer.specs.Reading.{IsRead}
use Rattle.chord_lexer.specs.declared.token.Token.{Token}
use Rattle.chord_parser.proofs.Programs.{each_is_answered}
use Rattle.chord_parser.specs.Laws.{AreOfNotTall}
use Rattle.chord_tree.specs.Program.{token_kinds}
use Rattle.chord_tree.specs.Tree.{ProgramTree}
use Rattle.chord_rules.specs.Splits.{SplitsAreListed}
use Rattle.chord_run.specs.Laws.{IsAcceptedOrHasCause}
use Rattle.chord_run.specs.Refusals.{IsCause}
use Rattle.chord_run.specs.Sources.{IsAccepted, IsProgramOf, IsShort}
use Rattle.chord_run.specs.declared.refusal.Refusal.{Refusal}
use Rattle.chord_run.specs.declared.refusal.Refusal.TheVariants.{Long, Bad, Syntax, Tall, Rule}
use Rattle.chord_run.proofs.FirstBreak.{broken_or_kept}

-- the source is accepted, or it has a cause of a refusal
abbrev IsSettled : List ℕ → Type 0
IsSettled source = IsAccepted source ⊎ ((refusal : Refusal) × IsCause source refusal)

-- a source with a program is refused by a rule, or accepted
program_settled : SplitsAreListed → (source : List ℕ) (program : ProgramTree) → IsProgramOf source program → IsSettled source
program_settled listed source program g = elim (broken_or_kept listed program) [
  | inl b ↦ inr (Rule b.0 b.1.0, record { program = program; of_source = g; first = b.1.1 })
  | inr kept ↦ inl (program, record { of_source = g; kept = kept })
]

-- a source of not too many bytes whose tokens are of a program without a tall token
not_tall_settled : SplitsAreListed → (source : List ℕ) (tokens : List Token) → IsShort source → IsRead source tokens → AreOfNotTall (token_kinds tokens) → IsSettled source
not_tall_settled listed source tokens short read f = program_settled listed source f.0 (record { short = short; tokens = tokens; read = read; is_program = f.1; not_tall = f.2; spelled = f.3 })

-- a source of not too many bytes that reads as tokens
read_settled : SplitsAreListed → (source : List ℕ) (tokens : List Token) → IsShort source → IsRead source tokens → IsSettled source
read_settled listed source tokens short read = elim (each_is_answered (token_kinds tokens)) [
  | inl f ↦ not_tall_settled listed source tokens short read f
  | inr (inl a) ↦ inr (Syntax a.0, record { short = short; tokens = tokens; read = read; answer = a.1 })
  | inr (inr a) ↦ inr (Tall a.0, record { short = short; tokens = tokens; read = read; answer = a.1 })
]

-- a source is accepted, or it has a cause of a refusal
pub accepted_or_cause : SplitsAreListed → IsAcceptedOrHasCause
accepted_or_cause listed source = elim (cases_lt 1048576 (length source)) [
  | inl long ↦ inr (Long, long)
  | inr short ↦ elim (read_or_refused source) [
    | inl r ↦ read_settled listed source r.0 short r.1
    | inr r ↦ inr (Bad r.0, (short, r.1))
  ]
]
