-- What is found of a program: its code, or its first break.
use Rattle.std.specs.Prelude.{◌≡◌, ◌⊎◌, ℕ, List}
use Rattle.chord_base.specs.Agreement.{AgreeInRuns}
use Rattle.chord_base.specs.declared.event.Limits.{Limits}
use Rattle.chord_classes.specs.Breaks.{IsBreak, IsNotAfter, KeepsEveryRule, every_rule}
use Rattle.chord_classes.specs.Plan.{resolved_program}
use Rattle.chord_code.specs.Meaning.{code_program}
use Rattle.chord_code.specs.Sound.{IsSoundCode}
use Rattle.chord_code.specs.declared.parts.Parts.{Parts}
use Rattle.chord_gen.specs.Translation.{code_of}
use Rattle.chord_run.specs.Sources.{IsAcceptedAs}
use Rattle.chord_run.specs.declared.compile.Break.{Break}
use Rattle.chord_run.specs.declared.compile.CompileFault.{CompileFault}
use Rattle.chord_run.specs.declared.compile.CompileFault.TheVariants as fault
use Rattle.chord_source.specs.Source.{source_program}
use Rattle.chord_tree.specs.Tree.{ProgramTree}

-- the code of a program: the program breaks no rule, and the code is the one that its translation gives, is sound and has the
-- program's runs
pub record IsCompiled (program : ProgramTree) (code : Parts) : Type 0 where
  pub kept : KeepsEveryRule program
  pub is_code : code ≡ code_of (resolved_program program)
  pub sound : IsSoundCode code
  pub runs : (limits : Limits) → AgreeInRuns (code_program code limits) (source_program (resolved_program program) limits)

-- the code of an accepted source
pub record IsCompiledSource (source : List ℕ) (code : Parts) : Type 0 where
  pub program : ProgramTree
  pub accepted : IsAcceptedAs source program
  pub code_of : IsCompiled program code

-- a rule that is broken is the first break of all rules
abbrev pub IsCompileFault : ProgramTree → CompileFault → Type 0
IsCompileFault program fault.Memory = Unit {0}
IsCompileFault program (fault.Broken found) = IsBreak every_rule program found.rule found.token

-- one of two breaks, after which the other does not come first
abbrev pub IsEarlier : Break → Break → Break → Type 0
IsEarlier one other found =
    ((found ≡ one) × IsNotAfter one.rule one.token other.rule other.token) ⊎ ((found ≡ other) × IsNotAfter other.rule other.token one.rule one.token)
