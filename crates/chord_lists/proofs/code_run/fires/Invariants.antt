use Rattle.std.proofs.Common.{◌≡◌, ℕ, ◌<◌, Some}
use Rattle.std.specs.Prelude.{slice_get}
use Rattle.chord_base.specs.declared.event.Entry.{Entry}
use Rattle.chord_code.specs.Meaning.{code_program}
use Rattle.chord_lists.specs.Bag.{numbers_of}
use Rattle.chord_lists.specs.CodeGoes.{LacksAt}
use Rattle.chord_lists.proofs.code_run.fires.Given as goal

abbrev pub invariant-loop-entry : goal.invariant-loop-entry
invariant-loop-entry l = (i : ℕ) (e : Entry) → i < l.entry-index → slice_get l.entries i ≡ Some e → LacksAt (code_program l.program.code.now l.program.limits.now) (numbers_of l.bag) e
