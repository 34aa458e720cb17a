-- What some lists of words request, as they are written on the command line.
use Rattle.std.specs.Prelude.{ℕ, Bool, true, false, [], ◌∷◌, codes}
use Rattle.chord_run.specs.Command.{AreAccepted, AreTaken, Requests}
use Rattle.chord_run.specs.declared.command.Mode.{Mode}
use Rattle.chord_run.specs.declared.command.Mode.TheVariants.{Run, Rules, Load}
use Rattle.chord_run.specs.declared.command.Request.{Request}

-- what is requested of one thread
abbrev pub on_one_thread : Mode → ℕ → ℕ → ℕ → Bool → Request
on_one_thread asked events turns workers journal =
    record { mode = asked; limits = record { events = events; turns = turns; depth = 256 }; workers = workers; one = true; journal = journal }

-- what is requested of as many workers
abbrev pub of_workers : Mode → ℕ → Request
of_workers asked workers = record (on_one_thread asked 65536 1000000 workers false) { one = false }

-- `run` alone, which four workers make, and eight; `run --one`, the same the other way round and behind `--`, each option in both its forms, and `load 60`
pub record HasExamples : Type 0 where
  pub shared : Requests (codes "run" ∷ []) (of_workers Run 4)
  pub eight : Requests (codes "run" ∷ codes "--workers=8" ∷ []) (of_workers Run 8)
  pub run : Requests (codes "run" ∷ codes "--one" ∷ []) (on_one_thread Run 65536 1000000 4 false)
  pub turned : Requests (codes "--one" ∷ codes "run" ∷ []) (on_one_thread Run 65536 1000000 4 false)
  pub behind : Requests (codes "--one" ∷ codes "--" ∷ codes "run" ∷ []) (on_one_thread Run 65536 1000000 4 false)
  pub journal : Requests (codes "--journal" ∷ codes "run" ∷ codes "--one" ∷ []) (on_one_thread Run 65536 1000000 4 true)
  pub attached : Requests (codes "run" ∷ codes "--events=16" ∷ codes "--one" ∷ []) (on_one_thread Run 16 1000000 4 false)
  pub events_apart : Requests (codes "run" ∷ codes "--events" ∷ codes "16" ∷ codes "--one" ∷ []) (on_one_thread Run 16 1000000 4 false)
  pub apart : Requests (codes "run" ∷ codes "--turns" ∷ codes "0000005" ∷ codes "--one" ∷ []) (on_one_thread Run 65536 5 4 false)
  pub turns_attached : Requests (codes "run" ∷ codes "--turns=5" ∷ codes "--one" ∷ []) (on_one_thread Run 65536 5 4 false)
  pub workers : Requests (codes "rules" ∷ codes "--one" ∷ codes "--workers" ∷ codes "64" ∷ []) (on_one_thread Rules 65536 1000000 64 false)
  pub load : Requests (codes "load" ∷ codes "60" ∷ codes "--one" ∷ []) (on_one_thread (Load 60) 65536 1000000 4 false)

-- words that are not accepted: none at all, an option twice, one without its value, a flag with one, an unknown one, a word too
-- many; numbers that are none or out of their range, a mode that is none, K with `run`, `load` without K
pub record HasRefusedExamples : Type 0 where
  pub nothing : AreTaken [] → ⊥
  pub twice : AreTaken (codes "run" ∷ codes "--events" ∷ codes "16" ∷ codes "--events=16" ∷ []) → ⊥
  pub without_value : AreTaken (codes "run" ∷ codes "--turns" ∷ codes "--one" ∷ []) → ⊥
  pub with_value : AreTaken (codes "run" ∷ codes "--one=1" ∷ []) → ⊥
  pub unknown : AreTaken (codes "run" ∷ codes "--help" ∷ []) → ⊥
  pub too_many : AreTaken (codes "load" ∷ codes "1" ∷ codes "2" ∷ []) → ⊥
  pub no_workers : AreAccepted (codes "run" ∷ codes "--one" ∷ codes "--workers" ∷ codes "0" ∷ []) → ⊥
  pub eight_digits : AreAccepted (codes "run" ∷ codes "--one" ∷ codes "--events" ∷ codes "00000016" ∷ []) → ⊥
  pub no_mode : AreAccepted (codes "walk" ∷ codes "--one" ∷ []) → ⊥
  pub run_with_k : AreAccepted (codes "run" ∷ codes "3" ∷ codes "--one" ∷ []) → ⊥
  pub load_without_k : AreAccepted (codes "load" ∷ codes "--one" ∷ []) → ⊥
