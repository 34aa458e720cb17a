-- What some lists of words request, computed from the definitions.
use Rattle.std.proofs.Common.{◌≡◌, Option, Some, None, refl}
use Rattle.clap.proofs.OnLiterals.{clap_on_literals}
use Rattle.chord_run.specs.Examples.{HasExamples, HasRefusedExamples}

-- no answer is some answer
none_is_some : {X : Type 0} {x : X} → ◌≡◌ {A = Option X} None (Some x) → ⊥
none_is_some e = cc

-- the words that are accepted
pub accepted_examples : HasExamples
unfolding clap_on_literals
accepted_examples = record {
  shared = record { taken = refl; says = record { mode = refl; limits = refl; workers = refl; one = refl; journal = refl } };
  eight = record { taken = refl; says = record { mode = refl; limits = refl; workers = refl; one = refl; journal = refl } };
  run = record { taken = refl; says = record { mode = refl; limits = refl; workers = refl; one = refl; journal = refl } };
  turned = record { taken = refl; says = record { mode = refl; limits = refl; workers = refl; one = refl; journal = refl } };
  behind = record { taken = refl; says = record { mode = refl; limits = refl; workers = refl; one = refl; journal = refl } };
  journal = record { taken = refl; says = record { mode = refl; limits = refl; workers = refl; one = refl; journal = refl } };
  attached = record { taken = refl; says = record { mode = refl; limits = refl; workers = refl; one = refl; journal = refl } };
  events_apart = record { taken = refl; says = record { mode = refl; limits = refl; workers = refl; one = refl; journal = refl } };
  apart = record { taken = refl; says = record { mode = refl; limits = refl; workers = refl; one = refl; journal = refl } };
  turns_attached = record { taken = refl; says = record { mode = refl; limits = refl; workers = refl; one = refl; journal = refl } };
  workers = record { taken = refl; says = record { mode = refl; limits = refl; workers = refl; one = refl; journal = refl } };
  load = record { taken = refl; says = record { mode = refl; limits = refl; workers = refl; one = refl; journal = refl } };
}

-- the words that are not
pub refused_examples : HasRefusedExamples
unfolding clap_on_literals
refused_examples = record {
  nothing = λ t. absurd (cc);
  twice = λ t. absurd (cc);
  without_value = λ t. absurd (cc);
  with_value = λ t. absurd (cc);
  unknown = λ t. absurd (cc);
  too_many = λ t. absurd (cc);
  no_workers = λ a. none_is_some a.1.says.workers;
  eight_digits = λ a. none_is_some a.1.says.limits;
  no_mode = λ a. none_is_some a.1.says.mode;
  run_with_k = λ a. none_is_some a.1.says.mode;
  load_without_k = λ a. none_is_some a.1.says.mode;
}
