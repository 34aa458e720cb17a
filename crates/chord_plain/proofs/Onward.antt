-- From one instruction to what a body comes to.
use Rattle.std.proofs.Common.{◌≡◌, ℕ, zero, suc, ◌<◌, length, get_or, Option, Some, None, refl, sym, ◌∙◌, ap}
use Rattle.std.proofs.lemmas.Option.{slice_get-get_or}
use Rattle.chord_base.specs.declared.event.What.{What}
use Rattle.chord_code.specs.declared.instruction.Instruction.{Instruction}
use Rattle.chord_code.specs.declared.parts.Block.{Block}
use Rattle.chord_code.specs.declared.parts.Parts.{Parts}
use Rattle.chord_code.specs.Fuel.{weight, comes_to}
use Rattle.chord_code.specs.Machine.{Machine, Waiting, Did, Goes, Asking, Bad, IsForward, instr_in, fetch, act, step, goes_on, run}
use Rattle.chord_code.specs.Valid.{IsValid}
use Rattle.chord_code.proofs.Asks.{comes_to_an_end}
use Rattle.chord_code.proofs.Validity.{valid_forward}
use Rattle.chord_code.proofs.Weight.{lighter}

-- an instruction that may be there makes the machine lighter, if it goes on
lighter_by : (code : Parts) (m m' : Machine) (o : Option Instruction) → IsForward code → fetch code m.top.block m.top.place ≡ o → act code o m ≡ Goes m' → weight code m' < weight code m
lighter_by code m m' None f e g = absurd (no g)
  where
    no : Bad ≡ Goes m' → ⊥
    no g = cc
lighter_by code m m' (Some i) f e g = lighter code m m' i f e g

-- each instruction that goes on makes the machine of a valid code lighter
pub lighter_step : (code : Parts) (m m' : Machine) → IsValid code → step code m ≡ Goes m' → weight code m' < weight code m
lighter_step code m m' v g = lighter_by code m m' (fetch code m.top.block m.top.place) (valid_forward code v) refl g

-- an instruction that stands in its block is the one that is fetched
pub found_at : (code : Parts) (b p : ℕ) (block : Block) (x : Instruction) → b < length code.blocks → block ≡ get_or code.blocks b block → p < length block.instructions → x ≡ get_or block.instructions p x → fetch code b p ≡ Some x
found_at code b p block x l e k f =
    ap (λ o. instr_in o p) (slice_get-get_or code.blocks b block l ∙ ap Some (sym e)) ∙ slice_get-get_or block.instructions p x k ∙ ap Some (sym f)

-- what some number of instructions comes to, which is not that the body still goes on
pub record IsBound (code : Parts) (m : Machine) (d : Did) : Type 0 where
  pub count : ℕ
  pub by : run code count m ≡ d
  pub ended : (n : Machine) → d ≡ Goes n → ⊥

-- a machine of a valid code comes to what its bounded run comes to
pub run_bound : (code : Parts) (m : Machine) → IsValid code → IsBound code m (comes_to code m)
run_bound code m v = record { count = suc (weight code m); by = refl; ended = λ n e. comes_to_an_end code (valid_forward code v) m n e }

-- after an instruction that goes on it still comes to that
onwards : (code : Parts) (m m' : Machine) (d : Did) (n : ℕ) → step code m ≡ Goes m' → run code n m ≡ d → ((k : Machine) → d ≡ Goes k → ⊥) → IsBound code m' d
onwards code m m' d zero s e h = absurd (h m (sym e))
onwards code m m' d (suc n) s e h = record { count = n; by = ap (goes_on (run code n)) (sym s) ∙ e; ended = h }

-- after one that goes on the bound is of what is left
pub bound_on : (code : Parts) (m m' : Machine) (d : Did) → step code m ≡ Goes m' → IsBound code m d → IsBound code m' d
bound_on code m m' d s b = onwards code m m' d b.count s b.by b.ended

-- an instruction after which the body does not go on is what it comes to
stops : (code : Parts) (m : Machine) (s d : Did) (n : ℕ) → step code m ≡ s → ((f : Machine → Did) → goes_on f s ≡ s) → run code n m ≡ d → ((k : Machine) → d ≡ Goes k → ⊥) → d ≡ s
stops code m s d zero e g r h = absurd (h m (sym r))
stops code m s d (suc n) e g r h = sym r ∙ ap (goes_on (run code n)) e ∙ g (run code n)

-- an ask of the instruction is what the body comes to
pub bound_asks : (code : Parts) (m : Machine) (d : Did) (a : What) (w : Waiting) → step code m ≡ Asking a w → IsBound code m d → d ≡ Asking a w
bound_asks code m d a w e b = stops code m (Asking a w) d b.count e (λ f. refl) b.by b.ended

-- an instruction that is not defined is what the body comes to
pub bound_bad : (code : Parts) (m : Machine) (d : Did) → step code m ≡ Bad → IsBound code m d → d ≡ Bad
bound_bad code m d e b = stops code m Bad d b.count e (λ f. refl) b.by b.ended
