-- The next ask of a machine: one, and found within its weight.
use Rattle.std.proofs.Common.{◌≡◌, ℕ, zero, suc, ◌<◌, ◌+◌, ◌≤◌, List, [], ◌∷◌, ◌++◌, Bool, true, Option, Some, None, refl, sym, subst, ◌∙◌, ap, arith}
use Rattle.chord_base.specs.declared.event.End.{End}
use Rattle.chord_base.specs.declared.event.What.{What}
use Rattle.chord_code.specs.declared.instruction.Instruction.{Instruction}
use Rattle.chord_code.specs.declared.parts.Parts.{Parts}
use Rattle.chord_code.specs.Machine.{Machine, Waiting, Did, Goes, Asking, Bad, fetch, act, step, goes_on, run, ComesTo, ComesToAsk, IsForward}
use Rattle.chord_code.specs.Fuel.{weight, comes_to}
use Rattle.chord_code.specs.Meaning.{IsAsked, Point, point_replied, points}
use Rattle.chord_code.proofs.Weight.{lighter, act_asked}

-- where each machine comes to its ask with enough fuel, so does one after an instruction
after_step : (code : Parts) → IsForward code → (a : What) (w : Waiting) → (n k : ℕ) → ((m' : Machine) → run code n m' ≡ Asking a w → weight code m' < k → run code k m' ≡ Asking a w) → (m : Machine) (o : Option Instruction) → fetch code m.top.block m.top.place ≡ o → (d : Did) → act code o m ≡ d → goes_on (run code n) d ≡ Asking a w → weight code m < suc k → goes_on (run code k) d ≡ Asking a w
after_step code fwd a w n k more m o f (Asking b v) e r l = r
after_step code fwd a w n k more m o f Bad e r l = r
after_step code fwd a w n k more m None f (Goes m') e r l = (let z : Bad ≡ Goes m' = e in cc)
after_step code fwd a w n k more m (Some i) f (Goes m') e r l = let less = lighter code m m' i fwd f e in more m' r (omega (arith, less, l))

-- with enough fuel the machine comes to its ask
within : (code : Parts) → IsForward code → (a : What) (w : Waiting) → (n k : ℕ) (m : Machine) → run code n m ≡ Asking a w → weight code m < k → run code k m ≡ Asking a w
within code fwd a w zero k m e l = (let z : Goes m ≡ Asking a w = e in cc)
within code fwd a w (suc n) zero m e l = absurd (omega (arith, l))
within code fwd a w (suc n) (suc k) m e l = after_step code fwd a w n k (within code fwd a w n k) m (fetch code m.top.block m.top.place) refl (step code m) refl e l

-- what the machine comes to, as a relation and as a function
pub comes_found : (code : Parts) → IsForward code → (m : Machine) (a : What) (w : Waiting) → ComesTo code m a w → comes_to code m ≡ Asking a w
comes_found code fwd m a w c = within code fwd a w c.count (suc (weight code m)) m c.by (omega arith)

-- and the other way round
pub found_comes : (code : Parts) (m : Machine) (a : What) (w : Waiting) → comes_to code m ≡ Asking a w → ComesTo code m a w
found_comes code m a w e = record { count = suc (weight code m); by = e }

-- one more answer
pub points_more : (code : Parts) (p : Point) (rs : List End) (r : End) → points code p (rs ++ r ∷ []) ≡ point_replied code (points code p rs) r
points_more code p [] r = refl
points_more code p (x ∷ rs) r = points_more code (point_replied code p x) rs r

-- where each machine that asks within n instructions waits for the answer, so does one that asks within one more
asked_step : (code : Parts) → IsForward code → (a : What) (w : Waiting) → (n : ℕ) → ((m' : Machine) → run code n m' ≡ Asking a w → IsAsked a w.awaited) → (m : Machine) (o : Option Instruction) → fetch code m.top.block m.top.place ≡ o → (d : Did) → act code o m ≡ d → goes_on (run code n) d ≡ Asking a w → IsAsked a w.awaited
asked_step code fwd a w n more m None f d e r = (let z : Bad ≡ Asking a w = ap (goes_on (run code n)) e ∙ r in cc)
asked_step code fwd a w n more m (Some i) f (Asking b v) e r = act_asked code m i a w fwd f (e ∙ r)
asked_step code fwd a w n more m (Some i) f Bad e r = (let z : Bad ≡ Asking a w = r in cc)
asked_step code fwd a w n more m (Some i) f (Goes m') e r = more m' r

-- a machine that comes to an ask waits for its answer
pub run_asked : (code : Parts) → IsForward code → (a : What) (w : Waiting) → (n : ℕ) (m : Machine) → run code n m ≡ Asking a w → IsAsked a w.awaited
run_asked code fwd a w zero m e = (let z : Goes m ≡ Asking a w = e in cc)
run_asked code fwd a w (suc n) m e = asked_step code fwd a w n (run_asked code fwd a w n) m (fetch code m.top.block m.top.place) refl (step code m) refl e

-- where n instructions take at least n from the weight, one more takes at least one more
weight_step : (code : Parts) → IsForward code → (n : ℕ) (m' : Machine) → ((m : Machine) → run code n m ≡ Goes m' → weight code m' + n ≤ weight code m) → (m : Machine) (o : Option Instruction) → fetch code m.top.block m.top.place ≡ o → (d : Did) → act code o m ≡ d → goes_on (run code n) d ≡ Goes m' → weight code m' + suc n ≤ weight code m
weight_step code fwd n m' more m o f (Asking a w) e r = (let z : Asking a w ≡ Goes m' = r in cc)
weight_step code fwd n m' more m o f Bad e r = (let z : Bad ≡ Goes m' = r in cc)
weight_step code fwd n m' more m None f (Goes k) e r = (let z : Bad ≡ Goes k = e in cc)
weight_step code fwd n m' more m (Some i) f (Goes k) e r = let less = lighter code m k i fwd f e in let rest = more k r in omega (arith, less, rest)

-- each instruction takes from the weight
run_weight : (code : Parts) → IsForward code → (n : ℕ) (m' m : Machine) → run code n m ≡ Goes m' → weight code m' + n ≤ weight code m
run_weight code fwd zero m' m e = (let z : m ≡ m' = cc in subst (λ y. weight code y + 0 ≤ weight code m) z (omega arith))
run_weight code fwd (suc n) m' m e = weight_step code fwd n m' (run_weight code fwd n m') m (fetch code m.top.block m.top.place) refl (step code m) refl e

-- no machine of a code whose jumps go forward runs for ever
pub comes_to_an_end : (code : Parts) → IsForward code → (m m' : Machine) → comes_to code m ≡ Goes m' → ⊥
comes_to_an_end code fwd m m' e = (let w = run_weight code fwd (suc (weight code m)) m' m e in absurd (omega (arith, w)))

-- a machine comes to one ask
pub asks_are_one : (code : Parts) → IsForward code → (m : Machine) (a b : What) (w v : Waiting) → ComesTo code m a w → ComesTo code m b v → (a ≡ b) × (w ≡ v)
asks_are_one code fwd m a b w v c d =
    (let e : Asking a w ≡ Asking b v = sym (comes_found code fwd m a w c) ∙ comes_found code fwd m b v d in (cc, cc))

-- what a machine that is safe comes to
abbrev IsSafe : (Machine → Type 0) → Did → Type 0
IsSafe P (Goes m) = P m
IsSafe P (Asking a w) = Unit {0}
IsSafe P Bad = ⊥

-- where n instructions are safe for each machine with a property, they are so after a safe instruction
safe_on : (code : Parts) (P : Machine → Type 0) (n : ℕ) → ((m : Machine) → P m → IsSafe P (run code n m)) → (d : Did) → IsSafe P d → IsSafe P (goes_on (run code n) d)
safe_on code P n more (Goes m) s = more m s
safe_on code P n more (Asking a w) s = tt
safe_on code P n more Bad s = absurd s

-- where each instruction is safe for a machine with a property, so are n of them
run_safe : (code : Parts) (P : Machine → Type 0) → ((m : Machine) → P m → IsSafe P (step code m)) → (n : ℕ) (m : Machine) → P m → IsSafe P (run code n m)
run_safe code P safe zero m p = p
run_safe code P safe (suc n) m p = safe_on code P n (run_safe code P safe n) (step code m) (safe m p)

-- a machine that comes to something safe comes to an ask
by_did : (code : Parts) → IsForward code → (P : Machine → Type 0) (m : Machine) (d : Did) → comes_to code m ≡ d → IsSafe P d → ComesToAsk code m
by_did code fwd P m (Goes n) e s = absurd (comes_to_an_end code fwd m n e)
by_did code fwd P m (Asking a w) e s = record { ask = a; waiting = w; comes = found_comes code m a w e }
by_did code fwd P m Bad e s = absurd s

-- a machine with a property that each instruction keeps, and under which none is undefined, comes to an ask
pub safe_comes : (code : Parts) → IsForward code → (P : Machine → Type 0) → ((m : Machine) → P m → IsSafe P (step code m)) → (m : Machine) → P m → ComesToAsk code m
safe_comes code fwd P safe m p = by_did code fwd P m (comes_to code m) refl (run_safe code P safe (suc (weight code m)) m p)

-- of a test that a machine meets after an instruction: none is undefined
safe_test : (t : Machine → Bool) (d : Did) → ((m : Machine) → d ≡ Goes m → t m ≡ true) → (d ≡ Bad → ⊥) → IsSafe (λ m. t m ≡ true) d
safe_test t (Goes m) g b = g m refl
safe_test t (Asking a w) g b = tt
safe_test t Bad g b = b refl

-- the same of a test
pub tested_comes : (code : Parts) → IsForward code → (t : Machine → Bool) → ((m : Machine) → t m ≡ true → step code m ≡ Bad → ⊥) → ((m n : Machine) → t m ≡ true → step code m ≡ Goes n → t n ≡ true) → (m : Machine) → t m ≡ true → ComesToAsk code m
tested_comes code fwd t good keeps m p =
    safe_comes code fwd (λ n. t n ≡ true) (λ n q. safe_test t (step code n) (λ k e. keeps n k q e) (good n q)) m p
