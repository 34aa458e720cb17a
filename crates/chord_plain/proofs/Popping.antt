-- Values that are popped one by one, and slots that are filled or set.
use Rattle.std.proofs.Common.{◌≡◌, ℕ, suc, ◌+◌, ◌-◌, ◌<◌, ◌≤◌, List, [], ◌∷◌, Option, Some, None, length, refl, ◌∙◌, ap, arith}
use Rattle.chord_base.specs.declared.value.Value.{Value}
use Rattle.chord_code.specs.Slots.{first_slots}
use Rattle.chord_code.specs.Machine.{pops}
use Rattle.chord_vm.proofs.Slots.{slots_room}

-- what is not there is nothing
nothing : {A : Type 0} (o : Option A) → ((o ≡ None → ⊥) → ⊥) → o ≡ None
nothing None h = refl
nothing (Some x) h = absurd (h (λ e. cc))

-- values too many fill no slots
pub too_many : (n : ℕ) (xs : List Value) → n < length xs → first_slots n xs ≡ None
too_many n xs h = nothing (first_slots n xs) (λ there. (let le = slots_room n xs there in omega (arith, le, h)))

-- where one more value is wanted of an empty stack, there are not as many as were wanted
pub none_to_pop : (n i : ℕ) (xs s : List Value) (o : Option (List Value × List Value)) → i < n → s ≡ [] → o ≡ pops (n - i) xs s → o ≡ None
none_to_pop n i xs s o h e p =
    let k : n - i ≡ suc (n - suc i) = omega (arith, h) in
    p ∙ ap (λ m. pops m xs s) k ∙ ap (λ t. pops (suc (n - suc i)) xs t) e

-- one more value is popped
pub one_more_popped : (n i : ℕ) (xs s rest : List Value) (v : Value) (o : Option (List Value × List Value)) → i < n → s ≡ v ∷ rest → o ≡ pops (n - i) xs s → o ≡ pops (n - (i + 1)) (v ∷ xs) rest
one_more_popped n i xs s rest v o h e p =
    let k : n - i ≡ suc (n - (i + 1)) = omega (arith, h) in
    p ∙ ap (λ m. pops m xs s) k ∙ ap (λ t. pops (suc (n - (i + 1))) xs t) e

-- all that were wanted are popped
pub all_popped : (n i : ℕ) (xs s : List Value) (o : Option (List Value × List Value)) → n ≤ i → o ≡ pops (n - i) xs s → o ≡ Some (xs, s)
all_popped n i xs s o h p =
    let k : n - i ≡ 0 = omega (arith, h) in
    p ∙ ap (λ m. pops m xs s) k
