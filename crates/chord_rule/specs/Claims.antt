-- The claims of a desk.
use Rattle.std.specs.Prelude.{◌≡◌, ◌⊎◌, ℕ, List, [], ◌∷◌, ◌++◌, if◌then◌else◌, Some, None}
use Rattle.chord_base.specs.declared.value.Object.{Object}
use Rattle.chord_base.specs.declared.value.Value as value
use Rattle.chord_base.specs.Messages.{has}
use Rattle.chord_rule.specs.declared.view.Claim.{Claim}

-- the claim is one of these
abbrev pub HasThe : Claim → List Claim → Type 0
HasThe c [] = ⊥
HasThe c (d ∷ ds) = (c ≡ d) ⊎ HasThe c ds

-- the desk has a claim on the message
abbrev pub HasClaimOn : ℕ → List Claim → Type 0
HasClaimOn i cs = (c : Claim) × HasThe c cs × (c.number ≡ i)

-- the messages that are claimed
abbrev pub claimed_numbers : List Claim → List ℕ
claimed_numbers [] = []
claimed_numbers (c ∷ cs) = c.number ∷ claimed_numbers cs

-- the members are claimed, one for each method in order, for no firing yet, and these are their arguments laid together
abbrev pub AreClaimed : List Claim → Object → List ℕ → List ℕ → List value.Value → Type 0
AreClaimed cs o [] [] vs = vs ≡ []
AreClaimed cs o [] (i ∷ ms) vs = ⊥
AreClaimed cs o (j ∷ js) [] vs = ⊥
AreClaimed cs o (j ∷ js) (i ∷ ms) vs =
    (c : Claim) × HasThe c cs × (c.number ≡ i) × (c.object ≡ o) × (c.method ≡ j) × (c.firing ≡ None) × ((rest : List value.Value) × (vs ≡ c.values ++ rest) × AreClaimed cs o js ms rest)

-- a firing was drawn with the claims on these members
abbrev pub fired_with : ℕ → List ℕ → List Claim → List Claim
fired_with f ms [] = []
fired_with f ms (c ∷ cs) = (if has c.number ms then record c { firing = Some f } else c) ∷ fired_with f ms cs
