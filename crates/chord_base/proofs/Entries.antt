-- Looking up entries by their numbers.
use Rattle.std.proofs.Common.{◌≡◌, ℕ, ◌==◌, List, [], ◌∷◌, Option, find, option_map, option_and_then, refl, sym, ap, ◌∙◌, inl, inr}
use Rattle.std.specs.List.{list_any}
use Rattle.chord_base.specs.Meaning.{Program}
use Rattle.chord_base.specs.Messages.{has, maker}
use Rattle.chord_base.specs.Bodies.{served, serves}
use Rattle.chord_base.specs.declared.event.Entry.{Entry}
use Rattle.chord_base.proofs.Waits.{either}

-- a number stands in a list where some number of it is this one
pub has_any : (n : ℕ) (ms : List ℕ) → has n ms ≡ list_any (λ m. n == m) ms
has_any n [] = refl
has_any n (m ∷ ms) = elim (either (n == m)) [ inl y ↦ rw y refl | inr o ↦ rw o (has_any n ms) ]

-- the body that made an entry is the entry's body
pub maker_found : (n : ℕ) (h : List Entry) → maker n h ≡ option_map (λ e. e.body) (find (λ e. e.number == n) h)
maker_found n [] = refl
maker_found n (e ∷ h) = elim (either (e.number == n)) [ inl y ↦ rw y refl | inr o ↦ rw o (maker_found n h) ]

-- the call that a body serves is the one that its first entry serves
pub serves_found : (p : Program) (b : ℕ) (h : List Entry) → serves p b h ≡ option_and_then (λ e. served p e.what) (find (λ e. e.number == b) h)
serves_found p b [] = refl
serves_found p b (e ∷ h) = elim (either (e.number == b)) [ inl y ↦ rw y refl | inr o ↦ rw o (serves_found p b h) ]

-- the same where the entry was found, or none
pub serves_by : (p : Program) (b : ℕ) (h : List Entry) (found : Option Entry) → found ≡ find (λ e. e.number == b) h → serves p b h ≡ option_and_then (λ e. served p e.what) found
serves_by p b h found e = serves_found p b h ∙ ap (λ o. option_and_then (λ e. served p e.what) o) (sym e)

-- the maker of an entry is the body of the entry of that number, where a search finds one
pub maker_by : (n : ℕ) (h : List Entry) (found : Option Entry) → found ≡ find (λ e. e.number == n) h → maker n h ≡ option_map (λ e. e.body) found
maker_by n h found e = maker_found n h ∙ ap (λ o. option_map (λ e. e.body) o) (sym e)
