-- The entries of all places, in number order, are the journal.
use Rattle.std.proofs.Common.{◌≡◌, ℕ, ◌<◌, Bool, List, [], ◌∷◌, length, refl, ap, arith, inl, inr}
use Rattle.chord_base.specs.declared.event.Entry.{Entry}
use Rattle.chord_base.specs.Meaning.{Program}
use Rattle.chord_base.specs.Machine.{IsPast}
use Rattle.chord_base.specs.Story.{kept}
pub use Rattle.chord_base.specs.Story.{IsIn, AreNumbered}
use Rattle.chord_base.proofs.Waits.{either}

-- in a past each entry has the number of its place
pub past_numbered : (p : Program) (h : List Entry) → IsPast p h → AreNumbered h
past_numbered p [] r = tt
past_numbered p (e ∷ h) r = (r.1.numbered, past_numbered p h r.0)

-- where each number is the place of its entry, an entry's number is below the count of the entries
numbered_below : (e : Entry) (h : List Entry) → AreNumbered h → IsIn e h → e.number < length h
numbered_below e [] n i = absurd i
numbered_below e (x ∷ h) n i =
    elim i [
      | inl y ↦ (let z : e.number ≡ x.number = ap (λ (u : Entry). u.number) y in omega (arith, z, n.0))
      | inr y ↦ (let b = numbered_below e h n.1 y in omega (arith, b))
    ]

-- what a place keeps is in the journal
pub view_in : (f : ℕ → Bool) (e : Entry) (h : List Entry) → IsIn e (kept f h) → IsIn e h
view_in f e [] i = i
view_in f e (x ∷ h) i =
    elim (either (f x.number)) [
      | inl y ↦ (let j : IsIn e (x ∷ kept f h) = rw y at i in elim j [ inl z ↦ inl z | inr z ↦ inr (view_in f e h z) ])
      | inr o ↦ inr (view_in f e h (rw o at i))
    ]

-- as many entries of the journal as it has, numbered by their places, are the journal
pub collected : (h' h : List Entry) → AreNumbered h' → AreNumbered h → length h' ≡ length h → ((e : Entry) → IsIn e h' → IsIn e h) → h' ≡ h
collected [] [] n m l f = refl
collected [] (x ∷ h) n m l f = absurd (omega (arith, l))
collected (x ∷ h') [] n m l f = absurd (omega (arith, l))
collected (x ∷ h') (y ∷ h) n m l f =
    let same : length h' ≡ length h = omega (arith, l) in
    let head : x ≡ y = elim (f x (inl refl)) [ inl e ↦ e | inr i ↦ (let b = numbered_below x h m.1 i in absurd (omega (arith, b, n.0, same))) ] in
    let tail : h' ≡ h =
    collected h' h n.1 m.1 same
    (λ e i.
    elim (f e (inr i)) [
      | inl z ↦ (let b = numbered_below e h' n.1 i in let k : e.number ≡ y.number = ap (λ (u : Entry). u.number) z in absurd (omega (arith, b, k, m.0, same)))
      | inr j ↦ j
    ])
    in
    cc
