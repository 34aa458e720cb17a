-- How keeping is kept.
use Rattle.std.proofs.lemmas.Bool.{eqb-true}
use Rattle.std.proofs.Common.{◌≡◌, ◌≢◌, ℕ, ◌+◌, ◌*◌, ◌/◌, ◌%◌, ◌<◌, ◌≤◌, ◌==◌, if◌then◌else◌, Bool, true, false, List, ◌∷◌, length, set, refl, sym, ap, ◌∙◌, subst, arith, eq-eqb, ne_eqb}
use mathlib.Core.Option.{some}
use mathlib.Core.Logic.{dite}
use native.Mathlib.Decide.{ℕ_discrete}
use lib.ListN.{get_elem?}
use Rattle.atomic_table.proofs.Lists.{set_here, set_else}
use Rattle.chord_base.specs.Meaning.{Program}
use Rattle.chord_base.specs.Bodies.{Asks}
use Rattle.chord_base.specs.Story.{IsMerged, IsOwn, grown}
use Rattle.chord_base.proofs.Merged.{merged_note}
use Rattle.chord_base.specs.declared.event.Entry.{Entry}
use Rattle.chord_base.specs.declared.event.What.{What}
use Rattle.chord_rule.specs.declared.view.View.{View}
use Rattle.chord_rule.specs.Moment.{Home}
use Rattle.chord_rule.specs.Kinds.{entry, drew, was_told}
use Rattle.chord_rule.specs.Keeping.{desk, parcel, at_desk, at_home, kept_at, Keeping}

-- places that keep the same
pub same_places : (p : Program) (view view' : ℕ → List Entry) (h : List Entry) → ((c : ℕ) → view c ≡ view' c) → IsMerged p view h → IsMerged p view' h
same_places p view view' h same m = subst (λ (f : ℕ → List Entry). IsMerged p f h) (λ k c. same c k) m

module _ {P : Type 0} (entries : P → List Entry) where
  -- what the desk j keeps
  pub desk_keeps : (views : List View) (homes : ℕ → Home P) (j : ℕ) → kept_at entries views homes (desk j) ≡ at_desk (get_elem? views j)
  desk_keeps views homes j = let half : 2 * j / 2 ≡ j = omega arith in
      ap (λ (b : Bool). if b then at_desk (get_elem? views (2 * j / 2)) else at_home entries (homes (2 * j / 2))) (eq-eqb (2 * j % 2) 0 (omega arith))
      ∙ ap (λ (i : ℕ). at_desk (get_elem? views i)) half

  -- what the slot i keeps
  pub parcel_keeps : (views : List View) (homes : ℕ → Home P) (i : ℕ) → kept_at entries views homes (parcel i) ≡ at_home entries (homes i)
  parcel_keeps views homes i = let half : (2 * i + 1) / 2 ≡ i = omega arith in
      ap (λ (b : Bool). if b then at_desk (get_elem? views ((2 * i + 1) / 2)) else at_home entries (homes ((2 * i + 1) / 2))) (ne_eqb ((2 * i + 1) % 2) 0 (omega arith))
      ∙ ap (λ (k : ℕ). at_home entries (homes k)) half

  -- a desk with another view: each other place keeps what it did
  pub others_keep : (views : List View) (homes : ℕ → Home P) (id : ℕ) (w : View) (c : ℕ) → c ≢ desk id → kept_at entries (set views id w) homes c ≡ kept_at entries views homes c
  others_keep views homes id w c ne = cases (c % 2 == 0) refl
    where
      cases : (b : Bool) → (c % 2 == 0) ≡ b → kept_at entries (set views id w) homes c ≡ kept_at entries views homes c
      cases true e = ap (λ (b : Bool). if b then at_desk (get_elem? (set views id w) (c / 2)) else at_home entries (homes (c / 2))) e
          ∙ ap at_desk (set_else views id (c / 2) w (λ q. ne (let z : c % 2 ≡ 0 = eqb-true (c % 2) 0 e in omega arith)))
          ∙ sym (ap (λ (b : Bool). if b then at_desk (get_elem? views (c / 2)) else at_home entries (homes (c / 2))) e)
      cases false e = ap (λ (b : Bool). if b then at_desk (get_elem? (set views id w) (c / 2)) else at_home entries (homes (c / 2))) e
          ∙ sym (ap (λ (b : Bool). if b then at_desk (get_elem? views (c / 2)) else at_home entries (homes (c / 2))) e)

  -- a draw below the limit
  pub draw_keeps : (p : Program) (n count : ℕ) (homes : ℕ → Home P) (views : List View) (h : List Entry) (id : ℕ) (v : View) (b : ℕ) (w : What)
      → Keeping entries p n count homes views h → get_elem? views id ≡ some v → id < length views → count < n → IsOwn w → Asks p v.kept b w
      → Keeping entries p n (count + 1) homes (set views id (drew v count b w)) (entry count b w ∷ h)
  draw_keeps p n count homes views h id v b w k at low room own asks =
      let long : length h ≡ count = (let l = k.long in omega arith) in
      let mine : kept_at entries views homes (desk id) ≡ v.kept = desk_keeps views homes id ∙ ap at_desk at in
      let noted = merged_note p (kept_at entries views homes) h (desk id) b w k.merged own (subst (λ (es : List Entry). Asks p es b w) (sym mine) asks) in
      let e : Entry = entry count b w in record {
        long = (let l = long in omega arith);
        merged = same_places p (grown (kept_at entries views homes) (desk id) e) (kept_at entries (set views id (drew v count b w)) homes) (e ∷ h)
            (λ c. dite (ℕ_discrete c (desk id))
            (λ q. ap (λ (x : Bool). if x then e ∷ kept_at entries views homes c else kept_at entries views homes c) (eq-eqb (desk id) c (sym q))
            ∙ ap (λ (es : List Entry). e ∷ es) (ap (kept_at entries views homes) q ∙ mine)
            ∙ sym (ap (kept_at entries (set views id (drew v count b w)) homes) q ∙ desk_keeps (set views id (drew v count b w)) homes id ∙ ap at_desk (set_here views id (drew v count b w) low)))
            (λ ne. ap (λ (x : Bool). if x then e ∷ kept_at entries views homes c else kept_at entries views homes c) (ne_eqb (desk id) c (λ q. ne (sym q)))
            ∙ sym (others_keep views homes id (drew v count b w) c ne)))
            (subst (λ (x : ℕ). IsMerged p (grown (kept_at entries views homes) (desk id) (entry x b w)) (entry x b w ∷ h)) long noted);
      }

  -- a desk with another view that keeps the same
  pub same_keeps : (views : List View) (homes : ℕ → Home P) (id : ℕ) (v w : View) → get_elem? views id ≡ some v → id < length views → w.kept ≡ v.kept → (c : ℕ) → kept_at entries views homes c ≡ kept_at entries (set views id w) homes c
  same_keeps views homes id v w at low same c = dite (ℕ_discrete c (desk id))
      (λ q. ap (kept_at entries views homes) q ∙ desk_keeps views homes id ∙ ap at_desk at ∙ sym same
      ∙ sym (ap (kept_at entries (set views id w) homes) q ∙ desk_keeps (set views id w) homes id ∙ ap at_desk (set_here views id w low)))
      (λ ne. sym (others_keep views homes id w c ne))

  -- a draw at the limit
  pub told_keeps : (p : Program) (n count : ℕ) (homes : ℕ → Home P) (views : List View) (h : List Entry) (id : ℕ) (v : View)
      → Keeping entries p n count homes views h → get_elem? views id ≡ some v → id < length views → n ≤ count
      → Keeping entries p n (count + 1) homes (set views id (was_told v)) h
  told_keeps p n count homes views h id v k at low full = record {
    long = (let l = k.long in omega arith);
    merged = same_places p (kept_at entries views homes) (kept_at entries (set views id (was_told v)) homes) h (same_keeps views homes id v (was_told v) at low refl) k.merged;
  }
