-- A run in places: one more entry, places that become one, and the end.
use Rattle.std.proofs.Common.{◌≡◌, ℕ, ◌<◌, ◌≤◌, Bool, true, false, ◌==◌, List, [], ◌∷◌, length, None, refl, sym, ap, ◌∙◌, subst, arith, ◌⊎◌, inl, inr, if◌then◌else◌}
use Rattle.std.proofs.lemmas.Bool.{eq-eqb, eqb-true, ne_eqb}
use Rattle.chord_base.specs.declared.value.Object.{Object}
use Rattle.chord_base.specs.declared.value.Value as value
use Rattle.chord_base.specs.declared.event.What.{What}
use Rattle.chord_base.specs.declared.event.What.TheVariants.{Begun, Made, Sent, Called, Printed, Fired, Ended}
use Rattle.chord_base.specs.declared.event.Entry.{Entry}
use Rattle.chord_base.specs.Meaning.{Program}
use Rattle.chord_base.specs.Bodies.{Doing, Absent, Unplaced, Ready, Waits, Over, doing, asked, Asks}
use Rattle.chord_base.specs.Machine.{Fires, MayFollow, IsPast, IsFinal}
use Rattle.chord_base.specs.Story.{kept, Tells, Rises, AreTold, IsMerged, IsOwn, IsDefined, IsStory, IsSound, AllBelow, IsRising}
pub use Rattle.chord_base.specs.Story.{grown}
use Rattle.chord_base.specs.Laws.{CompleteInPlaces, PlaceKnows}
use Rattle.chord_base.proofs.Waits.{either}
use Rattle.chord_base.proofs.Merge.{next_in_story, agrees, Agrees, whole_of_told, body_known, IsSeen, known_kept}
use Rattle.chord_base.proofs.Places.{union_told, kept_below, below_rises}
use Rattle.chord_base.proofs.Pending.{NoneFires}
use Rattle.chord_base.proofs.Final.{final_when, some_length}
pub use Rattle.chord_base.proofs.Final.{own_comes}

-- the numbers of a past are their places
pub past_below : (p : Program) (h : List Entry) (n : ℕ) → IsPast p h → length h ≤ n → AllBelow n h
past_below p [] n r l = tt
past_below p (e ∷ h) n r l = let i = r.1.numbered in (omega (arith, i, l), past_below p h n r.0 (omega (arith, l)))

-- the numbers of a past rise
pub past_rises : (p : Program) (h : List Entry) → IsPast p h → IsRising h
past_rises p [] r = tt
past_rises p (e ∷ h) r = (past_below p h e.number r.0 (omega (arith, r.1.numbered)), past_rises p h r.0)

-- two maps of places that agree on the numbers of a history
kept_same : (f g : ℕ → Bool) (n : ℕ) (h : List Entry) → AllBelow n h → ((i : ℕ) → i < n → f i ≡ g i) → kept f h ≡ kept g h
kept_same f g n [] a s = refl
kept_same f g n (e ∷ h) a s =
    elim (either (g e.number)) [
      | inl y ↦ rw (s e.number a.0, y, kept_same f g n h a.1 s)
      | inr o ↦ rw (s e.number a.0, o, kept_same f g n h a.1 s)
    ]

-- the map of places with one more number
abbrev pub placed_at : (ℕ → ℕ) → ℕ → ℕ → ℕ → ℕ
placed_at at n i m = if m == n then i else at m

-- one more number in the map of places leaves the smaller numbers where they are
placed_old : (at : ℕ → ℕ) (n i m : ℕ) → m < n → placed_at at n i m ≡ at m
placed_old at n i m l = rw (ne_eqb m n (λ e. omega (arith, e, l)))

-- where each place keeps its numbers of a history, one of them keeps a new entry as well
pub grown_keeps : (at : ℕ → ℕ) (view : ℕ → List Entry) (h : List Entry) (i : ℕ) (e : Entry) → AllBelow e.number h → ((j : ℕ) → kept (λ k. at k == j) h ≡ view j)
    → (j : ℕ) → kept (λ k. placed_at at e.number i k == j) (e ∷ h) ≡ grown view i e j
grown_keeps at view h i e below keeps j = elim (either (i == j)) [ inl y ↦ rw (eq-eqb e.number e.number refl, y, old) | inr o ↦ rw (eq-eqb e.number e.number refl, o, old) ]
  where
    old : kept (λ k. placed_at at e.number i k == j) h ≡ view j
    old = kept_same (λ k. placed_at at e.number i k == j) (λ k. at k == j) e.number h below (λ k l. ap (λ z. z == j) (placed_old at e.number i k l)) ∙ keeps j

-- an entry that may follow and that one place may tell keeps the places merged, with the entry in that place
pub merged_more : (p : Program) (view : ℕ → List Entry) (h : List Entry) (i : ℕ) (e : Entry) → IsMerged p view h → MayFollow p h e → Tells p (view i) e.number e.body e.what → IsMerged p (grown view i e) (e ∷ h)
merged_more p view h i e m f t =
    let n = e.number in
    let below : AllBelow n h = past_below p h n m.past (omega (arith, f.numbered)) in
    record {
      past = (m.past, f);
      at = placed_at m.at n i;
      keeps = grown_keeps m.at view h i e below m.keeps;
      told =
          λ j.
          elim (either (i == j)) [
            | inl y ↦
                (let k = eqb-true i j y in
                let t' = subst (λ z. Tells p (view z) n e.body e.what) k t in
                let r : Rises n (view j) = subst (λ z. Rises n z) (m.keeps j) (below_rises n (kept (λ k. m.at k == j) h) (kept_below n (λ k. m.at k == j) h below)) in
                rw y (m.told j, r, t'))
            | inr o ↦ rw o (m.told j)
          ];
    }

-- what each place of a merged run keeps is told
merged_told : (p : Program) (view : ℕ → List Entry) (h : List Entry) (m : IsMerged p view h) → AreTold p m.at h
merged_told p view h m j = rw (m.keeps j) (m.told j)

-- a body's next ask in its place is its next ask in the run
pub merged_asks : (p : Program) (view : ℕ → List Entry) (h : List Entry) (i b : ℕ) (w : What) → IsMerged p view h → Asks p (view i) b w → Asks p h b w
merged_asks p view h i b w m a = next_in_story p m.at h i b w (merged_told p view h m) (rw (m.keeps i) a)

-- a place may tell a body's own next ask
pub own_tells : (p : Program) (h : List Entry) (n b : ℕ) (w : What) → IsOwn w → Asks p h b w → Tells p h n b w
own_tells p h n b Begun o a = absurd o
own_tells p h n b (Fired k o' ms vs) o a = absurd o
own_tells p h n b (Made c) o a = a
own_tells p h n b (Sent o' j vs) o a = a
own_tells p h n b (Called o' j vs) o a = a
own_tells p h n b (Printed t) o a = a
own_tells p h n b (Ended x) o a = a

-- a place adds the next ask of one of its bodies
pub merged_note : (p : Program) (view : ℕ → List Entry) (h : List Entry) (i b : ℕ) (w : What) → IsMerged p view h → IsOwn w → Asks p (view i) b w → IsMerged p (grown view i (record { number = length h; body = b; what = w })) (record { number = length h; body = b; what = w } ∷ h)
merged_note p view h i b w m o a =
    merged_more p view h i (record { number = length h; body = b; what = w }) m
    (record { numbered = refl; comes = own_comes p h (length h) b w o (merged_asks p view h i b w m a) })
    (own_tells p (view i) (length h) b w o a)

-- a place adds a firing of pending messages
pub merged_fire : (p : Program) (view : ℕ → List Entry) (h : List Entry) (i k : ℕ) (o : Object) (ms : List ℕ) (vs : List value.Value) → IsMerged p view h → Fires p h k o ms vs → IsMerged p (grown view i (record { number = length h; body = length h; what = Fired k o ms vs })) (record { number = length h; body = length h; what = Fired k o ms vs } ∷ h)
merged_fire p view h i k o ms vs m f =
    merged_more p view h i (record { number = length h; body = length h; what = Fired k o ms vs }) m (record { numbered = refl; comes = (refl, f) }) refl

-- places that become one, where their union is kept in place f i
pub merged_union : (p : Program) (view view' : ℕ → List Entry) (h : List Entry) (f : ℕ → ℕ) (m : IsMerged p view h) → ((i : ℕ) → kept (λ n. f (m.at n) == i) h ≡ view' i) → IsMerged p view' h
merged_union p view view' h f m k =
    record {
      past = m.past;
      at = λ n. f (m.at n);
      keeps = k;
      told = λ i. rw (← k i) (union_told p m.at f h (past_rises p h m.past) (merged_told p view h m) i);
    }

-- where a body does not lack its call and asks nothing, it asks nothing by a doing with which its own agrees either
agrees_back : (p : Program) (d d' : Doing) → Agrees d d' → (d ≡ Unplaced → ⊥) → asked p d ≡ None → asked p d' ≡ None
agrees_back p Absent d' a u e = let f : Doing → Type 0 = λ o. asked p o ≡ None in subst f a e
agrees_back p Unplaced d' a u e = absurd (u refl)
agrees_back p (Ready s k rs) d' a u e = let f : Doing → Type 0 = λ o. asked p o ≡ None in subst f a e
agrees_back p (Waits s k rs q l) d' a u e = let f : Doing → Type 0 = λ o. asked p o ≡ None in subst f a e
agrees_back p (Over x) d' a u e = let f : Doing → Type 0 = λ o. asked p o ≡ None in subst f a e

-- of two doings that agree the first lacks its call, or is the second
agrees_or : (d d' : Doing) → Agrees d d' → (d ≡ Unplaced) ⊎ (d ≡ d')
agrees_or Unplaced d' a = inl refl
agrees_or Absent d' a = inr a
agrees_or (Ready s k rs) d' a = inr a
agrees_or (Waits s k rs q l) d' a = inr a
agrees_or (Over x) d' a = inr a

-- a body does in its place what it does in the run, or lacks its call there
pub place_knows : PlaceKnows
place_knows p view h b m =
    subst (λ (v : List Entry). (doing p v b ≡ Unplaced) ⊎ (doing p v b ≡ doing p h b)) (m.keeps (m.at b))
    (agrees_or (doing p (kept (λ n. m.at n == m.at b) h) b) (doing p h b)
    (agrees p (λ n. m.at n == m.at b) h (whole_of_told p m.at h (merged_told p view h m) (m.at b)) b (eq-eqb (m.at b) (m.at b) refl)))

-- each body asks nothing in its place
pub merged_quiet : (p : Program) (view : ℕ → List Entry) (h : List Entry) (m : IsMerged p view h) → ((i b : ℕ) → (asked p (doing p (view i) b) ≡ None) × (doing p (view i) b ≡ Unplaced → ⊥)) → (b : ℕ) → asked p (doing p h b) ≡ None
merged_quiet p view h m q b =
    let i = m.at b in
    let u = q i b in
    let here : doing p (kept (λ n. m.at n == i) h) b ≡ doing p (view i) b = ap (λ v. doing p v b) (m.keeps i) in
    agrees_back p (doing p (kept (λ n. m.at n == i) h) b) (doing p h b)
    (agrees p (λ n. m.at n == i) h (whole_of_told p m.at h (merged_told p view h m) i) b (eq-eqb i i refl))
    (λ e. u.1 (sym here ∙ e))
    (ap (asked p) here ∙ u.0)

-- the end: no body asks in its place, and no chord is enabled
pub merged_final : (p : Program) (view : ℕ → List Entry) (h : List Entry) → IsMerged p view h → 0 < length h → ((i b : ℕ) → (asked p (doing p (view i) b) ≡ None) × (doing p (view i) b ≡ Unplaced → ⊥)) → NoneFires p h → IsFinal p h
merged_final p view h m s q f = final_when p h m.past s (merged_quiet p view h m q) f

-- of two doings that agree, where the program says what the second does next, it says what the first does next
agrees_defined : (p : Program) (d d' : Doing) → Agrees d d' → IsDefined p d' → IsDefined p d
agrees_defined p Absent d' a e = tt
agrees_defined p Unplaced d' a e = tt
agrees_defined p (Ready s k rs) d' a e = let f : Doing → Type 0 = λ o. IsDefined p o in subst f (sym a) e
agrees_defined p (Waits s k rs q l) d' a e = let f : Doing → Type 0 = λ o. IsDefined p o in subst f (sym a) e
agrees_defined p (Over x) d' a e = tt

-- what a body without an entry does is defined
unseen_defined : (p : Program) (d : Doing) → (IsSeen d → ⊥) → IsDefined p d
unseen_defined p Absent s = tt
unseen_defined p Unplaced s = tt
unseen_defined p (Ready t k rs) s = absurd (s tt)
unseen_defined p (Waits t k rs q l) s = absurd (s tt)
unseen_defined p (Over x) s = tt

-- each place of a sound program's run has a story
pub merged_story : (p : Program) (view : ℕ → List Entry) (h : List Entry) → IsSound p → IsMerged p view h → (i : ℕ) → IsStory p (view i)
merged_story p view h s m i =
    record {
      told = m.told i;
      is_defined =
          λ b.
          subst (λ v. IsDefined p (doing p v b)) (m.keeps i)
          (elim (either (m.at b == i)) [
            | inl y ↦
                agrees_defined p (doing p (kept (λ n. m.at n == i) h) b) (doing p h b)
                (agrees p (λ n. m.at n == i) h (whole_of_told p m.at h (merged_told p view h m) i) b y)
                (s.is_defined h b m.past)
            | inr o ↦
                unseen_defined p (doing p (kept (λ n. m.at n == i) h) b)
                (λ seen.
                let k = known_kept (λ n. m.at n == i) b h (body_known p (kept (λ n. m.at n == i) h) b (rw (m.keeps i) (m.told i)) seen) in
                let z : true ≡ false = sym k ∙ o in cc)
          ]);
    }

-- a run in places is complete where each place is quiet and no chord is enabled
pub complete_in_places : CompleteInPlaces
complete_in_places p view h m n q f = merged_final p view h m (some_length h n) q f
