-- Stories in places: what a draw adds, what a union of places keeps, and what the whole is.
use Rattle.std.proofs.Common.{◌≡◌, ℕ, ◌<◌, Bool, true, false, ◌==◌, List, [], ◌∷◌, length, Option, Some, None, refl, sym, ap, ◌∙◌, subst, arith, inl, inr}
use Rattle.std.proofs.lemmas.Bool.{eq-eqb, eqb-true, ne_eqb}
use Rattle.chord_base.specs.declared.event.What.{What}
use Rattle.chord_base.specs.declared.event.What.TheVariants.{Begun, Made, Sent, Called, Printed, Fired, Ended}
use Rattle.chord_base.specs.declared.event.Entry.{Entry}
use Rattle.chord_base.specs.Meaning.{Program}
use Rattle.chord_base.specs.Messages.{maker}
use Rattle.chord_base.specs.Bodies.{Doing, Absent, Unplaced, Ready, Waits, Over, doing, serves, Asks}
use Rattle.chord_base.specs.Machine.{MayFollow, Comes}
use Rattle.chord_base.specs.Story.{kept, IsTold, AreTold, Tells, Rises, AllBelow, IsRising}
use Rattle.chord_base.proofs.Waits.{either, Known, WaitsOn, own_waits, heard_waits}
use Rattle.chord_base.proofs.Merge.{next_in_story, told_before}

-- numbers that are below one number are below each larger one
all_below_trans : (m n : ℕ) (h : List Entry) → m < n → AllBelow m h → AllBelow n h
all_below_trans m n [] l a = tt
all_below_trans m n (e ∷ h) l a = (omega (arith, a.0), all_below_trans m n h l a.1)

-- what is kept of a history below a number is below it
pub kept_below : (n : ℕ) (keep : ℕ → Bool) (h : List Entry) → AllBelow n h → AllBelow n (kept keep h)
kept_below n keep [] a = tt
kept_below n keep (e ∷ h) a =
    elim (either (keep e.number)) [ inl y ↦ rw y (a.0, kept_below n keep h a.1) | inr o ↦ rw o (kept_below n keep h a.1) ]

-- a number rises above a history that is below it
pub below_rises : (n : ℕ) (h : List Entry) → AllBelow n h → Rises n h
below_rises n [] a = tt
below_rises n (e ∷ h) a = a.0

-- what holds of a smaller history holds of a larger one, if its next asks do
pub tells_more : (p : Program) (h h' : List Entry) (n b : ℕ) (w : What) → (Asks p h b w → Asks p h' b w) → Tells p h n b w → Tells p h' n b w
tells_more p h h' n b Begun f t = t
tells_more p h h' n b (Fired k o ms vs) f t = t
tells_more p h h' n b (Made c) f t = f t
tells_more p h h' n b (Sent o j vs) f t = f t
tells_more p h h' n b (Called o j vs) f t = f t
tells_more p h h' n b (Printed t') f t = f t
tells_more p h h' n b (Ended x) f t = f t

-- what a place keeps of what the place that it goes into keeps is what it keeps of the whole history
kept_twice : (at : ℕ → ℕ) (f : ℕ → ℕ) (c c' : ℕ) (h : List Entry) → f c ≡ c' → kept (λ n. at n == c) (kept (λ n. f (at n) == c') h) ≡ kept (λ n. at n == c) h
kept_twice at f c c' [] e = refl
kept_twice at f c c' (x ∷ h) e =
    elim (either (at x.number == c)) [
      | inl y ↦ (let z : (f (at x.number) == c') ≡ true = eq-eqb _ _ (ap f (eqb-true _ _ y) ∙ e) in rw (z, y, kept_twice at f c c' h e))
      | inr o ↦
          elim (either (f (at x.number) == c')) [
            | inl z ↦ rw (z, o, kept_twice at f c c' h e)
            | inr z ↦ rw (z, o, kept_twice at f c c' h e)
          ]
    ]

-- a place keeps nothing of what a place keeps that it does not go into
kept_apart : (at : ℕ → ℕ) (f : ℕ → ℕ) (c c' : ℕ) (h : List Entry) → (f c == c') ≡ false → kept (λ n. at n == c) (kept (λ n. f (at n) == c') h) ≡ []
kept_apart at f c c' [] e = refl
kept_apart at f c c' (x ∷ h) e =
    elim (either (f (at x.number) == c')) [
      | inl z ↦
          (let o : (at x.number == c) ≡ false =
          elim (either (at x.number == c)) [ inl y ↦ (let g : true ≡ false = sym z ∙ ap (λ i. f i == c') (eqb-true _ _ y) ∙ e in cc) | inr o ↦ o ]
          in rw (z, o, kept_apart at f c c' h e))
      | inr z ↦ rw (z, kept_apart at f c c' h e)
    ]

-- where each place of a history is told, each place of what a union of places keeps is told
told_within : (p : Program) (at f : ℕ → ℕ) (c' : ℕ) (h : List Entry) → AreTold p at h → AreTold p at (kept (λ n. f (at n) == c') h)
told_within p at f c' h t c =
    elim (either (f c == c')) [
      | inl y ↦ rw (kept_twice at f c c' h (eqb-true _ _ y)) (t c)
      | inr o ↦ rw (kept_apart at f c c' h o) tt
    ]

-- where each place is told, the newest entry is told by what its place kept before
told_here : (p : Program) (at : ℕ → ℕ) (e : Entry) (h : List Entry) → AreTold p at (e ∷ h) → Tells p (kept (λ n. at n == at e.number) h) e.number e.body e.what
told_here p at e h t =
    let y : (at e.number == at e.number) ≡ true = eq-eqb (at e.number) (at e.number) refl in
    let u = rw y at (t (at e.number)) in u.2

-- places that become one still have a story
pub union_told : (p : Program) (at f : ℕ → ℕ) (h : List Entry) → IsRising h → AreTold p at h → AreTold p (λ n. f (at n)) h
union_told p at f [] r t c' = tt
union_told p at f (e ∷ h) r t c' =
    let before : AreTold p at h = λ c. told_before p (λ n. at n == c) e h (t c) in
    let rest : IsTold p (kept (λ n. f (at n) == c') h) = union_told p at f h r.1 before c' in
    elim (either (f (at e.number) == c')) [
      | inl y ↦
          rw y (
            rest,
            below_rises e.number (kept (λ n. f (at n) == c') h) (kept_below e.number (λ n. f (at n) == c') h r.0),
            tells_more p (kept (λ n. at n == at e.number) h) (kept (λ n. f (at n) == c') h) e.number e.body e.what
                (λ a. next_in_story p at (kept (λ n. f (at n) == c') h) (at e.number) e.body e.what (told_within p at f c' h before)
                (rw (kept_twice at f (at e.number) c' h (eqb-true _ _ y)) a))
                (told_here p at e h t),
          )
      | inr o ↦ rw o rest
    ]

-- an entry that its place may tell
pub draw_told : (p : Program) (at : ℕ → ℕ) (e : Entry) (h : List Entry) → AllBelow e.number h → AreTold p at h → Tells p (kept (λ n. at n == at e.number) h) e.number e.body e.what → AreTold p at (e ∷ h)
draw_told p at e h r t s c =
    elim (either (at e.number == c)) [
      | inl y ↦
          rw y (
            t c,
            below_rises e.number (kept (λ n. at n == c) h) (kept_below e.number (λ n. at n == c) h r),
            subst (λ i. Tells p (kept (λ n. at n == i) h) e.number e.body e.what) (eqb-true _ _ y) s,
          )
      | inr o ↦ rw o (t c)
    ]

-- the next ask in the story that keeps a body may follow the whole journal
pub draw_follows : (p : Program) (at : ℕ → ℕ) (h : List Entry) (c b : ℕ) (w : What) → AreTold p at h → Asks p (kept (λ n. at n == c) h) b w → (Asks p h b w → Comes p h (length h) b w) → MayFollow p h (record { number = length h; body = b; what = w })
draw_follows p at h c b w t a f = record { numbered = refl; comes = f (next_in_story p at h c b w t a) }

-- a number that is known in a history below another is below that
pub known_under : (n q : ℕ) (h : List Entry) → AllBelow n h → Known q h → q < n
known_under n q [] a k = (let z : ◌≡◌ {A = Option ℕ} None (Some k.0) = k.1 in cc)
known_under n q (e ∷ h) a k =
    elim (either (e.number == q)) [
      | inl y ↦ (let i = eqb-true e.number q y in omega (arith, i, a.0))
      | inr o ↦ known_under n q h a.1 (k.0, rw o at k.1)
    ]

-- the numbers of a told history are below a number that rises above the newest
pub told_below : (p : Program) (n : ℕ) (h : List Entry) → IsTold p h → Rises n h → AllBelow n h
told_below p n [] t r = tt
told_below p n (e ∷ h) t r = (r, all_below_trans e.number n h r (told_below p e.number h t.0 t.1))

-- a call that a body waits for is still the body's own after an entry of a larger number than all before
later_waits : (e : Entry) (h : List Entry) (b : ℕ) (d : Doing) → AllBelow e.number h → WaitsOn (λ q. maker q h ≡ Some b) d → WaitsOn (λ q. maker q (e ∷ h) ≡ Some b) d
later_waits e h b (Waits s k rs q l) a w = (let o : (e.number == q) ≡ false = ne_eqb e.number q (λ i. let u = known_under e.number q h a (b, w) in omega (arith, i, u)) in rw (o, w))
later_waits e h b (Ready s k rs) a w = tt
later_waits e h b Absent a w = tt
later_waits e h b Unplaced a w = tt
later_waits e h b (Over x) a w = tt

-- in a told history, too, a body waits for a call of its own
pub told_waits : (p : Program) (h : List Entry) (b : ℕ) → IsTold p h → WaitsOn (λ q. maker q h ≡ Some b) (doing p h b)
told_waits p [] b t = tt
told_waits p (e ∷ h) b t =
    let before = later_waits e h b (doing p h b) (told_below p e.number h t.0 t.1) (told_waits p h b t.0) in
    elim (either (e.body == b)) [
      | inl y ↦
          (let here : maker e.number (e ∷ h) ≡ Some b = rw (eq-eqb e.number e.number refl) (ap Some (eqb-true e.body b y)) in
          rw y (own_waits p (λ q. maker q (e ∷ h) ≡ Some b) e.number e.what _ (doing p h) (doing p h b) here before))
      | inr o ↦ rw o (heard_waits (λ q. maker q (e ∷ h) ≡ Some b) e.what (serves p e.body h) (doing p h b) before)
    ]
