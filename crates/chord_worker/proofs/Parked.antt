-- The bodies of a task that waits are parked, and its parcel may go with its call; a message goes with a letter.
use Rattle.std.proofs.Common.{◌≡◌, ℕ, ◌+◌, true, false, ◌==◌, List, [], ◌∷◌, Option, Some, None, IsSome, refl, sym, ap, ◌∙◌, subst, inl, inr, ⊎_elim, arith}
use Rattle.std.proofs.lemmas.Bool.{eq-eqb, eqb-true, eqb-false}
use mathlib.Core.Path.{Path}
use Rattle.chord_base.specs.declared.value.Object.{Object}
use Rattle.chord_base.specs.declared.value.Value as value
use Rattle.chord_base.specs.declared.event.End.{End}
use Rattle.chord_base.specs.declared.event.What.{What}
use Rattle.chord_base.specs.declared.event.What.TheVariants.{Begun, Made, Sent, Called, Printed, Fired, Ended}
use Rattle.chord_base.specs.declared.event.Entry.{Entry}
use Rattle.chord_base.specs.Meaning.{Program, Start, Chord, Asked}
use Rattle.chord_base.specs.Messages.{maker}
use Rattle.chord_base.specs.Bodies.{Doing, Absent, Unplaced, Ready, Waits, Over, WaitsFor as IsParkedOn, replied, waiting, placed, begun_by, begun, answered, heard, served, serves, own, doing, asked, Asks}
use Rattle.chord_base.specs.Story.{IsTold, IsIn, IsDefined, AllBelow, Tells}
use Rattle.chord_base.proofs.Waits.{either}
use Rattle.chord_base.proofs.Merge.{IsSeen, asked_placed, placed_seen}
use Rattle.chord_rule.specs.declared.view.View.{View}
use Rattle.chord_rule.specs.Kinds.{entry, drew, saw_count, MayGo}
use Rattle.chord_rule.specs.Numbers.{HasNumber}
use Rattle.chord_rule.specs.Parcels.{BeginsThere, IsParkedThere}
use Rattle.chord_space.specs.Gives.{MayLink}
use Rattle.chord_task.specs.Stacks.{TaskView, IsTask, IsServedThere}
use Rattle.chord_worker.specs.Resting.{IsHandFree}
use Rattle.chord_worker.proofs.Parts.{in_below, kept_nothing, all_kept}

-- ## Bodies that begin

-- a body that serves a call begins among the told entries that say so
pub serves_begins : (p : Program) (es : List Entry) (c q : ℕ) → IsTold p es → serves p c es ≡ Some q → BeginsThere c es
serves_begins p [] c q t s = let z : Path (Option ℕ) None (Some q) = s in cc
serves_begins p (e ∷ es) c q t s =
    elim (either (e.number == c)) [
      | inl y ↦ (e, inl refl, eqb-true e.number c y, first e.what t.2 (rw y at s) ∙ eqb-true e.number c y)
      | inr o ↦ (let k = serves_begins p es c q t.0 (rw o at s) in (k.0, inr k.1, k.2, k.3))
    ]
  where
    first : (w : What) → Tells p es e.number e.body w → served p w ≡ Some q → e.body ≡ e.number
    first Begun t s = t
    first (Fired k o ms vs) t s = t
    first (Made c) t s = let z : Path (Option ℕ) None (Some q) = s in cc
    first (Sent o j vs) t s = let z : Path (Option ℕ) None (Some q) = s in cc
    first (Called o j vs) t s = let z : Path (Option ℕ) None (Some q) = s in cc
    first (Printed x) t s = let z : Path (Option ℕ) None (Some q) = s in cc
    first (Ended x) t s = let z : Path (Option ℕ) None (Some q) = s in cc

-- a parked body, for any call of those entries
pub still_parked : (p : Program) (es : List Entry) (m : Option ℕ) (d : Doing) → IsTold p es → asked p d ≡ None → IsDefined p d → (d ≡ Unplaced → ⊥) → (d ≡ Absent → ⊥) → IsServedThere p es d → IsParkedThere p es m d
still_parked p es m (Waits s k rs q l) told a d u b w = inr (w.0, serves_begins p es w.0 q told w.1, w.1)
still_parked p es m (Over x) told a d u b w = tt
still_parked p es m Absent told a d u b w = b refl
still_parked p es m Unplaced told a d u b w = u refl
still_parked p es m (Ready s k rs) told a d u b w = let z : false ≡ true = subst IsSome a d in cc

-- a body that begins is seen
begun_seen : (p : Program) (s : Start) (c : Option ℕ) (m : ℕ → Option ℕ) (f : ℕ → Doing) → IsSeen (begun s c m f)
begun_seen p s None m f = tt
begun_seen p s (Some q) m f = by_maker (m q)
  where
    by_place : (d : Doing) → IsSeen (placed s q d)
    by_place (Waits s' k rs c l) = elim (either (q == c)) [ inl y ↦ rw y tt | inr o ↦ rw o tt ]
    by_place (Ready s' k rs) = tt
    by_place Absent = tt
    by_place Unplaced = tt
    by_place (Over x) = tt

    by_maker : (o : Option ℕ) → IsSeen (begun_by s q o f)
    by_maker None = tt
    by_maker (Some b) = by_place (f b)

-- a body that was answered is seen if it was
replied_seen : (a : End) (d : Doing) → IsSeen d → IsSeen (replied a d)
replied_seen a (Ready s k rs) i = tt
replied_seen a (Waits s k rs q l) i = tt
replied_seen a Absent i = i
replied_seen a Unplaced i = tt
replied_seen a (Over x) i = tt

-- a body that waits is seen if it was
waiting_seen : (p : Program) (n : ℕ) (d : Doing) → IsSeen d → IsSeen (waiting p n d)
waiting_seen p n (Ready s k rs) i = tt
waiting_seen p n (Waits s k rs q l) i = tt
waiting_seen p n Absent i = i
waiting_seen p n Unplaced i = tt
waiting_seen p n (Over x) i = tt

-- a body that asks is seen
asks_seen : (p : Program) (h : List Entry) (b : ℕ) (w : What) → Asks p h b w → IsSeen (doing p h b)
asks_seen p h b w a = placed_seen (doing p h b) (asked_placed p (doing p h b) _ a.1)

-- a body is seen after an entry of its own that is told
own_seen : (p : Program) (h : List Entry) (n b : ℕ) (w : What) (m : ℕ → Option ℕ) → Tells p h n b w → IsSeen (own p n w m (doing p h) (doing p h b))
own_seen p h n b Begun m t = tt
own_seen p h n b (Fired k o ms vs) m t = begun_seen p (Chord k o vs) (served p (Fired k o ms vs)) m (doing p h)
own_seen p h n b (Made c) m t = replied_seen _ (doing p h b) (asks_seen p h b (Made c) t)
own_seen p h n b (Sent o j vs) m t = replied_seen _ (doing p h b) (asks_seen p h b (Sent o j vs) t)
own_seen p h n b (Called o j vs) m t = waiting_seen p n (doing p h b) (asks_seen p h b (Called o j vs) t)
own_seen p h n b (Printed x) m t = replied_seen _ (doing p h b) (asks_seen p h b (Printed x) t)
own_seen p h n b (Ended x) m t = tt

-- a body stays seen after an end
answered_seen : (x : End) (c : Option ℕ) (d : Doing) → IsSeen d → IsSeen (answered x c d)
answered_seen x None d i = i
answered_seen x (Some c) (Waits s k rs q l) i = elim (either (c == q)) [ inl y ↦ rw y tt | inr o ↦ rw o tt ]
answered_seen x (Some c) (Ready s k rs) i = tt
answered_seen x (Some c) Absent i = i
answered_seen x (Some c) Unplaced i = tt
answered_seen x (Some c) (Over y) i = tt

-- a body stays seen after an entry of another body
heard_seen : (w : What) (c : Option ℕ) (d : Doing) → IsSeen d → IsSeen (heard w c d)
heard_seen (Ended x) c d i = answered_seen x c d i
heard_seen Begun c d i = i
heard_seen (Made k) c d i = i
heard_seen (Sent o j vs) c d i = i
heard_seen (Called o j vs) c d i = i
heard_seen (Printed t) c d i = i
heard_seen (Fired k o ms vs) c d i = i

-- a body with an entry among told ones is seen
pub seen_there : (p : Program) (es : List Entry) (e : Entry) (b : ℕ) → IsTold p es → IsIn e es → e.body ≡ b → IsSeen (doing p es b)
seen_there p [] e b t i s = absurd i
seen_there p (x ∷ es) e b t i s =
    elim (either (x.body == b)) [
      | inl y ↦ rw y (subst (λ (k : ℕ). IsSeen (own p x.number x.what (λ q. maker q es) (doing p es) (doing p es k))) (eqb-true x.body b y) (own_seen p es x.number x.body x.what (λ q. maker q es) t.2))
      | inr o ↦ rw o (heard_seen x.what (serves p x.body es) (doing p es b) (⊎_elim (λ q. absurd (eqb-false x.body b o (ap (λ (z : Entry). z.body) (sym q) ∙ s))) (λ k. seen_there p es e b t.0 k s) i))
    ]

-- a body that begins among told entries is there
pub begins_seen : (p : Program) (es : List Entry) (b : ℕ) → IsTold p es → BeginsThere b es → doing p es b ≡ Absent → ⊥
begins_seen p es b t k a = subst IsSeen a (seen_there p es k.0 b t k.1 k.3)

-- the bodies below the top of a task are parked
pub below_parked : (p : Program) (t : TaskView) (m : Option ℕ) → IsTask p t → ((b : ℕ) → IsDefined p (doing p t.past b)) → (b : ℕ) → (t.top ≡ Some b → ⊥) → BeginsThere b t.past → IsParkedThere p t.past m (doing p t.past b)
below_parked p t m k d b other begins = still_parked p t.past m (doing p t.past b) k.told (k.quiet b other) (d b) (k.placed b) (begins_seen p t.past b k.told begins) (k.below b other)

-- ## Links

-- a body that asked a call waits for it
call_waits : (p : Program) (d : Doing) (n : ℕ) (a : Asked) → asked p d ≡ Some a → IsParkedOn n (waiting p n d)
call_waits p (Ready s k rs) n a e = refl
call_waits p (Waits s k rs q l) n a e = let z : Path (Option Asked) None (Some a) = e in cc
call_waits p Absent n a e = let z : Path (Option Asked) None (Some a) = e in cc
call_waits p Unplaced n a e = let z : Path (Option Asked) None (Some a) = e in cc
call_waits p (Over x) n a e = let z : Path (Option Asked) None (Some a) = e in cc

-- a body that waits for a call is parked for it
waits_parked : (p : Program) (es : List Entry) (n : ℕ) (d : Doing) → IsParkedOn n d → IsParkedThere p es (Some n) d
waits_parked p es n (Waits s k rs q l) w = inl (ap Some w)
waits_parked p es n (Ready s k rs) w = w
waits_parked p es n Absent w = w
waits_parked p es n Unplaced w = w
waits_parked p es n (Over x) w = absurd w

module _ (p : Program) (v : View) (free : IsHandFree v) (n body : ℕ) (below : AllBelow n v.kept) (o : Object) (j : ℕ) (vs : List value.Value) where
  -- nothing may go at any time
  pub nothing_goes : (es : List Entry) → IsTold p es → MayGo p es []
  nothing_goes es told = record { part = kept_nothing es; goes = tt; stays = subst (IsTold p) (sym (all_kept es)) told }

  -- an entry of this number is the new one
  newest : (w : What) (e : Entry) → IsIn e (entry n body w ∷ v.kept) → e.number ≡ n → e ≡ entry n body w
  newest w e i q = ⊎_elim (λ s. s) (λ k. let l = in_below n v.kept e below k in absurd (omega (arith, l, q))) i

  -- a message that was sent goes with a letter
  pub letter_links : IsTold p (entry n body (Sent o j vs) ∷ v.kept) → MayLink p (saw_count (drew v n body (Sent o j vs)) (n + 1)) n o j [] vs
  letter_links told = record {
    fresh = inl refl;
    idle = free.flight;
    entry = entry n body (Sent o j vs);
    kept = inl refl;
    numbered = refl;
    message = refl;
    goes = nothing_goes (entry n body (Sent o j vs) ∷ v.kept) told;
    others = λ e x i m. absurd i;
    call = λ e i c. absurd (no_call e (newest (Sent o j vs) e i c.0) c.1);
    parked = λ b k. absurd k.1;
  }
    where
      no_call : (e : Entry) → e ≡ entry n body (Sent o j vs) → (o' : Object) × (j' : ℕ) × (vs' : List value.Value) × (e.what ≡ Called o' j' vs') → ⊥
      no_call e s c = let z : Sent o j vs ≡ Called c.0 c.1 c.2 = sym (ap (λ (x : Entry). x.what) s) ∙ c.3 in cc

  -- a call goes with its task
  pub call_links : (t : TaskView) → IsTask p t → ((b : ℕ) → IsDefined p (doing p t.past b)) → (past : List Entry) → t.past ≡ entry n body (Called o j vs) ∷ past → t.top ≡ Some body → Asks p past body (Called o j vs)
      → MayGo p (entry n body (Called o j vs) ∷ v.kept) t.past → MayLink p (saw_count (drew v n body (Called o j vs)) (n + 1)) n o j t.past vs
  call_links t k d past is top asks goes = record {
    fresh = inl refl;
    idle = free.flight;
    entry = entry n body (Called o j vs);
    kept = inl refl;
    numbered = refl;
    message = refl;
    goes = goes;
    others = λ e x i m. elim (either (e.number == n)) [
      | inl y ↦ inl (eqb-true e.number n y)
      | inr z ↦ inr (λ h. ⊎_elim (λ q. eqb-false e.number n z q) (λ g. subst (HasNumber e.number) free.fresh g) h)
    ];
    call = λ e i c. subst (IsIn e) (sym is) (inl (newest (Called o j vs) e i c.0));
    parked = λ b begins. elim (either (body == b)) [
      | inl y ↦ subst (λ (c : ℕ). IsParkedThere p t.past (Some n) (doing p t.past c)) (eqb-true body b y) top_parked
      | inr z ↦ below_parked p t (Some n) k d b (λ q. eqb-false body b z (some_same (sym top ∙ q))) begins
    ];
  }
    where
      some_same : {b c : ℕ} → Some b ≡ Some c → b ≡ c
      some_same e = cc

      top_parked : IsParkedThere p t.past (Some n) (doing p t.past body)
      top_parked = waits_parked p t.past n (doing p t.past body)
          (subst (λ (es : List Entry). IsParkedOn n (doing p es body)) (sym is) (rw (eq-eqb body body refl) (call_waits p (doing p past body) n _ asks.1)))
