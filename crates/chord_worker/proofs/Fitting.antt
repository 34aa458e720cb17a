-- Which body of a task waits for the message with which the task comes: the one on top.
use Rattle.std.proofs.Common.{◌≡◌, ◌≢◌, inl, inr, ⊎_elim, ℕ, ◌+◌, ◌-◌, ◌<◌, ◌≤◌, ◌==◌, true, false, Bool, List, [], ◌∷◌, ◌++◌, length, Option, Some, None, refl, sym, ap, ◌∙◌, subst, zero, suc, arith}
use Rattle.std.proofs.lemmas.Bool.{eqb-true}
use Rattle.chord_base.specs.Meaning.{Program, Start, HasOneSync}
use Rattle.chord_base.specs.Machine.{IsPast, Comes}
use Rattle.chord_base.specs.Messages.{has, maker, members_of, IsCall}
use Rattle.chord_base.specs.Bodies.{Doing, Absent, Unplaced, Ready, Waits, Over, WaitsFor, replied, waiting, placed, begun, begun_by, own, answered, heard, served, serves, doing, Asks}
use Rattle.chord_base.specs.Story.{IsIn, IsSound, IsMerged, kept}
use Rattle.chord_base.specs.declared.event.End.{End}
use Rattle.chord_base.specs.declared.event.Limits.{Limits}
use Rattle.chord_base.specs.declared.event.What.{What}
use Rattle.chord_base.specs.declared.event.What.TheVariants.{Begun, Made, Sent, Called, Printed, Fired, Ended}
use Rattle.chord_base.specs.declared.event.Entry.{Entry}
use Rattle.chord_base.proofs.Waits.{either, WaitsOn, replied_waits, waiting_waits, heard_waits, begun_waits, below_length, waits_for_own}
use Rattle.chord_base.proofs.Calls.{number_within, entry_pending, serves_only_calls}
use Rattle.chord_base.proofs.Callers.{served_has, serves_entry, entry_serves, served_waits_no_more}
use Rattle.chord_base.proofs.Firings.{takes_pending}
use Rattle.chord_base.proofs.Merge.{body_known, asked_placed, placed_seen}
use Rattle.chord_base.proofs.Merged.{place_knows}
use Rattle.chord_base.proofs.Parting.{run_is_told}
use Rattle.chord_code.specs.declared.parts.Parts.{Parts}
use Rattle.chord_code.specs.Meaning.{code_program}
use Rattle.chord_rule.specs.declared.view.Claim.{Claim}
use Rattle.chord_rule.specs.Coming.{ComesWithMessage}
use Rattle.chord_rule.specs.Parcels.{BeginsThere, IsParkedThere}
use Rattle.chord_rule.proofs.Closing.{begins_there}
use Rattle.chord_task.specs.declared.body.Next.{Next}
use Rattle.chord_task.specs.declared.body.Next.TheVariants as nexts
use Rattle.chord_task.specs.declared.body.Body.{Body}
use Rattle.chord_task.specs.declared.task.Task.{Task}
use Rattle.chord_task.specs.Stacks.{TaskView, IsServedThere, IsTask, TopWaitsFor}
use Rattle.chord_task.specs.Standing.{body_number, view_of, IsTop, IsTaskOf}
use Rattle.chord_task.proofs.Tasks.{stack_at}
use Rattle.chord_worker.proofs.Parked.{serves_begins}

-- ## In a run

-- a member of a firing was sent before it
member_earlier : (p : Program) (h : List Entry) (f : Entry) (q : ℕ) → IsPast p h → IsIn f h → has q (members_of f.what) ≡ true → q < f.number
member_earlier p [] f q past there took = absurd there
member_earlier p (e ∷ h) f q past (inl same) took =
    let t = takes_pending p h e q past.0 past.1 (subst (λ (x : Entry). has q (members_of x.what) ≡ true) same took) in
    let sent = entry_pending h q t.0.0 t.0.1 in
    let low = number_within p h sent.0 past.0 sent.1 in
    let number = sent.2 in
    let last = past.1.numbered in
    let is : f.number ≡ e.number = ap (λ (x : Entry). x.number) same in
    omega (arith, low, number, last, is)
member_earlier p (e ∷ h) f q past (inr there) took = member_earlier p h f q past.0 there took

-- the call that a body serves was made before the body began
pub served_earlier : (p : Program) (h : List Entry) (b q : ℕ) → IsPast p h → serves p b h ≡ Some q → q < b
served_earlier p h b q past s =
    let f = serves_entry p b h q s in
    let low = member_earlier p h f.0 q past f.1 (served_has p f.0.what q f.3) in
    let number = f.2 in
    omega (arith, low, number)

-- an end of a body is in an entry of it
over_ended : (p : Program) (h : List Entry) (b : ℕ) (x : End) → doing p h b ≡ Over x → (e : Entry) × IsIn e h × (e.body ≡ b) × (e.what ≡ Ended x)
over_ended p [] b x is = cc
over_ended p (e ∷ h) b x is =
    elim (either (e.body == b)) [
      | inl y ↦ of_own (over_ended p h b x) e.what refl (let z : own p e.number e.what (λ q. maker q h) (doing p h) (doing p h b) ≡ Over x = rw y at is in z) (eqb-true e.body b y)
      | inr o ↦ more (over_ended p h b x) (of_other e.what (serves p e.body h) (doing p h b) refl (let z : heard e.what (serves p e.body h) (doing p h b) ≡ Over x = rw o at is in z))
    ]
  where
    Before : Type 0
    Before = doing p h b ≡ Over x → (d : Entry) × IsIn d h × (d.body ≡ b) × (d.what ≡ Ended x)

    more : Before → doing p h b ≡ Over x → (d : Entry) × IsIn d (e ∷ h) × (d.body ≡ b) × (d.what ≡ Ended x)
    more before was = (let t = before was in (t.0, inr t.1, t.2, t.3))

    replied_over : (a : End) (d : Doing) → replied a d ≡ Over x → d ≡ Over x
    replied_over a (Ready s k rs) z = cc
    replied_over a (Waits s k rs q l) z = cc
    replied_over a Absent z = cc
    replied_over a Unplaced z = cc
    replied_over a (Over y) z = z

    waiting_over : (n : ℕ) (d : Doing) → waiting p n d ≡ Over x → d ≡ Over x
    waiting_over n (Ready s k rs) z = cc
    waiting_over n (Waits s k rs q l) z = cc
    waiting_over n Absent z = cc
    waiting_over n Unplaced z = cc
    waiting_over n (Over y) z = z

    placed_over : (s : Start) (q : ℕ) (d : Doing) → placed s q d ≡ Over x → ⊥
    placed_over s q (Waits s' k rs q' l) z = elim (either (q == q')) [ inl y ↦ (let v : Ready s (l + 1) [] ≡ Over x = rw y at z in cc) | inr o ↦ (let v : Unplaced ≡ Over x = rw o at z in cc) ]
    placed_over s q (Ready s' k rs) z = cc
    placed_over s q Absent z = cc
    placed_over s q Unplaced z = cc
    placed_over s q (Over y) z = cc

    begun_by_over : (s : Start) (q : ℕ) (o : Option ℕ) (f : ℕ → Doing) → begun_by s q o f ≡ Over x → ⊥
    begun_by_over s q None f z = cc
    begun_by_over s q (Some c) f z = placed_over s q (f c) z

    begun_over : (s : Start) (o : Option ℕ) (m : ℕ → Option ℕ) (f : ℕ → Doing) → begun s o m f ≡ Over x → ⊥
    begun_over s None m f z = cc
    begun_over s (Some q) m f z = begun_by_over s q (m q) f z

    answered_over : (a : End) (c : Option ℕ) (d : Doing) → answered a c d ≡ Over x → d ≡ Over x
    answered_over a None d z = z
    answered_over a (Some c) (Waits s k rs q l) z = elim (either (c == q)) [ inl y ↦ (let v : Ready s k (rs ++ a ∷ []) ≡ Over x = rw y at z in cc) | inr o ↦ (let v : Waits s k rs q l ≡ Over x = rw o at z in cc) ]
    answered_over a (Some c) (Ready s k rs) z = z
    answered_over a (Some c) Absent z = z
    answered_over a (Some c) Unplaced z = z
    answered_over a (Some c) (Over y) z = z

    of_other : (w : What) (c : Option ℕ) (d : Doing) → d ≡ doing p h b → heard w c d ≡ Over x → doing p h b ≡ Over x
    of_other (Ended y) c d i z = sym i ∙ answered_over y c d z
    of_other Begun c d i z = sym i ∙ z
    of_other (Made k) c d i z = sym i ∙ z
    of_other (Sent o j vs) c d i z = sym i ∙ z
    of_other (Called o j vs) c d i z = sym i ∙ z
    of_other (Printed t) c d i z = sym i ∙ z
    of_other (Fired k o ms vs) c d i z = sym i ∙ z

    of_own : Before → (w : What) → e.what ≡ w → own p e.number w (λ q. maker q h) (doing p h) (doing p h b) ≡ Over x → e.body ≡ b → (d : Entry) × IsIn d (e ∷ h) × (d.body ≡ b) × (d.what ≡ Ended x)
    of_own r (Ended y) i z same = (let v : Over y ≡ Over x = z in let u : y ≡ x = cc in (e, inl refl, same, i ∙ ap Ended u))
    of_own r Begun i z same = cc
    of_own r (Fired k o ms vs) i z same = absurd (begun_over _ (served p (Fired k o ms vs)) (λ q. maker q h) (doing p h) z)
    of_own r (Made c) i z same = more r (replied_over _ (doing p h b) z)
    of_own r (Sent o j vs) i z same = more r (replied_over _ (doing p h b) z)
    of_own r (Printed t) i z same = more r (replied_over _ (doing p h b) z)
    of_own r (Called o j vs) i z same = more r (waiting_over e.number (doing p h b) z)

-- no body waits for a call where the body that serves it has ended
over_waits : (p : Program) (h : List Entry) (c z q : ℕ) (x : End) → IsSound p → HasOneSync p → IsPast p h → serves p c h ≡ Some q → doing p h c ≡ Over x → WaitsFor q (doing p h z) → ⊥
over_waits p h c z q x sound one past s over waits =
    let f = serves_entry p c h q s in
    let call = serves_only_calls p h f.0 q sound past f.1 f.3 in
    let end = over_ended p h c x over in
    served_waits_no_more p h call.1.0 z q x sound one past call.1.1 call.1.2
    (record { firing = f.0; there = f.1; took = call.0; ended = record { entry = end.0; there = end.1; body = end.2 ∙ sym f.2; ended = end.3 } }) waits

-- a body that asks has an entry
asks_known : (p : Program) (h : List Entry) (b : ℕ) (w : What) → IsPast p h → Asks p h b w → b < length h
asks_known p h b w past (l, is) = below_length p h b past (body_known p h b (run_is_told p h past) (placed_seen (doing p h b) (asked_placed p (doing p h b) _ is)))

-- a body that makes the next entry has no later number
body_low : (p : Program) (h : List Entry) (n b : ℕ) (w : What) → IsPast p h → n ≡ length h → Comes p h n b w → b ≤ n
body_low p h n b Begun past last comes = let z = comes.1 in omega (arith, z)
body_low p h n b (Fired k o ms vs) past last comes = let z = comes.0 in omega (arith, z)
body_low p h n b (Made c) past last comes = let z = asks_known p h b (Made c) past comes in omega (arith, z, last)
body_low p h n b (Sent o j vs) past last comes = let z = asks_known p h b (Sent o j vs) past comes in omega (arith, z, last)
body_low p h n b (Called o j vs) past last comes = let z = asks_known p h b (Called o j vs) past comes in omega (arith, z, last)
body_low p h n b (Printed t) past last comes = let z = asks_known p h b (Printed t) past comes in omega (arith, z, last)
body_low p h n b (Ended x) past last comes = let z = asks_known p h b (Ended x) past comes in omega (arith, z, last)

-- a body that waits for a call began before it
waits_later : (p : Program) (h : List Entry) (b q : ℕ) → IsPast p h → maker q h ≡ Some b → b ≤ q
waits_later p [] b q past made = cc
waits_later p (e ∷ h) b q past made =
    elim (either (e.number == q)) [
      | inl y ↦
          (let z : Some e.body ≡ Some b = rw y at made in
          let body : e.body ≡ b = cc in
          let low = body_low p h e.number e.body e.what past.0 past.1.numbered past.1.comes in
          let number = eqb-true e.number q y in
          omega (arith, body, low, number))
      | inr o ↦ waits_later p h b q past.0 (rw o at made)
    ]

-- ## In a task that is a place of a run

module _ (p : Program) (sound : IsSound p) (one : HasOneSync p) (h : List Entry) (view : ℕ → List Entry) (m : IsMerged p view h) (place : ℕ) (t : TaskView) (is : view place ≡ t.past) (task : IsTask p t)
    (i : ℕ) (parked : (b : ℕ) → BeginsThere b t.past → IsParkedThere p t.past (Some i) (doing p t.past b)) (top : ℕ) (on_top : t.top ≡ Some top) where
  -- an entry of the past is one of the run, in this place
  in_place : (keep : ℕ → Bool) (l : List Entry) (e : Entry) → IsIn e (kept keep l) → IsIn e l × (keep e.number ≡ true)
  in_place keep [] e there = absurd there
  in_place keep (x ∷ l) e there =
      elim (either (keep x.number)) [
        | inl y ↦ first y (in_place keep l e) (rw y at there)
        | inr o ↦ (let k = in_place keep l e (rw o at there) in (inr k.0, k.1))
      ]
    where
      first : keep x.number ≡ true → (IsIn e (kept keep l) → IsIn e l × (keep e.number ≡ true)) → IsIn e (x ∷ kept keep l) → IsIn e (x ∷ l) × (keep e.number ≡ true)
      first y rest (inl same) = (inl same, subst (λ (z : Entry). keep z.number ≡ true) (sym same) y)
      first y rest (inr there) = (let k = rest there in (inr k.0, k.1))

  -- the entries of the past
  of_past : (e : Entry) → IsIn e t.past → IsIn e h × (m.at e.number ≡ place)
  of_past e there = let k = in_place (λ n. m.at n == place) h e (subst (IsIn e) (sym (m.keeps place ∙ is)) there) in (k.0, eqb-true (m.at e.number) place k.1)

  -- what a body of the past does there is what it does in the run
  same_doing : (b : ℕ) → BeginsThere b t.past → doing p t.past b ≡ doing p h b
  same_doing b begins =
      let e = begins.0 in
      let at : m.at b ≡ place = subst (λ n. m.at n ≡ place) begins.2 (of_past e begins.1).1 in
      let here : view (m.at b) ≡ t.past = ap view at ∙ is in
      elim (place_knows p view h b m) [
        | inl u ↦ absurd (task.placed b (subst (λ l. doing p l b ≡ Unplaced) here u))
        | inr s ↦ subst (λ l. doing p l b ≡ doing p h b) here s
      ]

  -- what a body of the past serves there it serves in the run
  same_serves : (c q : ℕ) → serves p c t.past ≡ Some q → serves p c h ≡ Some q
  same_serves c q s =
      let f = serves_entry p c t.past q s in
      let there = of_past f.0 f.1 in
      subst (λ n. serves p n h ≡ Some q) f.2 (entry_serves p h f.0 m.past there.0 ∙ f.3)

  -- no body of the past that began after the top one serves a call for which one of them waits
  no_server : (fuel c q z : ℕ) → length h ≤ c + fuel → top < c → BeginsThere c t.past → serves p c t.past ≡ Some q → BeginsThere z t.past → WaitsFor q (doing p t.past z) → ⊥
  no_server zero c q z room above begins s caller waits = let low = number_within p h begins.0 m.past (of_past begins.0 begins.1).0 in let number = begins.2 in omega (arith, room, low, number)
  no_server (suc fuel) c q z room above begins s caller waits = by_doing (no_server fuel) (doing p t.past c) refl (parked c begins) (task.below c not_top)
    where
      not_top : t.top ≡ Some c → ⊥
      not_top e = (let v : Some top ≡ Some c = sym on_top ∙ e in let same : top ≡ c = cc in omega (arith, same, above))

      Less : Type 0
      Less = (c q z : ℕ) → length h ≤ c + fuel → top < c → BeginsThere c t.past → serves p c t.past ≡ Some q → BeginsThere z t.past → WaitsFor q (doing p t.past z) → ⊥

      by_doing : Less → (d : Doing) → doing p t.past c ≡ d → IsParkedThere p t.past (Some i) (doing p t.past c) → IsServedThere p t.past (doing p t.past c) → ⊥
      by_doing r Absent d k b = subst (IsParkedThere p t.past (Some i)) d k
      by_doing r Unplaced d k b = subst (IsParkedThere p t.past (Some i)) d k
      by_doing r (Ready s k rs) d pk b = subst (IsParkedThere p t.past (Some i)) d pk
      by_doing r (Over x) d k b = over_waits p h c z q x sound one m.past (same_serves c q s) (sym (same_doing c begins) ∙ d) (subst (WaitsFor q) (same_doing z caller) waits)
      by_doing r (Waits s' k' rs q' l) d k b =
          let server = subst (IsServedThere p t.past) d b in
          let begins' = serves_begins p t.past server.0 q' task.told server.1 in
          let made = subst (WaitsOn (λ n. maker n h ≡ Some c)) (sym (same_doing c begins) ∙ d) (waits_for_own p h c m.past) in
          let later = waits_later p h c q' m.past made in
          let earlier = served_earlier p h server.0 q' m.past (same_serves server.0 q' server.1) in
          r server.0 q' c (omega (arith, room, later, earlier)) (omega (arith, above, later, earlier)) begins' server.1 begins (subst (WaitsFor q') (sym d) refl)

  -- the top body waits for the message
  pub top_waits : BeginsThere top t.past → ((x : End) → doing p t.past top ≡ Over x → ⊥) → TopWaitsFor p t i
  top_waits begins live = by_doing (doing p t.past top) refl (parked top begins)
    where
      by_doing : (d : Doing) → doing p t.past top ≡ d → IsParkedThere p t.past (Some i) (doing p t.past top) → TopWaitsFor p t i
      by_doing Absent d k = absurd (subst (IsParkedThere p t.past (Some i)) d k)
      by_doing Unplaced d k = absurd (subst (IsParkedThere p t.past (Some i)) d k)
      by_doing (Ready s k rs) d pk = absurd (subst (IsParkedThere p t.past (Some i)) d pk)
      by_doing (Over x) d k = absurd (live x d)
      by_doing (Waits s k rs q l) d pk =
          elim (subst (IsParkedThere p t.past (Some i)) d pk) [
            | inl e ↦ (let v : Some i ≡ Some q = e in let same : i ≡ q = cc in record { body = top; on_top = on_top; start = s; depth = k; answers = rs; place = l; is = d ∙ ap (λ n. Waits s k rs n l) (sym same) })
            | inr server ↦
                (let made = subst (WaitsOn (λ n. maker n h ≡ Some top)) (sym (same_doing top begins) ∙ d) (waits_for_own p h top m.past) in
                let later = waits_later p h top q m.past made in
                let earlier = served_earlier p h server.0 q m.past (same_serves server.0 q server.2) in
                absurd (no_server (length h) server.0 q top (omega arith) (omega (arith, later, earlier)) server.1 server.2 begins (subst (WaitsFor q) (sym d) refl)))
          ]

-- ## Of a task that comes with a parcel

-- a body that waits for a call has an entry that makes it
call_entry : (p : Program) (h : List Entry) (b : ℕ) → WaitsOn (λ q. (e : Entry) × IsIn e h × IsCall q e) (doing p h b)
call_entry p [] b = tt
call_entry p (e ∷ h) b =
    elim (either (e.body == b)) [
      | inl y ↦ rw y (of_own e.what refl (more (doing p h b) (call_entry p h b)))
      | inr o ↦ rw o (heard_waits (λ q. (d : Entry) × IsIn d (e ∷ h) × IsCall q d) e.what (serves p e.body h) (doing p h b) (more (doing p h b) (call_entry p h b)))
    ]
  where
    Made_by : ℕ → Type 0
    Made_by q = (d : Entry) × IsIn d (e ∷ h) × IsCall q d

    more : (d : Doing) → WaitsOn (λ q. (x : Entry) × IsIn x h × IsCall q x) d → WaitsOn Made_by d
    more (Waits s k rs q l) w = (w.0, inr w.1, w.2)
    more (Ready s k rs) w = tt
    more Absent w = tt
    more Unplaced w = tt
    more (Over x) w = tt

    of_own : (w : What) → e.what ≡ w → WaitsOn Made_by (doing p h b) → WaitsOn Made_by (own p e.number w (λ q. maker q h) (doing p h) (doing p h b))
    of_own Begun i w = tt
    of_own (Made c) i w = replied_waits Made_by _ (doing p h b)
    of_own (Sent o j vs) i w = replied_waits Made_by _ (doing p h b)
    of_own (Printed t) i w = replied_waits Made_by _ (doing p h b)
    of_own (Called o j vs) i w = waiting_waits p Made_by e.number (doing p h b) (e, inl refl, (refl, (o, j, vs, i))) w
    of_own (Fired k o ms vs) i w = begun_waits Made_by _ (served p (Fired k o ms vs)) (λ q. maker q h) (doing p h)
    of_own (Ended x) i w = tt

-- a body on top of a task is ready, or waits
top_lives : (code : Parts) (limits : Limits) (h : List Entry) (b : Body) (n : Next) → IsTop code limits h n b → (x : End) → doing (code_program code limits) h b.number ≡ Over x → ⊥
top_lives code limits h b nexts.Runs u x over = (let z : Over x ≡ Ready u.start u.depth u.answers = sym over ∙ u.is in cc)
top_lives code limits h b (nexts.Gave w) u x over = (let z : Over x ≡ Ready u.start u.depth u.answers = sym over ∙ u.is in cc)
top_lives code limits h b (nexts.Ends y y') u x over = (let z : Over x ≡ Ready u.start u.depth u.answers = sym over ∙ u.is in cc)
top_lives code limits h b (nexts.Fails t) u x over = (let z : Over x ≡ Ready u.start u.depth u.answers = sym over ∙ u.is in cc)
top_lives code limits h b (nexts.Waits q) k x over = (let z : Over x ≡ Waits k.start k.depth k.answers q (limits.depth - b.frames.value.top.room) = sym over ∙ k.is in cc)

-- and so it is there
top_there : (code : Parts) (limits : Limits) (h : List Entry) (b : Body) (n : Next) → IsTop code limits h n b → doing (code_program code limits) h b.number ≡ Absent → ⊥
top_there code limits h b nexts.Runs u none = (let z : Absent ≡ Ready u.start u.depth u.answers = sym none ∙ u.is in cc)
top_there code limits h b (nexts.Gave w) u none = (let z : Absent ≡ Ready u.start u.depth u.answers = sym none ∙ u.is in cc)
top_there code limits h b (nexts.Ends y y') u none = (let z : Absent ≡ Ready u.start u.depth u.answers = sym none ∙ u.is in cc)
top_there code limits h b (nexts.Fails t) u none = (let z : Absent ≡ Ready u.start u.depth u.answers = sym none ∙ u.is in cc)
top_there code limits h b (nexts.Waits q) k none = (let z : Absent ≡ Waits k.start k.depth k.answers q (limits.depth - b.frames.value.top.room) = sym none ∙ k.is in cc)

module _ (code : Parts) (limits : Limits) (sound : IsSound (code_program code limits)) (one : HasOneSync (code_program code limits)) (t : Task) (is : IsTaskOf code limits t) (es : List Entry) (c : Claim) (comes : ComesWithMessage (code_program code limits) es c (view_of t).past) where
  -- the body on top of a task that comes with a message waits for it
  pub comes_waiting : (view_of t).top ≢ None → TopWaitsFor (code_program code limits) (view_of t) c.number
  comes_waiting left = by_top t.top refl
    where
      by_top : (o : Option Body) → t.top ≡ o → TopWaitsFor (code_program code limits) (view_of t) c.number
      by_top None e = absurd (left (ap body_number e))
      by_top (Some b) e =
          let p = code_program code limits in
          let places = comes.places in
          let stack = stack_at code limits t b is e in
          let there : BeginsThere b.number (view_of t).past = ⊎_elim (λ none. absurd (top_there code limits (view_of t).past b b.next stack.0 none)) (λ k. k) (begins_there p (view_of t).past b.number is.task.told) in
          top_waits p sound one places.run places.view places.merged places.other (view_of t) places.other_is is.task c.number comes.parked b.number (ap body_number e) there (top_lives code limits (view_of t).past b b.next stack.0)

  -- so a message to an asynchronous method comes without such a task
  pub letter_alone : (view_of t).top ≢ None → (code_program code limits).is_sync c.object.class c.method ≡ false → ⊥
  letter_alone left plain =
      let p = code_program code limits in
      let w = comes_waiting left in
      let made = subst (λ (d : Doing). WaitsOn (λ q. (e : Entry) × IsIn e (view_of t).past × IsCall q e) d) w.is (call_entry p (view_of t).past w.body) in
      comes.sent plain made.0 made.1 made.2
