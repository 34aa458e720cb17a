-- The closing theorem: where the first desk has nothing to do, nobody has to look after any cell, and what the desk keeps is quiet, the journal is complete.
use Rattle.std.proofs.Common.{◌≡◌, ◌⊎◌, inl, inr, ⊎_elim, ℕ, ◌<◌, ◌≤◌, ◌==◌, false, List, [], ◌∷◌, length, refl, sym, ap, ◌∙◌, subst, arith, Option, Some, None}
use Rattle.std.proofs.lemmas.Bool.{eqb-true}
use mathlib.Core.Logic.{dite}
use native.Mathlib.Decide.{dec_lt}
use mathlib.Core.Path.{Path}
use mathlib.Core.Option as maybe
use mathlib.Core.Option.{some, none}
use lib.ListN.{get_elem?}
use Rattle.chord_base.specs.Meaning.{Program}
use Rattle.chord_base.specs.Bodies.{Doing, Absent, Unplaced, Ready, Waits, Over, doing, asked, Asks, heard, serves}
use Rattle.chord_base.specs.Machine.{Takes, IsFinal, NoneFires}
use Rattle.chord_base.specs.Messages.{Message, has, pending}
use Rattle.chord_base.specs.Story.{IsTold, Tells}
use Rattle.chord_base.specs.declared.value.Value as value
use Rattle.chord_base.specs.declared.value.Object.{Object}
use Rattle.chord_base.specs.declared.event.What.{What}
use Rattle.chord_base.specs.declared.event.What.TheVariants.{Begun, Made, Sent, Called, Printed, Fired, Ended}
use Rattle.chord_base.specs.declared.event.Entry.{Entry}
use Rattle.chord_base.proofs.Waits.{either}
use Rattle.chord_base.proofs.Merged.{past_below, complete_in_places}
use Rattle.chord_word.specs.declared.cells.Cell.{Cell}
use Rattle.chord_word.specs.declared.cells.Cell.TheVariants as a_cell
use Rattle.chord_word.specs.declared.cells.Word.{Word}
use Rattle.chord_rule.specs.declared.view.Claim.{Claim}
use Rattle.chord_rule.specs.declared.view.Duty.{Duty}
use Rattle.chord_rule.specs.declared.view.View.{View}
use Rattle.chord_rule.specs.Moment.{Moment, Home}
use Rattle.chord_rule.specs.Agrees.{Agrees}
use Rattle.chord_rule.specs.Bags.{IsStanding, IsArmed, cell_of}
use Rattle.chord_rule.specs.Claims.{HasThe}
use Rattle.chord_rule.specs.Closing.{IsQuiet, AreQuiet, IsAsleep, AreAllAwake, HasNothingToDo, MayClose}
use Rattle.chord_rule.specs.Duties.{HasDuty, Chosen}
use Rattle.chord_rule.specs.Hands.{IsUnarmed}
use Rattle.chord_rule.specs.Keeping.{parcel, at_desk, at_home, kept_at}
use Rattle.chord_rule.specs.Kinds.{gone}
use Rattle.chord_rule.specs.Made.{IsChord, key, bag_keys}
use Rattle.chord_rule.specs.Minded.{IsWaiting}
use Rattle.chord_rule.specs.Parcels.{BeginsThere, IsParkedThere}
use Rattle.chord_rule.specs.Pending.{IsPending}
use Rattle.chord_rule.specs.StandsFor.{Unseen}
use Rattle.chord_rule.specs.Whole.{Whole}
use Rattle.chord_rule.proofs.Keeping.{desk_keeps, parcel_keeps}
use Rattle.chord_rule.proofs.KeepSteps.{place_of}
use Rattle.chord_rule.proofs.KeySteps.{fires_low}
use Rattle.chord_rule.proofs.Knowing as knowing
use Rattle.chord_rule.proofs.Staging.{what_none}
use Rattle.chord_rule.proofs.Standing.{no_entry_blank, full_home}
use Rattle.chord_rule.proofs.Waiting as waiting
use Rattle.chord_rule.proofs.Waiting.{has_key}

-- an entry of another body leaves an absent body absent
heard_absent : (w : What) (c : Option ℕ) → heard w c Absent ≡ Absent
heard_absent (Ended x) None = refl
heard_absent (Ended x) (Some q) = refl
heard_absent Begun c = refl
heard_absent (Made k) c = refl
heard_absent (Sent o j vs) c = refl
heard_absent (Called o j vs) c = refl
heard_absent (Printed t) c = refl
heard_absent (Fired k o ms vs) c = refl

-- a body that asks is not absent
asks_seen : (p : Program) (h : List Entry) (b : ℕ) (w : What) → Asks p h b w → doing p h b ≡ Absent → ⊥
asks_seen p h b w a e = let z : asked p Absent ≡ Some _ = sym (ap (asked p) e) ∙ a.1 in cc

-- a body that does anything in a history that is told has its first entry there
pub begins_there : (p : Program) (h : List Entry) (b : ℕ) → IsTold p h → (doing p h b ≡ Absent) ⊎ BeginsThere b h
begins_there p [] b t = inl refl
begins_there p (e ∷ h) b t = elim (either (e.body == b)) [
  | inl y ↦ inr (own_begins (begins_there p h b t.0) e.what (eqb-true e.body b y) t.2)
  | inr o ↦ ⊎_elim (λ a. inl (rw o (ap (heard e.what (serves p e.body h)) a ∙ heard_absent e.what (serves p e.body h)))) (λ k. inr (k.0, inr k.1, k.2, k.3)) (begins_there p h b t.0)
]
  where
    later : BeginsThere b h → BeginsThere b (e ∷ h)
    later k = (k.0, inr k.1, k.2, k.3)

    of_ask : (doing p h b ≡ Absent) ⊎ BeginsThere b h → (w : What) → e.body ≡ b → Asks p h e.body w → BeginsThere b (e ∷ h)
    of_ask r w y a = ⊎_elim (λ z. absurd (asks_seen p h b w (subst (λ (x : ℕ). Asks p h x w) y a) z)) later r

    own_begins : (doing p h b ≡ Absent) ⊎ BeginsThere b h → (w : What) → e.body ≡ b → Tells p h e.number e.body w → BeginsThere b (e ∷ h)
    own_begins r Begun y t = (e, inl refl, sym t ∙ y, y)
    own_begins r (Fired k o ms vs) y t = (e, inl refl, sym t ∙ y, y)
    own_begins r (Made c) y t = of_ask r (Made c) y t
    own_begins r (Sent o j vs) y t = of_ask r (Sent o j vs) y t
    own_begins r (Called o j vs) y t = of_ask r (Called o j vs) y t
    own_begins r (Printed x) y t = of_ask r (Printed x) y t
    own_begins r (Ended x) y t = of_ask r (Ended x) y t

-- a parked body is quiet
parked_quiet : (p : Program) (es : List Entry) (m : Option ℕ) (d : Doing) → IsParkedThere p es m d → IsQuiet d
parked_quiet p es m (Waits s d rs q l) k = tt
parked_quiet p es m (Over x) k = tt
parked_quiet p es m Absent k = tt
parked_quiet p es m Unplaced k = k
parked_quiet p es m (Ready s d rs) k = k

-- where each body that begins there is parked, all are quiet
parked_are_quiet : (p : Program) (es : List Entry) (m : Option ℕ) → IsTold p es → ((b : ℕ) → BeginsThere b es → IsParkedThere p es m (doing p es b)) → AreQuiet p es
parked_are_quiet p es m told parked b = ⊎_elim (λ a. subst IsQuiet (sym a) tt) (λ k. parked_quiet p es m (doing p es b) (parked b k)) (begins_there p es b told)

-- a quiet body has no next ask
quiet_asks : (p : Program) (d : Doing) → IsQuiet d → (asked p d ≡ None) × (d ≡ Unplaced → ⊥)
quiet_asks p (Waits s k rs q l) t = (refl, (λ e. let z = e in absurd (cc)))
quiet_asks p (Over x) t = (refl, (λ e. let z = e in absurd (cc)))
quiet_asks p Absent t = (refl, (λ e. let z = e in absurd (cc)))
quiet_asks p Unplaced t = absurd t
quiet_asks p (Ready s k rs) t = absurd t

module _ {P : Type 0} (entries : P → List Entry) (arguments : P → List value.Value) (keeps_to : P → Type 0) (p : Program) (n : ℕ) (any : 0 < n) (small : n ≤ 65536) (m : Moment P) (u : Unseen) (whole : Whole entries arguments keeps_to p n m u)
    (id : ℕ) (v : View) (at : get_elem? m.views id ≡ some v) (here : v.gone ≡ false) (may : HasNothingToDo v) (awake : AreAllAwake m.cells) where
  -- the first part of the rule holds
  law : Agrees entries arguments keeps_to p n m u
  law = whole.agrees

  -- the desk that closes is desk 0
  at_first : get_elem? m.views 0 ≡ some v
  at_first = ap (get_elem? m.views) (sym (law.firsts.leads id v at may.first)) ∙ at

  -- each desk is the one that closes, or gone
  who : (j : ℕ) (w : View) → get_elem? m.views j ≡ some w → (w ≡ v) ⊎ (w ≡ gone)
  who = knowing.who entries arguments keeps_to p n small m u whole id v at here may.first may.lent

  -- a pending message stands in its bag
  stand : (i : ℕ) (x : Message) → pending i u.journal ≡ Some x → (c : Cell) → cell_of m.cells i ≡ c → (u.order.bag i ≡ Some (key x.object x.method)) × IsStanding (cell_of m.cells i)
  stand i x q c e = go c e
    where
      shows : IsPending m.cells m.views u.order i x
      shows = waiting.shown_pending p u.journal m.cells m.places m.homes u.order m.views u.stage law.stands.keeping.merged.past law.stands.hands law.stands.messages law.stands.firings i x q

      not_waiting : (d : Cell) → cell_of m.cells i ≡ d → (IsWaiting d → ⊥) → ⊥
      not_waiting d e none_waits = none_waits (subst IsWaiting e shows.waiting)

      in_no_hand : (j : ℕ) (w : View) → get_elem? m.views j ≡ some w → IsUnarmed w i → ⊥
      in_no_hand j w there un = ⊎_elim
          (λ y. may.armed i (subst (λ (z : View). IsUnarmed z i) y un))
          (λ g. let t : IsUnarmed gone i = subst (λ (z : View). IsUnarmed z i) g un in
          ⊎_elim (λ z. z) (λ z. ⊎_elim (λ (s : Path (Option ℕ) None (Some i)). let k = s in cc) (λ (s : Path (Option ℕ) None (Some i)). let k = s in cc) z) t) (who j w there)

      not_claimed : (j : ℕ) (w : View) (d : Claim) → get_elem? m.views j ≡ some w → HasThe d w.claims → ⊥
      not_claimed j w d there has = ⊎_elim
          (λ y. subst (HasThe d) (ap (λ (z : View). z.claims) y ∙ may.claims) has)
          (λ g. subst (HasThe d) (ap (λ (z : View). z.claims) g) has) (who j w there)

      go : (d : Cell) → cell_of m.cells i ≡ d → (u.order.bag i ≡ Some (key x.object x.method)) × IsStanding (cell_of m.cells i)
      go a_cell.Empty e = let t = shows.unarmed e in absurd (in_no_hand t.0 t.1 t.2 t.3)
      go a_cell.Pending e = (shows.bagged (subst IsArmed (sym e) tt), subst IsStanding (sym e) tt)
      go a_cell.Claimed e = let t = shows.claimed e in absurd (not_claimed t.0 t.1 t.2 t.3 t.4)
      go a_cell.Consumed e = absurd (not_waiting a_cell.Consumed e (λ z. z))
      go (a_cell.Woken z) e = absurd (awake i (subst IsAsleep (sym e) tt))
      go a_cell.Ready e = absurd (not_waiting a_cell.Ready e (λ z. z))
      go a_cell.Started e = absurd (not_waiting a_cell.Started e (λ z. z))

  -- the messages that a firing would take are a choice
  chosen : (o : Object) (js ms : List ℕ) (vs : List value.Value) → Takes u.journal o js ms vs → Chosen (IsChord p) m.cells u.order (bag_keys o js) ms
  chosen o [] [] vs t = tt
  chosen o [] (i ∷ ms) vs t = absurd t
  chosen o (j ∷ js) [] vs t = absurd t
  chosen o (j ∷ js) (i ∷ ms) vs t =
      let s = stand i (record { object = o; method = j; arguments = t.0 }) t.2 (cell_of m.cells i) refl in (s.0, s.1, chosen o js ms t.1 t.4)

  -- no desk has a duty
  no_duty : (d : Duty) (j : ℕ) (w : View) → get_elem? m.views j ≡ some w → HasDuty d w.duties → ⊥
  no_duty d j w there has = ⊎_elim
      (λ y. subst (HasDuty d) (ap (λ (z : View). z.duties) y ∙ may.duties) has)
      (λ g. subst (HasDuty d) (ap (λ (z : View). z.duties) g) has) (who j w there)

  -- no chord is enabled
  none_fires : NoneFires p u.journal
  none_fires k o ms vs f =
      let j = law.tabled.some_method o.class k f.0 f.1 in let low = fires_low p u.journal law.tabled law.stands.keeping.merged.past k o ms vs f in let long = law.stands.keeping.long in
      ⊎_elim (λ t. awake t.0 (subst IsAsleep (sym t.2) tt)) (λ d. no_duty d.2 d.0 d.1 d.3 d.4)
      (law.duties (bag_keys o f.0) ms (record { chord = (o, k, f.0, f.1, omega (arith, low, long, small), refl); some = (key o j.0, has_key o j.0 f.0 j.1); chosen = chosen o f.0 ms vs f.2 }))

  -- each place is quiet, if the desk that closes is
  place_quiet : AreQuiet p v.kept → (c : ℕ) → AreQuiet p (kept_at entries m.views m.homes c)
  place_quiet mine = by_quiet
    where
      desk_quiet : (x : maybe.Option View) (j : ℕ) → get_elem? m.views j ≡ x → AreQuiet p (at_desk x)
      desk_quiet none j e b = tt
      desk_quiet (some w) j e b = ⊎_elim (λ y. subst (λ (z : View). IsQuiet (doing p z.kept b)) (sym y) (mine b)) (λ g. subst (λ (z : View). IsQuiet (doing p z.kept b)) (sym g) tt) (who j w e)

      home_quiet : (x : Home P) (i : ℕ) → m.homes i ≡ x → IsTold p (at_home entries x) → AreQuiet p (at_home entries x)
      home_quiet none i e told b = tt
      home_quiet (some None) i e told b = tt
      home_quiet (some (Some q)) i e told b = ⊎_elim
          (λ s. parked_are_quiet p (entries q) (Some i) told (law.stands.parcels.sent i q s.0 e s.1).parked b)
          (λ r. absurd (awake i (subst IsAsleep (sym r) tt))) (full_home entries arguments keeps_to p n m u law.stands i q e)

      by_quiet : (c : ℕ) → AreQuiet p (kept_at entries m.views m.homes c)
      by_quiet c = ⊎_elim
          (λ t. subst (λ (z : ℕ). AreQuiet p (kept_at entries m.views m.homes z)) (sym t.1) (subst (AreQuiet p) (sym (desk_keeps entries m.views m.homes t.0)) (desk_quiet (get_elem? m.views t.0) t.0 refl)))
          (λ t. subst (λ (z : ℕ). AreQuiet p (kept_at entries m.views m.homes z)) (sym t.1) (subst (AreQuiet p) (sym (parcel_keeps entries m.views m.homes t.0))
          (home_quiet (m.homes t.0) t.0 refl (subst (IsTold p) (parcel_keeps entries m.views m.homes t.0) (law.stands.keeping.merged.told (parcel t.0)))))) (place_of c)

  -- the journal of the table is complete
  pub closing_awake : AreQuiet p v.kept → IsFinal p u.journal
  closing_awake mine = complete_in_places p (kept_at entries m.views m.homes) u.journal law.stands.keeping.merged begun
      (λ c b. quiet_asks p (doing p (kept_at entries m.views m.homes c) b) (place_quiet mine c b)) none_fires
    where
      begun : u.journal ≡ [] → ⊥
      begun e = let long = law.stands.keeping.long in let short : length u.journal ≡ 0 = ap length e in let some_entry = law.firsts.begun v at_first may.begun in omega (arith, long, short, some_entry, any)

module _ {P : Type 0} (entries : P → List Entry) (arguments : P → List value.Value) (keeps_to : P → Type 0) (p : Program) (n : ℕ) (any : 0 < n) (small : n ≤ 65536) (m : Moment P) (u : Unseen) (whole : Whole entries arguments keeps_to p n m u)
    (id : ℕ) (v : View) (at : get_elem? m.views id ≡ some v) (here : v.gone ≡ false) (may : MayClose v) where
  -- the desk that closes is desk 0
  at_zero : get_elem? m.views 0 ≡ some v
  at_zero = ap (get_elem? m.views) (sym (whole.agrees.firsts.leads id v at may.done.first)) ∙ at

  -- the counter is what that desk remembers of it
  count_is : m.count ≡ may.count
  count_is = (whole.alone.alone v at_zero may.done.lent).counter may.count may.counted

  -- no cell is woken or ready, since it saw none that is
  none_asleep : AreAllAwake m.cells
  none_asleep i a = dite (dec_lt i may.count)
      (λ l. let s = may.seen i l in s.2 (subst (λ (x : Word). IsAsleep x.cell) ((whole.alone.alone v at_zero may.done.lent).cell i s.0 s.1) a))
      (λ far. let e = count_is in
      subst (λ (x : Word). IsAsleep x.cell) (no_entry_blank entries arguments keeps_to p n m u whole.agrees.stands i (what_none i u.journal (past_below p u.journal i whole.agrees.stands.keeping.merged.past (let k = whole.agrees.stands.keeping.long in omega arith)))) a)

  -- the journal of the table is complete where the desk knows that nothing is left to do
  pub closing : AreQuiet p v.kept → IsFinal p u.journal
  closing = closing_awake entries arguments keeps_to p n any small m u whole id v at here may.done none_asleep
