-- What the laws say of the journal: which messages are pending, and that claims fire.
use Rattle.std.proofs.Common.{◌≡◌, ◌⊎◌, inl, inr, ⊎_elim, ℕ, ◌<◌, ◌==◌, true, false, List, [], ◌∷◌, length, slice_get, refl, sym, ap, ◌∙◌, subst, arith, Option, Some, None, IsSome, eq-eqb, ne_eqb}
use Rattle.std.proofs.lemmas.Bool.{eqb-true}
use mathlib.Core.Path.{Path}
use mathlib.Core.Option.{some}
use lib.ListN.{get_elem?}
use Rattle.chord_base.specs.declared.value.Object.{Object}
use Rattle.chord_base.specs.declared.value.Value as value
use Rattle.chord_base.specs.declared.event.What.{What}
use Rattle.chord_base.specs.declared.event.What.TheVariants.{Begun, Made, Sent, Called, Printed, Fired, Ended}
use Rattle.chord_base.specs.declared.event.Entry.{Entry}
use Rattle.chord_base.specs.Meaning.{Program}
use Rattle.chord_base.specs.Messages.{Message, members_of, has, pending}
use Rattle.chord_base.specs.Machine.{Takes, Fires, MayFollow, IsPast}
use Rattle.chord_base.specs.Story.{IsIn}
use Rattle.chord_base.proofs.Waits.{either}
use Rattle.chord_base.proofs.Firings.{member_within, taken_once, takes_pending, pending_within}
use Rattle.chord_word.specs.declared.cells.Cell.{Cell}
use Rattle.chord_word.specs.declared.cells.Cell.TheVariants as a_cell
use Rattle.chord_word.specs.declared.cells.Word.{Word}
use Rattle.chord_rule.specs.declared.view.Claim.{Claim}
use Rattle.chord_rule.specs.declared.view.View.{View}
use Rattle.chord_rule.specs.Moment.{Home, Place}
use Rattle.chord_rule.specs.Bags.{LinkOrder, IsConsumed, IsArmed, cell_of}
use Rattle.chord_rule.specs.Made.{key, bag_keys, IsChord, IsTabled}
use Rattle.chord_rule.specs.Numbers.{HasNumber}
use Rattle.chord_rule.specs.Duties.{DutyLaw}
use Rattle.chord_rule.proofs.Minding.{one_of_keys_minded}
use Rattle.chord_rule.specs.Claims.{HasThe, AreClaimed}
use Rattle.chord_rule.specs.Hands.{Hands, IsUnarmed}
use Rattle.chord_rule.specs.Minded.{IsWaiting, IsMinded, AreTo, AllWaiting}
use Rattle.chord_rule.specs.Pending.{IsPending}
use Rattle.chord_rule.specs.Messages.{IsOpen, IsLinked, Stands, Messages}
use Rattle.chord_rule.specs.Firings.{IsTakenBy, Firings, TookMessage}
use Rattle.chord_rule.specs.Stages.{Fresh, Placing, Flying, Claiming, Emptying, Unposted, Posting, Starting, Stage, Vacant, InHand, Armed, Spent, Posted, Played, said_at, taker, message_in, IsFiringEntry, IsNeither, claimed_message}
use Rattle.chord_rule.proofs.Lists.{some_is}
use Rattle.chord_rule.proofs.Staging.{pending_armed}

-- ## Numbers of a past

-- an entry of a past is the one of its number
pub what_is : (p : Program) (h : List Entry) (e : Entry) → IsPast p h → IsIn e h → (said_at e.number h ≡ Some e.what) × (e.number < length h)
what_is p [] e r i = absurd i
what_is p (x ∷ h) e r i = ⊎_elim
    (λ q. subst (λ (y : Entry). (said_at y.number (x ∷ h) ≡ Some y.what) × (y.number < length (x ∷ h))) (sym q) (rw (eq-eqb x.number x.number refl) refl, (let n = r.1.numbered in omega arith)))
    (λ k. let t = what_is p h e r.0 k in let low = t.1 in let n = r.1.numbered in (rw (ne_eqb x.number e.number (λ q. omega arith)) t.0, (omega arith))) i

-- what has a number in a past is an entry of it
pub what_entry : (h : List Entry) (i : ℕ) (w : What) → said_at i h ≡ Some w → (e : Entry) × IsIn e h × (e.number ≡ i) × (e.what ≡ w)
what_entry [] i w s = absurd (let z : Path (Option What) None (Some w) = s in cc)
what_entry (x ∷ h) i w s = elim (either (x.number == i)) [
  | inl y ↦ (x, inl refl, eqb-true x.number i y, some_is x.what w (rw y at s))
  | inr o ↦ (let t = what_entry h i w (rw o at s) in (t.0, inr t.1, t.2, t.3))
]

-- a taker is an entry that took it
pub taker_took : (h : List Entry) (i f : ℕ) → taker i h ≡ Some f → TookMessage h f i
taker_took [] i f s = absurd (let z : Path (Option ℕ) None (Some f) = s in cc)
taker_took (x ∷ h) i f s = elim (either (has i (members_of x.what))) [
  | inl y ↦ (x, inl refl, some_is x.number f (rw y at s), y)
  | inr o ↦ (let t = taker_took h i f (rw o at s) in (t.0, inr t.1, t.2, t.3))
]

-- and one that took it is the taker: some entry is
pub took_taker : (h : List Entry) (i f : ℕ) → TookMessage h f i → IsSome (taker i h)
took_taker [] i f s = absurd s.1
took_taker (x ∷ h) i f s = elim (either (has i (members_of x.what))) [
  | inl y ↦ rw y refl
  | inr o ↦ ⊎_elim
      (λ q. let z : true ≡ false = sym s.3 ∙ ap (λ (y : Entry). has i (members_of y.what)) q ∙ o in absurd (cc))
      (λ k. rw o (took_taker h i f (s.0, k, s.2, s.3))) s.1
]

-- a taker is above what it took
pub taken_low : (p : Program) (h : List Entry) (i f : ℕ) → IsPast p h → taker i h ≡ Some f → i < length h
taken_low p h i f r s = let t = taker_took h i f s in member_within p h t.0 i r t.1 t.3

-- a message is pending exactly where no firing took it
pub pending_is : (p : Program) (h : List Entry) (i : ℕ) → IsPast p h → taker i h ≡ None → pending i h ≡ message_in (said_at i h)
pending_is p [] i r s = refl
pending_is p (x ∷ h) i r s = elim (either (has i (members_of x.what))) [
  | inl y ↦ absurd (let z : Path (Option ℕ) (Some x.number) None = rw y at s in cc)
  | inr o ↦ elim (either (x.number == i)) [
    | inl q ↦ rw q refl
    | inr n ↦ rw (n, o) (pending_is p h i r.0 (rw o at s))
  ]
]

-- a pending message is one that no firing took
pub pending_was : (p : Program) (h : List Entry) (i : ℕ) (m : Message) → IsPast p h → pending i h ≡ Some m → (message_in (said_at i h) ≡ Some m) × (taker i h ≡ None)
pending_was p [] i m r s = absurd (let z : Path (Option Message) None (Some m) = s in cc)
pending_was p (x ∷ h) i m r s = elim (either (x.number == i)) [
  | inl q ↦ elim (either (has i (members_of x.what))) [
    | inl y ↦ (let low = member_within p (x ∷ h) x i r (inl refl) y in absurd (member_at_itself q y))
    | inr o ↦ (rw q (rw q at s), rw o (not_taken (eqb-true x.number i q)))
  ]
  | inr n ↦ elim (either (has i (members_of x.what))) [
    | inl y ↦ absurd (let z : Path (Option Message) None (Some m) = rw (n, y) at s in cc)
    | inr o ↦ (let t = pending_was p h i m r.0 (rw (n, o) at s) in (rw n t.0, rw o t.1))
  ]
]
  where
    not_taken : x.number ≡ i → taker i h ≡ None
    not_taken q = cases (taker i h) refl
      where
        cases : (t : Option ℕ) → taker i h ≡ t → t ≡ None
        cases None e = refl
        cases (Some f) e = let l = taken_low p h i f r.0 e in let n = r.1.numbered in absurd (omega arith)

    member_at_itself : (x.number == i) ≡ true → has i (members_of x.what) ≡ true → ⊥
    member_at_itself q y = let t = takes_pending p h x i r.0 r.1 y in let l = pending_within p h i t.0.0 r.0 t.0.1 in let n = r.1.numbered in let j = eqb-true x.number i q in omega arith

-- a message is neither a firing nor something else
pub no_message : (what : Option What) (m : Message) → IsNeither what ⊎ IsFiringEntry what → message_in what ≡ Some m → ⊥
no_message None m k e = let z : Path (Option Message) None (Some m) = e in cc
no_message (Some Begun) m k e = let z : Path (Option Message) None (Some m) = e in cc
no_message (Some (Made c)) m k e = let z : Path (Option Message) None (Some m) = e in cc
no_message (Some (Printed t)) m k e = let z : Path (Option Message) None (Some m) = e in cc
no_message (Some (Ended x)) m k e = let z : Path (Option Message) None (Some m) = e in cc
no_message (Some (Fired c x ms vs)) m k e = let z : Path (Option Message) None (Some m) = e in cc
no_message (Some (Sent x j vs)) m k e = ⊎_elim (λ z. z) (λ z. z) k
no_message (Some (Called x j vs)) m k e = ⊎_elim (λ z. z) (λ z. z) k

-- ## What claims say

-- the bag of a method of a chord is one of the chord's bags
pub has_key : (object : Object) (j : ℕ) (js : List ℕ) → has j js ≡ true → HasNumber (key object j) (bag_keys object js)
has_key object j [] y = absurd (let z : false ≡ true = y in cc)
has_key object j (i ∷ js) y = elim (either (j == i)) [ inl q ↦ inl (ap (key object) (eqb-true j i q)) | inr n ↦ inr (has_key object j js (rw n at y)) ]

module _ {P : Type 0} (p : Program) (h : List Entry) (cells : ℕ → Word) (places : ℕ → Option Place) (homes : ℕ → Home P) (o : LinkOrder) (views : List View) (stage : ℕ → Stage)
    (past : IsPast p h) (hands : Hands views stage) (messages : Messages h cells places homes o stage) (firings : Firings h stage) where
  -- the number i is in this stage
  abbrev At : ℕ → Stage → Type 0
  At i s = Stands s (said_at i h) (cells i) (places i) (homes i) (o.bag i) (o.next i)

  -- each number is in its stage
  stands : (i : ℕ) (s : Stage) → stage i ≡ s → At i s
  stands i s e = subst (At i) e (messages.stands i)

  -- each message was taken as its stage tells
  taken : (i : ℕ) (s : Stage) → stage i ≡ s → IsTakenBy s (taker i h)
  taken i s e = subst (λ (z : Stage). IsTakenBy z (taker i h)) e (firings.taken i)

  module _ (id : ℕ) (v : View) (at : get_elem? views id ≡ some v) where
    -- a claim stands as one
    pub claim_stage : (c : Claim) → HasThe c v.claims → stage c.number ≡ InHand id (Claiming c)
    claim_stage c has = hands.holds id v at c.number (Claiming c) (has, refl)

    -- what a desk has claimed, and drawn no firing with, is pending
    pub claim_pending : (c : Claim) → HasThe c v.claims → c.firing ≡ None → pending c.number h ≡ Some (claimed_message c)
    claim_pending c has free = let s = claim_stage c has in pending_is p h c.number past (taken c.number (InHand id (Claiming c)) s ∙ free) ∙ (stands c.number (InHand id (Claiming c)) s).0

    -- it is in the bag of its object and method
    pub claim_bagged : (c : Claim) → HasThe c v.claims → o.bag c.number ≡ Some (key c.object c.method)
    claim_bagged c has = (stands c.number (InHand id (Claiming c)) (claim_stage c has)).1.bagged

    -- claims on one message for each method take these messages
    pub claims_take : (object : Object) (js ms : List ℕ) (vs : List value.Value) → AreClaimed v.claims object js ms vs → Takes h object js ms vs
    claims_take object [] [] vs a = a
    claims_take object [] (i ∷ ms) vs a = a
    claims_take object (j ∷ js) [] vs a = a
    claims_take object (j ∷ js) (i ∷ ms) vs a =
        let q = claim_pending a.0 a.1 a.5 in
        let is : claimed_message a.0 ≡ record { object = object; method = j; arguments = a.0.values } = (λ z. record { object = a.3 z; method = a.4 z; arguments = a.0.values }) in
        (a.0.values, a.6.0, ap (λ (z : ℕ). pending z h) (sym a.2) ∙ q ∙ ap (λ (z : Message). Some z) is, a.6.1, claims_take object js ms a.6.0 a.6.2)

    -- claims on one message for each method of a chord: the machine may fire it
    pub claims_fire : (k : ℕ) (object : Object) (js ms : List ℕ) (vs : List value.Value) → slice_get (p.chords object.class) k ≡ Some js → AreClaimed v.claims object js ms vs → Fires p h k object ms vs
    claims_fire k object js ms vs chord a = (js, chord, claims_take object js ms vs a)

    -- and so the draw of the firing is a step of the machine
    pub firing_follows : (k : ℕ) (object : Object) (js ms : List ℕ) (vs : List value.Value) → slice_get (p.chords object.class) k ≡ Some js → AreClaimed v.claims object js ms vs
        → MayFollow p h (record { number = length h; body = length h; what = Fired k object ms vs })
    firing_follows k object js ms vs chord a = record { numbered = refl; comes = (refl, claims_fire k object js ms vs chord a) }

    -- each member is claimed
    pub claimed_members : (object : Object) (js ms : List ℕ) (vs : List value.Value) → AreClaimed v.claims object js ms vs → (i : ℕ) → has i ms ≡ true → (c : Claim) × HasThe c v.claims × (c.number ≡ i) × (c.firing ≡ None)
    claimed_members object [] [] vs a i y = absurd (let z : false ≡ true = y in cc)
    claimed_members object [] (x ∷ ms) vs a i y = absurd a
    claimed_members object (j ∷ js) [] vs a i y = absurd a
    claimed_members object (j ∷ js) (x ∷ ms) vs a i y = elim (either (i == x)) [
      | inl q ↦ (a.0, a.1, a.2 ∙ sym (eqb-true i x q), a.5)
      | inr n ↦ claimed_members object js ms a.6.0 a.6.2 i (rw n at y)
    ]

  -- ## What cells say

  -- an armed message that nobody has claimed is pending
  pub armed_pending : (i : ℕ) → stage i ≡ Armed → (m : Message) × (pending i h ≡ Some m)
  armed_pending i e = let t = stands i Armed e in (t.0, pending_is p h i past (taken i Armed e) ∙ t.1)

  -- a message whose cell is Pending is pending
  pub pending_by_cell : (i : ℕ) → cell_of cells i ≡ a_cell.Pending → (m : Message) × (pending i h ≡ Some m)
  pending_by_cell i e = armed_pending i (pending_armed (stage i) (said_at i h) (cells i) (places i) (homes i) (o.bag i) (o.next i) (messages.stands i) e)

  -- a Pending or Woken cell is that of a message that no firing has taken
  open_waits : (c : Cell) → IsOpen c → IsWaiting c
  open_waits a_cell.Pending t = tt
  open_waits (a_cell.Woken q) t = tt
  open_waits a_cell.Empty t = absurd t
  open_waits a_cell.Claimed t = absurd t
  open_waits a_cell.Consumed t = absurd t
  open_waits a_cell.Ready t = absurd t
  open_waits a_cell.Started t = absurd t

  -- linked, with this message
  linked_bag : (i : ℕ) (m n : Message) → message_in (said_at i h) ≡ Some n → message_in (said_at i h) ≡ Some m → IsLinked n (places i) (o.bag i) → o.bag i ≡ Some (key m.object m.method)
  linked_bag i m n a b l = l.bagged ∙ ap (λ (z : Message). Some (key z.object z.method)) (some_is n m (sym a ∙ b))

  -- a message that is in hand and not armed
  empty_pending : (i : ℕ) (m : Message) → cell_of cells i ≡ a_cell.Empty → (j : ℕ) × (v : View) × (get_elem? views j ≡ some v) × IsUnarmed v i → IsPending cells views o i m
  empty_pending i m is who = record {
    waiting = subst IsWaiting (sym is) tt;
    bagged = λ a. absurd (subst IsArmed is a);
    unarmed = λ _. who;
    claimed = λ q. absurd (let z = sym is ∙ q in cc);
  }

  -- of a message that no firing took the table shows that it is pending, whatever its stage
  pending_stage : (i : ℕ) (m : Message) (s : Stage) → stage i ≡ s → message_in (said_at i h) ≡ Some m → taker i h ≡ None → IsPending cells views o i m
  pending_stage i m Vacant e says free = absurd (no_message (said_at i h) m (inl (stands i Vacant e).0) says)
  pending_stage i m (InHand j Fresh) e says free = let t = stands i (InHand j Fresh) e in let d = hands.held i j Fresh e in
      empty_pending i m (ap (λ (w : Word). w.cell) t.1.cell) (j, d.0, d.1, inl d.2)
  pending_stage i m (InHand j Placing) e says free = let t = stands i (InHand j Placing) e in let d = hands.held i j Placing e in
      empty_pending i m (ap (λ (w : Word). w.cell) t.2) (j, d.0, d.1, inr (inl d.2))
  pending_stage i m (InHand j (Flying k a)) e says free = let t = stands i (InHand j (Flying k a)) e in let d = hands.held i j (Flying k a) e in
      empty_pending i m (ap (λ (w : Word). w.cell) t.3) (j, d.0, d.1, inr (inr d.2.0))
  pending_stage i m (InHand j (Claiming c)) e says free = let t = stands i (InHand j (Claiming c)) e in let d = hands.held i j (Claiming c) e in let is : cell_of cells i ≡ a_cell.Claimed = ap (λ (w : Word). w.cell) t.2 in record {
    waiting = subst IsWaiting (sym is) tt;
    bagged = λ _. linked_bag i m (claimed_message c) t.0 says t.1;
    unarmed = λ q. absurd (let z = sym is ∙ q in cc);
    claimed = λ _. (j, d.0, c, d.1, d.2.0, d.2.1, sym (taken i (InHand j (Claiming c)) e) ∙ free);
  }
  pending_stage i m (InHand j Emptying) e says free = absurd (let z = subst (λ (x : Option ℕ). IsSome x) free (taken i (InHand j Emptying) e) in cc)
  pending_stage i m (InHand j Unposted) e says free = absurd (no_message (said_at i h) m (inr (stands i (InHand j Unposted) e).0) says)
  pending_stage i m (InHand j Posting) e says free = absurd (no_message (said_at i h) m (inr (stands i (InHand j Posting) e).0) says)
  pending_stage i m (InHand j Starting) e says free = absurd (no_message (said_at i h) m (inr (stands i (InHand j Starting) e).0) says)
  pending_stage i m Armed e says free = let t = stands i Armed e in record {
    waiting = open_waits (cell_of cells i) t.3;
    bagged = λ _. linked_bag i m t.0 t.1 says t.2;
    unarmed = λ q. absurd (subst IsOpen q t.3);
    claimed = λ q. absurd (subst IsOpen q t.3);
  }
  pending_stage i m Spent e says free = absurd (let z = subst (λ (x : Option ℕ). IsSome x) free (taken i Spent e) in cc)
  pending_stage i m Posted e says free = absurd (no_message (said_at i h) m (inr (stands i Posted e).0) says)
  pending_stage i m Played e says free = absurd (no_message (said_at i h) m (inr (stands i Played e).0) says)

  -- what the table shows of a pending message
  pub shown_pending : (i : ℕ) (m : Message) → pending i h ≡ Some m → IsPending cells views o i m
  shown_pending i m q = let t = pending_was p h i m past q in pending_stage i m (stage i) refl t.0 t.1

  -- ## What cells say of firings

  -- an armed cell is that of a linked message
  armed_linked : (i : ℕ) (s : Stage) → stage i ≡ s → IsArmed (cell_of cells i) → (m : Message) × (message_in (said_at i h) ≡ Some m) × IsLinked m (places i) (o.bag i)
  armed_linked i Vacant e a = absurd (subst (λ (w : Word). IsArmed w.cell) (stands i Vacant e).1.cell a)
  armed_linked i (InHand j Fresh) e a = absurd (subst (λ (w : Word). IsArmed w.cell) (stands i (InHand j Fresh) e).1.cell a)
  armed_linked i (InHand j Placing) e a = absurd (subst (λ (w : Word). IsArmed w.cell) (stands i (InHand j Placing) e).2 a)
  armed_linked i (InHand j (Flying k z)) e a = absurd (subst (λ (w : Word). IsArmed w.cell) (stands i (InHand j (Flying k z)) e).3 a)
  armed_linked i (InHand j (Claiming c)) e a = let t = stands i (InHand j (Claiming c)) e in (claimed_message c, t.0, t.1)
  armed_linked i (InHand j Emptying) e a = let t = stands i (InHand j Emptying) e in (t.0, t.1, t.2)
  armed_linked i (InHand j Unposted) e a = absurd (subst (λ (w : Word). IsArmed w.cell) (stands i (InHand j Unposted) e).1.cell a)
  armed_linked i (InHand j Posting) e a = absurd (subst (λ (w : Word). IsArmed w.cell) (stands i (InHand j Posting) e).1 a)
  armed_linked i (InHand j Starting) e a = absurd (subst IsArmed (stands i (InHand j Starting) e).1 a)
  armed_linked i Armed e a = let t = stands i Armed e in (t.0, t.1, t.2)
  armed_linked i Spent e a = let t = stands i Spent e in (t.0, t.1, t.2)
  armed_linked i Posted e a = absurd (subst (λ (w : Word). IsArmed w.cell) (stands i Posted e).1 a)
  armed_linked i Played e a = absurd (subst IsArmed (stands i Played e).1 a)

  -- a consumed message was taken by a firing
  consumed_some : (i : ℕ) (s : Stage) → stage i ≡ s → IsConsumed (cell_of cells i) → IsSome (taker i h)
  consumed_some i Vacant e a = absurd (subst (λ (w : Word). IsConsumed w.cell) (stands i Vacant e).1.cell a)
  consumed_some i (InHand j Fresh) e a = absurd (subst (λ (w : Word). IsConsumed w.cell) (stands i (InHand j Fresh) e).1.cell a)
  consumed_some i (InHand j Placing) e a = absurd (subst (λ (w : Word). IsConsumed w.cell) (stands i (InHand j Placing) e).2 a)
  consumed_some i (InHand j (Flying k z)) e a = absurd (subst (λ (w : Word). IsConsumed w.cell) (stands i (InHand j (Flying k z)) e).3 a)
  consumed_some i (InHand j (Claiming c)) e a = absurd (subst (λ (w : Word). IsConsumed w.cell) (stands i (InHand j (Claiming c)) e).2 a)
  consumed_some i (InHand j Emptying) e a = taken i (InHand j Emptying) e
  consumed_some i (InHand j Unposted) e a = absurd (subst (λ (w : Word). IsConsumed w.cell) (stands i (InHand j Unposted) e).1.cell a)
  consumed_some i (InHand j Posting) e a = absurd (subst (λ (w : Word). IsConsumed w.cell) (stands i (InHand j Posting) e).1 a)
  consumed_some i (InHand j Starting) e a = absurd (subst IsConsumed (stands i (InHand j Starting) e).1 a)
  consumed_some i Armed e a = absurd (open_apart (cell_of cells i) (stands i Armed e).3 a)
    where
      open_apart : (c : Cell) → IsOpen c → IsConsumed c → ⊥
      open_apart a_cell.Pending t a = a
      open_apart (a_cell.Woken q) t a = a
      open_apart a_cell.Empty t a = t
      open_apart a_cell.Claimed t a = t
      open_apart a_cell.Consumed t a = t
      open_apart a_cell.Ready t a = t
      open_apart a_cell.Started t a = t
  consumed_some i Spent e a = taken i Spent e
  consumed_some i Posted e a = absurd (subst (λ (w : Word). IsConsumed w.cell) (stands i Posted e).1 a)
  consumed_some i Played e a = absurd (subst IsConsumed (stands i Played e).1 a)

  -- a message that has a taker was taken by a firing
  some_took : (i : ℕ) (t : Option ℕ) → taker i h ≡ t → IsSome t → (f : ℕ) × TookMessage h f i
  some_took i None e s = absurd (let z = s in cc)
  some_took i (Some f) e s = (f, taker_took h i f e)

  -- a message whose cell is consumed was taken by a firing
  pub taken_when_consumed : (i : ℕ) → IsConsumed (cell_of cells i) → (f : ℕ) × TookMessage h f i
  taken_when_consumed i a = some_took i (taker i h) refl (consumed_some i (stage i) refl a)

  -- a message that a desk has claimed, and drawn a firing with, was taken by that firing
  pub claim_taken : (id : ℕ) (v : View) → get_elem? views id ≡ some v → (c : Claim) (f : ℕ) → HasThe c v.claims → c.firing ≡ Some f → TookMessage h f c.number
  claim_taken id v at c f has for = taker_took h c.number f (taken c.number (InHand id (Claiming c)) (claim_stage id v at c has) ∙ for)

  -- one that took a message is its taker
  pub took_is : (i f : ℕ) → TookMessage h f i → taker i h ≡ Some f
  took_is i f t = cases (taker i h) refl (took_taker h i f t)
    where
      cases : (x : Option ℕ) → taker i h ≡ x → IsSome x → taker i h ≡ Some f
      cases None e s = absurd (let z = s in cc)
      cases (Some g) e s = let u = taker_took h i g e in let same = taken_once p h u.0 t.0 i past u.1 t.1 u.3 t.3 in
          e ∙ ap (λ (z : ℕ). Some z) (sym u.2 ∙ ap (λ (y : Entry). y.number) same ∙ t.2)

  -- it is claimed by a desk that has drawn that firing
  abbrev IsClaimedFor : ℕ → ℕ → Type 0
  IsClaimedFor f i = (j : ℕ) × (v : View) × (c : Claim) × (get_elem? views j ≡ some v) × HasThe c v.claims × (c.number ≡ i) × (c.firing ≡ Some f)

  -- what a firing took is consumed, or claimed by a desk that has drawn that firing, whatever its stage
  taken_stage : (i f : ℕ) (s : Stage) → stage i ≡ s → taker i h ≡ Some f → IsConsumed (cell_of cells i) ⊎ IsClaimedFor f i
  taken_stage i f Vacant e t = absurd (let z = sym (taken i Vacant e) ∙ t in cc)
  taken_stage i f (InHand j Fresh) e t = absurd (let z = sym (taken i (InHand j Fresh) e) ∙ t in cc)
  taken_stage i f (InHand j Placing) e t = absurd (let z = sym (taken i (InHand j Placing) e) ∙ t in cc)
  taken_stage i f (InHand j (Flying k a)) e t = absurd (let z = sym (taken i (InHand j (Flying k a)) e) ∙ t in cc)
  taken_stage i f (InHand j (Claiming c)) e t = let d = hands.held i j (Claiming c) e in inr (j, d.0, c, d.1, d.2.0, d.2.1, sym (taken i (InHand j (Claiming c)) e) ∙ t)
  taken_stage i f (InHand j Emptying) e t = inl (subst IsConsumed (sym (stands i (InHand j Emptying) e).3) tt)
  taken_stage i f (InHand j Unposted) e t = absurd (let z = sym (taken i (InHand j Unposted) e) ∙ t in cc)
  taken_stage i f (InHand j Posting) e t = absurd (let z = sym (taken i (InHand j Posting) e) ∙ t in cc)
  taken_stage i f (InHand j Starting) e t = absurd (let z = sym (taken i (InHand j Starting) e) ∙ t in cc)
  taken_stage i f Armed e t = absurd (let z = sym (taken i Armed e) ∙ t in cc)
  taken_stage i f Spent e t = inl (subst IsConsumed (sym (stands i Spent e).3) tt)
  taken_stage i f Posted e t = absurd (let z = sym (taken i Posted e) ∙ t in cc)
  taken_stage i f Played e t = absurd (let z = sym (taken i Played e) ∙ t in cc)

  -- what a firing took is consumed, or claimed by a desk that has drawn that firing
  pub shown_taken : (i f : ℕ) → TookMessage h f i → IsConsumed (cell_of cells i) ⊎ IsClaimedFor f i
  shown_taken i f t = taken_stage i f (stage i) refl (took_is i f t)

  -- ## One of the pending messages is minded

  -- the bag of a message, if there is one
  abbrev to_bag : Option Message → ℕ
  to_bag None = 0
  to_bag (Some m) = key m.object m.method

  -- the bag to which the message of a number is
  abbrev target : ℕ → ℕ
  target i = to_bag (message_in (said_at i h))

  -- an armed message is in the bag to which it is
  armed_bag : (i : ℕ) → IsArmed (cell_of cells i) → o.bag i ≡ Some (target i)
  armed_bag i a = let t = armed_linked i (stage i) refl a in t.2.bagged ∙ ap (λ (z : Option Message). Some (to_bag z)) (sym t.1)

  -- the messages that a firing takes are to the bags of its methods, and no firing has taken any of them
  takes_to : (object : Object) (js ms : List ℕ) (vs : List value.Value) → Takes h object js ms vs → AreTo target (bag_keys object js) ms × AllWaiting cells ms
  takes_to object [] [] vs t = (tt, tt)
  takes_to object [] (i ∷ ms) vs t = absurd t
  takes_to object (j ∷ js) [] vs t = absurd t
  takes_to object (j ∷ js) (i ∷ ms) vs t =
      let m : Message = record { object = object; method = j; arguments = t.0 } in
      let was = pending_was p h i m past t.2 in let rest = takes_to object js ms t.1 t.4 in
      ((ap to_bag was.0, rest.0), ((shown_pending i m t.2).waiting, rest.1))

  -- `has` is true of each number in a list
  has_true : (i : ℕ) (ms : List ℕ) → HasNumber i ms → has i ms ≡ true
  has_true i [] k = absurd k
  has_true i (x ∷ ms) k = elim (either (i == x)) [
    | inl q ↦ rw q refl
    | inr n ↦ ⊎_elim (λ q. let z : true ≡ false = sym (eq-eqb i x q) ∙ n in absurd (cc)) (λ r. rw n (has_true i ms r)) k
  ]

  -- wherever the machine may fire a chord, one of the pending messages is minded
  pub minded_fires : IsTabled p → DutyLaw (IsChord p) cells views o → (k : ℕ) (object : Object) → object.number < 65536 → (ms : List ℕ) (vs : List value.Value) → Fires p h k object ms vs → (i : ℕ) × (has i ms ≡ true) × IsMinded cells views i
  minded_fires tabled duty k object low ms vs f =
      let t = takes_to object f.0 ms vs f.2 in let j = tabled.some_method object.class k f.0 f.1 in
      let r = one_of_keys_minded (IsChord p) cells views o duty target armed_bag (bag_keys object f.0) ms (object, k, f.0, f.1, low, refl) (key object j.0, has_key object j.0 f.0 j.1) t.0 t.1 in
      (r.0, has_true r.0 ms r.1, r.2)
