-- Each kind of step keeps that the table stands for its journal: the lemmas on the four laws, put together.
use Rattle.std.proofs.Common.{◌≡◌, ◌≢◌, ◌⊎◌, inl, inr, ⊎_elim, ℕ, ◌+◌, ◌<◌, ◌≤◌, ◌==◌, ◌++◌, eqb, not, if◌then◌else◌, Bool, true, false, List, [], ◌∷◌, length, set, slice_get, IsSome, refl, sym, ap, ◌∙◌, subst, arith, Option, Some, None}
use Rattle.std.proofs.lemmas.Bool.{eqb-true}
use mathlib.Core.Path.{Path}
use mathlib.Core.Option.{some, none, some-injective, some-ne-none}
use lib.ListN.{get_elem?}
use Rattle.chord_base.specs.Meaning.{Program}
use Rattle.chord_base.specs.Bodies.{Asks}
use Rattle.chord_base.specs.Machine.{IsPast}
use Rattle.chord_base.specs.Messages.{Message, message_of, has}
use Rattle.chord_base.specs.Story.{IsOwn, IsIn, kept}
use Rattle.chord_base.specs.declared.value.Object.{Object}
use Rattle.chord_base.specs.declared.value.Value as value
use Rattle.chord_base.specs.declared.event.What.{What}
use Rattle.chord_base.specs.declared.event.What.TheVariants.{Begun, Made, Sent, Called, Printed, Fired, Ended}
use Rattle.chord_base.specs.declared.event.Entry.{Entry}
use Rattle.chord_base.proofs.Waits.{either}
use Rattle.chord_base.proofs.Merged.{past_below}
use Rattle.chord_word.specs.declared.cells.Cell.TheVariants as a_cell
use Rattle.chord_word.specs.declared.cells.Word.{Word}
use Rattle.chord_rule.specs.declared.view.Claim.{Claim}
use Rattle.chord_rule.specs.declared.view.View.{View}
use Rattle.chord_rule.specs.Moment.{Moment, Home, empty_word}
use Rattle.chord_rule.specs.Numbers.{HasNumber}
use Rattle.chord_rule.specs.Kinds.{newcomer, gone, is_among, MayGo, entry, left_by, drew, was_told}
use Rattle.chord_rule.specs.Made.{key}
use Rattle.chord_rule.specs.Claims.{HasThe, AreClaimed}
use Rattle.chord_rule.specs.Keeping.{desk, at_desk, at_home}
use Rattle.chord_rule.specs.Stages.{Fresh, Placing, Flying, Claiming, Emptying, Unposted, Posting, Starting, Stage, Vacant, InHand, Armed, Spent, Posted, Played, said_at, message_in, IsFiringEntry, claimed_message}
use Rattle.chord_rule.specs.Hands.{hand, IsUnlinked, KeepsNumber}
use Rattle.chord_rule.specs.Messages.{IsOpen, IsLoaded, Stands}
use Rattle.chord_rule.specs.Kinds as kinds
use Rattle.chord_rule.specs.StandsFor.{Unseen, StandsForJournal}
use Rattle.chord_rule.proofs.Puts.{put, at_inside}
use Rattle.chord_rule.proofs.Keeping.{desk_keeps, draw_keeps, told_keeps}
use Rattle.chord_rule.proofs.KeepSteps as keep
use Rattle.chord_rule.proofs.Lists.{some_is}
use Rattle.chord_rule.proofs.HandSteps as hands
use Rattle.chord_rule.proofs.HandMoves as hand_moves
use Rattle.chord_rule.proofs.BagSteps.{linked_order}
use Rattle.chord_rule.proofs.Staging.{what_none, vacant_where}
use Rattle.chord_rule.proofs.MessageSteps as messages
use Rattle.chord_rule.proofs.TakenSteps as firings
use Rattle.chord_rule.proofs.Waiting as waiting
use Rattle.chord_rule.proofs.YoungerSteps as younger
use Rattle.chord_rule.proofs.ParcelSteps as parcels
use Rattle.chord_rule.specs.Parcels.{BeginsThere, IsParkedThere, IsSentParcel, IsFiredParcel}
use Rattle.chord_rule.specs.Keeping.{parcel}
use Rattle.chord_rule.proofs.Keeping.{parcel_keeps}
use Rattle.chord_rule.proofs.Puts.{put_here, put_else, put_all}
use Rattle.chord_base.proofs.Places.{kept_below}
use Rattle.chord_base.specs.Messages.{IsCall}
use Rattle.chord_base.specs.Bodies.{doing}
use Rattle.chord_base.specs.Story.{AllBelow}
use Rattle.chord_rule.proofs.Waiting.{no_message}

-- an own entry of a body is no firing
own_plain : (w : What) → IsOwn w → ¬ IsFiringEntry (Some w)
own_plain Begun o f = o
own_plain (Made c) o f = f
own_plain (Sent x j vs) o f = f
own_plain (Called x j vs) o f = f
own_plain (Printed t) o f = f
own_plain (Ended x) o f = f
own_plain (Fired k x ms vs) o f = o

-- ## Entries that are kept

-- an entry that is kept by a test was there, and its number passes the test
kept_in : (f : ℕ → Bool) (h : List Entry) (e : Entry) → IsIn e (kept f h) → IsIn e h × (f e.number ≡ true)
kept_in f [] e i = absurd i
kept_in f (x ∷ h) e i = cases (f x.number) refl i (λ k. kept_in f h e k)
  where
    cases : (b : Bool) → f x.number ≡ b → IsIn e (if b then x ∷ kept f h else kept f h) → (IsIn e (kept f h) → IsIn e h × (f e.number ≡ true)) → IsIn e (x ∷ h) × (f e.number ≡ true)
    cases true y k later = ⊎_elim (λ q. (inl q, ap (λ (z : Entry). f z.number) q ∙ y)) (λ r. let t = later r in (inr t.0, t.1)) k
    cases false y k later = let t = later k in (inr t.0, t.1)

-- an entry whose number passes a test is kept by it
pub in_kept : (f : ℕ → Bool) (h : List Entry) (e : Entry) → IsIn e h → f e.number ≡ true → IsIn e (kept f h)
in_kept f [] e i y = absurd i
in_kept f (x ∷ h) e i y = cases (f x.number) refl i (λ k. in_kept f h e k y)
  where
    cases : (b : Bool) → f x.number ≡ b → IsIn e (x ∷ h) → (IsIn e h → IsIn e (kept f h)) → IsIn e (if b then x ∷ kept f h else kept f h)
    cases true z k later = ⊎_elim inl (λ r. inr (later r)) k
    cases false z k later = ⊎_elim (λ q. let t : true ≡ false = sym y ∙ ap (λ (u : Entry). f u.number) q ∙ z in absurd (cc)) later k

-- a number that is among entries is that of one of them
among_in : (ps : List Entry) (k : ℕ) → is_among ps k ≡ true → (e : Entry) × IsIn e ps × (e.number ≡ k)
among_in [] k y = absurd (let z : false ≡ true = y in cc)
among_in (x ∷ ps) k y = elim (either (x.number == k)) [
  | inl q ↦ (x, inl refl, eqb-true x.number k q)
  | inr n ↦ (let t = among_in ps k (rw n at y) in (t.0, inr t.1, t.2))
]

module _ {P : Type 0} (entries : P → List Entry) (arguments : P → List value.Value) (keeps_to : P → Type 0) (p : Program) (n : ℕ) (m : Moment P) (u : Unseen) (law : StandsForJournal entries arguments keeps_to p n m u) where
  -- the journal is a run, newest entry first
  past : IsPast p u.journal
  past = law.keeping.merged.past

  -- the number i is in this stage
  abbrev It : ℕ → Stage → Type 0
  It i s = Stands s (said_at i u.journal) (m.cells i) (m.places i) (m.homes i) (u.order.bag i) (u.order.next i)

  -- each number is in its stage
  it : (i : ℕ) (s : Stage) → u.stage i ≡ s → It i s
  it i s e = subst (It i) e (law.messages.stands i)

  -- the number that a draw gets
  vacant_next : m.count < n → u.stage m.count ≡ Vacant
  vacant_next room = let long : length u.journal ≡ m.count = (let l = law.keeping.long in omega arith) in
      vacant_where (u.stage m.count) (said_at m.count u.journal) (m.cells m.count) (m.places m.count) (m.homes m.count) (u.order.bag m.count) (u.order.next m.count) (law.messages.stands m.count)
      (what_none m.count u.journal (past_below p u.journal m.count past (omega arith)))

  -- where nothing was drawn there is no parcel
  no_full : (i : ℕ) → u.stage i ≡ Vacant → (q : P) → m.homes i ≡ some (Some q) → ⊥
  no_full i vacant q home = let z = sym (it i Vacant vacant).1.slot ∙ home in cc

  -- what a parcel holds was drawn
  parcel_below : m.count < n → (i : ℕ) (q : P) → m.homes i ≡ some (Some q) → AllBelow m.count (entries q)
  parcel_below room i q home = let long : length u.journal ≡ m.count = (let l = law.keeping.long in omega arith) in
      subst (AllBelow m.count) (law.keeping.merged.keeps (parcel i) ∙ parcel_keeps entries m.views m.homes i ∙ ap (at_home entries) home)
      (kept_below m.count (λ x. eqb (law.keeping.merged.at x) (parcel i)) u.journal (past_below p u.journal m.count past (omega arith)))

  -- what a desk keeps was drawn
  pub desk_below : (id : ℕ) (v : View) → get_elem? m.views id ≡ some v → AllBelow m.count v.kept
  desk_below id v at = let long : length u.journal ≤ m.count = (let l = law.keeping.long in omega arith) in
      subst (AllBelow m.count) (law.keeping.merged.keeps (desk id) ∙ desk_keeps entries m.views m.homes id ∙ ap at_desk at)
      (kept_below m.count (λ x. eqb (law.keeping.merged.at x) (desk id)) u.journal (past_below p u.journal m.count past (omega arith)))

  -- a desk more
  pub stands_split : (id : ℕ) (v : View) → get_elem? m.views id ≡ some v → StandsForJournal entries arguments keeps_to p n (record m { views = set m.views id (kinds.lent_one v) ++ newcomer ∷ [] }) u
  stands_split id v at = let w : View = kinds.lent_one v in let vs : List View = set m.views id w in record {
    keeping = keep.more_keeps entries p n m.count m.homes vs u.journal (keep.still_keeps entries p n m.count m.homes m.views u.journal law.keeping id v w at refl);
    hands = hand_moves.hands_more vs u.stage (hands.hands_still m.views u.stage law.hands id v at w refl (λ k r. r));
    messages = law.messages;
    firings = law.firings;
    younger = law.younger;
    parcels = law.parcels;
  }

  -- a desk is joined
  pub stands_join : (id other : ℕ) (v w : View) → get_elem? m.views id ≡ some v → other ≢ id → get_elem? m.views other ≡ some w
      → w.placing ≡ None → w.flight ≡ None → w.claims ≡ [] → w.emptying ≡ None → w.posting ≡ None → w.starting ≡ None
      → StandsForJournal entries arguments keeps_to p n (record m { views = set (set m.views id (kinds.united v w)) other gone }) (record u { stage = λ i. kinds.heir id other (u.stage i) })
  stands_join id other v w at apart there placing flight claims emptying posting starting = record {
    keeping = keep.join_keeps entries p n m.count m.homes m.views u.journal law.keeping id v (kinds.united v w) at other w apart there refl;
    hands = hand_moves.hands_join m.views u.stage law.hands id other v w at apart there placing flight claims emptying posting starting;
    messages = messages.messages_join u.journal m.cells m.places m.homes u.order u.stage law.messages id other;
    firings = firings.firings_join u.journal u.stage law.firings id other;
    younger = younger.younger_join entries m.homes u.stage law.younger id other;
    parcels = law.parcels;
  }

  module _ (id : ℕ) (v : View) (at : get_elem? m.views id ≡ some v) where
    -- the desk that steps is one of the desks
    low : id < length m.views
    low = at_inside m.views id v at

    -- what the journal has at the place of the desk is what the desk keeps
    desk_keeping : kept (λ x. eqb (law.keeping.merged.at x) (desk id)) u.journal ≡ v.kept
    desk_keeping = law.keeping.merged.keeps (desk id) ∙ desk_keeps entries m.views m.homes id ∙ ap at_desk at

    -- what the desk keeps is in the journal
    pub entry_in : (e : Entry) → IsIn e v.kept → IsIn e u.journal × (eqb (law.keeping.merged.at e.number) (desk id) ≡ true)
    entry_in e i = kept_in (λ x. eqb (law.keeping.merged.at x) (desk id)) u.journal e (subst (IsIn e) (sym desk_keeping) i)

    -- an entry that the desk keeps is the one of its number in the journal
    pub entry_what : (e : Entry) → IsIn e v.kept → said_at e.number u.journal ≡ Some e.what
    entry_what e i = (waiting.what_is p u.journal e past (entry_in e i).0).0

    -- a message that the desk keeps
    pub entry_says : (e : Entry) (x : Message) (i : ℕ) → IsIn e v.kept → e.number ≡ i → message_of e.what ≡ Some x → message_in (said_at i u.journal) ≡ Some x
    entry_says e x i is num says = ap (λ (z : ℕ). message_in (said_at z u.journal)) (sym num) ∙ ap message_in (entry_what e is) ∙ says

    -- what is unlinked is a message
    unlinked_message : (i : ℕ) → IsUnlinked (hand v) i → (x : Message) × (message_in (said_at i u.journal) ≡ Some x)
    unlinked_message i k = ⊎_elim
        (λ f. (it i (InHand id Fresh) (law.hands.holds id v at i Fresh f)).0)
        (λ q. let t = it i (InHand id Placing) (law.hands.holds id v at i Placing q) in (t.0, t.1)) k

    -- what is unlinked, and goes with no parcel, stays
    stays : (ps : List Entry) → MayGo p v.kept ps → (k : ℕ) → IsUnlinked (hand v) k → ((e : Entry) (x : Message) → IsIn e ps → message_of e.what ≡ Some x → e.number ≡ k → ⊥) → KeepsNumber (left_by ps v.kept) k
    stays ps may k un no_entry = let r = law.hands.kept id v at k un in elim (either (is_among ps r.0.number)) [
      | inl y ↦
          (let a = among_in ps r.0.number y in
          let kept_too = (kept_in (is_among ps) v.kept a.0 (subst (IsIn a.0) (sym may.part) a.1)).0 in
          let x = unlinked_message k un in
          absurd (no_entry a.0 x.0 a.1 (sym (entry_says_back a.0 k kept_too (a.2 ∙ r.2)) ∙ x.1) (a.2 ∙ r.2)))
      | inr o ↦ (r.0, in_kept (λ z. not (is_among ps z)) v.kept r.0 r.1 (ap not o), r.2)
    ]
      where
        entry_says_back : (e : Entry) (i : ℕ) → IsIn e v.kept → e.number ≡ i → message_in (said_at i u.journal) ≡ message_of e.what
        entry_says_back e i is num = ap (λ (z : ℕ). message_in (said_at z u.journal)) (sym num) ∙ ap message_in (entry_what e is)

    -- two desks keep no entry both
    one_keeps : (j : ℕ) (w : View) → get_elem? m.views j ≡ some w → (i : ℕ) → KeepsNumber v.kept i → KeepsNumber w.kept i → j ≡ id
    one_keeps j w there i a b =
        let x = eqb-true (law.keeping.merged.at a.0.number) (desk id) (entry_in a.0 a.1).1 in
        let y = (kept_in (λ x. eqb (law.keeping.merged.at x) (desk j)) u.journal b.0 (subst (IsIn b.0) (sym (law.keeping.merged.keeps (desk j) ∙ desk_keeps entries m.views m.homes j ∙ ap at_desk there)) b.1)).1 in
        let z = eqb-true (law.keeping.merged.at b.0.number) (desk j) y in
        let same : law.keeping.merged.at a.0.number ≡ law.keeping.merged.at b.0.number = ap law.keeping.merged.at (a.2 ∙ sym b.2) in omega arith

    -- a message that the desk keeps, and that is not unlinked at it, was linked, whatever its stage
    linked_stage : (i : ℕ) (x : Message) → KeepsNumber v.kept i → message_in (said_at i u.journal) ≡ Some x → (IsUnlinked (hand v) i → ⊥) → (s : Stage) → u.stage i ≡ s → (k : ℕ) × (u.order.bag i ≡ Some k)
    linked_stage i x mine says un Vacant e = absurd (no_message (said_at i u.journal) x (inl (it i Vacant e).0) says)
    linked_stage i x mine says un (InHand j Fresh) e = let d = law.hands.held i j Fresh e in let same = one_keeps j d.0 d.1 i mine (law.hands.kept j d.0 d.1 i (inl d.2)) in
        absurd (un (inl (subst (λ (y : View). HasNumber i y.fresh) (some-injective d.0 v (sym d.1 ∙ ap (get_elem? m.views) same ∙ at)) d.2)))
    linked_stage i x mine says un (InHand j Placing) e = let d = law.hands.held i j Placing e in let same = one_keeps j d.0 d.1 i mine (law.hands.kept j d.0 d.1 i (inr d.2)) in
        absurd (un (inr (subst (λ (y : View). y.placing ≡ Some i) (some-injective d.0 v (sym d.1 ∙ ap (get_elem? m.views) same ∙ at)) d.2)))
    linked_stage i x mine says un (InHand j (Flying k a)) e = (k, (it i (InHand j (Flying k a)) e).5)
    linked_stage i x mine says un (InHand j (Claiming c)) e = (key c.object c.method, (it i (InHand j (Claiming c)) e).1.bagged)
    linked_stage i x mine says un (InHand j Emptying) e = let t = it i (InHand j Emptying) e in (key t.0.object t.0.method, t.2.bagged)
    linked_stage i x mine says un (InHand j Unposted) e = absurd (no_message (said_at i u.journal) x (inr (it i (InHand j Unposted) e).0) says)
    linked_stage i x mine says un (InHand j Posting) e = absurd (no_message (said_at i u.journal) x (inr (it i (InHand j Posting) e).0) says)
    linked_stage i x mine says un (InHand j Starting) e = absurd (no_message (said_at i u.journal) x (inr (it i (InHand j Starting) e).0) says)
    linked_stage i x mine says un Armed e = let t = it i Armed e in (key t.0.object t.0.method, t.2.bagged)
    linked_stage i x mine says un Spent e = let t = it i Spent e in (key t.0.object t.0.method, t.2.bagged)
    linked_stage i x mine says un Posted e = absurd (no_message (said_at i u.journal) x (inr (it i Posted e).0) says)
    linked_stage i x mine says un Played e = absurd (no_message (said_at i u.journal) x (inr (it i Played e).0) says)

    -- a message that the desk keeps was linked, if it is not unlinked at this desk
    pub kept_linked : (e : Entry) (x : Message) → IsIn e v.kept → message_of e.what ≡ Some x → (IsUnlinked (hand v) e.number → ⊥) → (k : ℕ) × (u.order.bag e.number ≡ Some k)
    kept_linked e x is says un = linked_stage e.number x (e, is, refl) (entry_says e x e.number is refl says) un (u.stage e.number) refl

    -- what goes is kept
    from_parcel : (ps : List Entry) → MayGo p v.kept ps → (e : Entry) → IsIn e ps → IsIn e v.kept
    from_parcel ps may e there = (kept_in (is_among ps) v.kept e (subst (IsIn e) (sym may.part) there)).0

    -- the parcel of a message that is linked
    sent_parcel : (i k : ℕ) (q : P) (e : Entry) (x : Message) → MayGo p v.kept (entries q) → IsIn e v.kept → e.number ≡ i → message_of e.what ≡ Some x → x.arguments ≡ arguments q
        → ((e : Entry) (x : Message) → IsIn e (entries q) → message_of e.what ≡ Some x → (e.number ≡ i) ⊎ (IsUnlinked (hand v) e.number → ⊥)) → ((e : Entry) → IsIn e v.kept → IsCall i e → IsIn e (entries q))
        → ((b : ℕ) → BeginsThere b (entries q) → IsParkedThere p (entries q) (Some i) (doing p (entries q) b)) → IsSentParcel p u.journal (put u.order.bag i (Some k)) i (entries q) (arguments q)
    sent_parcel i k q e x may is num says args others call parked = record {
      holds = λ y there. ap (λ (z : Message). z.arguments) (some_is y x (sym there ∙ entry_says e x i is num says)) ∙ args;
      parked = parked;
      call = λ f there c. call f (subst (λ (z : Entry). IsIn z v.kept) (parcels.same_entry p u.journal e f past (entry_in e is).0 there (num ∙ sym c.0)) is) c;
      linked = λ f there s. let y = parcels.some_message f.what s in ⊎_elim
          (λ z. subst (λ (t : Option ℕ). IsSome t) (sym (ap (put u.order.bag i (Some k)) z ∙ put_here u.order.bag i (Some k))) refl)
          (λ un. let l = kept_linked f y.0 (from_parcel (entries q) may f there) y.1 un in put_all u.order.bag i (Some k) (λ j t. u.order.bag j ≡ Some l.0 → IsSome t) f.number (λ _. refl) (λ ne t. subst (λ (t : Option ℕ). IsSome t) (sym t) refl) l.1) (others f y.0 there y.1);
    }

    -- the parcel of a firing that is posted
    fired_parcel : (f : ℕ) (q : P) → MayGo p v.kept (entries q) → ((e : Entry) (x : Message) → IsIn e (entries q) → message_of e.what ≡ Some x → IsUnlinked (hand v) e.number → ⊥) → BeginsThere f (entries q) → ((e : Entry) → IsIn e (entries q) → e.body ≡ f → e.number ≡ f)
        → ((b : ℕ) → (b ≡ f → ⊥) → BeginsThere b (entries q) → IsParkedThere p (entries q) None (doing p (entries q) b)) → IsFiredParcel p u.order.bag f (entries q)
    fired_parcel f q may others begins only parked = record {
      begins = begins;
      only = only;
      parked = parked;
      linked = λ e there s. let y = parcels.some_message e.what s in let l = kept_linked e y.0 (from_parcel (entries q) may e there) y.1 (others e y.0 there y.1) in subst (λ (t : Option ℕ). IsSome t) (sym l.1) refl;
    }

    -- ## Steps that change the view alone

    -- a step that changes nothing in hand and nothing that is kept
    pub stands_still : (w : View) → hand w ≡ hand v → w.kept ≡ v.kept → StandsForJournal entries arguments keeps_to p n (record m { views = set m.views id w }) u
    stands_still w same kept = record {
      keeping = keep.still_keeps entries p n m.count m.homes m.views u.journal law.keeping id v w at kept;
      hands = hands.hands_still m.views u.stage law.hands id v at w same (λ k r. subst (λ (es : List Entry). KeepsNumber es k) (sym kept) r);
      messages = law.messages;
      firings = law.firings;
      younger = law.younger;
      parcels = law.parcels;
    }

    -- ## Draws

    -- an own entry is drawn
    pub stands_draw : (b : ℕ) (what : What) → m.count < n → IsOwn what → Asks p v.kept b what
        → StandsForJournal entries arguments keeps_to p n (record m { count = m.count + 1; views = set m.views id (drew v m.count b what) }) (record u { journal = entry m.count b what ∷ u.journal; stage = kinds.drawn_stage id m.count what u.stage })
    stands_draw b what room own asks = let plain = own_plain what own in let vacant = vacant_next room in record {
      keeping = draw_keeps entries p n m.count m.homes m.views u.journal id v b what law.keeping at low room own asks;
      hands = hand_moves.hands_draw m.views u.stage law.hands id v at m.count b what plain vacant;
      messages = messages.messages_draw u.journal m.cells m.places m.homes u.order u.stage law.messages id m.count vacant b what plain;
      firings = firings.firings_draw u.journal u.stage law.firings id m.count vacant b what plain;
      younger = younger.younger_draw entries m.homes u.stage law.younger id m.count what;
      parcels = parcels.parcels_draw entries arguments keeps_to p u.journal m.homes u.order.bag law.parcels (entry m.count b what) (no_full m.count vacant);
    }

    -- Main begins
    pub stands_begun : m.count ≡ 0 → 0 < n → StandsForJournal entries arguments keeps_to p n (record m { count = m.count + 1; views = set m.views id (drew v m.count 0 Begun) }) (record u { journal = entry m.count 0 Begun ∷ u.journal; stage = u.stage })
    stands_begun none_drawn any = let vacant = vacant_next (omega (arith, none_drawn, any)) in let nothing : u.journal ≡ [] = empty_list u.journal (let l = law.keeping.long in omega arith) in record {
      keeping = keep.begun_keeps entries p n m.count m.homes m.views u.journal law.keeping id v (drew v m.count 0 Begun) at nothing none_drawn any refl;
      hands = hand_moves.hands_draw m.views u.stage law.hands id v at m.count 0 Begun (λ f. f) vacant;
      messages = messages.messages_draw u.journal m.cells m.places m.homes u.order u.stage law.messages id m.count vacant 0 Begun (λ f. f);
      firings = firings.firings_draw u.journal u.stage law.firings id m.count vacant 0 Begun (λ f. f);
      younger = law.younger;
      parcels = parcels.parcels_draw entries arguments keeps_to p u.journal m.homes u.order.bag law.parcels (entry m.count 0 Begun) (no_full m.count vacant);
    }
      where
        empty_list : (h : List Entry) → length h ≡ 0 → h ≡ []
        empty_list [] e = refl
        empty_list (x ∷ h) e = absurd (omega arith)

    -- the desk is told that the limit is reached
    pub stands_told : n ≤ m.count → StandsForJournal entries arguments keeps_to p n (record m { count = m.count + 1; views = set m.views id (was_told v) }) u
    stands_told full = record {
      keeping = told_keeps entries p n m.count m.homes m.views u.journal id v law.keeping at low full;
      hands = hands.hands_still m.views u.stage law.hands id v at (was_told v) refl (λ k r. r);
      messages = law.messages;
      firings = law.firings;
      younger = law.younger;
      parcels = law.parcels;
    }

    -- a firing, by claims on its members
    pub stands_draw_firing : (k : ℕ) (object : Object) (js ms : List ℕ) (vs : List value.Value) → m.count < n → slice_get (p.chords object.class) k ≡ Some js → AreClaimed v.claims object js ms vs
        → StandsForJournal entries arguments keeps_to p n (record m { count = m.count + 1; views = set m.views id (kinds.firing_drawn v m.count k object ms vs) })
        (record u { journal = entry m.count m.count (Fired k object ms vs) ∷ u.journal; stage = kinds.fired_stage id m.count ms u.stage })
    stands_draw_firing k object js ms vs room chord claimed =
        let vacant = vacant_next room in
        let members = waiting.claimed_members p u.journal m.cells m.places m.homes u.order m.views u.stage past law.hands law.messages law.firings id v at object js ms vs claimed in
        let fires = waiting.claims_fire p u.journal m.cells m.places m.homes u.order m.views u.stage past law.hands law.messages law.firings id v at k object js ms vs chord claimed in record {
          keeping = keep.firing_keeps entries p n m.count m.homes m.views u.journal law.keeping id v (kinds.firing_drawn v m.count k object ms vs) at k object ms vs room fires refl;
          hands = hand_moves.hands_draw_firing m.views u.stage law.hands id v at m.count vacant ms (λ i y. let r = members i y in (r.0, r.1, r.2)) object k vs;
          messages = messages.messages_draw_firing u.journal m.cells m.places m.homes u.order u.stage law.messages id m.count k object ms vs vacant;
          firings = firings.firings_draw_firing u.journal u.stage law.firings id m.count vacant k object ms vs (λ i y. let r = members i y in (r.0, law.hands.holds id v at i (Claiming r.0) (r.1, r.2)));
          younger = younger.younger_draw_firing entries m.homes u.stage law.younger id m.count ms (λ i y. let r = members i y in (r.0, law.hands.holds id v at i (Claiming r.0) (r.1, r.2))) (parcel_below room);
          parcels = parcels.parcels_draw entries arguments keeps_to p u.journal m.homes u.order.bag law.parcels (entry m.count m.count (Fired k object ms vs)) (no_full m.count vacant);
        }

    -- ## Messages

    -- a slot that is known to have no parcel keeps nothing
    no_parcel : (i : ℕ) (y : Home P) → m.homes i ≡ y → at_home entries y ≡ [] → at_home entries (m.homes i) ≡ []
    no_parcel i y is e = ap (at_home entries) is ∙ e

    -- the place word of a message is set
    pub stands_place : (i : ℕ) (e : Entry) (x : Message) → IsIn e v.kept → e.number ≡ i → message_of e.what ≡ Some x → HasNumber i v.fresh → v.placing ≡ None
        → StandsForJournal entries arguments keeps_to p n (record m { places = put m.places i (Some (x.object, x.method)); homes = put m.homes i none; views = set m.views id (kinds.address_set v i) }) (record u { stage = put u.stage i (InHand id Placing) })
    stands_place i e x is num says has free = let was = law.hands.holds id v at i Fresh has in record {
      keeping = keep.slot_keeps entries p n m.count m.homes m.views u.journal law.keeping id v (kinds.address_set v i) at i none refl (no_parcel i (some None) (it i (InHand id Fresh) was).1.slot refl) refl;
      hands = hands.hands_place m.views u.stage law.hands id v at i has free;
      messages = messages.messages_place u.journal m.cells m.places m.homes u.order u.stage law.messages id i x (entry_says e x i is num says) was;
      firings = firings.firings_place u.journal u.stage law.firings id i was;
      younger = younger.younger_one entries m.homes u.stage law.younger i (InHand id Placing) (put m.homes i none) (younger.no_claim entries m.homes u.stage law.younger (InHand id Placing) (λ j c e. absurd (cc))) (put_else m.homes i none);
      parcels = parcels.parcels_without entries arguments keeps_to p u.journal m.homes u.order.bag law.parcels i none (λ q e. absurd (cc));
    }

    -- a message is linked
    pub stands_link : (i k : ℕ) (above : Option ℕ) (q : P) (e : Entry) (x : Message) → IsIn e v.kept → e.number ≡ i → message_of e.what ≡ Some x → k ≡ key x.object x.method → x.method < 16 → v.placing ≡ Some i → v.flight ≡ None
        → MayGo p v.kept (entries q) → ((e : Entry) (x : Message) → IsIn e (entries q) → message_of e.what ≡ Some x → (e.number ≡ i) ⊎ (IsUnlinked (hand v) e.number → ⊥)) → x.arguments ≡ arguments q → ((e : Entry) → IsIn e v.kept → IsCall i e → IsIn e (entries q))
        → ((b : ℕ) → BeginsThere b (entries q) → IsParkedThere p (entries q) (Some i) (doing p (entries q) b)) → keeps_to q → (heads : ℕ → Option ℕ)
        → StandsForJournal entries arguments keeps_to p n (record m { heads = heads; homes = put m.homes i (some (Some q)); views = set m.views id (kinds.flown v i k above (entries q)) }) (record u { stage = put u.stage i (InHand id (Flying k above)); order = linked_order u.order i k above })
    stands_link i k above q e x is num says to few placing free may others args call parked task heads = let was = law.hands.holds id v at i Placing placing in record {
      keeping = keep.parcel_goes entries p n m.count m.homes m.views u.journal law.keeping id v (kinds.flown v i k above (entries q)) at i q (no_parcel i none (it i (InHand id Placing) was).4 refl) may refl;
      hands = hands.hands_link m.views u.stage law.hands id v at i k above (entries q) placing free
          (λ j f _. stays (entries q) may j (inl f) (λ e x there is num. ⊎_elim
          (λ z. let both : InHand id Placing ≡ InHand id Fresh = sym was ∙ ap u.stage (sym z ∙ num) ∙ law.hands.holds id v at j Fresh f in absurd (cc))
          (λ no. no (inl (subst (λ (y : ℕ). HasNumber y v.fresh) (sym num) f))) (others e x there is)));
      messages = messages.messages_link u.journal m.cells m.places m.homes u.order u.stage law.messages id i x k above q (entry_says e x i is num says) to few was;
      firings = firings.firings_link u.journal u.stage law.firings id i k above was;
      younger = younger.younger_one entries m.homes u.stage law.younger i (InHand id (Flying k above)) (put m.homes i (some (Some q))) (younger.no_claim entries m.homes u.stage law.younger (InHand id (Flying k above)) (λ j c e. absurd (cc))) (put_else m.homes i (some (Some q)));
      parcels = parcels.parcels_link entries arguments keeps_to p u.journal m.homes u.order.bag law.parcels i k q x (entry_says e x i is num says) (sent_parcel i k q e x may is num says args others call parked) task;
    }

    -- a linked message is armed
    pub stands_arm : (i : ℕ) → v.flight ≡ Some i
        → StandsForJournal entries arguments keeps_to p n (record m { cells = put m.cells i (record { cell = a_cell.Pending; next = v.above }); views = set m.views id (kinds.armed v i) }) (record u { stage = put u.stage i Armed })
    stands_arm i flying = let was = law.hands.holds id v at i (Flying v.bag v.above) (flying, refl, refl) in record {
      keeping = keep.still_keeps entries p n m.count m.homes m.views u.journal law.keeping id v (kinds.armed v i) at refl;
      hands = hands.hands_arm m.views u.stage law.hands id v at i flying;
      messages = messages.messages_arm u.journal m.cells m.places m.homes u.order u.stage law.messages id i v.bag v.above was;
      firings = firings.firings_arm u.journal u.stage law.firings id i v.bag v.above was;
      younger = younger.younger_one entries m.homes u.stage law.younger i (Armed) (m.homes) (younger.no_claim entries m.homes u.stage law.younger (Armed) (λ j c e. absurd (cc))) (λ k ne. refl);
      parcels = law.parcels;
    }

    -- the message that is claimed where the cell was pending
    pub pending_message : (i : ℕ) (next : Option ℕ) → m.cells i ≡ record { cell = a_cell.Pending; next = next } → (x : Message) × (message_in (said_at i u.journal) ≡ Some x)
    pending_message i next is = messages.armed_message u.journal m.cells m.places m.homes u.order u.stage law.messages id i (messages.is_armed u.journal m.cells m.places m.homes u.order u.stage law.messages id i next is)

    -- a pending message is claimed
    pub stands_claim : (i : ℕ) (next : Option ℕ) (x : Message) → m.cells i ≡ record { cell = a_cell.Pending; next = next } → message_in (said_at i u.journal) ≡ Some x
        → StandsForJournal entries arguments keeps_to p n (record m { cells = put m.cells i (record { cell = a_cell.Claimed; next = next }); views = set m.views id (kinds.claimed v (messages.claim_on i next x)) }) (record u { stage = put u.stage i (InHand id (Claiming (messages.claim_on i next x))) })
    stands_claim i next x is says = let was = messages.is_armed u.journal m.cells m.places m.homes u.order u.stage law.messages id i next is in record {
      keeping = keep.still_keeps entries p n m.count m.homes m.views u.journal law.keeping id v (kinds.claimed v (messages.claim_on i next x)) at refl;
      hands = hands.hands_claim m.views u.stage law.hands id v at i (messages.claim_on i next x) refl was;
      messages = messages.messages_claim u.journal m.cells m.places m.homes u.order u.stage law.messages id i x next says was;
      firings = firings.firings_claim u.journal u.stage law.firings id i next x was;
      younger = younger.younger_one entries m.homes u.stage law.younger i (InHand id (Claiming (messages.claim_on i next x))) (m.homes) (younger.free_claim entries m.homes u.stage law.younger id (messages.claim_on i next x) refl) (λ k ne. refl);
      parcels = law.parcels;
    }

    -- of a claim: the word of its cell, and its parcel
    pub claim_word : (c : Claim) → HasThe c v.claims → m.cells c.number ≡ record { cell = a_cell.Claimed; next = c.next }
    claim_word c has = (it c.number (InHand id (Claiming c)) (law.hands.holds id v at c.number (Claiming c) (has, refl))).2

    -- the parcel of a claimed message is at home
    pub claim_home : (c : Claim) → HasThe c v.claims → IsLoaded (m.homes c.number)
    claim_home c has = (it c.number (InHand id (Claiming c)) (law.hands.holds id v at c.number (Claiming c) (has, refl))).3

    -- a claim for no firing is given back
    pub stands_give_back : (i : ℕ) (c : Claim) → HasThe c v.claims → c.number ≡ i → c.firing ≡ None
        → StandsForJournal entries arguments keeps_to p n (record m { cells = put m.cells i (record { cell = a_cell.Pending; next = c.next }); views = set m.views id (kinds.unclaimed v i) }) (record u { stage = put u.stage i Armed })
    stands_give_back i c has num free = let was = law.hands.holds id v at i (Claiming c) (has, num) in record {
      keeping = keep.still_keeps entries p n m.count m.homes m.views u.journal law.keeping id v (kinds.unclaimed v i) at refl;
      hands = hands.hands_give_back m.views u.stage law.hands id v at i c has num;
      messages = messages.messages_give_back u.journal m.cells m.places m.homes u.order u.stage law.messages id i c was;
      firings = firings.firings_give_back u.journal u.stage law.firings id i c free was;
      younger = younger.younger_one entries m.homes u.stage law.younger i (Armed) (m.homes) (younger.no_claim entries m.homes u.stage law.younger (Armed) (λ j c e. absurd (cc))) (λ k ne. refl);
      parcels = law.parcels;
    }

    -- a message that is claimed for a firing is consumed
    pub stands_consume : (i : ℕ) (c : Claim) (f : ℕ) (q : P) → HasThe c v.claims → c.number ≡ i → c.firing ≡ Some f → v.emptying ≡ None → m.homes i ≡ some (Some q)
        → StandsForJournal entries arguments keeps_to p n (record m { cells = put m.cells i (record { cell = a_cell.Consumed; next = c.next }); homes = put m.homes i none; views = set m.views id (kinds.consumed v i (entries q)) }) (record u { stage = put u.stage i (InHand id Emptying) })
    stands_consume i c f q has num for free home = let was = law.hands.holds id v at i (Claiming c) (has, num) in record {
      keeping = keep.parcel_comes entries p n m.count m.homes m.views u.journal law.keeping id v (kinds.consumed v i (entries q)) at i q home refl;
      hands = hands.hands_consume m.views u.stage law.hands id v at i c (entries q) has num free;
      messages = messages.messages_consume u.journal m.cells m.places m.homes u.order u.stage law.messages id i c was;
      firings = firings.firings_consume u.journal u.stage law.firings id i c f for was;
      younger = younger.younger_one entries m.homes u.stage law.younger i (InHand id Emptying) (put m.homes i none) (younger.no_claim entries m.homes u.stage law.younger (InHand id Emptying) (λ j c e. absurd (cc))) (put_else m.homes i none);
      parcels = parcels.parcels_without entries arguments keeps_to p u.journal m.homes u.order.bag law.parcels i none (λ q e. absurd (cc));
    }

    -- the slot of a consumed message is home again
    pub stands_empty : (i : ℕ) → v.emptying ≡ Some i
        → StandsForJournal entries arguments keeps_to p n (record m { homes = put m.homes i (some None); views = set m.views id (kinds.emptied v) }) (record u { stage = put u.stage i Spent })
    stands_empty i emptying = let was = law.hands.holds id v at i Emptying emptying in record {
      keeping = keep.slot_keeps entries p n m.count m.homes m.views u.journal law.keeping id v (kinds.emptied v) at i (some None) refl (no_parcel i none (it i (InHand id Emptying) was).4 refl) refl;
      hands = hands.hands_empty m.views u.stage law.hands id v at i emptying;
      messages = messages.messages_empty u.journal m.cells m.places m.homes u.order u.stage law.messages id i was;
      firings = firings.firings_empty u.journal u.stage law.firings id i was;
      younger = younger.younger_one entries m.homes u.stage law.younger i (Spent) (put m.homes i (some None)) (younger.no_claim entries m.homes u.stage law.younger (Spent) (λ j c e. absurd (cc))) (put_else m.homes i (some None));
      parcels = parcels.parcels_without entries arguments keeps_to p u.journal m.homes u.order.bag law.parcels i (some None) (λ q e. absurd (cc));
    }

    -- the cell of an armed message goes between Pending and Woken
    pub stands_wake : (i : ℕ) (word : Word) (w : View) → IsOpen word.cell → u.stage i ≡ Armed → hand w ≡ hand v → w.kept ≡ v.kept
        → StandsForJournal entries arguments keeps_to p n (record m { cells = put m.cells i word; views = set m.views id w }) u
    stands_wake i word w open_ was same kept = record {
      keeping = keep.still_keeps entries p n m.count m.homes m.views u.journal law.keeping id v w at kept;
      hands = hands.hands_still m.views u.stage law.hands id v at w same (λ k r. subst (λ (es : List Entry). KeepsNumber es k) (sym kept) r);
      messages = messages.messages_wake u.journal m.cells m.places m.homes u.order u.stage law.messages id i word open_ was;
      firings = law.firings;
      younger = law.younger;
      parcels = law.parcels;
    }

    -- ## Firings

    -- the slot of a firing comes out
    pub stands_posting : (f : ℕ) → HasNumber f v.unposted → v.posting ≡ None
        → StandsForJournal entries arguments keeps_to p n (record m { homes = put m.homes f none; views = set m.views id (kinds.posting v f) }) (record u { stage = put u.stage f (InHand id Posting) })
    stands_posting f has free = let was = law.hands.holds id v at f Unposted has in record {
      keeping = keep.slot_keeps entries p n m.count m.homes m.views u.journal law.keeping id v (kinds.posting v f) at f none refl (no_parcel f (some None) (it f (InHand id Unposted) was).1.slot refl) refl;
      hands = hands.hands_posting m.views u.stage law.hands id v at f has free;
      messages = messages.messages_posting u.journal m.cells m.places m.homes u.order u.stage law.messages id f was;
      firings = firings.firings_posting u.journal u.stage law.firings id f was;
      younger = younger.younger_one entries m.homes u.stage law.younger f (InHand id Posting) (put m.homes f none) (younger.no_claim entries m.homes u.stage law.younger (InHand id Posting) (λ j c e. absurd (cc))) (put_else m.homes f none);
      parcels = parcels.parcels_without entries arguments keeps_to p u.journal m.homes u.order.bag law.parcels f none (λ q e. absurd (cc));
    }

    -- a firing is posted
    pub stands_post : (f : ℕ) (q : P) → v.posting ≡ Some f → MayGo p v.kept (entries q) → ((e : Entry) (x : Message) → IsIn e (entries q) → message_of e.what ≡ Some x → IsUnlinked (hand v) e.number → ⊥)
        → BeginsThere f (entries q) → ((e : Entry) → IsIn e (entries q) → e.body ≡ f → e.number ≡ f) → ((b : ℕ) → (b ≡ f → ⊥) → BeginsThere b (entries q) → IsParkedThere p (entries q) None (doing p (entries q) b)) → keeps_to q
        → StandsForJournal entries arguments keeps_to p n (record m { cells = put m.cells f (record { cell = a_cell.Ready; next = None }); homes = put m.homes f (some (Some q)); views = set m.views id (kinds.posted v (entries q)) }) (record u { stage = put u.stage f Posted })
    stands_post f q posting may others begins only parked task = let was = law.hands.holds id v at f Posting posting in record {
      keeping = keep.parcel_goes entries p n m.count m.homes m.views u.journal law.keeping id v (kinds.posted v (entries q)) at f q (no_parcel f none (it f (InHand id Posting) was).3 refl) may refl;
      hands = hands.hands_post m.views u.stage law.hands id v at f (entries q) posting
          (λ k un _. stays (entries q) may k un (λ e x there is num. others e x there is (subst (IsUnlinked (hand v)) (sym num) un)));
      messages = messages.messages_post u.journal m.cells m.places m.homes u.order u.stage law.messages id f q was;
      firings = firings.firings_post u.journal u.stage law.firings id f was;
      younger = younger.younger_one entries m.homes u.stage law.younger f (Posted) (put m.homes f (some (Some q))) (younger.no_claim entries m.homes u.stage law.younger (Posted) (λ j c e. absurd (cc))) (put_else m.homes f (some (Some q)));
      parcels = parcels.parcels_post entries arguments keeps_to p u.journal m.homes u.order.bag law.parcels f q (it f (InHand id Posting) was).0 (fired_parcel f q may others begins only parked) task;
    }

    -- where a cell is ready, its word is this
    pub ready_word : (f : ℕ) → (m.cells f).cell ≡ a_cell.Ready → m.cells f ≡ record { cell = a_cell.Ready; next = None }
    ready_word f is = (it f Posted (messages.is_posted u.journal m.cells m.places m.homes u.order u.stage law.messages id f is)).1

    -- a posted firing has a parcel
    pub ready_home : (f : ℕ) → (m.cells f).cell ≡ a_cell.Ready → IsLoaded (m.homes f)
    ready_home f is = (it f Posted (messages.is_posted u.journal m.cells m.places m.homes u.order u.stage law.messages id f is)).3

    -- a posted firing is started
    pub stands_start : (f : ℕ) (q : P) → (m.cells f).cell ≡ a_cell.Ready → v.starting ≡ None → m.homes f ≡ some (Some q)
        → StandsForJournal entries arguments keeps_to p n (record m { cells = put m.cells f (record { cell = a_cell.Started; next = None }); homes = put m.homes f none; views = set m.views id (kinds.firing_started v f (entries q)) }) (record u { stage = put u.stage f (InHand id Starting) })
    stands_start f q is free home = let was = messages.is_posted u.journal m.cells m.places m.homes u.order u.stage law.messages id f is in record {
      keeping = keep.parcel_comes entries p n m.count m.homes m.views u.journal law.keeping id v (kinds.firing_started v f (entries q)) at f q home refl;
      hands = hands.hands_start m.views u.stage law.hands id v at f (entries q) was free;
      messages = messages.messages_start u.journal m.cells m.places m.homes u.order u.stage law.messages id f was;
      firings = firings.firings_start u.journal u.stage law.firings id f was;
      younger = younger.younger_one entries m.homes u.stage law.younger f (InHand id Starting) (put m.homes f none) (younger.no_claim entries m.homes u.stage law.younger (InHand id Starting) (λ j c e. absurd (cc))) (put_else m.homes f none);
      parcels = parcels.parcels_without entries arguments keeps_to p u.journal m.homes u.order.bag law.parcels f none (λ q e. absurd (cc));
    }

    -- the slot of a started firing is home again
    pub stands_play : (f : ℕ) → v.starting ≡ Some f
        → StandsForJournal entries arguments keeps_to p n (record m { homes = put m.homes f (some None); views = set m.views id (kinds.played v) }) (record u { stage = put u.stage f Played })
    stands_play f starting = let was = law.hands.holds id v at f Starting starting in record {
      keeping = keep.slot_keeps entries p n m.count m.homes m.views u.journal law.keeping id v (kinds.played v) at f (some None) refl (no_parcel f none (it f (InHand id Starting) was).3 refl) refl;
      hands = hands.hands_play m.views u.stage law.hands id v at f starting;
      messages = messages.messages_play u.journal m.cells m.places m.homes u.order u.stage law.messages id f was;
      firings = firings.firings_play u.journal u.stage law.firings id f was;
      younger = younger.younger_one entries m.homes u.stage law.younger f (Played) (put m.homes f (some None)) (younger.no_claim entries m.homes u.stage law.younger (Played) (λ j c e. absurd (cc))) (put_else m.homes f (some None));
      parcels = parcels.parcels_without entries arguments keeps_to p u.journal m.homes u.order.bag law.parcels f (some None) (λ q e. absurd (cc));
    }

  -- ## Slots and claims, by what the words show

  -- a slot that is out is out with a desk
  abbrev pub IsOut : ℕ → Type 0
  IsOut i = (j : ℕ) × (v : View) × (get_elem? m.views j ≡ some v) × ((v.placing ≡ Some i) ⊎ ((v.emptying ≡ Some i) ⊎ ((v.posting ≡ Some i) ⊎ (v.starting ≡ Some i))))

  -- a slot that is out is out with a desk, whatever the stage of its number
  out_stage : (i : ℕ) (s : Stage) → u.stage i ≡ s → m.homes i ≡ none → IsOut i
  out_stage i Vacant e out = absurd (some-ne-none None (sym (it i Vacant e).1.slot ∙ out))
  out_stage i (InHand j Fresh) e out = absurd (some-ne-none None (sym (it i (InHand j Fresh) e).1.slot ∙ out))
  out_stage i (InHand j Placing) e out = let d = law.hands.held i j Placing e in (j, d.0, d.1, inl d.2)
  out_stage i (InHand j (Flying k a)) e out = let q = (it i (InHand j (Flying k a)) e).4 in absurd (some-ne-none (Some q.0) (sym q.1 ∙ out))
  out_stage i (InHand j (Claiming c)) e out = let q = (it i (InHand j (Claiming c)) e).3 in absurd (some-ne-none (Some q.0) (sym q.1 ∙ out))
  out_stage i (InHand j Emptying) e out = let d = law.hands.held i j Emptying e in (j, d.0, d.1, inr (inl d.2))
  out_stage i (InHand j Unposted) e out = absurd (some-ne-none None (sym (it i (InHand j Unposted) e).1.slot ∙ out))
  out_stage i (InHand j Posting) e out = let d = law.hands.held i j Posting e in (j, d.0, d.1, inr (inr (inl d.2)))
  out_stage i (InHand j Starting) e out = let d = law.hands.held i j Starting e in (j, d.0, d.1, inr (inr (inr d.2)))
  out_stage i Armed e out = let q = (it i Armed e).4 in absurd (some-ne-none (Some q.0) (sym q.1 ∙ out))
  out_stage i Spent e out = absurd (some-ne-none None (sym (it i Spent e).4 ∙ out))
  out_stage i Posted e out = let q = (it i Posted e).3 in absurd (some-ne-none (Some q.0) (sym q.1 ∙ out))
  out_stage i Played e out = absurd (some-ne-none None (sym (it i Played e).3 ∙ out))

  -- each slot that is out is out with a desk
  pub home_out : (i : ℕ) → m.homes i ≡ none → IsOut i
  home_out i out = out_stage i (u.stage i) refl out

  -- a claimed cell is claimed by a desk
  abbrev pub IsClaimed : ℕ → Type 0
  IsClaimed i = (j : ℕ) × (v : View) × (c : Claim) × (get_elem? m.views j ≡ some v) × HasThe c v.claims × (c.number ≡ i) × (m.cells i ≡ record { cell = a_cell.Claimed; next = c.next })

  -- a claimed cell is claimed by a desk, whatever the stage of its number
  claimed_stage : (i : ℕ) (s : Stage) → u.stage i ≡ s → (m.cells i).cell ≡ a_cell.Claimed → IsClaimed i
  claimed_stage i (InHand j (Claiming c)) e is = let d = law.hands.held i j (Claiming c) e in (j, d.0, c, d.1, d.2.0, d.2.1, (it i (InHand j (Claiming c)) e).2)
  claimed_stage i Vacant e is = absurd (let z = sym (ap (λ (w : Word). w.cell) (it i Vacant e).1.cell) ∙ is in cc)
  claimed_stage i (InHand j Fresh) e is = absurd (let z = sym (ap (λ (w : Word). w.cell) (it i (InHand j Fresh) e).1.cell) ∙ is in cc)
  claimed_stage i (InHand j Placing) e is = absurd (let z = sym (ap (λ (w : Word). w.cell) (it i (InHand j Placing) e).2) ∙ is in cc)
  claimed_stage i (InHand j (Flying k a)) e is = absurd (let z = sym (ap (λ (w : Word). w.cell) (it i (InHand j (Flying k a)) e).3) ∙ is in cc)
  claimed_stage i (InHand j Emptying) e is = absurd (let z = sym (it i (InHand j Emptying) e).3 ∙ is in cc)
  claimed_stage i (InHand j Unposted) e is = absurd (let z = sym (ap (λ (w : Word). w.cell) (it i (InHand j Unposted) e).1.cell) ∙ is in cc)
  claimed_stage i (InHand j Posting) e is = absurd (let z = sym (ap (λ (w : Word). w.cell) (it i (InHand j Posting) e).1) ∙ is in cc)
  claimed_stage i (InHand j Starting) e is = absurd (let z = sym (it i (InHand j Starting) e).1 ∙ is in cc)
  claimed_stage i Armed e is = absurd (subst IsOpen is (it i Armed e).3)
  claimed_stage i Spent e is = absurd (let z = sym (it i Spent e).3 ∙ is in cc)
  claimed_stage i Posted e is = absurd (let z = sym (ap (λ (w : Word). w.cell) (it i Posted e).1) ∙ is in cc)
  claimed_stage i Played e is = absurd (let z = sym (it i Played e).1 ∙ is in cc)

  -- each claimed cell is claimed by a desk
  pub cell_claimed : (i : ℕ) → (m.cells i).cell ≡ a_cell.Claimed → IsClaimed i
  cell_claimed i is = claimed_stage i (u.stage i) refl is

  -- a message of the journal has a slot of the table
  pub number_low : (i : ℕ) (x : Message) → message_in (said_at i u.journal) ≡ Some x → i < n
  number_low i x says = low_when (said_at i u.journal) refl says
    where
      low_when : (w : Option What) → said_at i u.journal ≡ w → message_in w ≡ Some x → i < n
      low_when None e says = absurd (let z : Path (Option Message) None (Some x) = says in cc)
      low_when (Some w) e says = let t = waiting.what_entry u.journal i w e in let l = (waiting.what_is p u.journal t.0 past t.1).1 in let k = law.keeping.long in let q = t.2 in omega arith

  -- ## What a parcel that comes holds

  -- the parcel of a claimed message holds its values, entries below the firing that was drawn with it, and a task of the space
  pub record Comes (c : Claim) (q : P) : Type 0 where
    pub values : arguments q ≡ c.values
    pub below : (f : ℕ) → c.firing ≡ Some f → AllBelow f (entries q)
    pub task : keeps_to q

  -- the journal has the message that a desk has claimed
  pub claim_says : (id : ℕ) (v : View) → get_elem? m.views id ≡ some v → (c : Claim) → HasThe c v.claims → message_in (said_at c.number u.journal) ≡ Some (claimed_message c)
  claim_says id v at c has = (it c.number (InHand id (Claiming c)) (law.hands.holds id v at c.number (Claiming c) (has, refl))).0

  -- the parcel of a message that a desk has claimed comes so
  pub claim_comes : (id : ℕ) (v : View) → get_elem? m.views id ≡ some v → (c : Claim) (q : P) → HasThe c v.claims → m.homes c.number ≡ some (Some q) → Comes c q
  claim_comes id v at c q has home =
      let was = law.hands.holds id v at c.number (Claiming c) (has, refl) in let says = (it c.number (InHand id (Claiming c)) was).0 in record {
        values = sym ((law.parcels.sent c.number q (claimed_message c) home says).holds (claimed_message c) says);
        below = λ f for. law.younger.below c.number id c f q was for home;
        task = law.parcels.task c.number q home;
      }

  -- the parcel of a ready firing
  pub ready_comes : (f : ℕ) (q : P) → (m.cells f).cell ≡ a_cell.Ready → m.homes f ≡ some (Some q) → IsFiredParcel p u.order.bag f (entries q) × keeps_to q
  ready_comes f q is home = (law.parcels.fired f q home (it f Posted (messages.is_posted u.journal m.cells m.places m.homes u.order u.stage law.messages 0 f is)).0, law.parcels.task f q home)

  -- a number without an entry has nothing
  pub no_entry_blank : (i : ℕ) → said_at i u.journal ≡ None → m.cells i ≡ empty_word
  no_entry_blank i e = (it i Vacant (vacant_where (u.stage i) (said_at i u.journal) (m.cells i) (m.places i) (m.homes i) (u.order.bag i) (u.order.next i) (law.messages.stands i) e)).1.cell

  -- a parcel at home is a message's, or its cell is ready, whatever the stage of its number
  full_stage : (i : ℕ) (q : P) (s : Stage) → u.stage i ≡ s → m.homes i ≡ some (Some q) → ((x : Message) × (message_in (said_at i u.journal) ≡ Some x)) ⊎ ((m.cells i).cell ≡ a_cell.Ready)
  full_stage i q Vacant e home = absurd (let z = sym (it i Vacant e).1.slot ∙ home in cc)
  full_stage i q (InHand j Fresh) e home = inl (it i (InHand j Fresh) e).0
  full_stage i q (InHand j Placing) e home = let t = it i (InHand j Placing) e in inl (t.0, t.1)
  full_stage i q (InHand j (Flying k a)) e home = let t = it i (InHand j (Flying k a)) e in inl (t.0, t.1)
  full_stage i q (InHand j (Claiming c)) e home = inl (claimed_message c, (it i (InHand j (Claiming c)) e).0)
  full_stage i q (InHand j Emptying) e home = let t = it i (InHand j Emptying) e in inl (t.0, t.1)
  full_stage i q (InHand j Unposted) e home = absurd (let z = sym (it i (InHand j Unposted) e).1.slot ∙ home in cc)
  full_stage i q (InHand j Posting) e home = absurd (let z = sym (it i (InHand j Posting) e).3 ∙ home in cc)
  full_stage i q (InHand j Starting) e home = absurd (let z = sym (it i (InHand j Starting) e).3 ∙ home in cc)
  full_stage i q Armed e home = let t = it i Armed e in inl (t.0, t.1)
  full_stage i q Spent e home = let t = it i Spent e in inl (t.0, t.1)
  full_stage i q Posted e home = inr (ap (λ (w : Word). w.cell) (it i Posted e).1)
  full_stage i q Played e home = absurd (let z = sym (it i Played e).3 ∙ home in cc)

  -- a parcel at home is a message's, or its cell is ready
  pub full_home : (i : ℕ) (q : P) → m.homes i ≡ some (Some q) → ((x : Message) × (message_in (said_at i u.journal) ≡ Some x)) ⊎ ((m.cells i).cell ≡ a_cell.Ready)
  full_home i q home = full_stage i q (u.stage i) refl home
