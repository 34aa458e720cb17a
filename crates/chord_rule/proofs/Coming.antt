-- What a desk keeps, and what comes to it, are places of the run.
use Rattle.std.proofs.Common.{◌≡◌, inl, inr, ⊎_elim, ℕ, ◌==◌, Bool, true, false, List, [], ◌∷◌, Option, Some, None, refl, sym, ap, ◌∙◌, subst, arith}
use mathlib.Core.Path.{Path}
use mathlib.Core.Option.{some}
use lib.ListN.{get_elem?}
use Rattle.chord_base.specs.Meaning.{Program}
use Rattle.chord_base.specs.Machine.{IsPast}
use Rattle.chord_base.specs.Messages.{Message, message_of, IsCall}
use Rattle.chord_base.specs.Story.{IsIn, IsSound, HasKind, kept}
use Rattle.chord_base.specs.declared.value.Value as value
use Rattle.chord_base.specs.declared.event.What.{What}
use Rattle.chord_base.specs.declared.event.What.TheVariants.{Begun, Made, Sent, Called, Printed, Fired, Ended}
use Rattle.chord_base.specs.declared.event.Entry.{Entry}
use Rattle.chord_base.proofs.Waits.{either}
use Rattle.chord_word.specs.declared.cells.Cell.TheVariants as a_cell
use Rattle.chord_rule.specs.declared.view.Claim.{Claim}
use Rattle.chord_rule.specs.declared.view.View.{View}
use Rattle.chord_rule.specs.Claims.{HasThe}
use Rattle.chord_rule.specs.Coming.{IsPlace, ArePlaces, ComesWithMessage, ComesWithFiring}
use Rattle.chord_rule.specs.Keeping.{desk, parcel, at_desk, at_home, kept_at}
use Rattle.chord_rule.specs.Moment.{Moment}
use Rattle.chord_rule.specs.Stages.{said_at, message_in, claimed_message}
use Rattle.chord_rule.specs.StandsFor.{Unseen, StandsForJournal}
use Rattle.chord_rule.proofs.Keeping.{desk_keeps, parcel_keeps}
use Rattle.chord_rule.proofs.Standing as standing
use Rattle.chord_rule.proofs.Waiting as waiting

-- each entry of a sound program's run has the kind of its method
in_run : (p : Program) → IsSound p → (h : List Entry) → IsPast p h → (e : Entry) → IsIn e h → HasKind p e.what
in_run p sound [] past e there = absurd there
in_run p sound (x ∷ h) past e (inl same) = subst (λ (y : Entry). HasKind p y.what) (sym same) (sound.kinds h x past)
in_run p sound (x ∷ h) past e (inr there) = in_run p sound h past.0 e there

-- an entry that says a message to a synchronous method is a call
called : (p : Program) (e : Entry) (w : What) (x : Message) → e.what ≡ w → HasKind p w → message_of w ≡ Some x → p.is_sync x.object.class x.method ≡ true → IsCall e.number e
called p e (Called o j vs) x is kind says sync = (refl, (o, j, vs, is))
called p e (Sent o j vs) x is kind says sync =
    let t : Some (record { object = o; method = j; arguments = vs }) ≡ Some x = says in
    let same : record { object = o; method = j; arguments = vs } ≡ x = cc in
    let z : false ≡ true = sym kind ∙ ap (λ (y : Message). p.is_sync y.object.class y.method) same ∙ sync in cc
called p e Begun x is kind says sync = (let z : Path (Option Message) None (Some x) = says in cc)
called p e (Made c) x is kind says sync = (let z : Path (Option Message) None (Some x) = says in cc)
called p e (Printed t) x is kind says sync = (let z : Path (Option Message) None (Some x) = says in cc)
called p e (Fired k o ms vs) x is kind says sync = (let z : Path (Option Message) None (Some x) = says in cc)
called p e (Ended y) x is kind says sync = (let z : Path (Option Message) None (Some x) = says in cc)

-- an entry of a history that is kept in a place is an entry of the history
kept_there : (keep : ℕ → Bool) (h : List Entry) (e : Entry) → IsIn e (kept keep h) → IsIn e h
kept_there keep [] e there = absurd there
kept_there keep (x ∷ h) e there = elim (either (keep x.number)) [
  | inl y ↦ ⊎_elim (λ same. inl same) (λ k. inr (kept_there keep h e k)) (rw y at there)
  | inr o ↦ inr (kept_there keep h e (rw o at there))
]

module _ {P : Type 0} (entries : P → List Entry) (arguments : P → List value.Value) (keeps_to : P → Type 0) (p : Program) (n : ℕ) (m : Moment P) (u : Unseen) (law : StandsForJournal entries arguments keeps_to p n m u) where
  -- what a desk keeps is a place of the run
  pub desk_place : (id : ℕ) (v : View) → get_elem? m.views id ≡ some v → IsPlace p v.kept
  desk_place id v at = record {
    run = u.journal;
    view = kept_at entries m.views m.homes;
    merged = law.keeping.merged;
    place = desk id;
    is = desk_keeps entries m.views m.homes id ∙ ap at_desk at;
  }

  -- what a desk keeps and what a parcel at home keeps are two places of it
  pub parcel_place : (id : ℕ) (v : View) → get_elem? m.views id ≡ some v → (i : ℕ) (q : P) → m.homes i ≡ some (Some q) → ArePlaces p v.kept (entries q)
  parcel_place id v at i q home = record {
    run = u.journal;
    view = kept_at entries m.views m.homes;
    merged = law.keeping.merged;
    place = desk id;
    other = parcel i;
    apart = λ e. omega (arith, e);
    is = desk_keeps entries m.views m.homes id ∙ ap at_desk at;
    other_is = parcel_keeps entries m.views m.homes i ∙ ap (at_home entries) home;
  }

  -- the message of the journal that an entry of this number says is a call where its method is synchronous
  call_in : IsSound p → (i : ℕ) (x : Message) (o : Option What) → said_at i u.journal ≡ o → message_in o ≡ Some x → p.is_sync x.object.class x.method ≡ true → (e : Entry) × IsIn e u.journal × IsCall i e
  call_in sound i x None is says sync = (let z : Path (Option Message) None (Some x) = says in cc)
  call_in sound i x (Some w) is says sync =
      let t = waiting.what_entry u.journal i w is in (
        t.0,
        t.1,
        subst (λ (k : ℕ). IsCall k t.0) t.2
            (called p t.0 w x t.3 (subst (HasKind p) t.3 (in_run p sound u.journal law.keeping.merged.past t.0 t.1)) says sync),
      )

  -- what the parcel of a claimed message brings
  pub comes_with_message : IsSound p → (id : ℕ) (v : View) → get_elem? m.views id ≡ some v → (c : Claim) (q : P) → HasThe c v.claims → m.homes c.number ≡ some (Some q) → ComesWithMessage p v.kept c (entries q)
  comes_with_message sound id v at c q has home =
      let says : message_in (said_at c.number u.journal) ≡ Some (claimed_message c) = standing.claim_says entries arguments keeps_to p n m u law id v at c has in
      let sent = law.parcels.sent c.number q (claimed_message c) home says in record {
        places = parcel_place id v at c.number q home;
        parked = sent.parked;
        sent = λ plain e there call.
            let inside : IsIn e u.journal = kept_there (λ k. law.keeping.merged.at k == parcel c.number) u.journal e (subst (IsIn e) (sym (law.keeping.merged.keeps (parcel c.number) ∙ parcel_keeps entries m.views m.homes c.number ∙ ap (at_home entries) home)) there) in
            let what : said_at c.number u.journal ≡ Some (Called call.1.0 call.1.1 call.1.2) = subst (λ (k : ℕ). said_at k u.journal ≡ Some (Called call.1.0 call.1.1 call.1.2)) call.0 ((waiting.what_is p u.journal e law.keeping.merged.past inside).0 ∙ ap Some call.1.3) in
            let message : ◌≡◌ {A = Option Message} (Some (record { object = call.1.0; method = call.1.1; arguments = call.1.2 })) (Some (claimed_message c)) = sym (ap message_in what) ∙ says in
            let same : record { object = call.1.0; method = call.1.1; arguments = call.1.2 } ≡ claimed_message c = cc in
            let kind : HasKind p (Called call.1.0 call.1.1 call.1.2) = subst (HasKind p) call.1.3 (in_run p sound u.journal law.keeping.merged.past e inside) in
            let z : true ≡ false = sym kind ∙ ap (λ (y : Message). p.is_sync y.object.class y.method) same ∙ plain in cc;
        call = λ sync. let t = call_in sound c.number (claimed_message c) (said_at c.number u.journal) refl says sync in (t.0, sent.call t.0 t.1 t.2, t.2);
      }

  -- what the parcel of a ready firing brings
  pub comes_with_firing : (id : ℕ) (v : View) → get_elem? m.views id ≡ some v → (f : ℕ) (q : P) → (m.cells f).cell ≡ a_cell.Ready → m.homes f ≡ some (Some q) → ComesWithFiring p v.kept f (entries q)
  comes_with_firing id v at f q ready home = let fired = (standing.ready_comes entries arguments keeps_to p n m u law f q ready home).0 in record {
    places = parcel_place id v at f q home;
    begins = fired.begins;
    only = fired.only;
    parked = fired.parked;
  }
