-- Each kind of step keeps what parcels at home hold.
use Rattle.std.proofs.Common.{◌≡◌, ◌≢◌, inr, ⊎_elim, ℕ, List, [], ◌∷◌, refl, sym, ap, ◌∙◌, subst, arith, Option, Some, None, IsSome, ne_eqb}
use mathlib.Core.Option.{some, some-injective}
use Rattle.chord_base.specs.Meaning.{Program}
use Rattle.chord_base.specs.Machine.{IsPast}
use Rattle.chord_base.specs.Messages.{Message, message_of}
use Rattle.chord_base.specs.Story.{IsIn}
use Rattle.chord_base.specs.declared.value.Value as value
use Rattle.chord_base.specs.declared.event.What.{What}
use Rattle.chord_base.specs.declared.event.Entry.{Entry}
use Rattle.chord_rule.specs.Moment.{Home}
use Rattle.chord_rule.specs.Stages.{said_at, message_in, IsFiringEntry}
use Rattle.chord_rule.specs.Parcels.{AreLinked, IsSentParcel, IsFiredParcel, Parcels}
use Rattle.chord_rule.proofs.Puts.{put, put_all}
use Rattle.chord_rule.proofs.Waiting.{what_is, no_message}

-- entries of a past with one number are one
pub same_entry : (p : Program) (h : List Entry) (e f : Entry) → IsPast p h → IsIn e h → IsIn f h → e.number ≡ f.number → e ≡ f
same_entry p [] e f r i j q = absurd i
same_entry p (x ∷ h) e f r i j q = ⊎_elim
    (λ a. ⊎_elim (λ b. a ∙ sym b) (λ b. let l = (what_is p h f r.0 b).1 in let n = r.1.numbered in let k = ap (λ (z : Entry). z.number) a in absurd (omega arith)) j)
    (λ a. ⊎_elim (λ b. let l = (what_is p h e r.0 a).1 in let n = r.1.numbered in let k = ap (λ (z : Entry). z.number) b in absurd (omega arith)) (λ b. same_entry p h e f r.0 a b q) j) i

-- where an entry sends a message there is one
pub some_message : (w : What) → IsSome (message_of w) → (x : Message) × (message_of w ≡ Some x)
some_message w s = go (message_of w) refl s
  where
    go : (o : Option Message) → message_of w ≡ o → IsSome o → (x : Message) × (message_of w ≡ Some x)
    go None e t = absurd (let z = t in cc)
    go (Some x) e t = (x, e)

-- what was linked stays linked
pub still_linked : (bag : ℕ → Option ℕ) (i k : ℕ) (es : List Entry) → AreLinked bag es → AreLinked (put bag i (Some k)) es
still_linked bag i k es l e is s = put_all bag i (Some k) (λ j y. IsSome (bag j) → IsSome y) e.number (λ _. refl) (λ ne t. t) (l e is s)

module _ {P : Type 0} (entries : P → List Entry) (arguments : P → List value.Value) (keeps_to : P → Type 0) (p : Program) (h : List Entry) (homes : ℕ → Home P) (bag : ℕ → Option ℕ) (law : Parcels entries arguments keeps_to p h homes bag) where
  -- a slot that gets no parcel: place, consume, start, and each slot that comes home empty
  pub parcels_without : (i : ℕ) (y : Home P) → ((q : P) → y ≡ some (Some q) → ⊥) → Parcels entries arguments keeps_to p h (put homes i y) bag
  parcels_without i y empty = record {
    sent = λ j q m home says. law.sent j q m (old j q home) says;
    fired = λ j q home is. law.fired j q (old j q home) is;
    task = λ j q home. law.task j q (old j q home);
  }
    where
      old : (j : ℕ) (q : P) → put homes i y j ≡ some (Some q) → homes j ≡ some (Some q)
      old j q e = put_all homes i y (λ j z. z ≡ some (Some q) → homes j ≡ some (Some q)) j (λ z. absurd (empty q z)) (λ ne z. z) e

  -- a message is linked, with its parcel
  pub parcels_link : (i k : ℕ) (q : P) (m : Message) → message_in (said_at i h) ≡ Some m → IsSentParcel p h (put bag i (Some k)) i (entries q) (arguments q) → keeps_to q → Parcels entries arguments keeps_to p h (put homes i (some (Some q))) (put bag i (Some k))
  parcels_link i k q m says new keeps = record {
    sent = λ j r n home is. put_all homes i (some (Some q)) (λ j z. z ≡ some (Some r) → message_in (said_at j h) ≡ Some n → IsSentParcel p h (put bag i (Some k)) j (entries r) (arguments r)) j
        (λ e _. subst (λ (z : P). IsSentParcel p h (put bag i (Some k)) i (entries z) (arguments z)) (same r e) new)
        (λ ne e is. let s = law.sent j r n e is in record { holds = s.holds; parked = s.parked; call = s.call; linked = still_linked bag i k (entries r) s.linked }) home is;
    fired = λ j r home is. put_all homes i (some (Some q)) (λ j z. z ≡ some (Some r) → IsFiringEntry (said_at j h) → IsFiredParcel p (put bag i (Some k)) j (entries r)) j
        (λ e f. absurd (both (said_at i h) says f))
        (λ ne e is. let s = law.fired j r e is in record { begins = s.begins; only = s.only; parked = s.parked; linked = still_linked bag i k (entries r) s.linked }) home is;
    task = λ j r home. put_all homes i (some (Some q)) (λ j z. z ≡ some (Some r) → keeps_to r) j (λ e. subst keeps_to (same r e) keeps) (λ ne e. law.task j r e) home;
  }
    where
      same : (r : P) → some (Some q) ≡ some (Some r) → q ≡ r
      same r e = let z : Some q ≡ Some r = some-injective (Some q) (Some r) e in cc

      both : (w : Option What) → message_in w ≡ Some m → IsFiringEntry w → ⊥
      both w e f = no_message w m (inr f) e

  -- a firing is posted, with its parcel
  pub parcels_post : (f : ℕ) (q : P) → IsFiringEntry (said_at f h) → IsFiredParcel p bag f (entries q) → keeps_to q → Parcels entries arguments keeps_to p h (put homes f (some (Some q))) bag
  parcels_post f q firing new keeps = record {
    sent = λ j r n home is. put_all homes f (some (Some q)) (λ j z. z ≡ some (Some r) → message_in (said_at j h) ≡ Some n → IsSentParcel p h bag j (entries r) (arguments r)) j
        (λ e is. absurd (no_message (said_at f h) n (inr firing) is)) (λ ne e is. law.sent j r n e is) home is;
    fired = λ j r home is. put_all homes f (some (Some q)) (λ j z. z ≡ some (Some r) → IsFiringEntry (said_at j h) → IsFiredParcel p bag j (entries r)) j
        (λ e _. subst (λ (z : P). IsFiredParcel p bag f (entries z)) (same r e) new) (λ ne e is. law.fired j r e is) home is;
    task = λ j r home. put_all homes f (some (Some q)) (λ j z. z ≡ some (Some r) → keeps_to r) j (λ e. subst keeps_to (same r e) keeps) (λ ne e. law.task j r e) home;
  }
    where
      same : (r : P) → some (Some q) ≡ some (Some r) → q ≡ r
      same r e = let z : Some q ≡ Some r = some-injective (Some q) (Some r) e in cc

  -- an entry is drawn, at a number that has no parcel
  pub parcels_draw : (e : Entry) → ((q : P) → homes e.number ≡ some (Some q) → ⊥) → Parcels entries arguments keeps_to p (e ∷ h) homes bag
  parcels_draw e none_there = record {
    sent = λ j q m home says. let s = law.sent j q m home (sym (ap message_in (what_old j (apart j q home))) ∙ says) in record {
      holds = λ m says. s.holds m (sym (ap message_in (what_old j (apart j q home))) ∙ says);
      parked = s.parked;
      call = λ f is call. ⊎_elim (λ z. absurd (apart j q home (sym call.0 ∙ ap (λ (y : Entry). y.number) z))) (λ old. s.call f old call) is;
      linked = s.linked;
    };
    fired = λ j q home is. law.fired j q home (subst IsFiringEntry (what_old j (apart j q home)) is);
    task = law.task;
  }
    where
      apart : (j : ℕ) (q : P) → homes j ≡ some (Some q) → j ≢ e.number
      apart j q home z = none_there q (sym (ap homes z) ∙ home)

      what_old : (j : ℕ) → j ≢ e.number → said_at j (e ∷ h) ≡ said_at j h
      what_old j ne = rw (ne_eqb e.number j (λ q. ne (sym q))) refl
