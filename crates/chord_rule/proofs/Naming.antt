-- What is linked in a bag, or has a place word, is a message of the journal.
use Rattle.std.proofs.Common.{◌≡◌, ℕ, List, Option, Some, None, refl, sym, ap, ◌∙◌, subst, arith}
use mathlib.Core.Path.{Path}
use Rattle.chord_base.specs.declared.event.What.{What}
use Rattle.chord_base.specs.declared.event.Entry.{Entry}
use Rattle.chord_base.specs.Messages.{Message, message_of}
use Rattle.chord_base.specs.Story.{IsIn}
use Rattle.chord_word.specs.declared.cells.Word.{Word}
use Rattle.chord_rule.specs.Moment.{Home, Place, word_at_place}
use Rattle.chord_rule.specs.Bags.{LinkOrder}
use Rattle.chord_rule.specs.Messages.{IsLinked, SaysMessage, Stands, Messages}
use Rattle.chord_rule.specs.Stages.{Fresh, Placing, Flying, Claiming, Emptying, Unposted, Posting, Starting, Stage, Vacant, InHand, Armed, Spent, Posted, Played, said_at, message_in, claimed_message}
use Rattle.chord_rule.proofs.Lists.{some_is}
use Rattle.chord_rule.proofs.Waiting.{what_entry}

-- what has a number, and is a message, is that of an entry
pub says_message : (h : List Entry) (i : ℕ) (x : Message) → message_in (said_at i h) ≡ Some x → SaysMessage h i x
says_message h i x says = with_entry (said_at i h) refl says
  where
    with_entry : (w : Option What) → said_at i h ≡ w → message_in w ≡ Some x → (e : Entry) × IsIn e h × (e.number ≡ i) × (message_of e.what ≡ Some x)
    with_entry None e s = absurd (let z : Path (Option Message) None (Some x) = s in cc)
    with_entry (Some w) e s = let t = what_entry h i w e in (t.0, t.1, t.2, ap message_of t.3 ∙ s)

-- a place word that is 0 is no place
pub zero_unset : (place : Option Place) → word_at_place place ≡ 0 → place ≡ None
zero_unset None e = refl
zero_unset (Some q) e = absurd (omega (arith, e))

-- some is not none
apart : {A : Type 0} (x : A) (o : Option A) → o ≡ None → o ≡ Some x → ⊥
apart {A = A} x o a b = let z : Path (Option A) None (Some x) = sym a ∙ b in cc

module _ {P : Type 0} (h : List Entry) (cells : ℕ → Word) (places : ℕ → Option Place) (homes : ℕ → Home P) (o : LinkOrder) (stage : ℕ → Stage) (messages : Messages h cells places homes o stage) where
  -- each number is in its stage
  it : (i : ℕ) (s : Stage) → stage i ≡ s → Stands s (said_at i h) (cells i) (places i) (homes i) (o.bag i) (o.next i)
  it i s e = subst (λ (z : Stage). Stands z (said_at i h) (cells i) (places i) (homes i) (o.bag i) (o.next i)) e (messages.stands i)

  -- what is linked in a bag is a message that is linked in the bag of its object and method
  pub linked_is : (i k : ℕ) → o.bag i ≡ Some k → (x : Message) × (message_in (said_at i h) ≡ Some x) × IsLinked x (places i) (o.bag i)
  linked_is i k b = go (stage i) refl
    where
      go : (s : Stage) → stage i ≡ s → (x : Message) × (message_in (said_at i h) ≡ Some x) × IsLinked x (places i) (o.bag i)
      go Vacant e = absurd (apart k (o.bag i) (it i Vacant e).1.unlinked b)
      go (InHand j Fresh) e = absurd (apart k (o.bag i) (it i (InHand j Fresh) e).1.unlinked b)
      go (InHand j Placing) e = absurd (apart k (o.bag i) (it i (InHand j Placing) e).5 b)
      go (InHand j (Flying a c)) e = let t = it i (InHand j (Flying a c)) e in (t.0, t.1, t.2)
      go (InHand j (Claiming c)) e = let t = it i (InHand j (Claiming c)) e in (claimed_message c, t.0, t.1)
      go (InHand j Emptying) e = let t = it i (InHand j Emptying) e in (t.0, t.1, t.2)
      go (InHand j Unposted) e = absurd (apart k (o.bag i) (it i (InHand j Unposted) e).1.unlinked b)
      go (InHand j Posting) e = absurd (apart k (o.bag i) (it i (InHand j Posting) e).4 b)
      go (InHand j Starting) e = absurd (apart k (o.bag i) (it i (InHand j Starting) e).4 b)
      go Armed e = let t = it i Armed e in (t.0, t.1, t.2)
      go Spent e = let t = it i Spent e in (t.0, t.1, t.2)
      go Posted e = absurd (apart k (o.bag i) (it i Posted e).4 b)
      go Played e = absurd (apart k (o.bag i) (it i Played e).4 b)

  -- what has a place word is a message to that object and method
  pub placed_is : (i : ℕ) (q : Place) → places i ≡ Some q → (x : Message) × (message_in (said_at i h) ≡ Some x) × (q ≡ (x.object, x.method))
  placed_is i q b = go (stage i) refl
    where
      of : (x : Message) → message_in (said_at i h) ≡ Some x → places i ≡ Some (x.object, x.method) → (x : Message) × (message_in (said_at i h) ≡ Some x) × (q ≡ (x.object, x.method))
      of x says placed = (x, says, some_is q (x.object, x.method) (sym b ∙ placed))

      go : (s : Stage) → stage i ≡ s → (x : Message) × (message_in (said_at i h) ≡ Some x) × (q ≡ (x.object, x.method))
      go Vacant e = absurd (apart q (places i) (it i Vacant e).1.unplaced b)
      go (InHand j Fresh) e = absurd (apart q (places i) (it i (InHand j Fresh) e).1.unplaced b)
      go (InHand j Placing) e = let t = it i (InHand j Placing) e in of t.0 t.1 t.3
      go (InHand j (Flying a c)) e = let t = it i (InHand j (Flying a c)) e in of t.0 t.1 t.2.placed
      go (InHand j (Claiming c)) e = let t = it i (InHand j (Claiming c)) e in of (claimed_message c) t.0 t.1.placed
      go (InHand j Emptying) e = let t = it i (InHand j Emptying) e in of t.0 t.1 t.2.placed
      go (InHand j Unposted) e = absurd (apart q (places i) (it i (InHand j Unposted) e).1.unplaced b)
      go (InHand j Posting) e = absurd (apart q (places i) (it i (InHand j Posting) e).2 b)
      go (InHand j Starting) e = absurd (apart q (places i) (it i (InHand j Starting) e).2 b)
      go Armed e = let t = it i Armed e in of t.0 t.1 t.2.placed
      go Spent e = let t = it i Spent e in of t.0 t.1 t.2.placed
      go Posted e = absurd (apart q (places i) (it i Posted e).2 b)
      go Played e = absurd (apart q (places i) (it i Played e).2 b)
