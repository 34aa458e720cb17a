-- What a look at the head of a bag, or at a place word, tells of its moment.
use Rattle.std.specs.Prelude.{◌≡◌, ℕ, List, Option, Some, None}
use mathlib.Core.Option.{some}
use lib.ListN.{get_elem?}
use Rattle.chord_base.specs.Meaning.{Program}
use Rattle.chord_base.specs.Messages.{Message}
use Rattle.chord_base.specs.declared.event.Entry.{Entry}
use Rattle.chord_base.specs.declared.value.Value as value
use Rattle.chord_rule.specs.declared.view.View.{View}
use Rattle.chord_rule.specs.Messages.{SaysMessage}
use Rattle.chord_rule.specs.Moment.{Moment, Place, word_at_place}
use Rattle.chord_rule.specs.StandsFor.{Unseen}
use Rattle.chord_rule.specs.Ways.{WereLinked}
use Rattle.chord_rule.specs.Whole.{Whole}

-- at a moment under the rule, at which a desk had this view, the head was h, and these messages had been linked in its bag
pub record WasHead {P : Type 0} (entries : P → List Entry) (arguments : P → List value.Value) (keeps_to : P → Type 0) (p : Program) (n : ℕ) (v : View) (head : ℕ) (h : Option ℕ) (numbers : List ℕ) : Type 0 where
  pub moment : Moment P
  pub unseen : Unseen
  pub rule : Whole entries arguments keeps_to p n moment unseen
  pub desk : (j : ℕ) × (get_elem? moment.views j ≡ some v)
  pub read : moment.heads head ≡ h
  pub linked : WereLinked unseen.order head numbers

-- at a moment under the rule, at which a desk had this view, this word stood in the place word of the message i: no place is read exactly where it is 0, and a place that is read is the object and the method to which the journal has the message
pub record WasPlace {P : Type 0} (entries : P → List Entry) (arguments : P → List value.Value) (keeps_to : P → Type 0) (p : Program) (n : ℕ) (v : View) (i : ℕ) (place : Option Place) : Type 0 where
  pub moment : Moment P
  pub unseen : Unseen
  pub rule : Whole entries arguments keeps_to p n moment unseen
  pub desk : (j : ℕ) × (get_elem? moment.views j ≡ some v)
  pub read : moment.places i ≡ place
  pub word : ℕ
  pub stood : word ≡ word_at_place (moment.places i)
  pub unset : place ≡ None → word ≡ 0
  pub zero_unset : word ≡ 0 → place ≡ None
  pub message : (q : Place) → place ≡ Some q → (x : Message) × SaysMessage unseen.journal i x × (q ≡ (x.object, x.method))
