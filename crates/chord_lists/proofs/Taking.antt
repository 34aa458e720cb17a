-- What a firing takes from the bag.
use Rattle.std.proofs.Common.{◌≡◌, ℕ, zero, suc, List, [], ◌∷◌, ◌++◌, length, Option, Some, None, refl, ap, ◌∙◌, arith, length-append}
use Rattle.std.specs.Prelude.{slice_get}
use Rattle.chord_base.specs.declared.value.Object.{Object}
use Rattle.chord_base.specs.declared.value.Value as value
use Rattle.chord_base.specs.declared.event.Entry.{Entry}
use Rattle.chord_base.specs.Messages.{AreDifferent, Message, pending}
use Rattle.chord_base.specs.Machine.{Takes}
use Rattle.chord_lists.specs.Bag.{Address, address_to, HasMessage, HasMessages, LacksMessage, IsPopped, ArePopped, Lists}
use Rattle.chord_lists.proofs.Bags.{message_to, lists_lack, lists_less, popped_there, held_before, without, taken_more, has_all_kept}

-- of these messages, what goes from the bag is taken, with some arguments
takes_held : (h : List Entry) (held : ℕ → Option Message) (n : ℕ) (o : Object) (js ms : List ℕ) (old new : Address → List ℕ)
    → ((i : ℕ) (m : Message) → held i ≡ Some m → pending i h ≡ Some m) → Lists held n old → ArePopped o js ms old new
    → (vs : List value.Value) × Takes h o js ms vs
takes_held h held n o [] [] old new f s t = ([], refl)
takes_held h held n o [] (i ∷ ms) old new f s t = absurd t
takes_held h held n o (j ∷ js) [] old new f s t = absurd t
takes_held h held n o (j ∷ js) (i ∷ ms) old new f s t =
    let m = popped_there held n i (address_to o j) old t.0 s t.1 in
    let one = lists_less held n i (address_to o j) old t.0 s t.1 in
    let rest = takes_held h (without i held) n o js ms t.0 new (λ k x e. f k x (held_before held i k x e).1) one t.2 in
    (m.0.arguments ++ rest.0, (m.0.arguments, rest.0, f i m.0 m.1 ∙ ap Some (message_to m.0 o j m.2), refl, rest.1))

-- what goes from a bag of the pending messages is taken
pub pops_pending : (h : List Entry) (n : ℕ) (o : Object) (js ms : List ℕ) (old new : Address → List ℕ) → Lists (λ i. pending i h) n old
    → ArePopped o js ms old new → (vs : List value.Value) × Takes h o js ms vs
pops_pending h n o js ms old new s t = takes_held h (λ i. pending i h) n o js ms old new (λ i m e. e) s t

-- a method that has no message in the bag fires no chord
pub lacks_fires : (h : List Entry) (n : ℕ) (index : Address → List ℕ) (o : Object) (js ms : List ℕ) (vs : List value.Value) (k j : ℕ)
    → Lists (λ i. pending i h) n index → slice_get js k ≡ Some j → LacksMessage o j index → Takes h o js ms vs → ⊥
lacks_fires h n index o [] ms vs k j s g l t = let z : ◌≡◌ {A = Option ℕ} None (Some j) = g in cc
lacks_fires h n index o (j' ∷ js) [] vs k j s g l t = t
lacks_fires h n index o (j' ∷ js) (i ∷ ms) vs zero j s g l t =
    let same : j' ≡ j = cc in
    lists_lack (λ m. pending m h) n index o j i (record { object = o; method = j'; arguments = t.0 }) s l t.2 (ap (address_to o) same)
lacks_fires h n index o (j' ∷ js) (i ∷ ms) vs (suc k) j s g l t = lacks_fires h n index o js ms t.1 k j s g l t.4

-- what the loop has taken so far, of the first methods, and what it still needs, of the rest
pub record Taking (old : Address → List ℕ) (o : Object) (js rest ms : List ℕ) (index : Address → List ℕ) : Type 0 where
  pub taken : ArePopped o js ms old index
  pub all : HasMessages o rest index
  pub different : AreDifferent rest
  pub as_many : length ms ≡ length js

-- one more member is popped from the bag of its method
pub taking_turn : (old between new : Address → List ℕ) (o : Object) (js rest ms : List ℕ) (j i : ℕ) → Taking old o js (j ∷ rest) ms between
    → IsPopped (address_to o j) i between new → Taking old o (js ++ j ∷ []) rest (ms ++ i ∷ []) new
taking_turn old between new o js rest ms j i t p =
    record {
      taken = taken_more o js ms j i old between new t.taken p;
      all = has_all_kept o j i rest between new t.different.0 p t.all.1;
      different = t.different.1;
      as_many = omega (arith, length-append ms (i ∷ []), length-append js (j ∷ []), t.as_many);
    }

-- a bag that has messages to some methods, and one to a further method, has messages to all of these
pub has_all_more : (o : Object) (js : List ℕ) (index : Address → List ℕ) (j : ℕ) → HasMessages o js index → HasMessage o j index → HasMessages o (js ++ j ∷ []) index
has_all_more o [] index j a i = (i, tt)
has_all_more o (j' ∷ js) index j a i = (a.0, has_all_more o js index j a.1 i)
