-- The newest message, which stands apart from the stacks of a bag.
use Rattle.std.proofs.Common.{◌≡◌, ℕ, true, false, List, ◌∷◌, Option, Some, None, refl, sym, ap, ◌∙◌}
use Rattle.std.specs.Prelude.{if◌then◌else◌}
use Rattle.chord_lists.specs.declared.bag.Noted.{Noted}
use Rattle.chord_lists.specs.Bag.{Address, address_to, same_address, is_apart, first_comes, IsPopped}
use Rattle.chord_lists.proofs.Bags.{same_is}

-- the message that stands apart comes first at its address
pub apart_first : (newest : Option Noted) (k : Address) (ns : List ℕ) → is_apart newest k ≡ true → (noted : Noted) × (newest ≡ Some noted) × (first_comes newest k ns ≡ noted.number ∷ ns)
apart_first None k ns e = (let z : false ≡ true = e in cc)
apart_first (Some noted) k ns e = (noted, refl, rw e refl)

-- at other addresses the stacks have all
pub apart_others : (newest : Option Noted) (k : Address) (ns : List ℕ) → is_apart newest k ≡ false → first_comes newest k ns ≡ ns
apart_others None k ns e = refl
apart_others (Some noted) k ns e = rw e refl

-- one more message, where the one before went to its stack
pub noted_before : (old : Option Noted) (noted before : Noted) (i : Address) (ns ns' : List ℕ) → old ≡ Some before → ns' ≡ (if same_address (address_to before.object before.method) i then before.number ∷ ns else ns) → first_comes (Some noted) i ns' ≡ (if same_address (address_to noted.object noted.method) i then noted.number ∷ first_comes old i ns else first_comes old i ns)
noted_before old noted before i ns ns' e q = rw (e, q) refl

-- one more message, where none stood apart
pub newest_first : (old : Option Noted) (noted : Noted) (i : Address) (ns : List ℕ) → old ≡ None → first_comes (Some noted) i ns ≡ (if same_address (address_to noted.object noted.method) i then noted.number ∷ first_comes old i ns else first_comes old i ns)
newest_first old noted i ns e = rw e refl

-- an address is no other one
apart_from : (a k i : Address) → same_address a k ≡ true → same_address k i ≡ false → same_address a i ≡ false
apart_from a k i e q = ap (λ z. same_address z i) (same_is a k e) ∙ q

-- the message that stands apart is taken
pub apart_taken : (old new : Option Noted) (k : Address) (stacked : Address → List ℕ) (noted : Noted) → is_apart old k ≡ true → old ≡ Some noted → new ≡ None → IsPopped k noted.number (λ i. first_comes old i (stacked i)) (λ i. first_comes new i (stacked i))
apart_taken old new k stacked noted e s n =
    let same : same_address (address_to noted.object noted.method) k ≡ true = ap (λ z. is_apart z k) (sym s) ∙ e in
    record {
      here = rw (s, n, same) refl;
      others = λ i q. let other = apart_from (address_to noted.object noted.method) k i same q in rw (s, n, other) refl;
    }

-- a message is taken from its stack
pub stack_taken : (newest : Option Noted) (k : Address) (n : ℕ) (old new : Address → List ℕ) → is_apart newest k ≡ false → IsPopped k n old new → IsPopped k n (λ i. first_comes newest i (old i)) (λ i. first_comes newest i (new i))
stack_taken newest k n old new e p =
    record {
      here = apart_others newest k (old k) e ∙ p.here ∙ ap (λ z. n ∷ z) (sym (apart_others newest k (new k) e));
      others = λ i q. ap (first_comes newest i) (p.others i q);
    }

-- one message at most stood apart
pub one_apart : (before noted : Noted) → Some before ≡ Some noted → before ≡ noted
one_apart before noted same = cc

-- where none stood apart, none is the one that did
pub none_apart : (old : Option Noted) (noted : Noted) → old ≡ None → old ≡ Some noted → ⊥
none_apart old noted lacks stood = (let z : None ≡ Some noted = sym lacks ∙ stood in cc)
