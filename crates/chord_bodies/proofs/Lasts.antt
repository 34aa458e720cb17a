-- The last operator and the last call of a chain, by the place of the last element.
use Rattle.std.proofs.Common.{◌≡◌, suc, ◌-◌, List, [], ◌∷◌, length, map, refl, sym, ap, ◌∙◌, Option, Some, None, slice_get, arith}
use Rattle.chord_bodies.specs.declared.expr.BinaryOperator.{BinaryOperator}
use Rattle.chord_bodies.specs.declared.expr.Link.{Link}
use Rattle.chord_bodies.specs.declared.expr.Call.{Call}
use Rattle.chord_base.specs.declared.static_type.StaticType.{StaticType}
use Rattle.chord_bodies.specs.View.{view_link, view_call}
use Rattle.chord_bodies.specs.Chains.{last_link, last_call}

module _ {A B : Type 0} (f : A → B) where
  -- what the last element gives, or this
  abbrev last_by : B → List A → B
  last_by b [] = b
  last_by b (x ∷ xs) = last_by (f x) xs

  -- the last element stands at the place before the length
  last_there : (b : B) (xs : List A) (x : A) → slice_get xs (length xs - 1) ≡ Some x → last_by b xs ≡ f x
  last_there b [] x h = cc
  last_there b (y ∷ []) x h = cc
  last_there b (y ∷ z ∷ zs) x h =
      let here : length (y ∷ z ∷ zs) - 1 ≡ suc (length (z ∷ zs) - 1) = omega arith in
      last_there (f y) (z ∷ zs) x (sym (ap (slice_get (y ∷ z ∷ zs)) here) ∙ h)

  -- where nothing stands there, there is no element
  last_absent : (b : B) (xs : List A) → slice_get xs (length xs - 1) ≡ None → last_by b xs ≡ b
  last_absent b [] h = refl
  last_absent b (y ∷ []) h = cc
  last_absent b (y ∷ z ∷ zs) h =
      let here : length (y ∷ z ∷ zs) - 1 ≡ suc (length (z ∷ zs) - 1) = omega arith in
      absurd (none_absent y z zs (sym (ap (slice_get (y ∷ z ∷ zs)) here) ∙ h))
    where
      none_absent : (y z : A) (zs : List A) → slice_get (z ∷ zs) (length (z ∷ zs) - 1) ≡ None → ⊥
      none_absent y z [] h = cc
      none_absent y z (w ∷ ws) h =
          let here : length (z ∷ w ∷ ws) - 1 ≡ suc (length (w ∷ ws) - 1) = omega arith in
          none_absent z w ws (sym (ap (slice_get (z ∷ w ∷ ws)) here) ∙ h)

-- the operator of a link
abbrev operator_of : Link → BinaryOperator
operator_of link = (view_link link).operator

-- the result of a call
abbrev result_of : Call → Option StaticType
result_of call = (view_call call).result

-- the last operator of links in memory is what the last element gives
links_last : (operator : BinaryOperator) (links : List Link) → last_link operator (map view_link links) ≡ last_by operator_of operator links
links_last operator [] = refl
links_last operator (link ∷ more) = links_last (operator_of link) more

-- the result of the last of calls in memory is what the last element gives
calls_last : (result : Option StaticType) (calls : List Call) → last_call result (map view_call calls) ≡ last_by result_of result calls
calls_last result [] = refl
calls_last result (call ∷ more) = calls_last (result_of call) more

-- the operator of a chain is that of its last link
pub last_link_there : (operator : BinaryOperator) (links : List Link) (link : Link) → slice_get links (length links - 1) ≡ Some link → last_link operator (map view_link links) ≡ operator_of link
last_link_there operator links link h = links_last operator links ∙ last_there operator_of operator links link h

-- the operator of a chain of one link is its own
pub last_link_absent : (operator : BinaryOperator) (links : List Link) → slice_get links (length links - 1) ≡ None → last_link operator (map view_link links) ≡ operator
last_link_absent operator links h = links_last operator links ∙ last_absent operator_of operator links h

-- the result of a chain of calls is that of its last call
pub last_call_there : (result : Option StaticType) (calls : List Call) (call : Call) → slice_get calls (length calls - 1) ≡ Some call → last_call result (map view_call calls) ≡ result_of call
last_call_there result calls call h = calls_last result calls ∙ last_there result_of result calls call h

-- the result of a chain of one call is its own
pub last_call_absent : (result : Option StaticType) (calls : List Call) → slice_get calls (length calls - 1) ≡ None → last_call result (map view_call calls) ≡ result
last_call_absent result calls h = calls_last result calls ∙ last_absent result_of result calls h
