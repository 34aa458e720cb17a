-- How a body evaluates expressions: from left to right, and each from the slots that those before it left.
use Rattle.std.specs.Prelude.{ℕ, List, [], ◌∷◌, false, true, slice_get}
use Rattle.chord_base.specs.declared.value.Value.{Value}
use Rattle.chord_base.specs.declared.value.Value.TheVariants.{Int, Flag, Text}
use Rattle.chord_base.specs.Operators.{compute, negated, denied}
use Rattle.chord_bodies.specs.Resolved.{ExprOf, ExprsOf, IntOf, FlagOf, TextOf, Load, This, Negate, Deny, Operate, Both, Either, New, Call, NoExprs, MoreExprs}
use Rattle.chord_source.specs.Continuing.{Continuation, Maker, on_computed, on_found, branch, call_on}

abbrev mutual
  -- An expression, and what follows from its value. Of calls it takes how much room there is below the depth limit, and of `new` what makes an object.
  pub evaluate : ℕ → Maker → ExprOf → (Value → Continuation) → Continuation
  evaluate room maker (IntOf n) k vs t = k (Int n) vs t
  evaluate room maker (FlagOf b) k vs t = k (Flag b) vs t
  evaluate room maker (TextOf bytes) k vs t = k (Text bytes) vs t
  evaluate room maker (Load i) k vs t = on_found (slice_get vs i) (λ v. k v vs t)
  evaluate room maker This k vs t = on_found (slice_get vs 0) (λ v. k v vs t)
  evaluate room maker (Negate e) k vs t = evaluate room maker e (λ x ws u. on_computed (negated x) (λ v. k v ws u)) vs t
  evaluate room maker (Deny e) k vs t = evaluate room maker e (λ x ws u. on_computed (denied x) (λ v. k v ws u)) vs t
  evaluate room maker (Operate op l r) k vs t = evaluate room maker l (λ x. evaluate room maker r (λ y ws u. on_computed (compute op x y) (λ v. k v ws u))) vs t
  -- the right operand of `&&` only where the left one is true
  evaluate room maker (Both l r) k vs t = evaluate room maker l (λ v ws u. branch v (evaluate room maker r k ws u) (k (Flag false) ws u)) vs t
  -- and of `||` only where it is false
  evaluate room maker (Either l r) k vs t = evaluate room maker l (λ v ws u. branch v (k (Flag true) ws u) (evaluate room maker r k ws u)) vs t
  evaluate room maker (New c args) k vs t = evaluate_all room maker args (λ xs ws u. maker c xs (λ v. k v ws) u) vs t
  -- the receiver, the arguments, and then the call
  evaluate room maker (Call e c j result args) k vs t = evaluate room maker e (λ o. evaluate_all room maker args (λ xs ws u. call_on room o j xs (λ v. k v ws u))) vs t

  -- arguments, the first one first
  pub evaluate_all : ℕ → Maker → ExprsOf → (List Value → Continuation) → Continuation
  evaluate_all room maker NoExprs k vs t = k [] vs t
  evaluate_all room maker (MoreExprs e es) k vs t = evaluate room maker e (λ x. evaluate_all room maker es (λ xs. k (x ∷ xs))) vs t
