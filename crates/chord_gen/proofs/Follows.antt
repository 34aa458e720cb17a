-- The code of expressions and statements does what they do in the source.
use Rattle.std.proofs.Common.{◌≡◌, ℕ, zero, suc, ◌+◌, List, [], ◌∷◌, ◌++◌, Bool, true, false, Some, None, length, refl, sym, ◌∙◌, ap, subst, arith, length-append, slice_get}
use Rattle.chord_base.specs.declared.value.Value.{Value}
use Rattle.chord_base.specs.declared.value.Value.TheVariants.{Int, Flag, Text}
use Rattle.chord_base.specs.declared.event.End.TheVariants.{Gives}
use Rattle.chord_code.specs.declared.instruction.Instruction.{Instruction}
use Rattle.chord_code.specs.declared.instruction.Instruction.TheVariants as i
use Rattle.chord_code.specs.declared.parts.Parts.{Parts}
use Rattle.chord_base.specs.Operators.{compute, negated, denied, text_of}
use Rattle.chord_base.specs.declared.operation.Operation.{Operation}
use Rattle.chord_base.specs.declared.operation.Operation.TheVariants as op
use Rattle.chord_code.specs.Slots.{set_slot}
use Rattle.chord_code.specs.Machine.{Frame, Machine, fetch, operate, loads, stores, call_by, send_by, act, step}
use Rattle.chord_code.specs.Plays.{Play, Plays}
use Rattle.chord_bodies.specs.Resolved.{ExprOf, ExprsOf, StmtOf, StmtsOf, IntOf, FlagOf, TextOf, Load, This, Negate, Deny, Operate, Both, Either, New, Call, NoExprs, MoreExprs, Store, Do, Send, Print, IfThen, IfElse, While, Return, Give, Block, NoStmts, MoreStmts}
use Rattle.chord_source.specs.Continuing.{Continuation, Maker, Leaving, rounds, return_nothing, return_value}
use Rattle.chord_source.specs.Expressions.{evaluate, evaluate_all}
use Rattle.chord_source.specs.Statements.{execute, execute_all}
use Rattle.chord_gen.specs.Emitted.{argument_count, operator_code, expr_code, exprs_code, return_code, stmt_code, stmts_code}
use Rattle.chord_gen.proofs.Steps.{HasAt, front_at, back_at, here, all_pushed, pushed_are_popped_as, plays_on, plays_end, plays_found, plays_stored, plays_computed, plays_branch, plays_again, plays_call, plays_send, plays_print}

-- the instruction `new` does what `new` does in the source
abbrev pub MakerPlays : Parts → ℕ → Maker → Type 0
MakerPlays code room maker =
    (b : ℕ) (below : List Frame) (c : ℕ) (xs : List Value) (k : Value → ℕ → Play) (p : ℕ) (s vs : List Value) (t : ℕ) →
    fetch code b p ≡ Some (i.New c (length xs)) →
    ((v : Value) (t' : ℕ) → Plays code (k v t') (Some (here b room below (suc p) (v ∷ s) vs t'))) →
    Plays code (maker c xs k t) (Some (here b room below p (all_pushed xs s) vs t))

-- the instruction of an operator does what the operator does to the stack
operator_acts : (code : Parts) (operation : Operation) (m : Machine) → act code (Some (operator_code operation)) m ≡ operate operation m m.top.stack
operator_acts code op.Add m = refl
operator_acts code op.Subtract m = refl
operator_acts code op.Multiply m = refl
operator_acts code op.Divide m = refl
operator_acts code op.Remainder m = refl
operator_acts code op.Join m = refl
operator_acts code op.Equal m = refl
operator_acts code op.NotEqual m = refl
operator_acts code op.Less m = refl
operator_acts code op.Greater m = refl
operator_acts code op.LessOrEqual m = refl
operator_acts code op.GreaterOrEqual m = refl

module _ (code : Parts) (room : ℕ) (maker : Maker) (np : MakerPlays code room maker) (b : ℕ) (below : List Frame) where
  -- a machine in the block, at this place
  abbrev at_place : ℕ → List Value → List Value → ℕ → Machine
  at_place p s vs t = here b room below p s vs t

  -- what the instruction at a place comes to
  pub one_step : (p : ℕ) (s vs : List Value) (t : ℕ) (x : Instruction) → fetch code b p ≡ Some x → step code (at_place p s vs t) ≡ act code (Some x) (at_place p s vs t)
  one_step p s vs t x e = ap (λ o. act code o (at_place p s vs t)) e

  -- what a machine plays, it plays at an equal place
  pub as_place : (p q : ℕ) (s vs : List Value) (t : ℕ) (x : Play) → p ≡ q → Plays code x (Some (at_place q s vs t)) → Plays code x (Some (at_place p s vs t))
  as_place p q s vs t x e h = subst (λ r. Plays code x (Some (at_place r s vs t))) (sym e) h

  -- the place behind one instruction
  to_next : (p : ℕ) (s vs : List Value) (t : ℕ) (x : Play) → Plays code x (Some (at_place (p + 1) s vs t)) → Plays code x (Some (at_place (suc p) s vs t))
  to_next p s vs t x h = as_place (suc p) (p + 1) s vs t x (omega arith) h

  -- the place behind two parts and an instruction
  to_end : (xs ys : List Instruction) (x : Instruction) (p : ℕ) (s vs : List Value) (t : ℕ) (q : Play) → Plays code q (Some (at_place (p + length (xs ++ (ys ++ x ∷ []))) s vs t)) → Plays code q (Some (at_place (suc (p + length xs + length ys)) s vs t))
  to_end xs ys x p s vs t q h = as_place _ (p + length (xs ++ (ys ++ x ∷ []))) s vs t q (omega (arith, length-append xs (ys ++ x ∷ []), length-append ys (x ∷ []))) h

  -- the place behind a part and an instruction
  to_last : (xs : List Instruction) (x : Instruction) (p : ℕ) (s vs : List Value) (t : ℕ) (q : Play) → Plays code q (Some (at_place (p + length (xs ++ x ∷ [])) s vs t)) → Plays code q (Some (at_place (suc (p + length xs)) s vs t))
  to_last xs x p s vs t q h = as_place _ (p + length (xs ++ x ∷ [])) s vs t q (omega (arith, length-append xs (x ∷ []))) h

  mutual
    -- the code of an expression does what its evaluation does
    expression_plays : (e : ExprOf) (p : ℕ) (s : List Value) → HasAt code b p (expr_code e p) → (k : Value → Continuation) → ((v : Value) (vs : List Value) (t : ℕ) → Plays code (k v vs t) (Some (at_place (p + length (expr_code e p)) (v ∷ s) vs t))) → (vs : List Value) (t : ℕ) → Plays code (evaluate room maker e k vs t) (Some (at_place p s vs t))
    expression_plays (IntOf n) p s has k h vs t =
        plays_on code _ _ (k (Int n) vs t) (one_step p s vs t (i.Int n) has.0) (to_next p (Int n ∷ s) vs t (k (Int n) vs t) (h (Int n) vs t))
    expression_plays (FlagOf f) p s has k h vs t =
        plays_on code _ _ (k (Flag f) vs t) (one_step p s vs t (i.Flag f) has.0) (to_next p (Flag f ∷ s) vs t (k (Flag f) vs t) (h (Flag f) vs t))
    expression_plays (TextOf x) p s has k h vs t =
        plays_on code _ _ (k (Text x) vs t) (one_step p s vs t (i.Text x) has.0) (to_next p (Text x ∷ s) vs t (k (Text x) vs t) (h (Text x) vs t))
    expression_plays (Load j) p s has k h vs t =
        plays_found code _ (slice_get vs j) (λ v. at_place (suc p) (v ∷ s) vs t) (λ v. k v vs t)
        (λ v e. one_step p s vs t (i.Load j) has.0 ∙ ap (loads (at_place p s vs t)) e)
        (λ v. to_next p (v ∷ s) vs t (k v vs t) (h v vs t))
    expression_plays This p s has k h vs t =
        plays_found code _ (slice_get vs 0) (λ v. at_place (suc p) (v ∷ s) vs t) (λ v. k v vs t)
        (λ v e. one_step p s vs t (i.Load 0) has.0 ∙ ap (loads (at_place p s vs t)) e)
        (λ v. to_next p (v ∷ s) vs t (k v vs t) (h v vs t))
    expression_plays (Negate e) p s has k h vs t =
        let c = expr_code e p in
        let h2 = back_at code b p c _ has in
        expression_plays e p s (front_at code b p c _ has) _ (λ v vs' t'.
        plays_computed code (at_place (p + length c) (v ∷ s) vs' t') s (negated v) (λ z. k z vs' t') (one_step _ (v ∷ s) vs' t' i.Neg h2.0)
        (λ z. to_last c i.Neg p (z ∷ s) vs' t' (k z vs' t') (h z vs' t'))) vs t
    expression_plays (Deny e) p s has k h vs t =
        let c = expr_code e p in
        let h2 = back_at code b p c _ has in
        expression_plays e p s (front_at code b p c _ has) _ (λ v vs' t'.
        plays_computed code (at_place (p + length c) (v ∷ s) vs' t') s (denied v) (λ z. k z vs' t') (one_step _ (v ∷ s) vs' t' i.Not h2.0)
        (λ z. to_last c i.Not p (z ∷ s) vs' t' (k z vs' t') (h z vs' t'))) vs t
    expression_plays (Operate op l r) p s has k h vs t =
        let x = expr_code l p in
        let y = expr_code r (p + length x) in
        let h2 = back_at code b p x _ has in
        let h3 = back_at code b (p + length x) y _ h2 in
        expression_plays l p s (front_at code b p x _ has) _ (λ v. expression_plays r (p + length x) (v ∷ s) (front_at code b (p + length x) y _ h2) _ (λ w vs' t'.
        plays_computed code _ s (compute op v w) (λ z. k z vs' t') (one_step _ (w ∷ v ∷ s) vs' t' (operator_code op) h3.0 ∙ operator_acts code op _)
        (λ z. to_end x y (operator_code op) p (z ∷ s) vs' t' (k z vs' t') (h z vs' t')))) vs t
    expression_plays (Both l r) p s has k h vs t =
        let c = expr_code l p in
        let a1 = p + length c + 1 in
        let first : List Instruction = expr_code r a1 in
        let a2 = a1 + length first + 1 in
        let other : List Instruction = i.Flag false ∷ [] in
        let up : (m : ℕ) → suc m ≡ m + 1 = λ m. omega arith in
        let tail : List Instruction = i.Skip a2 ∷ (first ++ (i.Jump (a2 + length other) ∷ other)) in
        let h2 : HasAt code b (p + length c) tail = back_at code b p c tail has in
        let h3 : HasAt code b a1 (first ++ (i.Jump (a2 + length other) ∷ other)) = subst (λ q. HasAt code b q (first ++ (i.Jump (a2 + length other) ∷ other))) (up (p + length c)) h2.1 in
        let h4 : HasAt code b (a1 + length first) (i.Jump (a2 + length other) ∷ other) = back_at code b a1 first (i.Jump (a2 + length other) ∷ other) h3 in
        let hu : HasAt code b a2 other = subst (λ q. HasAt code b q other) (up (a1 + length first)) h4.1 in
        let total : length (c ++ (i.Skip a2 ∷ (first ++ (i.Jump (a2 + length other) ∷ other)))) ≡ length c + (length first + (length other + 1)) + 1 = omega (arith, length-append c (i.Skip a2 ∷ (first ++ (i.Jump (a2 + length other) ∷ other))), length-append first (i.Jump (a2 + length other) ∷ other)) in
        let done : (v : Value) (vs' : List Value) (t' : ℕ) → Plays code (k v vs' t') (Some (at_place (a2 + length other) (v ∷ s) vs' t')) = λ v vs' t'. as_place _ _ (v ∷ s) vs' t' (k v vs' t') (omega arith) (h v vs' t') in
        expression_plays l p s (front_at code b p c tail has) _ (λ v vs' t'.
        plays_branch code (at_place (p + length c) (v ∷ s) vs' t') v a2 s _ _ (one_step (p + length c) (v ∷ s) vs' t' (i.Skip a2) h2.0)
        (as_place _ a1 s vs' t' _ (up (p + length c)) (expression_plays r a1 s (front_at code b a1 first _ h3) k (λ w vs'' t''. plays_on code _ _ (k w vs'' t'') (one_step (a1 + length first) (w ∷ s) vs'' t'' (i.Jump (a2 + length other)) h4.0) (done w vs'' t'')) vs' t'))
        (plays_on code _ _ (k (Flag false) vs' t') (one_step a2 s vs' t' (i.Flag false) hu.0) (as_place (suc a2) (a2 + 1) (Flag false ∷ s) vs' t' _ (omega arith) (done (Flag false) vs' t')))) vs t
    expression_plays (Either l r) p s has k h vs t =
        let c = expr_code l p in
        let a1 = p + length c + 1 in
        let first : List Instruction = i.Flag true ∷ [] in
        let a2 = a1 + length first + 1 in
        let other : List Instruction = expr_code r (p + length c + 1 + length first + 1) in
        let up : (m : ℕ) → suc m ≡ m + 1 = λ m. omega arith in
        let tail : List Instruction = i.Skip a2 ∷ (first ++ (i.Jump (a2 + length other) ∷ other)) in
        let h2 : HasAt code b (p + length c) tail = back_at code b p c tail has in
        let h3 : HasAt code b a1 (first ++ (i.Jump (a2 + length other) ∷ other)) = subst (λ q. HasAt code b q (first ++ (i.Jump (a2 + length other) ∷ other))) (up (p + length c)) h2.1 in
        let h4 : HasAt code b (a1 + length first) (i.Jump (a2 + length other) ∷ other) = back_at code b a1 first (i.Jump (a2 + length other) ∷ other) h3 in
        let hu : HasAt code b a2 other = subst (λ q. HasAt code b q other) (up (a1 + length first)) h4.1 in
        let total : length (c ++ (i.Skip a2 ∷ (first ++ (i.Jump (a2 + length other) ∷ other)))) ≡ length c + (length first + (length other + 1)) + 1 = omega (arith, length-append c (i.Skip a2 ∷ (first ++ (i.Jump (a2 + length other) ∷ other))), length-append first (i.Jump (a2 + length other) ∷ other)) in
        let done : (v : Value) (vs' : List Value) (t' : ℕ) → Plays code (k v vs' t') (Some (at_place (a2 + length other) (v ∷ s) vs' t')) = λ v vs' t'. as_place _ _ (v ∷ s) vs' t' (k v vs' t') (omega arith) (h v vs' t') in
        expression_plays l p s (front_at code b p c tail has) _ (λ v vs' t'.
        plays_branch code (at_place (p + length c) (v ∷ s) vs' t') v a2 s _ _ (one_step (p + length c) (v ∷ s) vs' t' (i.Skip a2) h2.0)
        (as_place _ a1 s vs' t' _ (up (p + length c))
        (plays_on code _ _ (k (Flag true) vs' t') (one_step a1 s vs' t' (i.Flag true) h3.0)
        (as_place (suc a1) (a1 + 1) (Flag true ∷ s) vs' t' _ (omega arith)
        (plays_on code _ _ (k (Flag true) vs' t') (one_step (a1 + 1) (Flag true ∷ s) vs' t' (i.Jump (a2 + length other)) h4.0) (done (Flag true) vs' t')))))
        (expression_plays r a2 s hu k done vs' t')) vs t
    expression_plays (Call e c j result args) p s has k h vs t =
        let x = expr_code e p in
        let y = exprs_code args (p + length x) in
        let h2 = back_at code b p x _ has in
        let h3 = back_at code b (p + length x) y _ h2 in
        expression_plays e p s (front_at code b p x _ has) _ (λ r. arguments_play args (p + length x) (r ∷ s) (front_at code b (p + length x) y _ h2) _ (λ xs vs' t' n.
        plays_call code _ r j xs s (λ v. k v vs' t')
        (one_step _ (all_pushed xs (r ∷ s)) vs' t' (i.Call j (argument_count args)) h3.0 ∙ ap (call_by j _) (pushed_are_popped_as xs (argument_count args) (r ∷ s) n))
        (λ v. to_end x y (i.Call j (argument_count args)) p (v ∷ s) vs' t' (k v vs' t') (h v vs' t')))) vs t
    expression_plays (New c args) p s has k h vs t =
        let y = exprs_code args p in
        let h2 = back_at code b p y _ has in
        arguments_play args p s (front_at code b p y _ has) _ (λ xs vs' t' n.
        np b below c xs (λ v. k v vs') (p + length y) s vs' t' (h2.0 ∙ ap (λ m. Some (i.New c m)) (sym n))
        (λ v t''. to_last y (i.New c (argument_count args)) p (v ∷ s) vs' t'' (k v vs' t'') (h v vs' t''))) vs t

    -- the code of arguments does what their evaluation does
    arguments_play : (args : ExprsOf) (p : ℕ) (s : List Value) → HasAt code b p (exprs_code args p) → (k : List Value → Continuation) → ((xs : List Value) (vs : List Value) (t : ℕ) → length xs ≡ argument_count args → Plays code (k xs vs t) (Some (at_place (p + length (exprs_code args p)) (all_pushed xs s) vs t))) → (vs : List Value) (t : ℕ) → Plays code (evaluate_all room maker args k vs t) (Some (at_place p s vs t))
    arguments_play NoExprs p s has k h vs t = as_place p (p + 0) s vs t (k [] vs t) (omega arith) (h [] vs t refl)
    arguments_play (MoreExprs e rest) p s has k h vs t =
        let x = expr_code e p in
        let y = exprs_code rest (p + length x) in
        expression_plays e p s (front_at code b p x _ has) _ (λ v. arguments_play rest (p + length x) (v ∷ s) (back_at code b p x _ has) _ (λ xs vs' t' n.
        as_place _ (p + length (x ++ y)) (all_pushed xs (v ∷ s)) vs' t' (k (v ∷ xs) vs' t') (omega (arith, length-append x y)) (h (v ∷ xs) vs' t' (ap suc n)))) vs t

  -- a loop does what its rounds do, where the test stands at c and the body at `to`
  rounds_play : (n a c to : ℕ) (test : (Value → Continuation) → Continuation) (round : Continuation → Continuation) (next : Continuation) →
      ((k : Value → Continuation) → ((v : Value) (vs : List Value) (t : ℕ) → Plays code (k v vs t) (Some (at_place (c + a) (v ∷ []) vs t))) → (vs : List Value) (t : ℕ) → Plays code (test k vs t) (Some (at_place c [] vs t))) →
      ((k : Continuation) → ((vs : List Value) (t : ℕ) → Plays code (k vs t) (Some (at_place c [] vs t))) → (vs : List Value) (t : ℕ) → Plays code (round k vs t) (Some (at_place to [] vs t))) →
      fetch code b (c + a) ≡ Some (i.Again to) →
      ((vs : List Value) (t : ℕ) → Plays code (next vs t) (Some (at_place (suc (c + a)) [] vs t))) →
      (vs : List Value) (t : ℕ) → Plays code (rounds n test round next vs t) (Some (at_place c [] vs t))
  rounds_play zero a c to test round next ht hr is hn vs t = tt
  rounds_play (suc n) a c to test round next ht hr is hn vs t =
      ht _ (λ v vs' t'. plays_again code (at_place (c + a) (v ∷ []) vs' t') v to [] (round (rounds n test round next) vs') (next vs' t')
      (one_step (c + a) (v ∷ []) vs' t' (i.Again to) is)
      (λ t''. hr (rounds n test round next) (rounds_play n a c to test round next ht hr is hn) vs' t'')
      (hn vs' t')) vs t

  -- the instruction of `return` does what `return` does
  abbrev pub LeavingPlays : Bool → Leaving → Type 0
  LeavingPlays builder out = (p : ℕ) (vs : List Value) (t : ℕ) → fetch code b p ≡ Some (return_code builder) → Plays code (return_nothing out t) (Some (at_place p [] vs t))

  -- the instruction of `return` with a value does what that does
  value_plays : (out : Leaving) (p : ℕ) (v : Value) (vs : List Value) (t : ℕ) → fetch code b p ≡ Some i.Endv → Plays code (return_value out v) (Some (at_place p (v ∷ []) vs t))
  value_plays None p v vs t is = plays_end code (at_place p (v ∷ []) vs t) (Gives v) (one_step p (v ∷ []) vs t i.Endv is)
  value_plays (Some k) p v vs t is = tt

  module _ (builder : Bool) (out : Leaving) (leaves : LeavingPlays builder out) where
    mutual
      -- the code of a statement does what its execution does
      statement_plays : (x : StmtOf) (p : ℕ) → HasAt code b p (stmt_code builder x p) → (next : Continuation) → ((vs : List Value) (t : ℕ) → Plays code (next vs t) (Some (at_place (p + length (stmt_code builder x p)) [] vs t))) → (vs : List Value) (t : ℕ) → Plays code (execute room maker out x next vs t) (Some (at_place p [] vs t))
      statement_plays (Store j e) p has next h vs t =
          let he = front_at code b p (expr_code e p) _ has in
          let h2 = back_at code b p (expr_code e p) _ has in
          expression_plays e p [] he _ (λ v vs' t'.
          plays_stored code (at_place (p + length (expr_code e p)) (v ∷ []) vs' t') (set_slot j v vs') (λ vs''. at_place (suc (p + length (expr_code e p))) [] vs'' t') (λ vs''. next vs'' t')
          (λ vs'' is. one_step (p + length (expr_code e p)) (v ∷ []) vs' t' (i.Store j) h2.0 ∙ ap (stores (at_place (p + length (expr_code e p)) (v ∷ []) vs' t') []) is)
          (λ vs''. to_last (expr_code e p) (i.Store j) p [] vs'' t' (next vs'' t') (h vs'' t'))) vs t
      statement_plays (Do e) p has next h vs t =
          let he = front_at code b p (expr_code e p) _ has in
          let h2 = back_at code b p (expr_code e p) _ has in
          expression_plays e p [] he _ (λ v vs' t'.
          plays_on code _ _ (next vs' t') (one_step (p + length (expr_code e p)) (v ∷ []) vs' t' i.Drop h2.0) (to_last (expr_code e p) i.Drop p [] vs' t' (next vs' t') (h vs' t'))) vs t
      statement_plays (Send e c j args) p has next h vs t =
          let he = front_at code b p (expr_code e p) _ has in
          let h2 = back_at code b p (expr_code e p) _ has in
          let ha = front_at code b (p + length (expr_code e p)) (exprs_code args (p + length (expr_code e p))) _ h2 in
          let h3 = back_at code b (p + length (expr_code e p)) (exprs_code args (p + length (expr_code e p))) _ h2 in
          expression_plays e p [] he _ (λ r. arguments_play args (p + length (expr_code e p)) (r ∷ []) ha _ (λ xs vs' t' n.
          plays_send code _ r j xs [] (next vs' t')
          (one_step _ (all_pushed xs (r ∷ [])) vs' t' (i.Send j (argument_count args)) h3.0 ∙ ap (send_by j (at_place (p + length (expr_code e p) + length (exprs_code args (p + length (expr_code e p)))) (all_pushed xs (r ∷ [])) vs' t')) (pushed_are_popped_as xs (argument_count args) (r ∷ []) n))
          (to_end (expr_code e p) (exprs_code args (p + length (expr_code e p))) (i.Send j (argument_count args)) p [] vs' t' (next vs' t') (h vs' t')))) vs t
      statement_plays (Print e) p has next h vs t =
          let he = front_at code b p (expr_code e p) _ has in
          let h2 = back_at code b p (expr_code e p) _ has in
          expression_plays e p [] he _ (λ v vs' t'.
          plays_print code (at_place (p + length (expr_code e p)) (v ∷ []) vs' t') (text_of v) [] (next vs' t') (one_step (p + length (expr_code e p)) (v ∷ []) vs' t' i.Print h2.0) (to_last (expr_code e p) i.Print p [] vs' t' (next vs' t') (h vs' t'))) vs t
      statement_plays (IfThen e x) p has next h vs t =
          let c = expr_code e p in
          let a1 = p + length c + 1 in
          let first : List Instruction = stmt_code builder x a1 in
          let he = front_at code b p c _ has in
          let h2 = back_at code b p c _ has in
          let up : (m : ℕ) → suc m ≡ m + 1 = λ m. omega arith in
          let hs : HasAt code b a1 first = subst (λ q. HasAt code b q first) (up (p + length c)) h2.1 in
          let total : length (c ++ (i.Skip (a1 + length first) ∷ first)) ≡ length c + (length first + 1) = omega (arith, length-append c (i.Skip (a1 + length first) ∷ first)) in
          let done : (vs' : List Value) (t' : ℕ) → Plays code (next vs' t') (Some (at_place (a1 + length first) [] vs' t')) = λ vs' t'. as_place _ _ [] vs' t' (next vs' t') (omega arith) (h vs' t') in
          expression_plays e p [] he _ (λ v vs' t'.
          plays_branch code (at_place (p + length c) (v ∷ []) vs' t') v (a1 + length first) [] _ _ (one_step (p + length c) (v ∷ []) vs' t' (i.Skip (a1 + length first)) h2.0)
          (as_place _ a1 [] vs' t' _ (up (p + length c)) (statement_plays x a1 hs next done vs' t'))
          (done vs' t')) vs t
      statement_plays (IfElse e x u) p has next h vs t =
          let c = expr_code e p in
          let a1 = p + length c + 1 in
          let first = stmt_code builder x a1 in
          let a2 = a1 + length first + 1 in
          let other = stmt_code builder u a2 in
          let he = front_at code b p c _ has in
          let h2 = back_at code b p c _ has in
          let up : (m : ℕ) → suc m ≡ m + 1 = λ m. omega arith in
          let h3 = subst (λ q. HasAt code b q (first ++ (i.Jump (a2 + length other) ∷ other))) (up (p + length c)) h2.1 in
          let hs = front_at code b a1 first _ h3 in
          let h4 = back_at code b a1 first _ h3 in
          let hu = subst (λ q. HasAt code b q other) (up (a1 + length first)) h4.1 in
          let total : length (c ++ (i.Skip a2 ∷ (first ++ (i.Jump (a2 + length other) ∷ other)))) ≡ length c + (length first + (length other + 1)) + 1 = omega (arith, length-append c (i.Skip a2 ∷ (first ++ (i.Jump (a2 + length other) ∷ other))), length-append first (i.Jump (a2 + length other) ∷ other)) in
          let done : (vs' : List Value) (t' : ℕ) → Plays code (next vs' t') (Some (at_place (a2 + length other) [] vs' t')) = λ vs' t'. as_place _ _ [] vs' t' (next vs' t') (omega arith) (h vs' t') in
          expression_plays e p [] he _ (λ v vs' t'.
          plays_branch code (at_place (p + length c) (v ∷ []) vs' t') v a2 [] _ _ (one_step (p + length c) (v ∷ []) vs' t' (i.Skip a2) h2.0)
          (as_place _ a1 [] vs' t' _ (up (p + length c)) (statement_plays x a1 hs next (λ vs'' t''. plays_on code _ _ (next vs'' t'') (one_step (a1 + length first) [] vs'' t'' (i.Jump (a2 + length other)) h4.0) (done vs'' t'')) vs' t'))
          (statement_plays u a2 hu next done vs' t')) vs t
      statement_plays (While e x) p has next h vs t =
          let a1 = p + 1 in
          let inner = stmt_code builder x a1 in
          let a2 = p + 1 + length inner in
          let c = expr_code e a2 in
          let up : (m : ℕ) → suc m ≡ m + 1 = λ m. omega arith in
          let h2 = subst (λ q. HasAt code b q (inner ++ (c ++ i.Again a1 ∷ []))) (up p) has.1 in
          let hs = front_at code b a1 inner _ h2 in
          let h3 = back_at code b a1 inner _ h2 in
          let he = front_at code b a2 c _ h3 in
          let h4 = back_at code b a2 c _ h3 in
          let total : length (inner ++ (c ++ i.Again a1 ∷ [])) ≡ length inner + (length c + 1) = omega (arith, length-append inner (c ++ i.Again a1 ∷ []), length-append c (i.Again a1 ∷ [])) in
          plays_on code _ _ _ (one_step p [] vs t (i.Jump a2) has.0)
          (rounds_play (suc t) (length c) a2 a1 (evaluate room maker e) (execute room maker out x) next
          (λ k hk. expression_plays e a2 [] he k hk)
          (λ k hk vs' t'. statement_plays x a1 hs k hk vs' t')
          h4.0
          (λ vs' t'. as_place _ _ [] vs' t' (next vs' t') (omega arith) (h vs' t')) vs t)
      statement_plays Return p has next h vs t = leaves p vs t has.0
      statement_plays (Give e) p has next h vs t =
          let he = front_at code b p (expr_code e p) _ has in
          let h2 = back_at code b p (expr_code e p) _ has in
          expression_plays e p [] he _ (λ v vs' t'. value_plays out (p + length (expr_code e p)) v vs' t' h2.0) vs t
      statement_plays (Block ss) p has next h vs t = statements_play ss p has next h vs t

      -- the code of statements does what their execution does
      pub statements_play : (ss : StmtsOf) (p : ℕ) → HasAt code b p (stmts_code builder ss p) → (next : Continuation) → ((vs : List Value) (t : ℕ) → Plays code (next vs t) (Some (at_place (p + length (stmts_code builder ss p)) [] vs t))) → (vs : List Value) (t : ℕ) → Plays code (execute_all room maker out ss next vs t) (Some (at_place p [] vs t))
      statements_play NoStmts p has next h vs t = as_place p (p + 0) [] vs t (next vs t) (omega arith) (h vs t)
      statements_play (MoreStmts x rest) p has next h vs t =
          let c = stmt_code builder x p in
          let hs = front_at code b p c _ has in
          let h2 = back_at code b p c _ has in
          statement_plays x p hs _ (statements_play rest (p + length c) h2 next (λ vs' t'.
          as_place _ (p + length (c ++ stmts_code builder rest (p + length c))) [] vs' t' (next vs' t') (omega (arith, length-append c (stmts_code builder rest (p + length c)))) (h vs' t'))) vs t
