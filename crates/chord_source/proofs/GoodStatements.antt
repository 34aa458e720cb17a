-- Statements that keep to their types never go wrong, nor does a body.
use Rattle.std.proofs.Common.{◌≡◌, ℕ, zero, suc, ◌+◌, ◌<◌, ◌≤◌, List, ◌∷◌, Bool, true, false, ◌&&◌, ◌||◌, Option, Some, None, refl, sym, ◌∙◌, subst, arith, length}
use Rattle.chord_base.specs.declared.value.Value.{Value}
use Rattle.chord_base.specs.declared.static_type.StaticType.{StaticType}
use Rattle.chord_base.specs.declared.static_type.StaticType.TheVariants as ty
use Rattle.chord_bodies.specs.Resolved.{ExprOf, StmtOf, StmtsOf, BodyOf, Store, Do, Send, Print, IfThen, IfElse, While, Return, Give, Block, NoStmts, MoreStmts}
use Rattle.chord_bodies.specs.Resolved as body
use Rattle.std.proofs.lemmas.Bool.{false≢true}
use Rattle.chord_bodies.specs.Types.{Signatures, HaveAll, Scope, Extends, ValueDue, ExprIs, StmtIs, StmtsAre, is_true, returns, one_returns, this_in, opening, slot_types, BodyIs}
use Rattle.chord_bodies.specs.Planned.{Inherits}
use Rattle.chord_code.specs.Plays.{Good}
use Rattle.chord_code.specs.Slots.{set_slot, first_slots}
use Rattle.chord_source.specs.Continuing.{Continuation, Maker, Leaving, rounds, return_nothing}
use Rattle.chord_source.specs.Expressions.{evaluate}
use Rattle.chord_source.specs.Statements.{execute, execute_all, run_body}
use Rattle.chord_source.proofs.SlotTypes.{HasAny, SlotsAre, fitting_has, fewer_slots, stored_has, slots_open}
use Rattle.chord_source.proofs.OperatorTypes.{has_text}
use Rattle.chord_source.proofs.GoodWays.{branch_good, found_good, turn_good, GoodAfter, LeavingIsGood, MakerIsGood, leaving_with_less, nothing_good, value_good, send_good}
use Rattle.chord_source.proofs.GoodExpressions.{expression_good, arguments_good, test_good}

-- where the first of two does not hold, both do not
not_first : (a b : Bool) → a ≡ false → (a && b) ≡ false
not_first true b e = absurd (false≢true (sym e))
not_first false b e = refl

-- where the second of two does not hold, both do not
not_second : (a b : Bool) → b ≡ false → (a && b) ≡ false
not_second true b e = e
not_second false b e = refl

-- where each of two does not hold, neither of them does
neither : (a b : Bool) → a ≡ false → b ≡ false → (a || b) ≡ false
neither true b e f = absurd (false≢true (sym e))
neither false b e f = f

module _ (sig : Signatures) (r : Option StaticType) (law : Inherits sig) (room : ℕ) (maker : Maker) (ng : MakerIsGood sig r maker) where
  -- a loop is good, where its test and its body are and one more test may be made than there are turns
  rounds_good : (top count : ℕ) (e : ExprOf) (g : Scope) → ExprIs sig g e (Some ty.Bool) → (round : Continuation → Continuation) → ((next : Continuation) (vs : List Value) (n : ℕ) → n ≤ top → SlotsAre sig g vs → GoodAfter sig r g n next → Good sig r (round next vs n))
      → (next : Continuation) (vs : List Value) (n : ℕ) → n < count → n ≤ top → SlotsAre sig g vs → (is_true e ≡ false → GoodAfter sig r g n next) → Good sig r (rounds count (evaluate room maker e) round next vs n)
  rounds_good top zero e g is round hr next vs n l lt s h = absurd (omega arith)
  rounds_good top (suc count) e g is round hr next vs n l lt s h =
      test_good sig r law room maker ng e g is _ vs n s (λ v iv fv vs1 n1 s1 l1.
      branch_good sig r v _ _ iv
      (turn_good sig r n1 _ (λ n2 l2. hr _ vs1 n2 (omega arith) s1 (λ vs3 n3 s3 l3. rounds_good top count e g is round hr next vs3 n3 (omega arith) (omega arith) s3 (λ f vs4 n4 s4 l4. h f vs4 n4 s4 (omega arith)))))
      (λ q. h (fv q) vs1 n1 s1 l1))

  module _ (types : Scope) (due : ValueDue) (out : Leaving) where
    mutual
      -- a statement is good, where what follows it is good in the scope that it leaves, unless it surely returns
      statement_good : (x : StmtOf) (g d : Scope) → StmtIs sig types due x g d → (next : Continuation) (vs : List Value) (n : ℕ) → SlotsAre sig g vs → LeavingIsGood sig r due out n → (returns x ≡ false → GoodAfter sig r d n next) → Good sig r (execute room maker out x next vs n)
      statement_good (Store i e) g d is next vs n s o h =
          expression_good sig r law room maker ng e g (Some is.0) is.3 _ vs n s (λ v iv vs1 n1 s1 l1.
          let q = stored_has sig law i is.1 is.2 g v vs1 is.6 (fitting_has sig law is.0 is.1 v is.4 iv) s1 in
          found_good sig r (set_slot i v vs1) q.0 (λ ws. next ws n1) q.1 (h refl q.0 n1 (subst (λ z. SlotsAre sig z q.0) (sym is.8) q.2) l1))
      statement_good (Do e) g d is next vs n s o h = expression_good sig r law room maker ng e g is.0 is.1 _ vs n s (λ v iv vs1 n1 s1 l1. h refl vs1 n1 (subst (λ z. SlotsAre sig z vs1) (sym is.2) s1) l1)
      statement_good (Send e c j args) g d is next vs n s o h =
          expression_good sig r law room maker ng e g (Some (ty.Class c)) is.1 _ vs n s (λ a ia vs1 n1 s1 l1. arguments_good sig r law room maker ng args g is.0.parameters is.4 _ vs1 n1 s1 (λ xs ixs vs2 n2 s2 l2.
          send_good sig r law a c j is.0 xs (next vs2 n2) ia is.2 is.3 ixs (h refl vs2 n2 (subst (λ z. SlotsAre sig z vs2) (sym is.5) s2) (omega arith))))
      statement_good (Print e) g d is next vs n s o h =
          expression_good sig r law room maker ng e g (Some is.0) is.1 _ vs n s (λ v iv vs1 n1 s1 l1.
          let q = has_text sig is.0 v is.2 iv in
          found_good sig r _ q.0 _ q.1 (h refl vs1 n1 (subst (λ z. SlotsAre sig z vs1) (sym is.3) s1) l1))
      statement_good (IfThen e x) g d is next vs n s o h =
          expression_good sig r law room maker ng e g (Some ty.Bool) is.1 _ vs n s (λ v iv vs1 n1 s1 l1.
          branch_good sig r v _ _ iv
          (statement_good x g is.0 is.2 next vs1 n1 s1 (leaving_with_less sig r due out n n1 l1 o) (λ f vs2 n2 s2 l2. h refl vs2 n2 (subst (λ z. SlotsAre sig z vs2) (sym is.4) (fewer_slots sig law is.0 g vs2 is.3 s2)) (omega arith)))
          (λ q. h refl vs1 n1 (subst (λ z. SlotsAre sig z vs1) (sym is.4) s1) l1))
      statement_good (IfElse e x y) g d is next vs n s o h =
          let on = λ (a : Scope) (ex : Extends a g) (f : (returns x && returns y) ≡ false) (n1 : ℕ) (l1 : n1 ≤ n) (vs2 : List Value) (n2 : ℕ) (s2 : SlotsAre sig a vs2) (l2 : n2 ≤ n1). h f vs2 n2 (subst (λ z. SlotsAre sig z vs2) (sym is.7) (fewer_slots sig law a g vs2 ex s2)) (omega arith) in
          expression_good sig r law room maker ng e g (Some ty.Bool) is.2 _ vs n s (λ v iv vs1 n1 s1 l1.
          branch_good sig r v _ _ iv
          (statement_good x g is.0 is.3 next vs1 n1 s1 (leaving_with_less sig r due out n n1 l1 o) (λ f. on is.0 is.5 (not_first (returns x) (returns y) f) n1 l1))
          (λ q. statement_good y g is.1 is.4 next vs1 n1 s1 (leaving_with_less sig r due out n n1 l1 o) (λ f. on is.1 is.6 (not_second (returns x) (returns y) f) n1 l1)))
      statement_good (While e x) g d is next vs n s o h =
          rounds_good n (suc n) e g is.1 (execute room maker out x)
          (λ next2 vs2 n2 l2 s2 h2. statement_good x g is.0 is.2 next2 vs2 n2 s2 (leaving_with_less sig r due out n n2 l2 o) (λ f vs3 n3 s3 l3. h2 vs3 n3 (fewer_slots sig law is.0 g vs3 is.3 s3) l3))
          next vs n (omega arith) (omega arith) s (λ f vs2 n2 s2 l2. h f vs2 n2 (subst (λ z. SlotsAre sig z vs2) (sym is.4) s2) l2)
      statement_good Return g d is next vs n s o h = nothing_good sig r due out n is.0 o
      statement_good (Give e) g d is next vs n s o h = expression_good sig r law room maker ng e g (Some is.0) is.2 _ vs n s (λ v iv vs1 n1 s1 l1. value_good sig r due out n is.1 v is.3 (fitting_has sig law is.0 is.1 v is.4 iv) o)
      statement_good (Block xs) g d is next vs n s o h =
          statements_good xs g is.0 is.1 next vs n s o (λ f vs2 n2 s2 l2. h f vs2 n2 (subst (λ z. SlotsAre sig z vs2) (sym is.3) (fewer_slots sig law is.0 g vs2 is.2 s2)) l2)

      -- statements are good, where what follows is good in the scope that they leave, unless one surely returns
      statements_good : (xs : StmtsOf) (g d : Scope) → StmtsAre sig types due xs g d → (next : Continuation) (vs : List Value) (n : ℕ) → SlotsAre sig g vs → LeavingIsGood sig r due out n → (one_returns xs ≡ false → GoodAfter sig r d n next) → Good sig r (execute_all room maker out xs next vs n)
      statements_good NoStmts g d is next vs n s o h = h refl vs n (subst (λ z. SlotsAre sig z vs) (sym is) s) (omega arith)
      statements_good (MoreStmts x rest) g d is next vs n s o h =
          statement_good x g is.0 is.1 _ vs n s o (λ f vs1 n1 s1 l1. statements_good rest is.0 d is.2 next vs1 n1 s1 (leaving_with_less sig r due out n n1 l1 o) (λ f2 vs2 n2 s2 l2. h (neither (returns x) (one_returns rest) f f2) vs2 n2 s2 (omega arith)))

  -- a body that may come to its end owes no value, and so ends well
  end_good : (due : ValueDue) (out : Leaving) (f : Bool) (n : ℕ) → f ≡ false → ((t : StaticType) → due ≡ Some t → f ≡ true) → LeavingIsGood sig r due out n → Good sig r (return_nothing out n)
  end_good None out f n e w o = nothing_good sig r None out n refl o
  end_good (Some t) out f n e w o = absurd (false≢true (sym e ∙ w t refl))

  -- a body that keeps to its types is good on arguments of its parameters' types
  pub body_good : (out : Leaving) (b : BodyOf) → BodyIs sig b → (x : Value) (xs : List Value) (n : ℕ) → HasAny sig (this_in b.is_main b.class) x → HaveAll sig b.parameters xs → LeavingIsGood sig r b.result out n → Good sig r (run_body room maker out b (x ∷ xs) n)
  body_good out b is x xs n i a o =
      let q = slots_open sig law b.parameters b.locals xs a in
      let e : body.slots_of b ≡ suc (length b.parameters + length b.locals) = omega arith in
      let there : first_slots (body.slots_of b) (x ∷ xs) ≡ Some (x ∷ q.0) = slots_of_from (body.slots_of b) (length b.parameters + length b.locals) x xs q.0 e q.1 in
      found_good sig r (first_slots (body.slots_of b) (x ∷ xs)) (x ∷ q.0) (λ vs. execute_all room maker out b.stmts (λ ws. return_nothing out) vs n) there
      (statements_good (slot_types b) b.result out b.stmts (opening b) is.last is.stmts (λ ws. return_nothing out) (x ∷ q.0) n (i, q.2) o
      (λ f vs1 n1 s1 l1. end_good b.result out (one_returns b.stmts) n1 f is.ends (leaving_with_less sig r b.result out n n1 l1 o)))
    where
      slots_of_from : (m n : ℕ) (x : Value) (xs vs : List Value) → m ≡ suc n → first_slots n xs ≡ Some vs → first_slots m (x ∷ xs) ≡ Some (x ∷ vs)
      slots_of_from m n x xs vs e f = rw e (rw f refl)
