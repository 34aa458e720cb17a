-- An expression that keeps to its type never goes wrong, and gives a value of its type.
use Rattle.std.proofs.Common.{◌≡◌, ℕ, List, [], ◌∷◌, Bool, true, false, Option, Some, refl, sym, ◌∙◌, ap, subst, arith, slice_get, inl, inr}
use Rattle.std.specs.Prelude.{◌⊎◌}
use Rattle.chord_base.specs.declared.value.Value.{Value}
use Rattle.chord_base.specs.declared.value.Value.TheVariants.{Int, Flag, Text}
use Rattle.chord_base.specs.declared.static_type.StaticType.{StaticType}
use Rattle.chord_base.specs.declared.static_type.StaticType.TheVariants as ty
use Rattle.chord_base.specs.Operators.{compute, negated, denied}
use Rattle.chord_bodies.specs.Resolved.{ExprOf, ExprsOf, IntOf, FlagOf, TextOf, Load, This, Negate, Deny, Operate, Both, Either, New, Call, NoExprs, MoreExprs}
use Rattle.chord_bodies.specs.Types.{Signatures, Has, HaveAll, Scope, ExprIs, ExprsAre, is_true}
use Rattle.chord_bodies.specs.Planned.{Inherits}
use Rattle.chord_code.specs.Plays.{Good}
use Rattle.chord_source.specs.Continuing.{Continuation, Maker}
use Rattle.chord_source.specs.Expressions.{evaluate, evaluate_all}
use Rattle.chord_source.proofs.SlotTypes.{SlotsAre, fitting_has, slot_has}
use Rattle.chord_source.proofs.OperatorTypes.{operator_gives, negation_gives, denial_gives}
use Rattle.chord_source.proofs.GoodWays.{computed_good, branch_good, found_good, GoodAfter, MakerIsGood, call_good}

-- a test is written as a truth value, or not as `true`
is_the_word_true : (e : ExprOf) → ((b : Bool) × (e ≡ FlagOf b)) ⊎ (is_true e ≡ false)
is_the_word_true (FlagOf b) = inl (b, refl)
is_the_word_true _ = inr refl

module _ (sig : Signatures) (r : Option StaticType) (law : Inherits sig) (room : ℕ) (maker : Maker) (ng : MakerIsGood sig r maker) where
  mutual
    -- an expression of a type goes on good, where what follows is good for each value of the type
    pub expression_good : (e : ExprOf) (g : Scope) (t : Option StaticType) → ExprIs sig g e t → (next : Value → Continuation) (vs : List Value) (n : ℕ) → SlotsAre sig g vs → ((v : Value) → Has sig t v → GoodAfter sig r g n (next v)) → Good sig r (evaluate room maker e next vs n)
    expression_good (IntOf x) g t e next vs n s h = h (Int x) (subst (λ z. Has sig z (Int x)) (sym e) tt) vs n s (omega arith)
    expression_good (FlagOf b) g t e next vs n s h = h (Flag b) (subst (λ z. Has sig z (Flag b)) (sym e) tt) vs n s (omega arith)
    expression_good (TextOf bs) g t e next vs n s h = h (Text bs) (subst (λ z. Has sig z (Text bs)) (sym e) tt) vs n s (omega arith)
    expression_good (Load i) g t e next vs n s h =
        let l = slot_has sig law g i e.0 vs e.1 s in
        found_good sig r (slice_get vs i) l.0 (λ v. next v vs n) l.1 (h l.0 (subst (λ z. Has sig z l.0) (sym e.2) l.2) vs n s (omega arith))
    expression_good This g t e next vs n s h =
        let l = slot_has sig law g 0 e.0 vs e.1 s in
        found_good sig r (slice_get vs 0) l.0 (λ v. next v vs n) l.1 (h l.0 (subst (λ z. Has sig z l.0) (sym e.2) l.2) vs n s (omega arith))
    expression_good (Negate x) g t e next vs n s h =
        expression_good x g (Some ty.Int) e.0 _ vs n s (λ a ia vs1 n1 s1 l1.
        computed_good sig r ty.Int (negated a) (λ v. next v vs1 n1) (negation_gives sig a ia) (λ v iv. h v (subst (λ z. Has sig z v) (sym e.1) iv) vs1 n1 s1 l1))
    expression_good (Deny x) g t e next vs n s h =
        expression_good x g (Some ty.Bool) e.0 _ vs n s (λ a ia vs1 n1 s1 l1.
        computed_good sig r ty.Bool (denied a) (λ v. next v vs1 n1) (denial_gives sig a ia) (λ v iv. h v (subst (λ z. Has sig z v) (sym e.1) iv) vs1 n1 s1 l1))
    expression_good (Operate op x y) g t e next vs n s h =
        expression_good x g (Some e.0) e.3 _ vs n s (λ a ia vs1 n1 s1 l1. expression_good y g (Some e.1) e.4 _ vs1 n1 s1 (λ b ib vs2 n2 s2 l2.
        computed_good sig r e.2 (compute op a b) (λ v. next v vs2 n2) (operator_gives sig op e.0 e.1 e.2 a b e.5 ia ib) (λ v iv. h v (subst (λ z. Has sig z v) (sym e.6) iv) vs2 n2 s2 (omega arith))))
    expression_good (Both x y) g t e next vs n s h =
        let none = subst (λ z. Has sig z (Flag false)) (sym e.2) tt in
        expression_good x g (Some ty.Bool) e.0 _ vs n s (λ a ia vs1 n1 s1 l1. branch_good sig r a _ _ ia
        (expression_good y g (Some ty.Bool) e.1 _ vs1 n1 s1 (λ b ib vs2 n2 s2 l2. h b (subst (λ z. Has sig z b) (sym e.2) ib) vs2 n2 s2 (omega arith)))
        (λ q. h (Flag false) none vs1 n1 s1 l1))
    expression_good (Either x y) g t e next vs n s h =
        let some = subst (λ z. Has sig z (Flag true)) (sym e.2) tt in
        expression_good x g (Some ty.Bool) e.0 _ vs n s (λ a ia vs1 n1 s1 l1. branch_good sig r a _ _ ia
        (h (Flag true) some vs1 n1 s1 l1)
        (λ q. expression_good y g (Some ty.Bool) e.1 _ vs1 n1 s1 (λ b ib vs2 n2 s2 l2. h b (subst (λ z. Has sig z b) (sym e.2) ib) vs2 n2 s2 (omega arith))))
    expression_good (New c args) g t e next vs n s h =
        arguments_good args g e.0 e.2 _ vs n s (λ xs ixs vs2 n2 s2 l2.
        ng c e.0 xs (λ v. next v vs2) n2 e.1 ixs (λ v n3 iv l3. h v (subst (λ z. Has sig z v) (sym e.3) iv) vs2 n3 s2 (omega arith)))
    expression_good (Call x c j result args) g t e next vs n s h =
        expression_good x g (Some (ty.Class c)) e.1 _ vs n s (λ a ia vs1 n1 s1 l1. arguments_good args g e.0.parameters e.4 _ vs1 n1 s1 (λ xs ixs vs2 n2 s2 l2.
        call_good sig r law room a c j e.0 xs (λ v. next v vs2 n2) ia e.2 e.3 ixs (λ v iv. h v (subst (λ z. Has sig z v) (sym (e.6 ∙ e.5)) iv) vs2 n2 s2 (omega arith))))

    -- arguments of parameters' types go on good, where what follows is good for all values of these types
    pub arguments_good : (args : ExprsOf) (g : Scope) (ps : List StaticType) → ExprsAre sig g args ps → (next : List Value → Continuation) (vs : List Value) (n : ℕ) → SlotsAre sig g vs → ((xs : List Value) → HaveAll sig ps xs → GoodAfter sig r g n (next xs)) → Good sig r (evaluate_all room maker args next vs n)
    arguments_good NoExprs g [] e next vs n s h = h [] tt vs n s (omega arith)
    arguments_good (MoreExprs x rest) g (p ∷ ps) e next vs n s h =
        expression_good x g (Some e.0) e.1 _ vs n s (λ a ia vs1 n1 s1 l1. arguments_good rest g ps e.3 _ vs1 n1 s1 (λ xs ixs vs2 n2 s2 l2.
        h (a ∷ xs) (fitting_has sig law e.0 p a e.2 ia, ixs) vs2 n2 s2 (omega arith)))
    arguments_good NoExprs g (p ∷ ps) e next vs n s h = absurd e
    arguments_good (MoreExprs x rest) g [] e next vs n s h = absurd e

  -- a test goes on good, where what follows is good for either truth value; false comes of no test that is written as `true`
  pub test_good : (e : ExprOf) (g : Scope) → ExprIs sig g e (Some ty.Bool) → (next : Value → Continuation) (vs : List Value) (n : ℕ) → SlotsAre sig g vs → ((v : Value) → Has sig (Some ty.Bool) v → (v ≡ Flag false → is_true e ≡ false) → GoodAfter sig r g n (next v)) → Good sig r (evaluate room maker e next vs n)
  test_good e g is next vs n s h =
      elim (is_the_word_true e) [
        | inl w ↦ subst (λ z. Good sig r (evaluate room maker z next vs n)) (sym w.1) (h (Flag w.0) tt (λ q. ap is_true w.1 ∙ flag_is w.0 false q) vs n s (omega arith))
        | inr f ↦ expression_good e g (Some ty.Bool) is next vs n s (λ v iv. h v iv (λ q. f))
      ]
    where
      flag_is : (a b : Bool) → Flag a ≡ Flag b → a ≡ b
      flag_is a b q = cc
