-- In a body that keeps to its types each variable in scope has the type of its slot.
use Rattle.std.proofs.Common.{◌≡◌, ℕ, zero, suc, List, [], ◌∷◌, ◌++◌, map, refl, sym, ap, subst, ◌∙◌, Option, Some, None, slice_get, ◌⊎◌, inl, inr}
use Rattle.chord_base.specs.declared.static_type.StaticType.{StaticType}
use Rattle.chord_bodies.specs.Resolved.{BodyOf, StmtOf, StmtsOf, Store, Do, Send, Print, IfThen, IfElse, While, Return, Give, Block, NoStmts, MoreStmts}
use Rattle.chord_bodies.specs.Types.{Signatures, Scope, ValueDue, StmtIs, StmtsAre, declared, this_in, slot_types, slot_type, typed_slot}
use Rattle.chord_bodies.specs.Laws.{IsScopeOf, ScopesKept}

-- two options that are equal and not empty hold the same value
same_some : {X : Type 0} {x y : X} → ◌≡◌ {A = Option X} (Some x) (Some y) → x ≡ y
same_some e = cc

-- an empty option is not one that holds a value
none_some : {X : Type 0} {x : X} → ◌≡◌ {A = Option X} None (Some x) → ⊥
none_some e = cc

-- what is in scope after a declaration was declared, or was in scope before
declared_or : (i : ℕ) (t : StaticType) (g : Scope) (j : ℕ) (a : StaticType) → slice_get (declared i t g) j ≡ Some (Some a) → ((j ≡ i) × (t ≡ a)) ⊎ (slice_get g j ≡ Some (Some a))
declared_or i t [] j a h = inr h
declared_or zero t (x ∷ xs) zero a h = inl (refl, same_some (same_some h))
declared_or zero t (x ∷ xs) (suc j) a h = inr h
declared_or (suc i) t (x ∷ xs) zero a h = inr h
declared_or (suc i) t (x ∷ xs) (suc j) a h = elim (declared_or i t xs j a h) [ inl b ↦ inl (ap suc b.0, b.1) | inr b ↦ inr b ]

-- where a variable gets the type of its slot, each variable in scope still has that of its slot
store_keeps : (b : BodyOf) (i : ℕ) (t : StaticType) (g d : Scope) → IsScopeOf b g → slice_get (slot_types b) i ≡ Some (Some t) → d ≡ declared i t g → IsScopeOf b d
store_keeps b i t g d s there e j a h =
    elim (declared_or i t g j a (sym (ap (λ z. slice_get z j) e) ∙ h)) [
      | inl p ↦ ap (slot_type b) p.0 ∙ ap typed_slot there ∙ ap (λ (z : StaticType). Some z) p.1
      | inr q ↦ s j a q
    ]

-- a scope that is the same is as well a scope of the body
same_scope : (b : BodyOf) (g d : Scope) → IsScopeOf b g → d ≡ g → IsScopeOf b d
same_scope b g d s e = subst (IsScopeOf b) (sym e) s

-- after a statement that keeps to its types each variable in scope has the type of its slot, if it had before
stmt_keeps : (sig : Signatures) (b : BodyOf) (due : ValueDue) (stmt : StmtOf) (g d : Scope) → IsScopeOf b g → StmtIs sig (slot_types b) due stmt g d → IsScopeOf b d
stmt_keeps sig b due (Store i e) g d s h = store_keeps b i h.1 g d s h.5 h.8
stmt_keeps sig b due (Do e) g d s h = same_scope b g d s h.2
stmt_keeps sig b due (Send r c j args) g d s h = same_scope b g d s h.5
stmt_keeps sig b due (Print e) g d s h = same_scope b g d s h.3
stmt_keeps sig b due (IfThen e u) g d s h = same_scope b g d s h.4
stmt_keeps sig b due (IfElse e u v) g d s h = same_scope b g d s h.7
stmt_keeps sig b due (While e u) g d s h = same_scope b g d s h.4
stmt_keeps sig b due Return g d s h = same_scope b g d s h.1
stmt_keeps sig b due (Give e) g d s h = same_scope b g d s h.5
stmt_keeps sig b due (Block ss) g d s h = same_scope b g d s h.3

-- and so it has after statements of a block
stmts_keep : (sig : Signatures) (b : BodyOf) (due : ValueDue) (stmts : StmtsOf) (g d : Scope) → IsScopeOf b g → StmtsAre sig (slot_types b) due stmts g d → IsScopeOf b d
stmts_keep sig b due NoStmts g d s h = same_scope b g d s h
stmts_keep sig b due (MoreStmts stmt more) g d s h = stmts_keep sig b due more h.0 d (stmt_keeps sig b due stmt g h.0 s h.1) h.2

-- what is in scope where a body begins has its type among those of all slots
opened_at : (this : Option StaticType) (ps ls : List StaticType) (i : ℕ) (t : StaticType) → slice_get (this ∷ (map (λ x. Some x) ps ++ map (λ x. None) ls)) i ≡ Some (Some t)
    → typed_slot (slice_get (this ∷ map (λ x. Some x) (ps ++ ls)) i) ≡ Some t
opened_at this ps ls zero t h = same_some h
opened_at this [] [] (suc i) t h = absurd (none_some h)
opened_at this [] (l ∷ ls) (suc zero) t h = absurd (none_some (same_some h))
opened_at this [] (l ∷ ls) (suc (suc i)) t h = opened_at this [] ls (suc i) t h
opened_at this (p ∷ ps) ls (suc zero) t h = same_some h
opened_at this (p ∷ ps) ls (suc (suc i)) t h = opened_at this ps ls (suc i) t h

pub scopes_kept : ScopesKept
scopes_kept = record {
  opened = λ b i t h. opened_at (this_in b.is_main b.class) b.parameters b.locals i t h;
  stmt = stmt_keeps;
  stmts = stmts_keep;
}
