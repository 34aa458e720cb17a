-- Bodies that keep to their types name what fits an instruction.
use Rattle.std.proofs.Common.{List, [], ◌∷◌, Option, Some, ap, ◌∙◌, arith}
use Rattle.std.specs.Prelude.{option_map}
use Rattle.std.proofs.lemmas.Option.{slice_get-map}
use Rattle.chord_base.specs.Types.{Signatures}
use Rattle.chord_base.specs.declared.static_type.StaticType.{StaticType}
use Rattle.chord_base.specs.declared.static_type.StaticType.TheVariants as ty
use Rattle.chord_bodies.specs.declared.body.Body.{Body}
use Rattle.chord_bodies.specs.BodyView.{view_body}
use Rattle.chord_bodies.specs.Resolved.{ExprOf, ExprsOf, StmtOf, StmtsOf, LayoutOf, Resolved, IntOf, FlagOf, TextOf, Load, This, Negate, Deny, Operate, Both, Either, New, Call, NoExprs, MoreExprs, Store, Do, Send, Print, IfThen, IfElse, While, Return, Give, Block, NoStmts, MoreStmts}
use Rattle.chord_bodies.specs.Types.{Scope, ValueDue, ExprIs, ExprsAre, StmtIs, StmtsAre, opening, slot_types}
use Rattle.chord_bodies.specs.Planned.{IsPlanned}
use Rattle.chord_gen.specs.Emitted.{argument_count}
use Rattle.chord_gen.specs.Emitting.{IsNarrow, AreNarrow, IsNarrowStmt, AreNarrowStmts}
use Rattle.chord_gen.specs.TypedSource.{source_of, IsTypedSource}
use Rattle.chord_gen.specs.Building.{AreNarrowBodies}
use Rattle.chord_gen.proofs.PartsRight.{arguments_count, method_right, new_right}

module _ (sig : Signatures) (p : Resolved) (plan : IsPlanned sig p) where
  mutual
    -- an expression that keeps to its type is narrow
    narrow_expr : (e : ExprOf) (g : Scope) (t : Option StaticType) → ExprIs sig g e t → IsNarrow e
    narrow_expr (IntOf n) g t is = tt
    narrow_expr (FlagOf b) g t is = tt
    narrow_expr (TextOf bytes) g t is = tt
    narrow_expr (Load slot) g t is = tt
    narrow_expr This g t is = tt
    narrow_expr (Negate e) g t is = narrow_expr e g (Some ty.Int) is.0
    narrow_expr (Deny e) g t is = narrow_expr e g (Some ty.Bool) is.0
    narrow_expr (Operate operation l r) g t is = (narrow_expr l g (Some is.0) is.3, narrow_expr r g (Some is.1) is.4)
    narrow_expr (Both l r) g t is = (narrow_expr l g (Some ty.Bool) is.0, narrow_expr r g (Some ty.Bool) is.1)
    narrow_expr (Either l r) g t is = (narrow_expr l g (Some ty.Bool) is.0, narrow_expr r g (Some ty.Bool) is.1)
    narrow_expr (New c args) g t is =
        let q = new_right sig p plan c is.0 (argument_count args) is.1 (arguments_count sig p plan g args is.0 is.2) in
        let within = q.0 in
        let few = plan.few in
        (omega (arith, within, few), q.1, narrow_exprs args g is.0 is.2)
    narrow_expr (Call e c j result args) g t is =
        let q = method_right sig p plan c j is.0 (argument_count args) is.2 (arguments_count sig p plan g args is.0.parameters is.4) in
        (q.0, q.1, narrow_expr e g (Some (ty.Class c)) is.1, narrow_exprs args g is.0.parameters is.4)

    -- arguments that fit their parameters are narrow
    narrow_exprs : (es : ExprsOf) (g : Scope) (ps : List StaticType) → ExprsAre sig g es ps → AreNarrow es
    narrow_exprs NoExprs g [] is = tt
    narrow_exprs (MoreExprs e es) g (t ∷ ts) is = (narrow_expr e g (Some is.0) is.1, narrow_exprs es g ts is.3)
    narrow_exprs NoExprs g (t ∷ ts) is = absurd is
    narrow_exprs (MoreExprs e es) g [] is = absurd is

  mutual
    -- a statement that keeps to its types is narrow
    narrow_stmt : (s : StmtOf) (types : Scope) (due : ValueDue) (g d : Scope) → StmtIs sig types due s g d → IsNarrowStmt s
    narrow_stmt (Store slot e) types due g d is = narrow_expr e g (Some is.0) is.3
    narrow_stmt (Do e) types due g d is = narrow_expr e g is.0 is.1
    narrow_stmt (Send e c j args) types due g d is =
        let q = method_right sig p plan c j is.0 (argument_count args) is.2 (arguments_count sig p plan g args is.0.parameters is.4) in
        (q.0, q.1, narrow_expr e g (Some (ty.Class c)) is.1, narrow_exprs args g is.0.parameters is.4)
    narrow_stmt (Print e) types due g d is = narrow_expr e g (Some is.0) is.1
    narrow_stmt (IfThen e s) types due g d is = (narrow_expr e g (Some ty.Bool) is.1, narrow_stmt s types due g is.0 is.2)
    narrow_stmt (IfElse e s other) types due g d is = (narrow_expr e g (Some ty.Bool) is.2, narrow_stmt s types due g is.0 is.3, narrow_stmt other types due g is.1 is.4)
    narrow_stmt (While e s) types due g d is = (narrow_expr e g (Some ty.Bool) is.1, narrow_stmt s types due g is.0 is.2)
    narrow_stmt Return types due g d is = tt
    narrow_stmt (Give e) types due g d is = narrow_expr e g (Some is.0) is.2
    narrow_stmt (Block ss) types due g d is = narrow_stmts ss types due g is.0 is.1

    -- statements that keep to their types are narrow
    narrow_stmts : (ss : StmtsOf) (types : Scope) (due : ValueDue) (g d : Scope) → StmtsAre sig types due ss g d → AreNarrowStmts ss
    narrow_stmts NoStmts types due g d is = tt
    narrow_stmts (MoreStmts s ss) types due g d is = (narrow_stmt s types due g is.0 is.1, narrow_stmts ss types due is.0 d is.2)

-- the bodies of a source that keeps to its types are narrow
pub narrow_bodies : (plan : LayoutOf) (bodies : List Body) → IsTypedSource (source_of plan bodies) → AreNarrowBodies bodies
narrow_bodies plan bodies is j b e =
    let body = view_body b in
    let typed = is.typed j body (slice_get-map view_body bodies j ∙ ap (option_map view_body) e) in
    narrow_stmts is.sig (source_of plan bodies) is.planned body.stmts (slot_types body) body.result (opening body) typed.last typed.stmts
