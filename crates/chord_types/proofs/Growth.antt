-- One more call or operator at the end of those that are there.
use Rattle.std.proofs.Common.{◌≡◌, List, [], ◌∷◌, ◌++◌, map, refl, sym, ap, ◌∙◌}
use Rattle.std.specs.Prelude.{Vec, Box}
use Rattle.std.specs.Global.{Global}
use Rattle.chord_bodies.specs.declared.expr.Expr.{Expr}
use Rattle.chord_bodies.specs.declared.expr.Link.{Link}
use Rattle.chord_bodies.specs.declared.expr.Call.{Call}
use Rattle.chord_bodies.specs.declared.expr.Expr.TheVariants as expr
use Rattle.chord_bodies.specs.Resolved.{ExprOf}
use Rattle.chord_bodies.specs.Resolved as to
use Rattle.chord_bodies.specs.View.{LinkOf, CallOf, view_expr, view_call, view_link, calls_on, links_on, binary}
use Rattle.chord_bodies.proofs.Viewed.{viewed_calls, viewed_chain}
use Rattle.chord_types.proofs.Lists.{map_last}

-- calls on an expression and one more are that one on what the others give
calls_end : (head : ExprOf) (cs : List CallOf) (c : CallOf) → calls_on head (cs ++ (c ∷ [])) ≡ calls_on (calls_on head cs) (c ∷ [])
calls_end head [] c = refl
calls_end head (d ∷ ds) c = calls_end (to.Call head d.class d.method d.result d.arguments) ds c

-- operators on an expression and one more are that one on what the others give
links_more : (head : ExprOf) (ls : List LinkOf) (l : LinkOf) → links_on head (ls ++ (l ∷ [])) ≡ links_on (links_on head ls) (l ∷ [])
links_more head [] l = refl
links_more head (k ∷ ks) l = links_more (binary k.operator head k.operand) ks l

-- one more call on calls
pub call_added : (first : Box Expr Global) (begin : Box Call Global) (old new : Vec Call Global) (call : Call) (receiver : Expr) → receiver ≡ expr.Calls first begin old → new.items ≡ old.items ++ (call ∷ [])
    → view_expr (expr.Calls first begin new) ≡ calls_on (view_expr receiver) (view_call call ∷ [])
call_added first begin old new call receiver e h =
    viewed_calls first begin new ∙ ap (λ z. calls_on (view_expr first.value) (view_call begin.value ∷ map view_call z)) h ∙ ap (λ z. calls_on (view_expr first.value) (view_call begin.value ∷ z)) (map_last view_call old.items call)
    ∙ calls_end (view_expr first.value) (view_call begin.value ∷ map view_call old.items) (view_call call) ∙ ap (λ z. calls_on z (view_call call ∷ [])) (sym (viewed_calls first begin old) ∙ sym (ap view_expr e))

-- one more operator on operators
pub link_added : (first : Box Expr Global) (begin : Box Link Global) (old new : Vec Link Global) (link : Link) (left : Expr) → left ≡ expr.Chain first begin old → new.items ≡ old.items ++ (link ∷ [])
    → view_expr (expr.Chain first begin new) ≡ links_on (view_expr left) (view_link link ∷ [])
link_added first begin old new link left e h =
    viewed_chain first begin new ∙ ap (λ z. links_on (view_expr first.value) (view_link begin.value ∷ map view_link z)) h ∙ ap (λ z. links_on (view_expr first.value) (view_link begin.value ∷ z)) (map_last view_link old.items link)
    ∙ links_more (view_expr first.value) (view_link begin.value ∷ map view_link old.items) (view_link link) ∙ ap (λ z. links_on z (view_link link ∷ [])) (sym (viewed_chain first begin old) ∙ sym (ap view_expr e))
