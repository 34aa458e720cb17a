-- What is said of statements in which no statement stands, from what is said of their parts.
use Rattle.std.proofs.Common.{◌≡◌, ◌≤◌, ℕ, ◌+◌, [], Bool, cond, not, refl, sym, ap, subst, ◌∙◌, Option, Some, None, map, is_some, arith}
use Rattle.std.specs.Prelude.{is_none, option_and_then, sum_by}
use Rattle.chord_tree.specs.declared.names.Name.{Name}
use Rattle.chord_tree.specs.declared.names.ValueType.{ValueType}
use Rattle.chord_tree.specs.Tree.{ExprTree, ExprTrees, ActualsTree, DotTree, DotTrees, MakeActuals, MakeDot, AssignStmt, CallStmt, MethodCallStmt, ThisCallStmt, NewStmt, ReturnValueStmt, LocalItem}
use Rattle.chord_tree.specs.Terms.{Term, Terms, term, terms, called, VariableTerm, ThisTerm, OwnCallTerm, NewTerm, CallTerm}
use Rattle.chord_tree.specs.Walk.{Used, Alone, Receiver}
use Rattle.chord_base.specs.declared.static_type.StaticType.{StaticType}
use Rattle.chord_bodies.specs.declared.stmt.Stmt.{Stmt}
use Rattle.chord_bodies.specs.Resolved as to
use Rattle.chord_bodies.specs.View.{view_expr, view_stmt, expr_list}
use Rattle.chord_classes.specs.Types.{type_written}
use Rattle.chord_classes.specs.Site as sites
use Rattle.chord_classes.specs.Site.{variable_named}
use Rattle.chord_classes.specs.TypedTerms.{Target, typed_call, is_console, own_target, target_on}
use Rattle.chord_classes.specs.NameRules.{when}
use Rattle.chord_classes.specs.TypeRules.{is_bool, when_typed, misfit}
use Rattle.chord_classes.specs.Typed.{local_type, type_of_term}
use Rattle.chord_classes.specs.ItemRules.{value_of, undeclared_type}
use Rattle.chord_classes.specs.Resolve.{resolved, slot_of, done, printed}
use Rattle.chord_classes.specs.Least.{keys, least}
use Rattle.chord_classes.specs.AllNotes.{typed_term_keys, term_keys}
use Rattle.chord_types.specs.declared.operand.Operand.{Operand}
use Rattle.chord_types.specs.declared.operand.Arguments.{Arguments}
use Rattle.chord_types.specs.declared.site.Site.{Site}
use Rattle.chord_types.specs.Views.{see_passed}
use Rattle.chord_types.specs.Sites.{see_site, Declares}
use Rattle.chord_types.specs.CallKeys.{call_keys}
use Rattle.chord_types.specs.Checked.{IsChecked, AreChecked, IsReceiver, IsAlone, term_breaks, terms_breaks, on_dot}
use Rattle.chord_types.specs.StmtChecked.{IsPlainStmt, IsCondition, IsItemChecked}
use Rattle.chord_types.specs.Flat.{doubled, doubled_stmt}
use Rattle.chord_classes.proofs.Leasts.{noted_two, noted_three, noted_four}
use Rattle.chord_types.proofs.Notes.{and_nothing, nothing_before}

-- an option is none exactly where it is not some
none_is_not_some : {X : Type 0} (o : Option X) → not (is_some o) ≡ is_none o
none_is_not_some None = refl
none_is_not_some (Some x) = refl

-- a call without receiver, which is the whole statement
pub own_alone : (site : sites.Site) (name : Name) (brackets : ℕ) (actuals : Terms) (old mid new : Option ℕ) (args : Arguments) (target : Option Target) (made : Stmt)
    → AreChecked site actuals old mid args → target ≡ own_target site name.text → new ≡ least mid (call_keys site Alone target name.at (map see_passed args.passed.items))
    → view_stmt made ≡ done site.table target to.This (expr_list (map view_expr args.exprs.items)) → doubled_stmt made ≤ sum_by doubled args.exprs.items → IsAlone site (OwnCallTerm name brackets actuals) old new made
own_alone site name brackets actuals old mid new args target made a ht hn hv hf = record {
  built = λ e. hv ∙ ap (λ z. done site.table z to.This (expr_list (map view_expr args.exprs.items))) ht ∙ ap (done site.table (own_target site name.text) to.This) (a.built (nothing_before mid new (call_keys site Alone target name.at (map see_passed args.passed.items)) hn e));
  noted = noted_two old mid new (terms_breaks site actuals) (term_keys site Alone (OwnCallTerm name brackets actuals)) a.noted
      (hn ∙ ap (λ z. least mid (call_keys site Alone z name.at (map see_passed args.passed.items))) ht ∙ ap (λ z. least mid (call_keys site Alone (own_target site name.text) name.at z)) a.typed);
  flat = let b = a.flat in omega arith;
}

-- a call on a receiver that ends a statement
pub on_alone : (site : sites.Site) (receiver : Term) (dot : ℕ) (name : Name) (brackets : ℕ) (actuals : Terms) (start old mid new : Option ℕ) (x : Operand) (args : Arguments) (made : Stmt)
    → IsReceiver site Receiver receiver start old x → AreChecked site actuals old mid args
    → new ≡ least mid (typed_term_keys site Alone (typed_call x.is_console x.static_type dot name (map see_passed args.passed.items)))
    → view_stmt made ≡ cond x.is_console (to.Print (printed (expr_list (map view_expr args.exprs.items)))) (done site.table (target_on site x.static_type name.text) (view_expr x.expr) (expr_list (map view_expr args.exprs.items)))
    → doubled_stmt made ≤ doubled x.expr + sum_by doubled args.exprs.items → IsAlone site (CallTerm receiver dot name brackets actuals) start new made
on_alone site receiver dot name brackets actuals start old mid new x args made h a hn hv hf = record {
  built = λ e.
      let later = nothing_before mid new (typed_term_keys site Alone (typed_call x.is_console x.static_type dot name (map see_passed args.passed.items))) hn e in
      hv ∙ ap (λ z. cond z (to.Print (printed (expr_list (map view_expr args.exprs.items)))) (done site.table (target_on site x.static_type name.text) (view_expr x.expr) (expr_list (map view_expr args.exprs.items)))) h.console
      ∙ ap (λ z. cond (is_console site receiver) (to.Print (printed (expr_list (map view_expr args.exprs.items)))) (done site.table (target_on site z name.text) (view_expr x.expr) (expr_list (map view_expr args.exprs.items)))) h.checked.typed
      ∙ ap (λ z. cond (is_console site receiver) (to.Print (printed (expr_list (map view_expr args.exprs.items)))) (done site.table (target_on site (type_of_term site Receiver receiver) name.text) z (expr_list (map view_expr args.exprs.items)))) (h.checked.built (nothing_before old mid (terms_breaks site actuals) a.noted later))
      ∙ ap (λ z. cond (is_console site receiver) (to.Print (printed z)) (done site.table (target_on site (type_of_term site Receiver receiver) name.text) (resolved site receiver) z)) (a.built later);
  noted = noted_three start old mid new (term_breaks site Receiver receiver) (terms_breaks site actuals) (term_keys site Alone (CallTerm receiver dot name brackets actuals)) h.checked.noted a.noted
      (hn ∙ ap (λ z. least mid (typed_term_keys site Alone (typed_call z x.static_type dot name (map see_passed args.passed.items)))) h.console
      ∙ ap (λ z. least mid (typed_term_keys site Alone (typed_call (is_console site receiver) z dot name (map see_passed args.passed.items)))) h.checked.typed
      ∙ ap (λ z. least mid (typed_term_keys site Alone (typed_call (is_console site receiver) (type_of_term site Receiver receiver) dot name z))) a.typed);
  flat = let b = h.checked.flat in let d = a.flat in omega arith;
}

-- a call without receiver and the calls on it, as a statement
pub call_plain : (site : sites.Site) (name : Name) (actuals : ActualsTree) (calls : DotTrees) (at : ℕ) (args : ExprTrees) (old new : Option ℕ) (made : Stmt)
    → actuals ≡ MakeActuals at args → IsAlone site (called calls (OwnCallTerm name at (terms args))) old new made → IsPlainStmt site (CallStmt name actuals calls) old new made
call_plain site name actuals calls at args old new made e h = subst (λ z. IsPlainStmt site (CallStmt name z calls) old new made) (sym e) (record { built = h.built; noted = and_nothing old new (term_breaks site Alone (called calls (OwnCallTerm name at (terms args)))) h.noted; flat = h.flat })

-- `new` and the calls on it, as a statement
pub new_plain : (site : sites.Site) (at : ℕ) (name : Name) (actuals : ActualsTree) (calls : DotTrees) (brackets : ℕ) (args : ExprTrees) (old new : Option ℕ) (made : Stmt)
    → actuals ≡ MakeActuals brackets args → IsAlone site (called calls (NewTerm at name brackets (terms args))) old new made → IsPlainStmt site (NewStmt at name actuals calls) old new made
new_plain site at name actuals calls brackets args old new made e h = subst (λ z. IsPlainStmt site (NewStmt at name z calls) old new made) (sym e) (record { built = h.built; noted = and_nothing old new (term_breaks site Alone (called calls (NewTerm at name brackets (terms args)))) h.noted; flat = h.flat })

-- calls on a variable, as a statement
pub method_plain : (site : sites.Site) (name : Name) (first : DotTree) (calls : DotTrees) (old new : Option ℕ) (made : Stmt) → IsAlone site (called calls (on_dot (VariableTerm name) first)) old new made → IsPlainStmt site (MethodCallStmt name first calls) old new made
method_plain site name (MakeDot dot method (MakeActuals at args)) calls old new made h = record { built = h.built; noted = and_nothing old new (term_breaks site Alone (called calls (on_dot (VariableTerm name) (MakeDot dot method (MakeActuals at args))))) h.noted; flat = h.flat }

-- calls on `this`, as a statement
pub this_plain : (site : sites.Site) (at : ℕ) (first : DotTree) (calls : DotTrees) (old new : Option ℕ) (made : Stmt) → IsAlone site (called calls (on_dot (ThisTerm at) first)) old new made → IsPlainStmt site (ThisCallStmt at first calls) old new made
this_plain site at (MakeDot dot method (MakeActuals brackets args)) calls old new made h = record { built = h.built; noted = and_nothing old new (term_breaks site Alone (called calls (on_dot (ThisTerm at) (MakeDot dot method (MakeActuals brackets args))))) h.noted; flat = h.flat }

-- an object that is made and dropped
pub new_ends : (site : sites.Site) (at : ℕ) (name : Name) (brackets : ℕ) (args : Terms) (old new : Option ℕ) (x : Operand) (made : Stmt) → IsReceiver site Alone (NewTerm at name brackets args) old new x → view_stmt made ≡ to.Do (view_expr x.expr) → doubled_stmt made ≡ doubled x.expr → IsAlone site (NewTerm at name brackets args) old new made
new_ends site at name brackets args old new x made h hv hf = record { built = λ e. hv ∙ ap to.Do (h.checked.built e); noted = h.checked.noted; flat = hf ∙ h.checked.flat }

-- a variable gets a value
pub assign_plain : (site : sites.Site) (name : Name) (at : ℕ) (value : ExprTree) (old mid late new : Option ℕ) (x : Operand) (there : Bool) (variable : Option StaticType) (slot : ℕ) (made : Stmt)
    → IsChecked site Used (term value) old mid x → late ≡ least mid (keys 14 (when (not there) name.at)) → new ≡ least late (keys 15 (misfit site.table variable x.static_type at))
    → there ≡ is_some (variable_named site.scope name.text) → variable ≡ local_type (variable_named site.scope name.text) → slot ≡ slot_of (variable_named site.scope name.text) → view_stmt made ≡ to.Store slot (view_expr x.expr) → doubled_stmt made ≡ doubled x.expr
    → IsPlainStmt site (AssignStmt name at value) old new made
assign_plain site name at value old mid late new x there variable slot made h hl hn ht hk hs hv hf = record {
  built = λ e. hv ∙ ap (λ z. to.Store z (view_expr x.expr)) hs ∙ ap (to.Store (slot_of (variable_named site.scope name.text)))
      (h.built (nothing_before mid late (keys 14 (when (not there) name.at)) hl (nothing_before late new (keys 15 (misfit site.table variable x.static_type at)) hn e)));
  noted = noted_four old mid late new new (term_breaks site Used (term value)) (keys 14 (when (is_none (variable_named site.scope name.text)) name.at)) (keys 15 (misfit site.table (local_type (variable_named site.scope name.text)) (value_of site value) at)) []
      h.noted
      (hl ∙ ap (λ z. least mid (keys 14 (when z name.at))) (ap not ht ∙ none_is_not_some (variable_named site.scope name.text)))
      (hn ∙ ap (λ z. least late (keys 15 (misfit site.table z x.static_type at))) hk ∙ ap (λ z. least late (keys 15 (misfit site.table (local_type (variable_named site.scope name.text)) z at))) h.typed)
      refl;
  flat = hf ∙ h.flat;
}

-- `return` with a value
pub return_plain : (site : sites.Site) (at : ℕ) (value : ExprTree) (old mid late new : Option ℕ) (x : Operand) (gives : Bool) (due : Option StaticType) (made : Stmt)
    → IsChecked site Used (term value) old mid x → late ≡ least mid (keys 15 (misfit site.table due x.static_type at)) → new ≡ least late (keys 18 (when (not gives) at))
    → gives ≡ is_some site.due → due ≡ option_and_then (type_written site.table) site.due → view_stmt made ≡ to.Give (view_expr x.expr) → doubled_stmt made ≡ doubled x.expr
    → IsPlainStmt site (ReturnValueStmt at value) old new made
return_plain site at value old mid late new x gives due made h hl hn hg hd hv hf = record {
  built = λ e. hv ∙ ap to.Give (h.built (nothing_before mid late (keys 15 (misfit site.table due x.static_type at)) hl (nothing_before late new (keys 18 (when (not gives) at)) hn e)));
  noted = noted_four old mid late new new (term_breaks site Used (term value)) (keys 15 (misfit site.table (option_and_then (type_written site.table) site.due) (value_of site value) at)) (keys 18 (when (is_none site.due) at)) []
      h.noted
      (hl ∙ ap (λ z. least mid (keys 15 (misfit site.table z x.static_type at))) hd ∙ ap (λ z. least mid (keys 15 (misfit site.table (option_and_then (type_written site.table) site.due) z at))) h.typed)
      (hn ∙ ap (λ z. least late (keys 18 (when z at))) (ap not hg ∙ none_is_not_some site.due))
      refl;
  flat = hf ∙ h.flat;
}

-- the condition of `if` or `while`
pub condition_checked : (site : sites.Site) (at : ℕ) (test : ExprTree) (old mid new : Option ℕ) (x : Operand) → IsChecked site Used (term test) old mid x → new ≡ least mid (keys 15 (when_typed is_bool x.static_type at)) → IsCondition site at test old new x.expr
condition_checked site at test old mid new x h hn = record {
  built = λ e. h.built (nothing_before mid new (keys 15 (when_typed is_bool x.static_type at)) hn e);
  noted = noted_two old mid new (term_breaks site Used (term test)) (keys 15 (when_typed is_bool (value_of site test) at)) h.noted (hn ∙ ap (λ z. least mid (keys 15 (when_typed is_bool z at))) h.typed);
  flat = h.flat;
}

-- a local with its value
pub local_item : (before after_it : Site) (written : ValueType) (name : Name) (at : ℕ) (value : ExprTree) (old mid late more new : Option ℕ) (x : Operand) (wanted : Option StaticType) (there : Bool) (slot : ℕ) (made : Stmt)
    → IsChecked (see_site before) Used (term value) old mid x → late ≡ least mid (keys 2 (undeclared_type before.table.now written)) → more ≡ least late (keys 15 (misfit before.table.now wanted x.static_type at)) → new ≡ least more (keys 20 (when there name.at))
    → wanted ≡ type_written before.table.now written → there ≡ is_some (variable_named before.scope name.text) → slot ≡ before.next → Declares before after_it written name → view_stmt made ≡ to.Store slot (view_expr x.expr)
    → doubled_stmt made ≡ doubled x.expr
    → IsItemChecked before after_it (LocalItem written name at value) old new made
local_item before after_it written name at value old mid late more new x wanted there slot made h hl hm hn hw ht hs d hv hf = record {
  built = λ e. hv ∙ ap (λ z. to.Store z (view_expr x.expr)) hs ∙ ap (to.Store before.next)
      (h.built (nothing_before mid late (keys 2 (undeclared_type before.table.now written)) hl (nothing_before late more (keys 15 (misfit before.table.now wanted x.static_type at)) hm (nothing_before more new (keys 20 (when there name.at)) hn e))));
  noted = noted_four old mid late more new (term_breaks (see_site before) Used (term value)) (keys 2 (undeclared_type before.table.now written)) (keys 15 (misfit before.table.now (type_written before.table.now written) (value_of (see_site before) value) at)) (keys 20 (when (is_some (variable_named before.scope name.text)) name.at))
      h.noted hl
      (hm ∙ ap (λ z. least late (keys 15 (misfit before.table.now z x.static_type at))) hw ∙ ap (λ z. least late (keys 15 (misfit before.table.now (type_written before.table.now written) z at))) h.typed)
      (hn ∙ ap (λ z. least more (keys 20 (when z name.at))) ht);
  flat = hf ∙ h.flat;
  types = d.types;
  site = d.site;
}
