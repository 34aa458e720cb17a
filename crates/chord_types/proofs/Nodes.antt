-- What is said of an expression, from what is said of its parts, a node at a time.
use Rattle.std.proofs.Common.{◌≡◌, ◌≤◌, ℕ, ◌+◌, ◌++◌, List, [], ◌∷◌, false, refl, sym, ap, subst, ◌∙◌, Option, Some, None, map, flat_map, arith}
use Rattle.std.specs.Prelude.{unwrap_or, sum_by}
use Rattle.chord_tree.specs.declared.names.Name.{Name}
use Rattle.chord_tree.specs.declared.exprs.Operator.{Operator}
use Rattle.chord_tree.specs.Tree.{ExprTree, exprs}
use Rattle.chord_tree.specs.Terms.{Term, Terms, GroupTerm, MinusTerm, NotTerm, OperationTerm, NewTerm, OwnCallTerm, CallTerm, term, terms, first_token}
use Rattle.chord_tree.specs.Walk.{Role, Used, Receiver}
use Rattle.chord_base.specs.declared.static_type.StaticType.{StaticType}
use Rattle.chord_bodies.specs.Resolved.{ExprOf}
use Rattle.chord_bodies.specs.Resolved as to
use Rattle.chord_bodies.specs.View.{view_expr, expr_list}
use Rattle.chord_classes.specs.Table.{class_named}
use Rattle.chord_classes.specs.Site.{Site}
use Rattle.chord_classes.specs.TypedTerms.{Passed, Target, TypedTerm, GroupTyped, MinusTyped, NotTyped, OperationTyped, NewTyped, typed_call, is_console, own_target, target_on}
use Rattle.chord_classes.specs.Typed.{judged, type_of_term, typed_term, passed}
use Rattle.chord_classes.specs.Resolve.{resolved, all_resolved, applied, call_of}
use Rattle.chord_classes.specs.Least.{least}
use Rattle.chord_classes.specs.AllNotes.{typed_term_keys, term_keys}
use Rattle.chord_types.specs.declared.operand.Operand.{Operand}
use Rattle.chord_types.specs.declared.operand.Arguments.{Arguments}
use Rattle.chord_types.specs.Views.{see_passed}
use Rattle.chord_types.specs.CallKeys.{call_keys, call_type}
use Rattle.chord_types.specs.Checked.{IsChecked, AreChecked, IsReceiver, term_breaks, terms_breaks}
use Rattle.chord_types.specs.Flat.{doubled}
use Rattle.chord_classes.proofs.Leasts.{noted_two, noted_three}
use Rattle.chord_types.proofs.Notes.{and_nothing, nothing_before, nothing_after, append_more}
use Rattle.chord_types.proofs.Lists.{map_last}

-- `-` and its operand
pub minus_checked : (site : Site) (at : ℕ) (operand : Term) (old mid new : Option ℕ) (x made : Operand) → IsChecked site Used operand old mid x
    → made.static_type ≡ judged site Used (MinusTyped at x.static_type) → new ≡ least mid (typed_term_keys site Used (MinusTyped at x.static_type)) → view_expr made.expr ≡ to.Negate (view_expr x.expr) → doubled made.expr ≡ doubled x.expr
    → IsChecked site Used (MinusTerm at operand) old new made
minus_checked site at operand old mid new x made h hk hn hv hf = record {
  built = λ e. hv ∙ ap to.Negate (h.built (nothing_before mid new (typed_term_keys site Used (MinusTyped at x.static_type)) hn e));
  typed = hk ∙ ap (λ z. judged site Used (MinusTyped at z)) h.typed;
  noted = noted_two old mid new (term_breaks site Used operand) (term_keys site Used (MinusTerm at operand)) h.noted (hn ∙ ap (λ z. least mid (typed_term_keys site Used (MinusTyped at z))) h.typed);
  flat = hf ∙ h.flat;
}

-- `!` and its operand
pub not_checked : (site : Site) (at : ℕ) (operand : Term) (old mid new : Option ℕ) (x made : Operand) → IsChecked site Used operand old mid x
    → made.static_type ≡ judged site Used (NotTyped at x.static_type) → new ≡ least mid (typed_term_keys site Used (NotTyped at x.static_type)) → view_expr made.expr ≡ to.Deny (view_expr x.expr) → doubled made.expr ≡ doubled x.expr
    → IsChecked site Used (NotTerm at operand) old new made
not_checked site at operand old mid new x made h hk hn hv hf = record {
  built = λ e. hv ∙ ap to.Deny (h.built (nothing_before mid new (typed_term_keys site Used (NotTyped at x.static_type)) hn e));
  typed = hk ∙ ap (λ z. judged site Used (NotTyped at z)) h.typed;
  noted = noted_two old mid new (term_breaks site Used operand) (term_keys site Used (NotTerm at operand)) h.noted (hn ∙ ap (λ z. least mid (typed_term_keys site Used (NotTyped at z))) h.typed);
  flat = hf ∙ h.flat;
}

-- an expression in brackets has the static type of the one inside
group_type : (site : Site) (role : Role) (inner : Option StaticType) → inner ≡ judged site role (GroupTyped inner)
group_type site role None = refl
group_type site role (Some t) = refl

-- an expression in brackets
pub group_checked : (site : Site) (role : Role) (at : ℕ) (inner : Term) (old new : Option ℕ) (x made : Operand) → IsChecked site Used inner old new x
    → made.expr ≡ x.expr → made.static_type ≡ x.static_type → made.is_console ≡ false → IsReceiver site role (GroupTerm at inner) old new made
group_checked site role at inner old new x made h he hk hc = record {
  checked = record {
    built = λ e. ap view_expr he ∙ h.built e;
    typed = hk ∙ h.typed ∙ group_type site role (type_of_term site Used inner);
    noted = and_nothing old new (term_breaks site Used inner) h.noted;
    flat = ap doubled he ∙ h.flat;
  };
  console = hc;
}

-- an operator and its operands
pub operation_checked : (site : Site) (operator : Operator) (at : ℕ) (left right : Term) (old mid late new : Option ℕ) (x y made : Operand)
    → IsChecked site Used left old mid x → IsChecked site Used right mid late y
    → made.static_type ≡ judged site Used (OperationTyped operator at x.static_type y.static_type) → new ≡ least late (typed_term_keys site Used (OperationTyped operator at x.static_type y.static_type))
    → view_expr made.expr ≡ applied operator x.static_type y.static_type (view_expr x.expr) (view_expr y.expr) → doubled made.expr ≤ doubled x.expr + doubled y.expr
    → IsChecked site Used (OperationTerm operator at left right) old new made
operation_checked site operator at left right old mid late new x y made h k hk hn hv hf = record {
  built = λ e.
      let later = nothing_before late new (typed_term_keys site Used (OperationTyped operator at x.static_type y.static_type)) hn e in
      let earlier = nothing_before mid late (term_breaks site Used right) k.noted later in
      hv ∙ ap (λ z. applied operator z y.static_type (view_expr x.expr) (view_expr y.expr)) h.typed ∙ ap (λ z. applied operator (type_of_term site Used left) z (view_expr x.expr) (view_expr y.expr)) k.typed
      ∙ ap (λ z. applied operator (type_of_term site Used left) (type_of_term site Used right) z (view_expr y.expr)) (h.built earlier) ∙ ap (applied operator (type_of_term site Used left) (type_of_term site Used right) (resolved site left)) (k.built later);
  typed = hk ∙ types (λ z. judged site Used z);
  noted = noted_three old mid late new (term_breaks site Used left) (term_breaks site Used right) (term_keys site Used (OperationTerm operator at left right)) h.noted k.noted (hn ∙ types (λ z. least late (typed_term_keys site Used z)));
  flat = let a = h.flat in let b = k.flat in omega arith;
}
  where
    types : {X : Type 0} (f : TypedTerm → X) → f (OperationTyped operator at x.static_type y.static_type) ≡ f (typed_term site (OperationTerm operator at left right))
    types f = ap (λ z. f (OperationTyped operator at z y.static_type)) h.typed ∙ ap (λ z. f (OperationTyped operator at (type_of_term site Used left) z)) k.typed

-- a call without receiver
pub own_checked : (site : Site) (role : Role) (name : Name) (brackets : ℕ) (actuals : Terms) (old mid new : Option ℕ) (args : Arguments) (target : Option Target) (made : Operand)
    → AreChecked site actuals old mid args → target ≡ own_target site name.text
    → made.static_type ≡ call_type site role target name.at (map see_passed args.passed.items) → new ≡ least mid (call_keys site role target name.at (map see_passed args.passed.items))
    → view_expr made.expr ≡ call_of site.table target to.This (expr_list (map view_expr args.exprs.items)) → doubled made.expr ≤ sum_by doubled args.exprs.items → made.is_console ≡ false
    → IsReceiver site role (OwnCallTerm name brackets actuals) old new made
own_checked site role name brackets actuals old mid new args target made a ht hk hn hv hf hc = record {
  checked = record {
    built = λ e. hv ∙ ap (λ z. call_of site.table z to.This (expr_list (map view_expr args.exprs.items))) ht
        ∙ ap (call_of site.table (own_target site name.text) to.This) (a.built (nothing_before mid new (call_keys site role target name.at (map see_passed args.passed.items)) hn e));
    typed = hk ∙ same (λ t ps. call_type site role t name.at ps);
    noted = noted_two old mid new (terms_breaks site actuals) (term_keys site role (OwnCallTerm name brackets actuals)) a.noted (hn ∙ same (λ t ps. least mid (call_keys site role t name.at ps)));
    flat = let b = a.flat in omega arith;
  };
  console = hc;
}
  where
    same : {X : Type 0} (f : Option Target → List Passed → X) → f target (map see_passed args.passed.items) ≡ f (own_target site name.text) (passed site actuals)
    same f = ap (λ z. f z (map see_passed args.passed.items)) ht ∙ ap (f (own_target site name.text)) a.typed

-- `new` and a class
pub new_checked : (site : Site) (role : Role) (at : ℕ) (name : Name) (brackets : ℕ) (actuals : Terms) (old mid new : Option ℕ) (args : Arguments) (class : ℕ) (made : Operand)
    → AreChecked site actuals old mid args → class ≡ unwrap_or (class_named site.table name.text) 0
    → made.static_type ≡ judged site role (NewTyped name (map see_passed args.passed.items)) → new ≡ least mid (typed_term_keys site role (NewTyped name (map see_passed args.passed.items)))
    → view_expr made.expr ≡ to.New class (expr_list (map view_expr args.exprs.items)) → doubled made.expr ≡ sum_by doubled args.exprs.items → made.is_console ≡ false
    → IsReceiver site role (NewTerm at name brackets actuals) old new made
new_checked site role at name brackets actuals old mid new args class made a hclass hk hn hv hf hc = record {
  checked = record {
    built = λ e. hv ∙ ap (λ z. to.New z (expr_list (map view_expr args.exprs.items))) hclass
        ∙ ap (to.New (unwrap_or (class_named site.table name.text) 0)) (a.built (nothing_before mid new (typed_term_keys site role (NewTyped name (map see_passed args.passed.items))) hn e));
    typed = hk ∙ ap (λ z. judged site role (NewTyped name z)) a.typed;
    noted = noted_two old mid new (terms_breaks site actuals) (term_keys site role (NewTerm at name brackets actuals)) a.noted (hn ∙ ap (λ z. least mid (typed_term_keys site role (NewTyped name z))) a.typed);
    flat = hf ∙ a.flat;
  };
  console = hc;
}

-- what is looked at of a call on a receiver
on_receiver : (site : Site) (receiver : Term) (dot : ℕ) (name : Name) (brackets : ℕ) (actuals : Terms) (start old mid : Option ℕ) (x : Operand) (args : Arguments) → IsReceiver site Receiver receiver start old x → AreChecked site actuals old mid args
    → typed_call x.is_console x.static_type dot name (map see_passed args.passed.items) ≡ typed_term site (CallTerm receiver dot name brackets actuals)
on_receiver site receiver dot name brackets actuals start old mid x args h a =
    ap (λ z. typed_call z x.static_type dot name (map see_passed args.passed.items)) h.console ∙ ap (λ z. typed_call (is_console site receiver) z dot name (map see_passed args.passed.items)) h.checked.typed
    ∙ ap (typed_call (is_console site receiver) (type_of_term site Receiver receiver) dot name) a.typed

-- a call on a receiver
pub call_checked : (site : Site) (role : Role) (receiver : Term) (dot : ℕ) (name : Name) (brackets : ℕ) (actuals : Terms) (start old mid new : Option ℕ) (x : Operand) (args : Arguments) (made : Operand)
    → IsReceiver site Receiver receiver start old x → AreChecked site actuals old mid args
    → made.static_type ≡ judged site role (typed_call x.is_console x.static_type dot name (map see_passed args.passed.items))
    → new ≡ least mid (typed_term_keys site role (typed_call x.is_console x.static_type dot name (map see_passed args.passed.items)))
    → view_expr made.expr ≡ call_of site.table (target_on site x.static_type name.text) (view_expr x.expr) (expr_list (map view_expr args.exprs.items)) → doubled made.expr ≤ doubled x.expr + sum_by doubled args.exprs.items
    → made.is_console ≡ false
    → IsReceiver site role (CallTerm receiver dot name brackets actuals) start new made
call_checked site role receiver dot name brackets actuals start old mid new x args made h a hk hn hv hf hc = record {
  checked = record {
    built = λ e.
        let later = nothing_before mid new (typed_term_keys site role (typed_call x.is_console x.static_type dot name (map see_passed args.passed.items))) hn e in
        hv ∙ ap (λ z. call_of site.table (target_on site z name.text) (view_expr x.expr) (expr_list (map view_expr args.exprs.items))) h.checked.typed
        ∙ ap (λ z. call_of site.table (target_on site (type_of_term site Receiver receiver) name.text) z (expr_list (map view_expr args.exprs.items))) (h.checked.built (nothing_before old mid (terms_breaks site actuals) a.noted later))
        ∙ ap (call_of site.table (target_on site (type_of_term site Receiver receiver) name.text) (resolved site receiver)) (a.built later);
    typed = hk ∙ ap (judged site role) same;
    noted = noted_three start old mid new (term_breaks site Receiver receiver) (terms_breaks site actuals) (term_keys site role (CallTerm receiver dot name brackets actuals)) h.checked.noted a.noted (hn ∙ ap (λ z. least mid (typed_term_keys site role z)) same);
    flat = let b = h.checked.flat in let d = a.flat in omega arith;
  };
  console = hc;
}
  where
    same : typed_call x.is_console x.static_type dot name (map see_passed args.passed.items) ≡ typed_term site (CallTerm receiver dot name brackets actuals)
    same = on_receiver site receiver dot name brackets actuals start old mid x args h a

-- Arguments, as a list.

-- what is looked at of one argument
abbrev pub one_passed : Site → ExprTree → Passed
one_passed site x = record { first = first_token (term x); static_type = type_of_term site Used (term x) }

-- the first arguments were looked at
pub record AreAll (site : Site) (xs : List ExprTree) (old new : Option ℕ) (es : List ExprOf) (ps : List Passed) : Type 0 where
  pub built : new ≡ None → es ≡ map (λ x. resolved site (term x)) xs
  pub typed : ps ≡ map (one_passed site) xs
  pub noted : new ≡ least old (flat_map (λ x. term_breaks site Used (term x)) xs)

-- no argument was looked at
pub none_yet : (site : Site) (old : Option ℕ) → AreAll site [] old old [] []
none_yet site old = record { built = λ e. refl; typed = refl; noted = refl }

-- what arguments are resolved to one by one is, as a list, what they are resolved to together
all_built : (site : Site) (xs : List ExprTree) → expr_list (map (λ x. resolved site (term x)) xs) ≡ all_resolved site (terms (exprs xs))
all_built site [] = refl
all_built site (x ∷ xs) = ap (to.MoreExprs (resolved site (term x))) (all_built site xs)

-- what is looked at of arguments one by one is what is looked at of them together
all_passed : (site : Site) (xs : List ExprTree) → map (one_passed site) xs ≡ passed site (terms (exprs xs))
all_passed site [] = refl
all_passed site (x ∷ xs) = ap (λ z. one_passed site x ∷ z) (all_passed site xs)

-- what arguments break one by one is what they break together
all_breaks : (site : Site) (xs : List ExprTree) → flat_map (λ x. term_breaks site Used (term x)) xs ≡ terms_breaks site (terms (exprs xs))
all_breaks site [] = refl
all_breaks site (x ∷ xs) = ap (λ z. term_breaks site Used (term x) ++ z) (all_breaks site xs)

-- all arguments were looked at
pub are_checked : (site : Site) (xs : List ExprTree) (old new : Option ℕ) (args : Arguments) → AreAll site xs old new (map view_expr args.exprs.items) (map see_passed args.passed.items) → sum_by doubled args.exprs.items ≡ 0 → AreChecked site (terms (exprs xs)) old new args
are_checked site xs old new args h hf = record {
  built = λ e. ap expr_list (h.built e) ∙ all_built site xs;
  typed = h.typed ∙ all_passed site xs;
  noted = h.noted ∙ ap (least old) (all_breaks site xs);
  flat = hf;
}

-- what a function makes of a list and one element more, laid together, is what it makes of the list and then of that element
flat_end : {A : Type 0} (f : A → List ℕ) (xs : List A) (x : A) → flat_map f (xs ++ (x ∷ [])) ≡ flat_map f xs ++ f x
flat_end f [] x = nothing_after (f x)
flat_end f (a ∷ xs) x = ap (λ z. f a ++ z) (flat_end f xs x) ∙ append_more (f a) (flat_map f xs) (f x)

-- one more argument was looked at
pub one_more_checked : (site : Site) (xs : List ExprTree) (x : ExprTree) (old mid new : Option ℕ) (es : List ExprOf) (ps : List Passed) (operand : Operand) (first : ℕ)
    → AreAll site xs old mid es ps → IsChecked site Used (term x) mid new operand → first ≡ first_token (term x)
    → AreAll site (xs ++ (x ∷ [])) old new (es ++ (view_expr operand.expr ∷ [])) (ps ++ (record { first = first; static_type = operand.static_type } ∷ []))
one_more_checked site xs x old mid new es ps operand first h k hf = record {
  built = λ e. ap (λ z. z ++ (view_expr operand.expr ∷ [])) (h.built (nothing_before mid new (term_breaks site Used (term x)) k.noted e)) ∙ ap (λ z. map (λ x. resolved site (term x)) xs ++ (z ∷ [])) (k.built e) ∙ sym (map_last (λ x. resolved site (term x)) xs x);
  typed = ap (λ z. z ++ (record { first = first; static_type = operand.static_type } ∷ [])) h.typed ∙ ap (λ z. map (one_passed site) xs ++ (record { first = z; static_type = operand.static_type } ∷ [])) hf
      ∙ ap (λ z. map (one_passed site) xs ++ (record { first = first_token (term x); static_type = z } ∷ [])) k.typed ∙ sym (map_last (one_passed site) xs x);
  noted = noted_two old mid new (flat_map (λ x. term_breaks site Used (term x)) xs) (term_breaks site Used (term x)) h.noted k.noted ∙ ap (least old) (sym (flat_end (λ x. term_breaks site Used (term x)) xs x));
}

-- the same of equal lists
pub moved : {site : Site} {xs ys : List ExprTree} {old new : Option ℕ} {es fs : List ExprOf} {ps qs : List Passed} → xs ≡ ys → es ≡ fs → ps ≡ qs → AreAll site xs old new es ps → AreAll site ys old new fs qs
moved {site = site} {ys = ys} {old = old} {new = new} {es = es} {fs = fs} {ps = ps} hx he hp h =
    subst (λ z. AreAll site ys old new fs z) hp (subst (λ z. AreAll site ys old new z ps) he (subst (λ z. AreAll site z old new es ps) hx h))
