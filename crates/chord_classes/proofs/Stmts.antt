-- A statement in which no rule is broken keeps to its types.
use Rattle.std.proofs.Common.{◌≡◌, ℕ, List, [], ◌∷◌, ◌++◌, Bool, true, false, cond, map, refl, sym, ap, ◌∙◌, subst, Option, Some, None, slice_get}
use Rattle.std.specs.Prelude.{is_some, option_map, option_and_then, unwrap_or}
use Rattle.std.proofs.lemmas.Bool.{false≢true}
use Rattle.chord_tree.specs.declared.names.Name.{Name}
use Rattle.chord_tree.specs.declared.names.ValueType.{ValueType}
use Rattle.chord_tree.specs.declared.names.ValueType.TheVariants as types
use Rattle.chord_tree.specs.Tree.{ExprTree, StmtTree, BlockTree, DotTrees, NoDots, MoreDots, MakeDot, MakeActuals, ItemTrees, ItemTree, AssignStmt, CallStmt, MethodCallStmt, ThisCallStmt, NewStmt, BlockStmt, EmptyStmt, IfStmt, IfElseStmt, WhileStmt, ReturnStmt, ReturnValueStmt, MakeBlock, NoItems, MoreItems, LocalItem, StmtItem}
use Rattle.chord_tree.specs.Terms.{Term, Terms, VariableTerm, ThisTerm, NumberTerm, LiteralTerm, BoolTerm, GroupTerm, MinusTerm, NotTerm, OperationTerm, NewTerm, OwnCallTerm, CallTerm, NoTerms, MoreTerms, term, terms, called, stands_as, first_token}
use Rattle.chord_tree.specs.Walk.{Role, Used, Alone, Receiver, Spot, AtTerm, AtItem, over_stmt, over_block, over_items, spot_of_term, spot_of_item}
use Rattle.chord_base.specs.declared.static_type.StaticType.{StaticType}
use Rattle.chord_base.specs.declared.static_type.StaticType.TheVariants as ty
use Rattle.chord_bodies.specs.Resolved.{ExprOf, StmtsOf}
use Rattle.chord_bodies.specs.Resolved as to
use Rattle.chord_bodies.specs.Types.{Scope, ExprIs, ExprsAre, StmtIs, StmtsAre, ValueDue, Extends, declared, prints}
use Rattle.chord_classes.specs.Table.{Shape, methods_at, class_named}
use Rattle.chord_classes.specs.Types.{basic_type, type_written, type_known, is_sync, result_known, signature, signatures}
use Rattle.chord_classes.specs.Site.{Site, variable_named, after, stmt_locals, block_locals, items_locals}
use Rattle.chord_classes.specs.TypedTerms.{NewTyped, OwnCallTyped, CallTyped, PrintTyped, is_console, typed_call, Target, target_at, own_target, target_on}
use Rattle.chord_classes.specs.NameRules.{when, is_print, miscounted_for, target_formals}
use Rattle.chord_classes.specs.TypeRules.{is_bool, when_typed, misfit, misfits_for, unprintable}
use Rattle.chord_classes.specs.Typed.{local_type, passed, type_of_term}
use Rattle.chord_classes.specs.ItemRules.{value_of, undeclared_type}
use Rattle.chord_classes.specs.Resolve.{slot_of, call_of, resolved, all_resolved, done, printed, resolved_alone, resolved_stmt, resolved_block, resolved_items}
use Rattle.chord_classes.proofs.Every.{Every, every_left, every_right, every_both, every_map}
use Rattle.chord_classes.proofs.Facts.{none_some, same_some, true_false, when_not, unless_not, there_is}
use Rattle.chord_classes.proofs.Free.{FreeTerm, FreeItem, Free}
use Rattle.chord_classes.proofs.Scopes.{extends_itself, extends_on, declared_same, declared_there, declared_keeps, declared_extends, HasRoom, room_first, room_rest, room_here, room_typed, room_after}
use Rattle.chord_classes.proofs.Terms.{Declared, Stands, Holds, AreTyped, variable_is, typed_as, a_bool, fits_one, fits_written, args_fit, Callable, callable, own_callable, call_is, in_term, in_terms, the_last, term_typed, terms_typed}

-- a call or `new`
abbrev IsCall : Term → Type 0
IsCall (NewTerm at name brackets actuals) = Unit {0}
IsCall (OwnCallTerm name brackets actuals) = Unit {0}
IsCall (CallTerm receiver dot name brackets actuals) = Unit {0}
IsCall _ = ⊥

-- calls on a call or `new` are a call or `new`
called_is_call : (calls : DotTrees) (receiver : Term) → IsCall receiver → IsCall (called calls receiver)
called_is_call NoDots receiver c = c
called_is_call (MoreDots (MakeDot dot name (MakeActuals at all)) more) receiver c = called_is_call more (CallTerm receiver dot name at (terms all)) tt

-- what a body is to give is declared
pub record DueDeclared (site : Site) : Type 0 where
  pub declared : (written : ValueType) → site.due ≡ Some written → Declared site.table written

-- the static type of the value that is due
abbrev pub due_of : Site → ValueDue
due_of site = option_map (type_known site.table) site.due

-- the spots of a statement
abbrev pub in_stmt : Site → StmtTree → List (Spot Site)
in_stmt site stmt = over_stmt after spot_of_term spot_of_item site stmt

-- the spots of a block
abbrev pub in_block : Site → BlockTree → List (Spot Site)
in_block site block = over_block after spot_of_term spot_of_item site block

-- the spots of items
abbrev pub in_items : Site → ItemTrees → List (Spot Site)
in_items site items = over_items after spot_of_term spot_of_item site items

-- a condition is a bool
test_is : (site : Site) (scope : Scope) (test : ExprTree) (at : ℕ) → Holds site scope → Every (Free site.table) (in_term site Used (term test)) → when_typed is_bool (value_of site test) at ≡ [] → ExprIs (signatures site.table) scope (resolved site (term test)) (Some ty.Bool)
test_is site scope test at holds h f =
    let t = term_typed site scope Used (term test) holds tt h in
    subst (λ (z : StaticType). ExprIs (signatures site.table) scope (resolved site (term test)) (Some z)) (a_bool t.kind (typed_as is_bool (value_of site test) t.kind at t.typed f)) t.is

-- where `return` without a value is not noted, no value is due
return_is : (site : Site) (at : ℕ) → when (is_some site.due) at ≡ [] → due_of site ≡ None
return_is site at h = ap (option_map (type_known site.table)) (none_is site.due (when_not _ at h))
  where
    none_is : (o : Option ValueType) → is_some o ≡ false → o ≡ None
    none_is None h = refl
    none_is (Some w) h = absurd (true_false h)

-- a written type of which nothing is broken is declared
pub declared_type : (table : List Shape) (written : ValueType) → undeclared_type table written ≡ [] → Declared table written
declared_type table (types.Basic basic at) h = record { kind = basic_type basic; is = refl }
declared_type table (types.Class name) h = let c = there_is (class_named table name.text) (when_not _ name.at h) in record { kind = ty.Class c.0; is = ap (option_map ty.Class) c.1 }

-- a surrounding with another next slot
moved : (site : Site) (scope : Scope) (stmt : StmtTree) → Holds site scope → Holds (after site (StmtItem stmt)) scope
moved site scope stmt holds = record { table = holds.table; locals = holds.locals; itself = holds.itself }

-- an item changes nothing of what a body is to give
due_moved : (site : Site) (item : ItemTree) → DueDeclared site → DueDeclared (after site item)
due_moved site (LocalItem written name assign value) due = record { declared = due.declared }
due_moved site (StmtItem stmt) due = record { declared = due.declared }

-- The types of all slots of the body.
module _ (types : Scope) where
  -- Calls as statements.

  -- a call of what is there
  done_is : (site : Site) (scope : Scope) (due : ValueDue) (o : Option Target) (receiver : ExprOf) (actuals : Terms) (at : ℕ) → Holds site scope → Callable site scope o receiver → AreTyped site scope actuals
      → miscounted_for (target_formals o) (passed site actuals) at ≡ [] → misfits_for site.table (target_formals o) (passed site actuals) ≡ []
      → StmtIs (signatures site.table) types due (done site.table o receiver (all_resolved site actuals)) scope scope
  done_is site scope due o receiver actuals at holds c args hc hm =
      let d = holds.table.methods c.target.class c.target.number c.target.method c.there in
      let fit = args_fit site scope actuals (target_formals o) c.target.method.formals at args (ap target_formals c.is) d.formals hc hm in
      subst (λ (z : Option Target). StmtIs (signatures site.table) types due (done site.table z receiver (all_resolved site actuals)) scope scope) (sym c.is)
      (by_kind (is_sync c.target.method.result_type) c.target refl c.there c.on fit)
    where
      by_kind : (b : Bool) (target : Target) → is_sync target.method.result_type ≡ b → slice_get (methods_at site.table target.class) target.number ≡ Some target.method → ExprIs (signatures site.table) scope receiver (Some (ty.Class target.class))
          → ExprsAre (signatures site.table) scope (all_resolved site actuals) (map (type_known site.table) target.method.formals)
          → StmtIs (signatures site.table) types due (cond b (to.Do (call_of site.table (Some target) receiver (all_resolved site actuals))) (to.Send receiver target.class target.number (all_resolved site actuals))) scope scope
      by_kind true target sync there on fit = (result_known site.table target.method.result_type, call_is site.table scope (Some target) target receiver (all_resolved site actuals) refl on there sync fit, refl)
      by_kind false target sync there on fit = (signature site.table target.method, on, ap (option_map (signature site.table)) there, sync, fit, refl)

  -- a call on an object
  method_done : (site : Site) (scope : Scope) (due : ValueDue) (role : Role) (s : Option StaticType) (dot : ℕ) (name : Name) (actuals : Terms) (receiver : ExprOf) (kind : StaticType) → Holds site scope
      → FreeTerm site role (CallTyped s dot name (passed site actuals)) → s ≡ Some kind → ExprIs (signatures site.table) scope receiver (Some kind) → AreTyped site scope actuals
      → StmtIs (signatures site.table) types due (done site.table (target_on site s name.text) receiver (all_resolved site actuals)) scope scope
  method_done site scope due role (Some (ty.Class class)) dot name actuals receiver kind holds f e r args =
      let same : ty.Class class ≡ kind = same_some e in
      done_is site scope due (target_at site.table class name.text) receiver actuals name.at holds
      (callable site scope class name.text receiver (when_not _ name.at f.unknown) (subst (λ (z : StaticType). ExprIs (signatures site.table) scope receiver (Some z)) (sym same) r)) args f.miscounted f.disagreeing
  method_done site scope due role None dot name actuals receiver kind holds f e r args = absurd (none_some e)
  method_done site scope due role (Some ty.Int) dot name actuals receiver kind holds f e r args = absurd (false≢true (unless_not false dot f.disagreeing))
  method_done site scope due role (Some ty.Bool) dot name actuals receiver kind holds f e r args = absurd (false≢true (unless_not false dot f.disagreeing))
  method_done site scope due role (Some ty.Text) dot name actuals receiver kind holds f e r args = absurd (false≢true (unless_not false dot f.disagreeing))

  -- what is printed can be printed
  printed_is : (site : Site) (scope : Scope) (due : ValueDue) (role : Role) (name : Name) (actuals : Terms) → Holds site scope → Every (Free site.table) (in_terms site actuals) → FreeTerm site role (PrintTyped name (passed site actuals))
      → StmtIs (signatures site.table) types due (to.Print (printed (all_resolved site actuals))) scope scope
  printed_is site scope due role name NoTerms holds h f = (ty.Text, refl, refl, refl)
  printed_is site scope due role name (MoreTerms actual NoTerms) holds h f =
      let t = term_typed site scope Used actual holds tt (every_left (Free site.table) (in_term site Used actual) [] h) in
      (t.kind, t.is, typed_as prints (type_of_term site Used actual) t.kind (first_token actual) t.typed (chosen_nil (is_print name (passed site (MoreTerms actual NoTerms))) (unprintable (passed site (MoreTerms actual NoTerms))) (unless_not _ name.at f.unknown) f.disagreeing), refl)
    where
      chosen_nil : (b : Bool) (xs : List ℕ) → b ≡ true → cond b xs [] ≡ [] → xs ≡ []
      chosen_nil true xs e h = h
      chosen_nil false xs e h = absurd (false≢true e)
  printed_is site scope due role name (MoreTerms actual (MoreTerms second more)) holds h f = absurd (false≢true (unless_not false name.at f.unknown))

  -- a call on a receiver, or on `Console`
  receiver_done : (site : Site) (scope : Scope) (due : ValueDue) (role : Role) (b : Bool) (s : Option StaticType) (dot : ℕ) (name : Name) (actuals : Terms) (receiver : ExprOf) → Holds site scope
      → FreeTerm site role (typed_call b s dot name (passed site actuals)) → Every (Free site.table) (in_terms site actuals) → (b ≡ false → (kind : StaticType) × (s ≡ Some kind) × ExprIs (signatures site.table) scope receiver (Some kind))
      → StmtIs (signatures site.table) types due (cond b (to.Print (printed (all_resolved site actuals))) (done site.table (target_on site s name.text) receiver (all_resolved site actuals))) scope scope
  receiver_done site scope due role true s dot name actuals receiver holds f h k = printed_is site scope due role name actuals holds h f
  receiver_done site scope due role false s dot name actuals receiver holds f h k = let r = k refl in method_done site scope due role s dot name actuals receiver r.0 holds f r.1 r.2 (terms_typed site scope actuals holds h)

  -- a call or `new` as a statement
  alone_is : (site : Site) (scope : Scope) (due : ValueDue) (expr : Term) → Holds site scope → IsCall expr → Every (Free site.table) (in_term site Alone expr) → StmtIs (signatures site.table) types due (resolved_alone site expr) scope scope
  alone_is site scope due (NewTerm at name brackets actuals) holds c h =
      let f : FreeTerm site Alone (NewTyped name (passed site actuals)) = the_last site.table (in_terms site actuals) (AtTerm site Alone (NewTerm at name brackets actuals)) h in
      let g : FreeTerm site Used (NewTyped name (passed site actuals)) = record { undeclared = f.undeclared; unknown = refl; disagreeing = f.disagreeing; inaccessible = f.inaccessible; used_valueless = refl; miscounted = f.miscounted } in
      let t = term_typed site scope Used (NewTerm at name brackets actuals) holds tt
      (every_both (Free site.table) (in_terms site actuals) (AtTerm site Used (NewTerm at name brackets actuals) ∷ []) (every_left (Free site.table) (in_terms site actuals) _ h) (g, tt)) in
      (Some t.kind, t.is, refl)
  alone_is site scope due (OwnCallTerm name brackets actuals) holds c h =
      let f : FreeTerm site Alone (OwnCallTyped name (passed site actuals)) = the_last site.table (in_terms site actuals) (AtTerm site Alone (OwnCallTerm name brackets actuals)) h in
      done_is site scope due (own_target site name.text) to.This actuals name.at holds (own_callable site scope name.text holds (when_not _ name.at f.unknown)) (terms_typed site scope actuals holds (every_left (Free site.table) (in_terms site actuals) _ h)) f.miscounted f.disagreeing
  alone_is site scope due (CallTerm receiver dot name brackets actuals) holds c h =
      let after_receiver = every_right (Free site.table) (in_term site Receiver receiver) (in_terms site actuals ++ (AtTerm site Alone (CallTerm receiver dot name brackets actuals) ∷ [])) h in
      let f : FreeTerm site Alone (typed_call (is_console site receiver) (type_of_term site Receiver receiver) dot name (passed site actuals)) = the_last site.table (in_terms site actuals) (AtTerm site Alone (CallTerm receiver dot name brackets actuals)) after_receiver in
      receiver_done site scope due Alone (is_console site receiver) (type_of_term site Receiver receiver) dot name actuals (resolved site receiver) holds f (every_left (Free site.table) (in_terms site actuals) _ after_receiver)
      (λ e. let r = term_typed site scope Receiver receiver holds e (every_left (Free site.table) (in_term site Receiver receiver) _ h) in (r.kind, r.typed, r.is))
  alone_is site scope due (VariableTerm name) holds c h = absurd c
  alone_is site scope due (ThisTerm at) holds c h = absurd c
  alone_is site scope due (NumberTerm value at minus) holds c h = absurd c
  alone_is site scope due (LiteralTerm bytes at) holds c h = absurd c
  alone_is site scope due (BoolTerm value at) holds c h = absurd c
  alone_is site scope due (GroupTerm at inner) holds c h = absurd c
  alone_is site scope due (MinusTerm at operand) holds c h = absurd c
  alone_is site scope due (NotTerm at operand) holds c h = absurd c
  alone_is site scope due (OperationTerm operator at left right) holds c h = absurd c

  -- Statements.

  -- the body's own items and what they leave in scope
  pub record ItemsAre (site : Site) (scope : Scope) (stmts : StmtsOf) : Type 0 where
    pub last : Scope
    pub are : StmtsAre (signatures site.table) types (due_of site) stmts scope last
    pub extends : Extends last scope

  -- an assignment in which no rule is broken keeps to its types
  assign_is : (site : Site) (scope : Scope) (name : Name) (assign : ℕ) (value : ExprTree) → Holds site scope → HasRoom site.table types scope site.next [] → Every (Free site.table) (in_term site Used (term value)) → FreeItem site (StmtItem (AssignStmt name assign value))
      → StmtIs (signatures site.table) types (due_of site) (resolved_stmt site (AssignStmt name assign value)) scope scope
  assign_is site scope name assign value holds room h f =
      let t = term_typed site scope Used (term value) holds tt h in
      let v = there_is (variable_named site.scope name.text) (when_not _ name.at f.unknown) in
      let s = variable_is (Stands scope) site.scope name.text v.0 v.1 holds.locals in
      let fit = fits_one site.table (local_type (variable_named site.scope name.text)) (value_of site value) s.kind t.kind assign (ap local_type v.1 ∙ s.typed) t.typed f.disagreeing in
      let slot = ap slot_of v.1 in
      subst (λ (z : ℕ). StmtIs (signatures site.table) types (due_of site) (to.Store z (resolved site (term value))) scope scope) (sym slot)
      (t.kind, s.kind, Some s.kind, t.is, fit, room.agrees v.0.slot s.kind s.there, s.there, refl, sym (declared_same v.0.slot s.kind scope s.there))

  -- a `return` with a value in which no rule is broken keeps to its types
  give_is : (site : Site) (scope : Scope) (at : ℕ) (value : ExprTree) → Holds site scope → DueDeclared site → Every (Free site.table) (in_term site Used (term value)) → FreeItem site (StmtItem (ReturnValueStmt at value))
      → StmtIs (signatures site.table) types (due_of site) (to.Give (resolved site (term value))) scope scope
  give_is site scope at value holds due h f =
      let t = term_typed site scope Used (term value) holds tt h in
      let w = there_is site.due (when_not _ at f.misreturned) in
      let d = due.declared w.0 w.1 in
      let wanted : option_and_then (type_written site.table) site.due ≡ type_written site.table w.0 = ap (option_and_then (type_written site.table)) w.1 in
      let fit = fits_written site.table w.0 (value_of site value) t.kind at d t.typed (subst (λ (z : Option StaticType). misfit site.table z (value_of site value) at ≡ []) wanted f.disagreeing) in
      (t.kind, type_known site.table w.0, t.is, ap (option_map (type_known site.table)) w.1, fit, refl)

  -- a declaration: its local is in scope afterwards
  record IsDeclaration (site : Site) (scope next : Scope) (written : ValueType) (name : Name) (assign : ℕ) (value : ExprTree) : Type 0 where
    is : StmtIs (signatures site.table) types (due_of site) (to.Store site.next (resolved site (term value))) scope next
    holds : Holds (after site (LocalItem written name assign value)) next
    extends : Extends next scope

  -- a declaration in which no rule is broken keeps to its types, and its local is in scope afterwards
  declare_is : (site : Site) (scope : Scope) (written : ValueType) (name : Name) (assign : ℕ) (value : ExprTree) (rest : List ValueType) → Holds site scope → HasRoom site.table types scope site.next (written ∷ rest) → Declared site.table written
      → Every (Free site.table) (in_term site Used (term value)) → FreeItem site (LocalItem written name assign value)
      → IsDeclaration site scope (declared site.next (type_known site.table written) scope) written name assign value
  declare_is site scope written name assign value rest holds room d h f =
      let t = term_typed site scope Used (term value) holds tt h in
      let known = type_known site.table written in
      let free = room_here site.table types scope site.next written rest room in
      let fit = fits_written site.table written (value_of site value) t.kind assign d t.typed f.disagreeing in
      record {
        is = (t.kind, known, None, t.is, fit, room_typed site.table types scope site.next written rest room, free, tt, refl);
        holds = record {
          table = holds.table;
          locals = every_both (Stands (declared site.next known scope)) site.scope (record { name = name.text; slot = site.next; static_type = type_written site.table written } ∷ [])
              (every_map (Stands scope) (Stands (declared site.next known scope)) site.scope (λ local s. record { kind = s.kind; typed = s.typed; there = declared_keeps site.next known scope local.slot s.kind free s.there }) holds.locals)
              (record { kind = known; typed = d.is ∙ ap Some (sym (ap (λ o. unwrap_or o ty.Int) d.is)); there = declared_there site.next known scope None free }, tt);
          itself = λ e. declared_keeps site.next known scope 0 (ty.Class site.own) free (holds.itself e);
        };
        extends = declared_extends site.next known scope free;
      }

  -- a call or `new` as a statement, with what is noted after it
  call_is_stmt : (site : Site) (scope : Scope) (due : ValueDue) (expr : Term) (item : ItemTree) → Holds site scope → IsCall expr → Every (Free site.table) (in_term site Alone expr ++ (AtItem site item ∷ [])) → StmtIs (signatures site.table) types due (resolved_alone site expr) scope scope
  call_is_stmt site scope due expr item holds c h = alone_is site scope due expr holds c (every_left (Free site.table) (in_term site Alone expr) (AtItem site item ∷ []) h)

  mutual
    -- A statement in which no rule is broken keeps to its types, and leaves the scope as it was.
    pub stmt_is : (site : Site) (scope : Scope) (stmt : StmtTree) → Holds site scope → DueDeclared site → HasRoom site.table types scope site.next (stmt_locals stmt) → Every (Free site.table) (in_stmt site stmt) → StmtIs (signatures site.table) types (due_of site) (resolved_stmt site stmt) scope scope
    stmt_is site scope (AssignStmt name assign value) holds due room h =
        assign_is site scope name assign value holds room (every_left (Free site.table) (in_term site Used (term value)) _ h) (the_last site.table (in_term site Used (term value)) (AtItem site (StmtItem (AssignStmt name assign value))) h)
    stmt_is site scope (CallStmt name (MakeActuals at all) calls) holds due room h =
        call_is_stmt site scope (due_of site) (stands_as (CallStmt name (MakeActuals at all) calls) (ThisTerm 0)) (StmtItem (CallStmt name (MakeActuals at all) calls)) holds (called_is_call calls (OwnCallTerm name at (terms all)) tt) h
    stmt_is site scope (MethodCallStmt name (MakeDot dot method (MakeActuals at all)) calls) holds due room h =
        call_is_stmt site scope (due_of site) (stands_as (MethodCallStmt name (MakeDot dot method (MakeActuals at all)) calls) (ThisTerm 0)) (StmtItem (MethodCallStmt name (MakeDot dot method (MakeActuals at all)) calls)) holds (called_is_call calls (CallTerm (VariableTerm name) dot method at (terms all)) tt) h
    stmt_is site scope (ThisCallStmt this (MakeDot dot method (MakeActuals at all)) calls) holds due room h =
        call_is_stmt site scope (due_of site) (stands_as (ThisCallStmt this (MakeDot dot method (MakeActuals at all)) calls) (ThisTerm 0)) (StmtItem (ThisCallStmt this (MakeDot dot method (MakeActuals at all)) calls)) holds (called_is_call calls (CallTerm (ThisTerm this) dot method at (terms all)) tt) h
    stmt_is site scope (NewStmt at name (MakeActuals brackets all) calls) holds due room h =
        call_is_stmt site scope (due_of site) (stands_as (NewStmt at name (MakeActuals brackets all) calls) (ThisTerm 0)) (StmtItem (NewStmt at name (MakeActuals brackets all) calls)) holds (called_is_call calls (NewTerm at name brackets (terms all)) tt) h
    stmt_is site scope (BlockStmt block) holds due room h =
        let b = block_is site scope block holds due room (every_left (Free site.table) (in_block site block) _ h) in
        (b.last, b.are, b.extends, refl)
    stmt_is site scope EmptyStmt holds due room h = (scope, refl, extends_itself scope, refl)
    stmt_is site scope (IfStmt at bracket test first) holds due room h =
        let rest = every_right (Free site.table) (in_term site Used (term test)) (AtItem site (StmtItem (IfStmt at bracket test first)) ∷ in_stmt site first) h in
        let f : FreeItem site (StmtItem (IfStmt at bracket test first)) = rest.0 in
        (scope, test_is site scope test at holds (every_left (Free site.table) (in_term site Used (term test)) _ h) f.disagreeing, stmt_is site scope first holds due room rest.1, extends_itself scope, refl)
    stmt_is site scope (IfElseStmt at bracket test first second) holds due room h =
        let rest = every_right (Free site.table) (in_term site Used (term test)) (AtItem site (StmtItem (IfElseStmt at bracket test first second)) ∷ (in_stmt site first ++ in_stmt (after site (StmtItem first)) second)) h in
        let f : FreeItem site (StmtItem (IfElseStmt at bracket test first second)) = rest.0 in (
          scope,
          scope,
          test_is site scope test at holds (every_left (Free site.table) (in_term site Used (term test)) _ h) f.disagreeing,
          stmt_is site scope first holds due (room_first site.table types scope site.next (stmt_locals first) (stmt_locals second) room) (every_left (Free site.table) (in_stmt site first) _ rest.1),
          stmt_is (after site (StmtItem first)) scope second (moved site scope first holds) (due_moved site (StmtItem first) due) (room_rest site.table types scope site.next (stmt_locals first) (stmt_locals second) room) (every_right (Free site.table) (in_stmt site first) _ rest.1),
          extends_itself scope,
          extends_itself scope,
          refl,
        )
    stmt_is site scope (WhileStmt at bracket test body) holds due room h =
        let rest = every_right (Free site.table) (in_term site Used (term test)) (AtItem site (StmtItem (WhileStmt at bracket test body)) ∷ in_stmt site body) h in
        let f : FreeItem site (StmtItem (WhileStmt at bracket test body)) = rest.0 in
        (scope, test_is site scope test at holds (every_left (Free site.table) (in_term site Used (term test)) _ h) f.disagreeing, stmt_is site scope body holds due room rest.1, extends_itself scope, refl)
    stmt_is site scope (ReturnStmt at) holds due room h = let f : FreeItem site (StmtItem (ReturnStmt at)) = h.0 in (return_is site at f.misreturned, refl)
    stmt_is site scope (ReturnValueStmt at value) holds due room h =
        give_is site scope at value holds due (every_left (Free site.table) (in_term site Used (term value)) _ h) (the_last site.table (in_term site Used (term value)) (AtItem site (StmtItem (ReturnValueStmt at value))) h)

    -- A block likewise; it leaves its locals behind.
    pub block_is : (site : Site) (scope : Scope) (block : BlockTree) → Holds site scope → DueDeclared site → HasRoom site.table types scope site.next (block_locals block) → Every (Free site.table) (in_block site block) → ItemsAre site scope (resolved_block site block)
    block_is site scope (MakeBlock items end) holds due room h = items_are site scope items holds due room h

    -- items in which no rule is broken keep to their types
    pub items_are : (site : Site) (scope : Scope) (items : ItemTrees) → Holds site scope → DueDeclared site → HasRoom site.table types scope site.next (items_locals items) → Every (Free site.table) (in_items site items) → ItemsAre site scope (resolved_items site items)
    items_are site scope NoItems holds due room h = record { last = scope; are = refl; extends = extends_itself scope }
    items_are site scope (MoreItems (LocalItem written name assign value) more) holds due room h =
        let rest = every_right (Free site.table) (in_term site Used (term value)) (AtItem site (LocalItem written name assign value) ∷ in_items (after site (LocalItem written name assign value)) more) h in
        let f : FreeItem site (LocalItem written name assign value) = rest.0 in
        let d = declare_is site scope written name assign value (items_locals more) holds room (declared_type site.table written f.undeclared) (every_left (Free site.table) (in_term site Used (term value)) _ h) f in
        let r = items_are (after site (LocalItem written name assign value)) (declared site.next (type_known site.table written) scope) more d.holds (due_moved site (LocalItem written name assign value) due)
        (room_after site.table types scope site.next written (items_locals more) room) rest.1 in
        record { last = r.last; are = (declared site.next (type_known site.table written) scope, d.is, r.are); extends = extends_on r.last (declared site.next (type_known site.table written) scope) scope r.extends d.extends }
    items_are site scope (MoreItems (StmtItem stmt) more) holds due room h =
        let s = stmt_is site scope stmt holds due (room_first site.table types scope site.next (stmt_locals stmt) (items_locals more) room) (every_left (Free site.table) (in_stmt site stmt) _ h) in
        let r = items_are (after site (StmtItem stmt)) scope more (moved site scope stmt holds) (due_moved site (StmtItem stmt) due) (room_rest site.table types scope site.next (stmt_locals stmt) (items_locals more) room) (every_right (Free site.table) (in_stmt site stmt) _ h) in
        record { last = r.last; are = (scope, s, r.are); extends = r.extends }
