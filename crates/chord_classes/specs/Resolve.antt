-- Bodies with all names resolved. What is broken is resolved in some way, which nobody sees.
use Rattle.std.specs.Prelude.{ℕ, ◌+◌, List, [], ◌∷◌, ◌++◌, Bool, true, false, cond, ◌||◌, map, nat_lt, Option, Some, None, option_map, unwrap_or, ℤ, pos, negsuc}
use Rattle.chord_tree.specs.declared.exprs.Operator.{Operator}
use Rattle.chord_tree.specs.declared.exprs.Operator.TheVariants as op
use Rattle.chord_tree.specs.declared.classes.Formal.{Formal}
use Rattle.chord_tree.specs.Tree.{StmtTree, BlockTree, ItemTrees, AssignStmt, CallStmt, MethodCallStmt, ThisCallStmt, NewStmt, BlockStmt, EmptyStmt, IfStmt, IfElseStmt, WhileStmt, ReturnStmt, ReturnValueStmt, MakeBlock, NoItems, MoreItems, LocalItem, StmtItem, MemberTree, ConstructorMember, ChordMember, ClassTree, ProgramTree}
use Rattle.chord_tree.specs.Terms.{Term, Terms, VariableTerm, ThisTerm, NumberTerm, LiteralTerm, BoolTerm, GroupTerm, MinusTerm, NotTerm, OperationTerm, NewTerm, OwnCallTerm, CallTerm, NoTerms, MoreTerms, term, stands_as}
use Rattle.chord_tree.specs.Walk.{Used, Receiver, body_of}
use Rattle.chord_base.specs.declared.static_type.StaticType.{StaticType}
use Rattle.chord_base.specs.declared.static_type.StaticType.TheVariants as ty
use Rattle.chord_base.specs.declared.operation.Operation.TheVariants as by
use Rattle.chord_bodies.specs.Resolved.{ExprOf, ExprsOf, NoExprs, MoreExprs, StmtOf, StmtsOf, NoStmts, MoreStmts, BodyOf}
use Rattle.chord_bodies.specs.Resolved as to
use Rattle.chord_classes.specs.Table.{Shape, class_named, table_of}
use Rattle.chord_classes.specs.Types.{type_known, is_sync, result_known}
use Rattle.chord_classes.specs.Site.{Site, Local, variable_named, after, block_locals, member_formals, member_due, member_in_main, enter}
use Rattle.chord_classes.specs.TypedTerms.{Target, is_console, own_target, target_on}
use Rattle.chord_classes.specs.Typed.{type_of_term}

-- the slot of a variable
abbrev pub slot_of : Option Local → ℕ
slot_of None = 0
slot_of (Some local) = local.slot

-- a number; 2147483648, which stands after `-`, is the least int
abbrev pub int_of_number : ℕ → ℤ
int_of_number value = cond (nat_lt value 2147483648) (pos value) (negsuc 2147483647)

-- a type is that of texts
abbrev pub is_text : Option StaticType → Bool
is_text (Some ty.Text) = true
is_text _ = false

-- an operator on resolved operands of these types: `+` with a text on either side joins
abbrev pub applied : Operator → Option StaticType → Option StaticType → ExprOf → ExprOf → ExprOf
applied op.Or s t left right = to.Either left right
applied op.And s t left right = to.Both left right
applied op.Equal s t left right = to.Operate by.Equal left right
applied op.NotEqual s t left right = to.Operate by.NotEqual left right
applied op.Less s t left right = to.Operate by.Less left right
applied op.Greater s t left right = to.Operate by.Greater left right
applied op.LessOrEqual s t left right = to.Operate by.LessOrEqual left right
applied op.GreaterOrEqual s t left right = to.Operate by.GreaterOrEqual left right
applied op.Plus s t left right = to.Operate (cond (is_text s || is_text t) by.Join by.Add) left right
applied op.Minus s t left right = to.Operate by.Subtract left right
applied op.Times s t left right = to.Operate by.Multiply left right
applied op.Divide s t left right = to.Operate by.Divide left right
applied op.Remainder s t left right = to.Operate by.Remainder left right

-- a call of what is named, on this receiver
abbrev pub call_of : List Shape → Option Target → ExprOf → ExprsOf → ExprOf
call_of table None receiver actuals = receiver
call_of table (Some target) receiver actuals = to.Call receiver target.class target.number (result_known table target.method.result_type) actuals

abbrev mutual
  -- an expression
  pub resolved : Site → Term → ExprOf
  resolved site (VariableTerm name) = to.Load (slot_of (variable_named site.scope name.text))
  resolved site (ThisTerm at) = to.This
  resolved site (NumberTerm value at after_minus) = to.IntOf (int_of_number value)
  resolved site (LiteralTerm bytes at) = to.TextOf bytes
  resolved site (BoolTerm value at) = to.FlagOf value
  resolved site (GroupTerm at inner) = resolved site inner
  resolved site (MinusTerm at operand) = to.Negate (resolved site operand)
  resolved site (NotTerm at operand) = to.Deny (resolved site operand)
  resolved site (OperationTerm operator at left right) = applied operator (type_of_term site Used left) (type_of_term site Used right) (resolved site left) (resolved site right)
  resolved site (NewTerm at name brackets actuals) = to.New (unwrap_or (class_named site.table name.text) 0) (all_resolved site actuals)
  resolved site (OwnCallTerm name brackets actuals) = call_of site.table (own_target site name.text) to.This (all_resolved site actuals)
  resolved site (CallTerm receiver dot name brackets actuals) = call_of site.table (target_on site (type_of_term site Receiver receiver) name.text) (resolved site receiver) (all_resolved site actuals)

  -- arguments
  pub all_resolved : Site → Terms → ExprsOf
  all_resolved site NoTerms = NoExprs
  all_resolved site (MoreTerms actual more) = MoreExprs (resolved site actual) (all_resolved site more)

-- a call as a statement: one of an asynchronous method sends
abbrev pub done : List Shape → Option Target → ExprOf → ExprsOf → StmtOf
done table None receiver actuals = to.Do receiver
done table (Some target) receiver actuals = cond (is_sync target.method.result_type) (to.Do (call_of table (Some target) receiver actuals)) (to.Send receiver target.class target.number actuals)

-- what is printed: without an argument the empty text
abbrev pub printed : ExprsOf → ExprOf
printed NoExprs = to.TextOf []
printed (MoreExprs value more) = value

-- a term as a statement: a call on the console prints, another call is made, and of any other term the value is dropped
abbrev pub resolved_alone : Site → Term → StmtOf
resolved_alone site (CallTerm receiver dot name brackets actuals) =
    cond (is_console site receiver) (to.Print (printed (all_resolved site actuals))) (done site.table (target_on site (type_of_term site Receiver receiver) name.text) (resolved site receiver) (all_resolved site actuals))
resolved_alone site (OwnCallTerm name brackets actuals) = done site.table (own_target site name.text) to.This (all_resolved site actuals)
resolved_alone site term = to.Do (resolved site term)

abbrev mutual
  -- a statement
  pub resolved_stmt : Site → StmtTree → StmtOf
  resolved_stmt site (AssignStmt name assign value) = to.Store (slot_of (variable_named site.scope name.text)) (resolved site (term value))
  resolved_stmt site (CallStmt name actuals calls) = resolved_alone site (stands_as (CallStmt name actuals calls) (ThisTerm 0))
  resolved_stmt site (MethodCallStmt name first calls) = resolved_alone site (stands_as (MethodCallStmt name first calls) (ThisTerm 0))
  resolved_stmt site (ThisCallStmt at first calls) = resolved_alone site (stands_as (ThisCallStmt at first calls) (ThisTerm 0))
  resolved_stmt site (NewStmt at name actuals calls) = resolved_alone site (stands_as (NewStmt at name actuals calls) (ThisTerm 0))
  resolved_stmt site (BlockStmt block) = to.Block (resolved_block site block)
  resolved_stmt site EmptyStmt = to.Block NoStmts
  resolved_stmt site (IfStmt at bracket test first) = to.IfThen (resolved site (term test)) (resolved_stmt site first)
  resolved_stmt site (IfElseStmt at bracket test first second) = to.IfElse (resolved site (term test)) (resolved_stmt site first) (resolved_stmt (after site (StmtItem first)) second)
  resolved_stmt site (WhileStmt at bracket test body) = to.While (resolved site (term test)) (resolved_stmt site body)
  resolved_stmt site (ReturnStmt at) = to.Return
  resolved_stmt site (ReturnValueStmt at value) = to.Give (resolved site (term value))

  -- a block
  pub resolved_block : Site → BlockTree → StmtsOf
  resolved_block site (MakeBlock items end) = resolved_items site items

  -- items: a local takes the next free slot
  pub resolved_items : Site → ItemTrees → StmtsOf
  resolved_items site NoItems = NoStmts
  resolved_items site (MoreItems (LocalItem written name assign value) more) = MoreStmts (to.Store site.next (resolved site (term value))) (resolved_items (after site (LocalItem written name assign value)) more)
  resolved_items site (MoreItems (StmtItem stmt) more) = MoreStmts (resolved_stmt site stmt) (resolved_items (after site (StmtItem stmt)) more)

-- a member is a constructor
abbrev pub is_builder : MemberTree → Bool
is_builder (ConstructorMember modifiers name formals body) = true
is_builder (ChordMember headers body) = false

-- the body of a member of the class of this number
abbrev pub resolved_member : List Shape → ℕ → ClassTree → MemberTree → BodyOf
resolved_member table number class member = record {
  class = number;
  is_main = member_in_main member;
  is_constructor = is_builder member;
  parameters = map (λ (f : Formal). type_known table f.value_type) (member_formals member);
  locals = map (type_known table) (block_locals (body_of member));
  result = option_map (type_known table) (member_due member);
  stmts = resolved_block (enter table number class member) (body_of member);
}

-- the bodies of classes, the first of which has this number
abbrev pub resolved_classes : List Shape → ℕ → List ClassTree → List BodyOf
resolved_classes table number [] = []
resolved_classes table number (class ∷ more) = map (resolved_member table number class) class.members ++ resolved_classes table (number + 1) more

-- the bodies of a program, by the numbers of their members
abbrev pub bodies_of : ProgramTree → List BodyOf
bodies_of program = resolved_classes (table_of program) 0 program.classes
