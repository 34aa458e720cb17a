-- A walk over a program in the order of the text: each expression and each statement once, after its parts, but an `if` and a `while` behind the condition and before what it governs.
use Rattle.std.specs.Prelude.{ℕ, ◌+◌, List, [], ◌∷◌, ◌++◌, flat_map}
use Rattle.chord_tree.specs.Tree.{StmtTree, BlockTree, ItemTrees, ItemTree, AssignStmt, CallStmt, MethodCallStmt, ThisCallStmt, NewStmt, BlockStmt, EmptyStmt, IfStmt, IfElseStmt, WhileStmt, ReturnStmt, ReturnValueStmt, MakeBlock, NoItems, MoreItems, LocalItem, StmtItem, HeaderTree, MemberTree, ConstructorMember, ChordMember, ClassTree, ProgramTree, ExprTree}
use Rattle.chord_tree.specs.Terms.{Term, Terms, VariableTerm, ThisTerm, NumberTerm, LiteralTerm, BoolTerm, GroupTerm, MinusTerm, NotTerm, OperationTerm, NewTerm, OwnCallTerm, CallTerm, NoTerms, MoreTerms, term, stands_as}

-- The parts of a program that most rules begin with.

-- the headers of a member: a constructor has none
abbrev pub member_headers : MemberTree → List HeaderTree
member_headers (ConstructorMember modifiers name formals body) = []
member_headers (ChordMember headers body) = headers

-- the headers of a class, in the order of the text
abbrev pub headers_of : ClassTree → List HeaderTree
headers_of class = flat_map member_headers class.members

-- the body of a member
abbrev pub body_of : MemberTree → BlockTree
body_of (ConstructorMember modifiers name formals body) = body
body_of (ChordMember headers body) = body

-- the items of a block
abbrev pub block_items : BlockTree → ItemTrees
block_items (MakeBlock items end) = items

-- the number of `}`
abbrev pub block_end : BlockTree → ℕ
block_end (MakeBlock items end) = end

-- How an expression stands.
pub data Role : Type 0 where
  -- its value is used
  Used : Role
  -- it is a statement
  Alone : Role
  -- it is the receiver of a call
  Receiver : Role

-- What is noted at each expression and at each item, where a surrounding goes along: what is in scope, say. After an item it is the surrounding of the next.
module _ {Around Note : Type 0} (after : Around → ItemTree → Around) (at_term : Around → Role → Term → List Note) (at_item : Around → ItemTree → List Note) where
  abbrev mutual
    -- an expression, after its parts
    pub over_term : Around → Role → Term → List Note
    over_term around role (GroupTerm at inner) = over_term around Used inner ++ at_term around role (GroupTerm at inner)
    over_term around role (MinusTerm at operand) = over_term around Used operand ++ at_term around role (MinusTerm at operand)
    over_term around role (NotTerm at operand) = over_term around Used operand ++ at_term around role (NotTerm at operand)
    over_term around role (OperationTerm operator at left right) = over_term around Used left ++ (over_term around Used right ++ at_term around role (OperationTerm operator at left right))
    over_term around role (NewTerm at name brackets actuals) = over_terms around actuals ++ at_term around role (NewTerm at name brackets actuals)
    over_term around role (OwnCallTerm name brackets actuals) = over_terms around actuals ++ at_term around role (OwnCallTerm name brackets actuals)
    over_term around role (CallTerm receiver dot name brackets actuals) = over_term around Receiver receiver ++ (over_terms around actuals ++ at_term around role (CallTerm receiver dot name brackets actuals))
    over_term around role (VariableTerm name) = at_term around role (VariableTerm name)
    over_term around role (ThisTerm at) = at_term around role (ThisTerm at)
    over_term around role (NumberTerm value at minus) = at_term around role (NumberTerm value at minus)
    over_term around role (LiteralTerm bytes at) = at_term around role (LiteralTerm bytes at)
    over_term around role (BoolTerm value at) = at_term around role (BoolTerm value at)

    -- arguments
    pub over_terms : Around → Terms → List Note
    over_terms around NoTerms = []
    over_terms around (MoreTerms expr more) = over_term around Used expr ++ over_terms around more

  -- a condition, or a value that is given to a variable or by `return`
  abbrev pub over_value : Around → ExprTree → List Note
  over_value around value = over_term around Used (term value)

  -- a call or `new` as a statement
  abbrev pub over_call : Around → StmtTree → List Note
  over_call around stmt = over_term around Alone (stands_as stmt (ThisTerm 0))

  abbrev mutual
    -- a statement after its parts, but an `if` and a `while` between its condition and its branches; the second branch comes after the first
    pub over_stmt : Around → StmtTree → List Note
    over_stmt around (AssignStmt name assign value) = over_value around value ++ at_item around (StmtItem (AssignStmt name assign value))
    over_stmt around (CallStmt name actuals calls) = over_call around (CallStmt name actuals calls) ++ at_item around (StmtItem (CallStmt name actuals calls))
    over_stmt around (MethodCallStmt name first calls) = over_call around (MethodCallStmt name first calls) ++ at_item around (StmtItem (MethodCallStmt name first calls))
    over_stmt around (ThisCallStmt at first calls) = over_call around (ThisCallStmt at first calls) ++ at_item around (StmtItem (ThisCallStmt at first calls))
    over_stmt around (NewStmt at name actuals calls) = over_call around (NewStmt at name actuals calls) ++ at_item around (StmtItem (NewStmt at name actuals calls))
    over_stmt around (BlockStmt block) = over_block around block ++ at_item around (StmtItem (BlockStmt block))
    over_stmt around EmptyStmt = at_item around (StmtItem EmptyStmt)
    over_stmt around (IfStmt at bracket test first) = over_value around test ++ (at_item around (StmtItem (IfStmt at bracket test first)) ++ over_stmt around first)
    over_stmt around (IfElseStmt at bracket test first second) = over_value around test ++ (at_item around (StmtItem (IfElseStmt at bracket test first second)) ++ (over_stmt around first ++ over_stmt (after around (StmtItem first)) second))
    over_stmt around (WhileStmt at bracket test body) = over_value around test ++ (at_item around (StmtItem (WhileStmt at bracket test body)) ++ over_stmt around body)
    over_stmt around (ReturnStmt at) = at_item around (StmtItem (ReturnStmt at))
    over_stmt around (ReturnValueStmt at value) = over_value around value ++ at_item around (StmtItem (ReturnValueStmt at value))

    -- a block ends with the surrounding that it began with
    pub over_block : Around → BlockTree → List Note
    over_block around (MakeBlock items end) = over_items around items

    -- items: each is followed in the surrounding that it leaves
    pub over_items : Around → ItemTrees → List Note
    over_items around NoItems = []
    over_items around (MoreItems (LocalItem value_type name assign value) more) = over_value around value ++ (at_item around (LocalItem value_type name assign value) ++ over_items (after around (LocalItem value_type name assign value)) more)
    over_items around (MoreItems (StmtItem stmt) more) = over_stmt around stmt ++ over_items (after around (StmtItem stmt)) more

  -- The bodies of all members, each with the surrounding in which it begins, and what is noted of the member after its body. A class is entered by its number, counted from 0 in the order of the text, since two classes may have one name.
  module _ (enter : ℕ → ClassTree → MemberTree → Around) (at_member : ClassTree → MemberTree → List Note) where
    -- the body of a member, and then the member
    abbrev pub over_member : ℕ → ClassTree → MemberTree → List Note
    over_member number class member = over_block (enter number class member) (body_of member) ++ at_member class member

    -- all members of a class
    abbrev pub over_class : ℕ → ClassTree → List Note
    over_class number class = flat_map (over_member number class) class.members

    -- classes, the first of which has this number
    abbrev pub over_classes : ℕ → List ClassTree → List Note
    over_classes number [] = []
    over_classes number (class ∷ more) = over_class number class ++ over_classes (number + 1) more

    -- all classes of a program
    abbrev pub over_program : ProgramTree → List Note
    over_program program = over_classes 0 program.classes

-- Where a walk comes by: an expression or an item with its surrounding, or a member.
pub data Spot (Around : Type 0) : Type 0 where
  AtTerm : Around → Role → Term → Spot Around
  AtItem : Around → ItemTree → Spot Around
  AtMember : ClassTree → MemberTree → Spot Around

-- what the walk notes where only spots are noted: at an expression
abbrev pub spot_of_term : {Around : Type 0} → Around → Role → Term → List (Spot Around)
spot_of_term around role expr = AtTerm around role expr ∷ []

-- at an item
abbrev pub spot_of_item : {Around : Type 0} → Around → ItemTree → List (Spot Around)
spot_of_item around item = AtItem around item ∷ []

-- at a member
abbrev pub spot_of_member : {Around : Type 0} → ClassTree → MemberTree → List (Spot Around)
spot_of_member class member = AtMember class member ∷ []

-- all spots of a program, in the order of the walk
abbrev pub spots : {Around : Type 0} → (Around → ItemTree → Around) → (ℕ → ClassTree → MemberTree → Around) → ProgramTree → List (Spot Around)
spots after enter program = over_program after spot_of_term spot_of_item enter spot_of_member program

-- what is noted at a spot
abbrev pub at_spot : {Around Note : Type 0} → (Around → Role → Term → List Note) → (Around → ItemTree → List Note) → (ClassTree → MemberTree → List Note) → Spot Around → List Note
at_spot at_term at_item at_member (AtTerm around role expr) = at_term around role expr
at_spot at_term at_item at_member (AtItem around item) = at_item around item
at_spot at_term at_item at_member (AtMember class member) = at_member class member
