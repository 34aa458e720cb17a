-- Programs are nested no deeper than their tokens allow.
use Rattle.std.proofs.Common.{◌≡◌, ℕ, suc, ◌+◌, ◌*◌, ◌≤◌, ◌⊎◌, inl, inr, List, [], ◌∷◌, refl, subst, arith}
use Rattle.chord_tree.specs.declared.names.Name.{Name}
use Rattle.chord_tree.specs.declared.names.ValueType.{ValueType}
use Rattle.chord_tree.specs.declared.names.ValueType.TheVariants as types
use Rattle.chord_tree.specs.declared.classes.ReturnType.{ReturnType}
use Rattle.chord_tree.specs.declared.classes.ReturnType.TheVariants as results
use Rattle.chord_tree.specs.Symbol.{number_of}
use Rattle.chord_tree.specs.Symbols as grammar
use Rattle.chord_tree.specs.Grammar.{counted}
use Rattle.chord_tree.specs.Derivation.{Spelled, NotTall, inside}
use Rattle.chord_tree.specs.Program.{IsProgram}
use Rattle.chord_tree.specs.Node.{End, ◌▸◌, Leaf, Made, spell}
use Rattle.chord_tree.specs.Tree.{ExprTree, ActualsTree, DotTree, DotTrees, StmtTree, BlockTree, ItemTrees, AssignStmt, CallStmt, MethodCallStmt, ThisCallStmt, NewStmt, BlockStmt, EmptyStmt, IfStmt, IfElseStmt, WhileStmt, ReturnStmt, ReturnValueStmt, MakeBlock, NoItems, MoreItems, LocalItem, StmtItem, FormalsTree, HeaderTree, MemberTree, ConstructorMember, ChordMember, ClassTree, UsingTree, ProgramTree}
use Rattle.chord_lexer.specs.declared.token.Kind.TheVariants as kinds
use Rattle.chord_tree.specs.StmtNodes.{semicolon, node_tail, as_stmt, as_item, node_local, node_other, node_block, node_items}
use Rattle.chord_tree.specs.ClassNodes.{node_rest, node_chord, node_member, node_members, node_class, node_classes, node_all_classes, node_program}
use Rattle.chord_parser.specs.Answers.{IsNotTall}
use Rattle.chord_parser.specs.Nesting.{expr_depth, stmt_depth, block_depth, items_depth, member_depth, members_depth, classes_depth, program_depth, NoneDeeper, NestingIsTied}
use Rattle.chord_parser.proofs.Nested.{Sound, tip, grown, over, beside, is_sound, inside_least, whole_nested, actuals_nested, dots_nested, dot_nested}

-- inside a Stmt tokens are one deeper
inside_stmt : (d : ℕ) → inside (number_of grammar.Stmt) d ≡ d + 1
unfolding inside counted
inside_stmt d = refl

-- and inside an Item
inside_item : (d : ℕ) → inside (number_of grammar.Item) d ≡ d + 1
unfolding inside counted
inside_item d = refl

-- Statements, by what stands in them.

-- an assignment behind its name
assign_tail : (bound : ℕ) (x : Name) (assign : ℕ) (value : ExprTree) (d : ℕ) → Sound bound (node_tail (AssignStmt x assign value)) d → 8 * d + suc (expr_depth value) ≤ 8 * bound + 8
assign_tail bound x assign value d (grown low (beside mark (beside v over))) =
    let here = inside_least (number_of grammar.Tail) d in
    let y = whole_nested bound value _ v in
    omega (arith, here, y)

-- a call of an own method behind its name
call_tail : (bound : ℕ) (x : Name) (actuals : ActualsTree) (calls : DotTrees) (d : ℕ) → Sound bound (node_tail (CallStmt x actuals calls)) d → 8 * d + stmt_depth (CallStmt x actuals calls) ≤ 8 * bound + 8
call_tail bound x actuals calls d (grown low (beside a (beside ds over))) =
    let here = inside_least (number_of grammar.Tail) d in
    let y = actuals_nested bound actuals _ a in
    let z = dots_nested bound calls _ ds in
    omega (arith, here, y, z)

-- a call on a variable behind its name
method_tail : (bound : ℕ) (x : Name) (first : DotTree) (calls : DotTrees) (d : ℕ) → Sound bound (node_tail (MethodCallStmt x first calls)) d → 8 * d + stmt_depth (MethodCallStmt x first calls) ≤ 8 * bound + 8
method_tail bound x first calls d (grown low (beside f (beside ds over))) =
    let here = inside_least (number_of grammar.Tail) d in
    let y = dot_nested bound first _ f in
    let z = dots_nested bound calls _ ds in
    omega (arith, here, y, z)

-- a statement, as a Stmt and as an Item
record StmtIs (bound : ℕ) (s : StmtTree) : Type 0 where
  pub stmt : (d : ℕ) → Sound bound (as_stmt s (node_other s)) d → 8 * d + stmt_depth s ≤ 8 * bound
  pub item : (d : ℕ) → Sound bound (as_item s (node_other s)) d → 8 * d + stmt_depth s ≤ 8 * bound

-- a statement that a name begins, by its tail
named_is : (bound : ℕ) (x : Name) (s : StmtTree) → ((d : ℕ) → Sound bound (node_tail s) d → 8 * d + stmt_depth s ≤ 8 * bound + 8)
    → ((d : ℕ) → Sound bound (Made grammar.Stmt (Leaf (kinds.Name x.text) x.at ▸ node_tail s ▸ semicolon ▸ End)) d → 8 * d + stmt_depth s ≤ 8 * bound)
    × ((d : ℕ) → Sound bound (Made grammar.Item (Leaf (kinds.Name x.text) x.at ▸ Made grammar.After_name (node_tail s ▸ End) ▸ semicolon ▸ End)) d → 8 * d + stmt_depth s ≤ 8 * bound)
named_is bound x s tail = (as_one, as_other)
  where
    as_one : (d : ℕ) → Sound bound (Made grammar.Stmt (Leaf (kinds.Name x.text) x.at ▸ node_tail s ▸ semicolon ▸ End)) d → 8 * d + stmt_depth s ≤ 8 * bound
    as_one d (grown low (beside named (beside t rest))) = let e = inside_stmt d in let y = tail _ t in omega (arith, e, y)

    as_other : (d : ℕ) → Sound bound (Made grammar.Item (Leaf (kinds.Name x.text) x.at ▸ Made grammar.After_name (node_tail s ▸ End) ▸ semicolon ▸ End)) d → 8 * d + stmt_depth s ≤ 8 * bound
    as_other d (grown low (beside named (beside (grown lows (beside t over)) rest))) =
        let e = inside_item d in
        let here = inside_least (number_of grammar.After_name) (inside (number_of grammar.Item) d) in
        let y = tail _ t in
        omega (arith, e, here, y)

-- a statement that no name begins
other_is : (bound : ℕ) (s : StmtTree) → as_stmt s (node_other s) ≡ Made grammar.Stmt (node_other s ▸ End) → as_item s (node_other s) ≡ Made grammar.Item (node_other s ▸ End)
    → ((d : ℕ) → Sound bound (node_other s) d → 8 * d + stmt_depth s ≤ 8 * bound + 8) → StmtIs bound s
other_is bound s stmt_is item_is inner = record {
  stmt = λ d h. as_one d (subst (λ z. Sound bound z d) stmt_is h);
  item = λ d h. as_other d (subst (λ z. Sound bound z d) item_is h);
}
  where
    as_one : (d : ℕ) → Sound bound (Made grammar.Stmt (node_other s ▸ End)) d → 8 * d + stmt_depth s ≤ 8 * bound
    as_one d (grown low (beside o over)) = let e = inside_stmt d in let y = inner _ o in omega (arith, e, y)

    as_other : (d : ℕ) → Sound bound (Made grammar.Item (node_other s ▸ End)) d → 8 * d + stmt_depth s ≤ 8 * bound
    as_other d (grown low (beside o over)) = let e = inside_item d in let y = inner _ o in omega (arith, e, y)

-- a statement as a branch
abbrev Branch : ℕ → StmtTree → Type 0
Branch bound s = (d : ℕ) → Sound bound (as_stmt s (node_other s)) d → 8 * d + stmt_depth s ≤ 8 * bound

-- a block
abbrev BlockIs : ℕ → BlockTree → Type 0
BlockIs bound block = (d : ℕ) → Sound bound (node_block block) d → 8 * d + block_depth block ≤ 8 * bound

-- a block as a statement
block_other : (bound : ℕ) (block : BlockTree) → BlockIs bound block → (d : ℕ) → Sound bound (node_other (BlockStmt block)) d → 8 * d + stmt_depth (BlockStmt block) ≤ 8 * bound + 8
block_other bound block inner d (grown low (beside b over)) = let here = inside_least (number_of grammar.Other) d in let y = inner _ b in omega (arith, here, y)

-- an empty statement
empty_other : (bound d : ℕ) → Sound bound (node_other EmptyStmt) d → 8 * d + 1 ≤ 8 * bound + 8
empty_other bound d (grown low (beside (tip t) over)) = let here = inside_least (number_of grammar.Other) d in omega (arith, here, t)

-- an `if` without `else`
if_other : (bound at bracket : ℕ) (test : ExprTree) (first : StmtTree) → Branch bound first → (d : ℕ) → Sound bound (node_other (IfStmt at bracket test first)) d → 8 * d + stmt_depth (IfStmt at bracket test first) ≤ 8 * bound + 8
if_other bound at bracket test first inner d (grown low (beside w (beside b (beside t (beside c (beside f rest)))))) =
    let here = inside_least (number_of grammar.Other) d in
    let x = whole_nested bound test _ t in
    let y = inner _ f in
    omega (arith, here, x, y)

-- an `if` with `else`
else_other : (bound at bracket : ℕ) (test : ExprTree) (first second : StmtTree) → Branch bound first → Branch bound second → (d : ℕ) → Sound bound (node_other (IfElseStmt at bracket test first second)) d
    → 8 * d + stmt_depth (IfElseStmt at bracket test first second) ≤ 8 * bound + 8
else_other bound at bracket test first second inner last d (grown low (beside w (beside b (beside t (beside c (beside f (beside (grown lows (beside e (beside g over))) over))))))) =
    let here = inside_least (number_of grammar.Other) d in
    let there = inside_least (number_of grammar.Optional_else) (inside (number_of grammar.Other) d) in
    let x = whole_nested bound test _ t in
    let y = inner _ f in
    let z = last _ g in
    omega (arith, here, there, x, y, z)

-- a `while`
while_other : (bound at bracket : ℕ) (test : ExprTree) (body : StmtTree) → Branch bound body → (d : ℕ) → Sound bound (node_other (WhileStmt at bracket test body)) d → 8 * d + stmt_depth (WhileStmt at bracket test body) ≤ 8 * bound + 8
while_other bound at bracket test body inner d (grown low (beside w (beside b (beside t (beside c (beside f rest)))))) =
    let here = inside_least (number_of grammar.Other) d in
    let x = whole_nested bound test _ t in
    let y = inner _ f in
    omega (arith, here, x, y)

-- a `return` without a value
return_other : (bound at d : ℕ) → Sound bound (node_other (ReturnStmt at)) d → 8 * d + 1 ≤ 8 * bound + 8
return_other bound at d (grown low (beside (tip t) rest)) = let here = inside_least (number_of grammar.Other) d in omega (arith, here, t)

-- a `return` with a value
value_other : (bound at : ℕ) (value : ExprTree) (d : ℕ) → Sound bound (node_other (ReturnValueStmt at value)) d → 8 * d + suc (expr_depth value) ≤ 8 * bound + 8
value_other bound at value d (grown low (beside w (beside (grown lows (beside v over)) rest))) =
    let here = inside_least (number_of grammar.Other) d in
    let there = inside_least (number_of grammar.Optional_expr) (inside (number_of grammar.Other) d) in
    let x = whole_nested bound value _ v in
    omega (arith, here, there, x)

-- a call on `this`
this_other : (bound at : ℕ) (first : DotTree) (calls : DotTrees) (d : ℕ) → Sound bound (node_other (ThisCallStmt at first calls)) d → 8 * d + stmt_depth (ThisCallStmt at first calls) ≤ 8 * bound + 8
this_other bound at first calls d (grown low (beside w (beside f (beside ds rest)))) =
    let here = inside_least (number_of grammar.Other) d in
    let y = dot_nested bound first _ f in
    let z = dots_nested bound calls _ ds in
    omega (arith, here, y, z)

-- a `new`
new_other : (bound at : ℕ) (x : Name) (actuals : ActualsTree) (calls : DotTrees) (d : ℕ) → Sound bound (node_other (NewStmt at x actuals calls)) d → 8 * d + stmt_depth (NewStmt at x actuals calls) ≤ 8 * bound + 8
new_other bound at x actuals calls d (grown low (beside w (beside named (beside a (beside ds rest))))) =
    let here = inside_least (number_of grammar.Other) d in
    let y = actuals_nested bound actuals _ a in
    let z = dots_nested bound calls _ ds in
    omega (arith, here, y, z)

-- a local with its value
local_nested : (bound : ℕ) (value_type : ValueType) (x : Name) (assign : ℕ) (value : ExprTree) (d : ℕ) → Sound bound (node_local value_type x assign value) d → 8 * d + suc (expr_depth value) ≤ 8 * bound
local_nested bound (types.Basic basic at) x assign value d (grown low (beside w (beside named (beside e (beside v rest))))) =
    let here = inside_item d in let y = whole_nested bound value _ v in omega (arith, here, y)
local_nested bound (types.Class class) x assign value d (grown low (beside w (beside (grown lows (beside named (beside e (beside v over)))) rest))) =
    let here = inside_item d in
    let there = inside_least (number_of grammar.After_name) (inside (number_of grammar.Item) d) in
    let y = whole_nested bound value _ v in
    omega (arith, here, there, y)

mutual
  -- a statement at a depth is nested no deeper than the bound allows
  stmt_nested : (bound : ℕ) (s : StmtTree) → StmtIs bound s
  stmt_nested bound (AssignStmt x assign value) = let n = named_is bound x (AssignStmt x assign value) (assign_tail bound x assign value) in record { stmt = n.0; item = n.1 }
  stmt_nested bound (CallStmt x actuals calls) = let n = named_is bound x (CallStmt x actuals calls) (call_tail bound x actuals calls) in record { stmt = n.0; item = n.1 }
  stmt_nested bound (MethodCallStmt x first calls) = let n = named_is bound x (MethodCallStmt x first calls) (method_tail bound x first calls) in record { stmt = n.0; item = n.1 }
  stmt_nested bound (ThisCallStmt at first calls) = other_is bound (ThisCallStmt at first calls) refl refl (this_other bound at first calls)
  stmt_nested bound (NewStmt at x actuals calls) = other_is bound (NewStmt at x actuals calls) refl refl (new_other bound at x actuals calls)
  stmt_nested bound (BlockStmt block) = other_is bound (BlockStmt block) refl refl (block_other bound block (block_nested bound block))
  stmt_nested bound EmptyStmt = other_is bound EmptyStmt refl refl (empty_other bound)
  stmt_nested bound (IfStmt at bracket test first) = other_is bound (IfStmt at bracket test first) refl refl (if_other bound at bracket test first (stmt_nested bound first).stmt)
  stmt_nested bound (IfElseStmt at bracket test first second) = other_is bound (IfElseStmt at bracket test first second) refl refl (else_other bound at bracket test first second (stmt_nested bound first).stmt (stmt_nested bound second).stmt)
  stmt_nested bound (WhileStmt at bracket test body) = other_is bound (WhileStmt at bracket test body) refl refl (while_other bound at bracket test body (stmt_nested bound body).stmt)
  stmt_nested bound (ReturnStmt at) = other_is bound (ReturnStmt at) refl refl (return_other bound at)
  stmt_nested bound (ReturnValueStmt at value) = other_is bound (ReturnValueStmt at value) refl refl (value_other bound at value)

  -- so is a block
  block_nested : (bound : ℕ) (block : BlockTree) (d : ℕ) → Sound bound (node_block block) d → 8 * d + block_depth block ≤ 8 * bound
  block_nested bound (MakeBlock items end) d (grown low (beside (tip t) (beside is rest))) =
      let here = inside_least (number_of grammar.Block) d in
      let y = items_nested bound items _ is in
      omega (arith, here, t, y)

  -- so are items
  items_nested : (bound : ℕ) (items : ItemTrees) (d : ℕ) → Sound bound (node_items items) d → (items_depth items ≡ 0) ⊎ (8 * d + items_depth items ≤ 8 * bound)
  items_nested bound NoItems d s = inl refl
  items_nested bound (MoreItems (LocalItem value_type x assign value) others) d (grown low (beside i (beside is over))) =
      let here = inside_least (number_of grammar.Items) d in
      let y = local_nested bound value_type x assign value _ i in
      let z = items_nested bound others _ is in
      inr (omega (arith, here, y, z))
  items_nested bound (MoreItems (StmtItem stmt) others) d (grown low (beside i (beside is over))) =
      let here = inside_least (number_of grammar.Items) d in
      let y = (stmt_nested bound stmt).item _ i in
      let z = items_nested bound others _ is in
      inr (omega (arith, here, y, z))

-- Classes.

-- a chord behind its first modifiers
rest_nested : (bound : ℕ) (result : ReturnType) (x : Name) (formals : FormalsTree) (headers : List HeaderTree) (body : BlockTree) (d : ℕ) → Sound bound (node_rest result x formals headers body) d → block_depth body ≤ 8 * bound
rest_nested bound (results.Value (types.Class class)) x formals headers body d (grown low (beside n (beside (grown lows (beside m (beside f (beside h (beside b over))))) over))) = let y = block_nested bound body _ b in omega (arith, y)
rest_nested bound (results.Value (types.Basic basic at)) x formals headers body d (grown low (beside r (beside n (beside f (beside h (beside b over)))))) = let y = block_nested bound body _ b in omega (arith, y)
rest_nested bound (results.Async at) x formals headers body d (grown low (beside r (beside n (beside f (beside h (beside b over)))))) = let y = block_nested bound body _ b in omega (arith, y)
rest_nested bound (results.Void at) x formals headers body d (grown low (beside r (beside n (beside f (beside h (beside b over)))))) = let y = block_nested bound body _ b in omega (arith, y)

-- a chord
chord_nested : (bound : ℕ) (headers : List HeaderTree) (body : BlockTree) (d : ℕ) → Sound bound (node_chord headers body) d → block_depth body ≤ 8 * bound
chord_nested bound [] body d (grown low (beside b over)) = let y = block_nested bound body _ b in omega (arith, y)
chord_nested bound (header ∷ others) body d (grown low (beside m (beside r over))) = rest_nested bound header.result_type header.name header.formals others body _ r

-- a member
member_nested : (bound : ℕ) (member : MemberTree) (d : ℕ) → Sound bound (node_member member) d → member_depth member ≤ 8 * bound
member_nested bound (ConstructorMember modifiers x formals body) d (grown low (beside m (beside (grown lows (beside n (beside (grown lowest (beside f (beside b over))) over))) over))) = let y = block_nested bound body _ b in omega (arith, y)
member_nested bound (ChordMember headers body) d s = chord_nested bound headers body d s

-- members
all_members : (bound : ℕ) (members : List MemberTree) (d : ℕ) → Sound bound (node_members members) d → members_depth members ≤ 8 * bound
all_members bound [] d s = omega arith
all_members bound (member ∷ others) d (grown low (beside m (beside ms over))) = let y = member_nested bound member _ m in let z = all_members bound others _ ms in omega (arith, y, z)

-- a class
class_nested : (bound : ℕ) (class : ClassTree) (d : ℕ) → Sound bound (node_class class) d → members_depth class.members ≤ 8 * bound
class_nested bound class d (grown low (beside p (beside w (beside n (beside b (beside o (beside ms rest))))))) = all_members bound class.members _ ms

-- classes behind the first
more_classes : (bound : ℕ) (classes : List ClassTree) (d : ℕ) → Sound bound (node_classes classes) d → classes_depth classes ≤ 8 * bound
more_classes bound [] d s = omega arith
more_classes bound (class ∷ others) d (grown low (beside c (beside cs over))) = let y = class_nested bound class _ c in let z = more_classes bound others _ cs in omega (arith, y, z)

-- all classes
all_classes : (bound : ℕ) (usings : List UsingTree) (classes : List ClassTree) (d : ℕ) → Sound bound (node_all_classes usings classes) d → classes_depth classes ≤ 8 * bound
all_classes bound usings [] d s = omega arith
all_classes bound usings (class ∷ others) d (grown low (beside u (beside c (beside cs over)))) = let y = class_nested bound class _ c in let z = more_classes bound others _ cs in omega (arith, y, z)

-- a program is nested no deeper than eight times its deepest token
pub nesting_is_tied : NestingIsTied
nesting_is_tied program bound p h = all_classes bound program.usings program.classes 0 (is_sound bound p.derived h)

-- no token is deeper than 200
not_deeper : (w : List Spelled) → NotTall w → NoneDeeper 200 w
not_deeper [] h = tt
not_deeper ((kind, depth) ∷ others) h = (h.0, not_deeper others h.1)

-- so a program without a token that is too deep is nested no deeper than 1,600
pub not_tall_nested : (program : ProgramTree) → IsProgram program → IsNotTall program → program_depth program ≤ 1600
not_tall_nested program p h = nesting_is_tied program 200 p (not_deeper (spell (node_program program) 0 []) h)
