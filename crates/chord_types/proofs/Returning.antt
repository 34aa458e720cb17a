-- Whether items surely return, by the first of them.
use Rattle.std.proofs.Common.{◌≡◌, Bool, true, false, ℕ, [], ◌∷◌, List, refl}
use Rattle.std.specs.Prelude.{◌||◌}
use Rattle.chord_tree.specs.declared.names.Name.{Name}
use Rattle.chord_tree.specs.declared.exprs.Operator.{Operator}
use Rattle.chord_tree.specs.Tree.{ExprTree, LinkTree, LinkTrees, DotTree, DotTrees, ItemTree, LocalItem, StmtItem, NoDots, MoreDots, MakeDot, MakeActuals, NoLinks, MoreLinks, MakeLink, ChainExpr, items}
use Rattle.chord_tree.specs.Terms.{Term, Terms, CallTerm, OperationTerm, term, terms, called, operated}
use Rattle.chord_classes.specs.ItemRules.{is_true_word, surely, items_surely}

-- `false` between the two parts of an `or` changes nothing
or_false_or : (a b : Bool) → (a || b) ≡ ((a || false) || b)
or_false_or true b = refl
or_false_or false b = refl

-- the first item surely returns, or one of the others
pub surely_split : (item : ItemTree) (more : List ItemTree) → items_surely (items (item ∷ more)) ≡ (items_surely (items (item ∷ [])) || items_surely (items more))
surely_split (LocalItem written name assign value) more = refl
surely_split (StmtItem stmt) more = or_false_or (surely stmt) (items_surely (items more))

-- a call is not the word `true`
pub called_is_no_word : (calls : DotTrees) (receiver : Term) (dot : ℕ) (name : Name) (brackets : ℕ) (actuals : Terms) → is_true_word (called calls (CallTerm receiver dot name brackets actuals)) ≡ false
called_is_no_word NoDots receiver dot name brackets actuals = refl
called_is_no_word (MoreDots (MakeDot at method (MakeActuals bracket args)) more) receiver dot name brackets actuals = called_is_no_word more (CallTerm receiver dot name brackets actuals) at method bracket (terms args)

-- an operation is not the word `true`
pub operated_is_no_word : (more : LinkTrees) (operator : Operator) (at : ℕ) (left right : Term) → is_true_word (operated more (OperationTerm operator at left right)) ≡ false
operated_is_no_word NoLinks operator at left right = refl
operated_is_no_word (MoreLinks (MakeLink other there operand) more) operator at left right = operated_is_no_word more other there (OperationTerm operator at left right) (term operand)

-- a chain is not the word `true`
pub chain_is_no_word : (first : ExprTree) (link : LinkTree) (more : LinkTrees) → is_true_word (term (ChainExpr first link more)) ≡ false
chain_is_no_word first (MakeLink operator at operand) more = operated_is_no_word more operator at (term first) (term operand)

-- calls are not the word `true`
pub dots_are_no_word : (first : DotTree) (more : DotTrees) (t : Term) → is_true_word (called (MoreDots first more) t) ≡ false
dots_are_no_word (MakeDot at name (MakeActuals bracket args)) more t = called_is_no_word more t at name bracket (terms args)
