-- What surely returns in the text surely returns when its names are resolved.
use Rattle.std.proofs.Common.{◌≡◌, Bool, true, false, ◌&&◌, ◌||◌, refl}
use Rattle.std.proofs.lemmas.Bool.{false≢true}
use Rattle.chord_tree.specs.Tree.{StmtTree, BlockTree, ItemTrees, AssignStmt, CallStmt, MethodCallStmt, ThisCallStmt, NewStmt, BlockStmt, EmptyStmt, IfStmt, IfElseStmt, WhileStmt, ReturnStmt, ReturnValueStmt, MakeBlock, NoItems, MoreItems, LocalItem, StmtItem}
use Rattle.chord_tree.specs.Terms.{Term, VariableTerm, ThisTerm, NumberTerm, LiteralTerm, BoolTerm, GroupTerm, MinusTerm, NotTerm, OperationTerm, NewTerm, OwnCallTerm, CallTerm, term}
use Rattle.chord_bodies.specs.Types.{is_true, returns, one_returns}
use Rattle.chord_classes.specs.Site.{Site, after}
use Rattle.chord_classes.specs.ItemRules.{is_true_word, surely, block_surely, items_surely}
use Rattle.chord_classes.specs.Resolve.{resolved, resolved_stmt, resolved_block, resolved_items}

-- an expression that is the word `true` is resolved to it
word_is_true : (site : Site) (expr : Term) → is_true_word expr ≡ true → is_true (resolved site expr) ≡ true
word_is_true site (BoolTerm value at) h = h
word_is_true site (VariableTerm name) h = absurd (false≢true h)
word_is_true site (ThisTerm at) h = absurd (false≢true h)
word_is_true site (NumberTerm value at minus) h = absurd (false≢true h)
word_is_true site (LiteralTerm bytes at) h = absurd (false≢true h)
word_is_true site (GroupTerm at inner) h = absurd (false≢true h)
word_is_true site (MinusTerm at operand) h = absurd (false≢true h)
word_is_true site (NotTerm at operand) h = absurd (false≢true h)
word_is_true site (OperationTerm operator at left right) h = absurd (false≢true h)
word_is_true site (NewTerm at name brackets actuals) h = absurd (false≢true h)
word_is_true site (OwnCallTerm name brackets actuals) h = absurd (false≢true h)
word_is_true site (CallTerm receiver dot name brackets actuals) h = absurd (false≢true h)

-- where two truths give two others, both give both
both : (a b c d : Bool) → (a ≡ true → c ≡ true) → (b ≡ true → d ≡ true) → (a && b) ≡ true → (c && d) ≡ true
both true b c d f g h = let k = f refl in let m = g h in rw (k, m) refl
both false b c d f g h = absurd (false≢true h)

-- where two truths give two others, either gives one of them
either : (a b c d : Bool) → (a ≡ true → c ≡ true) → (b ≡ true → d ≡ true) → (a || b) ≡ true → (c || d) ≡ true
either true b c d f g h = let k = f refl in rw k refl
either false b true d f g h = refl
either false b false d f g h = g h

mutual
  -- a statement that surely returns is resolved to one that does
  stmt_returns : (site : Site) (stmt : StmtTree) → surely stmt ≡ true → returns (resolved_stmt site stmt) ≡ true
  stmt_returns site (AssignStmt name assign value) h = absurd (false≢true h)
  stmt_returns site (CallStmt name actuals calls) h = absurd (false≢true h)
  stmt_returns site (MethodCallStmt name first calls) h = absurd (false≢true h)
  stmt_returns site (ThisCallStmt at first calls) h = absurd (false≢true h)
  stmt_returns site (NewStmt at name actuals calls) h = absurd (false≢true h)
  stmt_returns site (BlockStmt block) h = block_returns site block h
  stmt_returns site EmptyStmt h = absurd (false≢true h)
  stmt_returns site (IfStmt at bracket test first) h = absurd (false≢true h)
  stmt_returns site (IfElseStmt at bracket test first second) h =
      both (surely first) (surely second) (returns (resolved_stmt site first)) (returns (resolved_stmt (after site (StmtItem first)) second)) (λ k. stmt_returns site first k) (λ k. stmt_returns (after site (StmtItem first)) second k) h
  stmt_returns site (WhileStmt at bracket test body) h = word_is_true site (term test) h
  stmt_returns site (ReturnStmt at) h = refl
  stmt_returns site (ReturnValueStmt at value) h = refl

  -- a block that surely returns is resolved to one that does
  pub block_returns : (site : Site) (block : BlockTree) → block_surely block ≡ true → one_returns (resolved_block site block) ≡ true
  block_returns site (MakeBlock items end) h = items_return site items h

  -- items one of which surely returns are resolved to statements one of which does
  items_return : (site : Site) (items : ItemTrees) → items_surely items ≡ true → one_returns (resolved_items site items) ≡ true
  items_return site NoItems h = absurd (false≢true h)
  items_return site (MoreItems (LocalItem written name assign value) more) h = items_return (after site (LocalItem written name assign value)) more h
  items_return site (MoreItems (StmtItem stmt) more) h =
      either (surely stmt) (items_surely more) (returns (resolved_stmt site stmt)) (one_returns (resolved_items (after site (StmtItem stmt)) more)) (λ k. stmt_returns site stmt k) (λ k. items_return (after site (StmtItem stmt)) more k) h
