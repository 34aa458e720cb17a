-- A walk notes what is noted at each of its spots. So what several rules note together is what each notes by itself.
use Rattle.std.proofs.Common.{◌≡◌, ℕ, ◌+◌, List, [], ◌∷◌, ◌++◌, refl, sym, ap, ◌∙◌, append-nil}
use Rattle.std.specs.Prelude.{flat_map}
use Rattle.std.proofs.lemmas.Grind.{flat_map-append}
use Rattle.chord_tree.specs.Tree.{StmtTree, BlockTree, ItemTrees, ItemTree, AssignStmt, CallStmt, MethodCallStmt, ThisCallStmt, NewStmt, BlockStmt, EmptyStmt, IfStmt, IfElseStmt, WhileStmt, ReturnStmt, ReturnValueStmt, MakeBlock, NoItems, MoreItems, LocalItem, StmtItem, MemberTree, ClassTree, ProgramTree}
use Rattle.chord_tree.specs.Terms.{Term, Terms, VariableTerm, ThisTerm, NumberTerm, LiteralTerm, BoolTerm, GroupTerm, MinusTerm, NotTerm, OperationTerm, NewTerm, OwnCallTerm, CallTerm, NoTerms, MoreTerms, term, stands_as}
use Rattle.chord_tree.specs.Walk.{Role, Used, Alone, Receiver, over_term, over_terms, over_stmt, over_block, over_items, over_member, over_classes, over_program, body_of, Spot, spot_of_term, spot_of_item, spot_of_member, spots, at_spot}

-- two parts of a list, each what f gives of a part of another
pub beside : {X Y : Type 0} (f : X → List Y) (a b : List Y) (s t : List X) → a ≡ flat_map f s → b ≡ flat_map f t → a ++ b ≡ flat_map f (s ++ t)
beside f a b s t e h = ap (λ z. z ++ b) e ∙ ap (λ z. flat_map f s ++ z) h ∙ sym (flat_map-append f s t)

module _ {Around Note : Type 0} (after : Around → ItemTree → Around) (at_term : Around → Role → Term → List Note) (at_item : Around → ItemTree → List Note) (at_member : ClassTree → MemberTree → List Note) where
  -- what is noted at a spot
  abbrev here : Spot Around → List Note
  here = at_spot at_term at_item at_member

  -- what is noted at an expression is what is noted at its one spot
  term_alone : (g : Around) (r : Role) (t : Term) → at_term g r t ≡ flat_map here (spot_of_term g r t)
  term_alone g r t = sym (append-nil (at_term g r t))

  -- what is noted at an item is what is noted at its one spot
  item_alone : (g : Around) (i : ItemTree) → at_item g i ≡ flat_map here (spot_of_item g i)
  item_alone g i = sym (append-nil (at_item g i))

  mutual
    -- a walk over an expression notes what is noted at its spots
    term_spots : (g : Around) (r : Role) (t : Term) → over_term after at_term at_item g r t ≡ flat_map here (over_term after spot_of_term spot_of_item g r t)
    term_spots g r (VariableTerm name) = term_alone g r _
    term_spots g r (ThisTerm at) = term_alone g r _
    term_spots g r (NumberTerm value at minus) = term_alone g r _
    term_spots g r (LiteralTerm bytes at) = term_alone g r _
    term_spots g r (BoolTerm value at) = term_alone g r _
    term_spots g r (GroupTerm at e) = beside here _ _ _ _ (term_spots g Used e) (term_alone g r _)
    term_spots g r (MinusTerm at e) = beside here _ _ _ _ (term_spots g Used e) (term_alone g r _)
    term_spots g r (NotTerm at e) = beside here _ _ _ _ (term_spots g Used e) (term_alone g r _)
    term_spots g r (OperationTerm operator at e f) = beside here _ _ _ _ (term_spots g Used e) (beside here _ _ _ _ (term_spots g Used f) (term_alone g r _))
    term_spots g r (NewTerm at name brackets es) = beside here _ _ _ _ (terms_spots g es) (term_alone g r _)
    term_spots g r (OwnCallTerm name brackets es) = beside here _ _ _ _ (terms_spots g es) (term_alone g r _)
    term_spots g r (CallTerm e dot name brackets es) = beside here _ _ _ _ (term_spots g Receiver e) (beside here _ _ _ _ (terms_spots g es) (term_alone g r _))

    -- a walk over arguments notes what is noted at their spots
    terms_spots : (g : Around) (ts : Terms) → over_terms after at_term at_item g ts ≡ flat_map here (over_terms after spot_of_term spot_of_item g ts)
    terms_spots g NoTerms = refl
    terms_spots g (MoreTerms e es) = beside here _ _ _ _ (term_spots g Used e) (terms_spots g es)

  mutual
    -- a walk over a statement notes what is noted at its spots
    stmt_spots : (g : Around) (s : StmtTree) → over_stmt after at_term at_item g s ≡ flat_map here (over_stmt after spot_of_term spot_of_item g s)
    stmt_spots g (AssignStmt name assign value) = beside here _ _ _ _ (term_spots g Used (term value)) (item_alone g (StmtItem (AssignStmt name assign value)))
    stmt_spots g (CallStmt name actuals calls) = beside here _ _ _ _ (term_spots g Alone (stands_as (CallStmt name actuals calls) (ThisTerm 0))) (item_alone g (StmtItem (CallStmt name actuals calls)))
    stmt_spots g (MethodCallStmt name first calls) = beside here _ _ _ _ (term_spots g Alone (stands_as (MethodCallStmt name first calls) (ThisTerm 0))) (item_alone g (StmtItem (MethodCallStmt name first calls)))
    stmt_spots g (ThisCallStmt at first calls) = beside here _ _ _ _ (term_spots g Alone (stands_as (ThisCallStmt at first calls) (ThisTerm 0))) (item_alone g (StmtItem (ThisCallStmt at first calls)))
    stmt_spots g (NewStmt at name actuals calls) = beside here _ _ _ _ (term_spots g Alone (stands_as (NewStmt at name actuals calls) (ThisTerm 0))) (item_alone g (StmtItem (NewStmt at name actuals calls)))
    stmt_spots g (BlockStmt block) = beside here _ _ _ _ (block_spots g block) (item_alone g (StmtItem (BlockStmt block)))
    stmt_spots g EmptyStmt = item_alone g (StmtItem EmptyStmt)
    stmt_spots g (IfStmt at bracket test first) = beside here _ _ _ _ (term_spots g Used (term test)) (beside here _ _ (spot_of_item g (StmtItem (IfStmt at bracket test first))) _ (item_alone g (StmtItem (IfStmt at bracket test first))) (stmt_spots g first))
    stmt_spots g (IfElseStmt at bracket test first second) = beside here _ _ _ _ (term_spots g Used (term test)) (beside here _ _ (spot_of_item g (StmtItem (IfElseStmt at bracket test first second))) _ (item_alone g (StmtItem (IfElseStmt at bracket test first second))) (beside here _ _ _ _ (stmt_spots g first) (stmt_spots (after g (StmtItem first)) second)))
    stmt_spots g (WhileStmt at bracket test body) = beside here _ _ _ _ (term_spots g Used (term test)) (beside here _ _ (spot_of_item g (StmtItem (WhileStmt at bracket test body))) _ (item_alone g (StmtItem (WhileStmt at bracket test body))) (stmt_spots g body))
    stmt_spots g (ReturnStmt at) = item_alone g (StmtItem (ReturnStmt at))
    stmt_spots g (ReturnValueStmt at value) = beside here _ _ _ _ (term_spots g Used (term value)) (item_alone g (StmtItem (ReturnValueStmt at value)))

    -- a walk over a block notes what is noted at its spots
    block_spots : (g : Around) (b : BlockTree) → over_block after at_term at_item g b ≡ flat_map here (over_block after spot_of_term spot_of_item g b)
    block_spots g (MakeBlock items end) = items_spots g items

    -- a walk over items notes what is noted at their spots
    items_spots : (g : Around) (is : ItemTrees) → over_items after at_term at_item g is ≡ flat_map here (over_items after spot_of_term spot_of_item g is)
    items_spots g NoItems = refl
    items_spots g (MoreItems (LocalItem value_type name assign value) more) = beside here _ _ _ _ (term_spots g Used (term value)) (beside here _ _ (spot_of_item g (LocalItem value_type name assign value)) _ (item_alone g (LocalItem value_type name assign value)) (items_spots (after g (LocalItem value_type name assign value)) more))
    items_spots g (MoreItems (StmtItem stmt) more) = beside here _ _ _ _ (stmt_spots g stmt) (items_spots (after g (StmtItem stmt)) more)

  module _ (enter : ℕ → ClassTree → MemberTree → Around) where
    -- a walk over members of a class notes what is noted at their spots
    members_spots : (n : ℕ) (c : ClassTree) (ms : List MemberTree) → flat_map (over_member after at_term at_item enter at_member n c) ms ≡ flat_map here (flat_map (over_member after spot_of_term spot_of_item enter spot_of_member n c) ms)
    members_spots n c [] = refl
    members_spots n c (m ∷ ms) = beside here _ _ _ _ (beside here _ _ _ _ (block_spots (enter n c m) (body_of m)) (sym (append-nil (at_member c m)))) (members_spots n c ms)

    -- a walk over classes notes what is noted at their spots
    classes_spots : (n : ℕ) (cs : List ClassTree) → over_classes after at_term at_item enter at_member n cs ≡ flat_map here (over_classes after spot_of_term spot_of_item enter spot_of_member n cs)
    classes_spots n [] = refl
    classes_spots n (c ∷ cs) = beside here _ _ _ _ (members_spots n c c.members) (classes_spots (n + 1) cs)

    -- a walk over a program notes what is noted at its spots
    pub program_spots : (p : ProgramTree) → over_program after at_term at_item enter at_member p ≡ flat_map here (spots after enter p)
    program_spots p = classes_spots 0 p.classes
