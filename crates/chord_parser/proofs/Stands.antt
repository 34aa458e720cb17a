-- What a node of each symbol stands for, if it has the nodes that a production of the symbol gives it.
use Rattle.std.proofs.Common.{◌≡◌, ℕ, zero, suc, ◌+◌, ◌<◌, ◌≤◌, Bool, true, false, cond, List, [], ◌∷◌, length, get_or, refl, sym, ap, subst, ◌∙◌, arith, ◌⊎◌, inl, inr}
use Rattle.std.specs.Prelude.{nat_eq}
use Rattle.std.proofs.lemmas.Bool.{cases_Bool}
use Rattle.chord_lexer.specs.declared.token.Kind.{Kind}
use Rattle.chord_lexer.specs.declared.token.Kind.TheVariants as kinds
use Rattle.chord_lexer.specs.declared.token.Keyword.{Keyword}
use Rattle.chord_lexer.specs.declared.token.Keyword.TheVariants as keywords
use Rattle.chord_lexer.specs.declared.token.Mark.{Mark}
use Rattle.chord_lexer.specs.declared.token.Mark.TheVariants as marks
use Rattle.chord_tree.specs.declared.names.Name.{Name}
use Rattle.chord_tree.specs.declared.classes.Modifier.{Modifier}
use Rattle.chord_tree.specs.declared.classes.ReturnType.{ReturnType}
use Rattle.chord_tree.specs.Symbol.{Symbol, Production, Terminal, Nonterminal, number_of}
use Rattle.chord_tree.specs.Symbols as grammar
use Rattle.chord_tree.specs.Grammar.{productions, rule_count}
use Rattle.chord_tree.specs.Terminals.{terminal_of, keyword_symbol, mark_symbol}
use Rattle.chord_tree.specs.Derivation.{Spelled, includes, head_of, parts_of}
use Rattle.chord_tree.specs.Node.{Node, Nodes, End, ◌▸◌, Leaf, Made, Fits, FitAll, leaf, made, none, more, size, unnumbered, number_at, IsNumbered, AllNumbered}
use Rattle.chord_tree.specs.Tree.{ExprTree, LinkTrees, NoLinks, MoreLinks, StartTree, DotTrees, StmtTree, MemberTree, ItemTree, StmtItem}
use Rattle.chord_tree.specs.ExprNodes.{keyword_leaf, name, link_level, precedence, node_at, node_expr, node_links, node_start, node_actuals, node_exprs, node_more, node_dots, node_dot}
use Rattle.chord_tree.specs.StmtNodes.{semicolon, node_stmt, node_item, node_items, node_block}
use Rattle.chord_tree.specs.ClassNodes.{node_modifier, node_modifiers, node_type, node_formal, node_more_formals, node_formal_list, node_formals, node_plain, node_result, node_header, node_headers, node_member, node_members, node_public, node_base, node_class, node_classes, node_name_parts, node_using, node_usings, node_program}
use Rattle.chord_parser.specs.Lists.{IsPlain}
use Rattle.chord_parser.specs.Reading.{valued}
use Rattle.chord_parser.specs.Samples.{sample}
use Rattle.chord_parser.proofs.Single.{of_terminal}

-- ## Tokens

-- a token that carries a value: a name, a number or a literal
abbrev IsValued : (is_name is_number : Bool) → Node → Type 0
IsValued true is_number n = (x : Name) × (n ≡ name x)
IsValued false true n = (value at : ℕ) × (n ≡ Leaf (kinds.Number value) at)
IsValued false false n = (bytes : List ℕ) × (at : ℕ) × (n ≡ Leaf (kinds.Literal bytes) at)

-- a token by what its terminal is: one that carries a value, one without a number, or any other
abbrev IsTokenBy : (is_valued is_unnumbered : Bool) → ℕ → Node → Type 0
IsTokenBy true is_unnumbered c n = IsValued (nat_eq c 1) (nat_eq c 44) n
IsTokenBy false true c n = n ≡ Leaf (sample c) 0
IsTokenBy false false c n = (at : ℕ) × (n ≡ Leaf (sample c) at)

-- a token of a terminal, with the number that a tree keeps of it
abbrev pub IsToken : ℕ → Node → Type 0
IsToken c n = IsTokenBy (includes valued c) (includes unnumbered c) c n

-- a keyword carries no value
pub plain_word : (w : Keyword) → includes valued (number_of (keyword_symbol w)) ≡ false
plain_word keywords.Using = refl
plain_word _ = refl

-- a mark carries no value
pub plain_mark : (m : Mark) → includes valued (number_of (mark_symbol m)) ≡ false
plain_mark marks.Semicolon = refl
plain_mark _ = refl

-- a token of a terminal that carries no value
plain_token : (c at : ℕ) (k : Kind) → terminal_of k ≡ c → includes valued c ≡ false → IsToken c (Leaf k (number_at k at))
plain_token c at k e v = elim (cases_Bool (includes unnumbered c)) [
  | inl u ↦ subst (λ b. IsTokenBy b (includes unnumbered c) c (Leaf k (number_at k at))) (sym v) (subst (λ b. IsTokenBy false b c (Leaf k (number_at k at))) (sym u)
      (ap (λ z. Leaf z (number_at k at)) (sym (of_terminal c k e v)) ∙ ap (Leaf (sample c)) (ap (λ z. cond (includes unnumbered z) 0 at) e ∙ ap (λ z. cond z 0 at) u)))
  | inr u ↦ subst (λ b. IsTokenBy b (includes unnumbered c) c (Leaf k (number_at k at))) (sym v) (subst (λ b. IsTokenBy false b c (Leaf k (number_at k at))) (sym u)
      (number_at k at, ap (λ z. Leaf z (number_at k at)) (sym (of_terminal c k e v))))
]

-- a token is one of its terminal
is_token : (k : Kind) (at : ℕ) → IsToken (terminal_of k) (Leaf k (number_at k at))
is_token (kinds.Word w) at = plain_token _ at (kinds.Word w) refl (plain_word w)
is_token (kinds.Name x) at = (record { text = x; at = at }, refl)
is_token (kinds.Number x) at = (x, at, refl)
is_token (kinds.Literal x) at = (x, at, refl)
is_token (kinds.Mark m) at = plain_token _ at (kinds.Mark m) refl (plain_mark m)

-- ## Nonterminals

-- the node of something
abbrev pub Is : {T : Type 0} → (T → Node) → Node → Type 0
Is {T} node_of n = (x : T) × (n ≡ node_of x)

-- a nonterminal that derives nothing, or what stands for something
abbrev pub IsOptional : {T : Type 0} → Symbol → (T → Nodes) → Node → Type 0
IsOptional {T} p nodes_of n = (n ≡ Made p End) ⊎ ((x : T) × (n ≡ Made p (nodes_of x)))

-- an expression of a level, or of one below it
abbrev pub IsLevel : ℕ → Node → Type 0
IsLevel l n = (e : ExprTree) × (n ≡ node_at l e) × (precedence e ≤ l)

-- the first operator is of the level
abbrev pub IsFirstOf : ℕ → LinkTrees → Type 0
IsFirstOf l NoLinks = Unit {0}
IsFirstOf l (MoreLinks link links) = link_level link ≡ l

-- the further operands of a level
abbrev pub IsTail : ℕ → Node → Type 0
IsTail l n = (links : LinkTrees) × (n ≡ node_links l links) × IsFirstOf l links

-- an operand with the calls on it
abbrev pub IsPrimary : Node → Type 0
IsPrimary n = (start : StartTree) × (calls : DotTrees) × (n ≡ Made grammar.Primary (node_start start ▸ node_dots calls ▸ End))

-- what follows a name makes a statement with it, and an item
abbrev pub MakesStmt : Node → Type 0
MakesStmt n = (x : Name) → (s : StmtTree) × (node_stmt s ≡ Made grammar.Stmt (name x ▸ n ▸ semicolon ▸ End)) × (node_item (StmtItem s) ≡ Made grammar.Item (name x ▸ Made grammar.After_name (n ▸ End) ▸ semicolon ▸ End))

-- what follows a name makes an item with it
abbrev pub MakesItem : Node → Type 0
MakesItem n = (x : Name) → (item : ItemTree) × (node_item item ≡ Made grammar.Item (name x ▸ n ▸ semicolon ▸ End))

-- what no name begins is a statement, and an item
abbrev pub IsOther : Node → Type 0
IsOther n = (s : StmtTree) × (node_stmt s ≡ Made grammar.Stmt (n ▸ End)) × (node_item (StmtItem s) ≡ Made grammar.Item (n ▸ End))

-- what follows the modifiers of a member makes one with them
abbrev pub MakesMember : Node → Type 0
MakesMember n = (ms : List Modifier) → (m : MemberTree) × (node_member m ≡ Made grammar.Member (node_modifiers ms ▸ n ▸ End))

-- what follows the name that begins a member makes one with it
abbrev pub FollowsName : Node → Type 0
FollowsName n = (x : Name) → MakesMember (Made grammar.Rest (name x ▸ n ▸ End))

-- a result that is a word
abbrev pub IsPlainResult : Node → Type 0
IsPlainResult n = (r : ReturnType) × (n ≡ node_plain r) × IsPlain r

-- what a node of each nonterminal stands for, by its number
abbrev meanings : List (Node → Type 0)
meanings =
    Is node_program ∷ Is node_usings ∷ Is node_classes ∷ Is node_using ∷ Is node_name_parts ∷ Is node_class ∷ Is node_public ∷ Is node_base ∷ Is node_members
    ∷ Is node_member ∷ Is node_modifiers ∷ Is node_modifier ∷ MakesMember ∷ FollowsName ∷ Is node_headers ∷ Is node_header ∷ Is node_result ∷ IsPlainResult
    ∷ Is node_formals ∷ Is node_formal_list ∷ Is node_more_formals ∷ Is node_formal ∷ Is node_type
    ∷ Is node_block ∷ Is node_items ∷ Is node_item ∷ MakesItem ∷ Is node_stmt ∷ MakesStmt ∷ IsOther
    ∷ IsOptional grammar.Optional_else (λ s. keyword_leaf keywords.Else 0 ▸ node_stmt s ▸ End) ∷ IsOptional grammar.Optional_expr (λ e. node_expr e ▸ End)
    ∷ Is node_dot ∷ Is node_dots ∷ Is node_actuals ∷ Is node_exprs ∷ Is node_more
    ∷ IsLevel 6 ∷ IsTail 6 ∷ IsLevel 5 ∷ IsTail 5 ∷ IsLevel 4 ∷ IsTail 4 ∷ IsLevel 3 ∷ IsTail 3 ∷ IsLevel 2 ∷ IsTail 2 ∷ IsLevel 1 ∷ IsTail 1 ∷ IsLevel 0
    ∷ IsPrimary ∷ Is node_start ∷ IsOptional grammar.Optional_actuals (λ a. node_actuals a ▸ End) ∷ []

-- the node stands for what its symbol is for
abbrev pub StandsFor : Symbol → Node → Type 0
StandsFor (Terminal c) n = IsToken c n
StandsFor (Nonterminal x) n = get_or meanings x (λ m. ⊥) n

infixr 20 ◌&◌
-- the nodes stand for what these symbols are for, one for each
pub data AllStand : List Symbol → Nodes → Type 0 where
  nothing : AllStand [] End
  ◌&◌ : {p : Symbol} {ps : List Symbol} {n : Node} {ns : Nodes} → StandsFor p n → AllStand ps ns → AllStand (p ∷ ps) (n ▸ ns)

-- what has nodes of this right side stands for what its nonterminal is for
abbrev pub Gives : Symbol → List Symbol → Type 0
Gives head side = (ns : Nodes) → AllStand side ns → StandsFor head (Made head ns)

infixr 20 ◌⊳◌
-- it is so for each of these productions
pub data AllGive : List Production → Type 0 where
  last : AllGive []
  ◌⊳◌ : {x : ℕ} {side : List Symbol} {rules : List Production} → Gives (Nonterminal x) side → AllGive rules → AllGive ((Nonterminal x, side) ∷ rules)

-- what is so for each production is so for one
one_gives : {rules : List Production} → AllGive rules → (i : ℕ) → i < length rules → Gives (Nonterminal (number_of (get_or rules i (Terminal 0, [])).0)) (get_or rules i (Terminal 0, [])).1
one_gives last i l = absurd (omega arith)
one_gives (g ⊳ gs) zero l = g
one_gives (g ⊳ gs) (suc i) l = one_gives gs i (omega arith)

-- and so for the production of a number
rule_gives : AllGive productions → (i : ℕ) → i < rule_count → Gives (Nonterminal (head_of i)) (parts_of i)
unfolding head_of parts_of productions rule_count
rule_gives g i l = one_gives g i l

module _ (rules : AllGive productions) where
  mutual
    -- a node that the grammar derives stands for what its symbol is for
    pub stands : {p : Symbol} {d : ℕ} {n : Node} {w : List Spelled} → Fits p d n w → (at : ℕ) → IsNumbered n at → StandsFor p n
    stands (leaf {c} {at = number} {k} e) at m = subst (λ z. IsToken z (Leaf k number)) e (subst (λ z. IsToken (terminal_of k) (Leaf k z)) (sym m) (is_token k at))
    stands (made {x} {ns} i l h a f) at m = subst (λ y. StandsFor (Nonterminal y) (Made (Nonterminal y) ns)) h (rule_gives rules i l ns (all_stand f at m))

    -- and so do nodes side by side
    pub all_stand : {ps : List Symbol} {d : ℕ} {ns : Nodes} {w : List Spelled} → FitAll ps d ns w → (at : ℕ) → AllNumbered ns at → AllStand ps ns
    all_stand none at m = nothing
    all_stand (more {n} f g) at m = stands f at m.0 & all_stand g (at + size n) m.1
