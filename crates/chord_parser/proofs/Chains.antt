-- Levels of operators, and lists that are read in a loop.
use Rattle.std.proofs.Common.{◌≡◌, ℕ, zero, suc, ◌-◌, ◌<◌, ◌≤◌, ◌≢◌, List, [], ◌∷◌, ◌++◌, length, map, refl, sym, ap, subst, ◌∙◌, arith, lit<, false, cond, Result, Ok, Err, IsErrAnd, IfErr, IfOk, length-append}
use Rattle.std.specs.Prelude.{nat_lt}
use Rattle.std.proofs.lemmas.Bool.{le-ltb}
use Rattle.std.proofs.lemmas.List.{map-append}
use Rattle.chord_lexer.specs.declared.token.Kind.TheVariants as kinds
use Rattle.chord_lexer.specs.declared.token.Mark.TheVariants as marks
use Rattle.chord_parser.specs.declared.faults.Fault.TheVariants as faults
use Rattle.chord_lexer.specs.declared.token.Kind.{Kind}
use Rattle.chord_lexer.specs.declared.token.Token.{Token}
use Rattle.chord_parser.specs.declared.faults.Fault.{Fault}
use Rattle.chord_tree.specs.declared.exprs.Operator.{Operator}
use Rattle.chord_tree.specs.declared.exprs.Link.{Link}
use Rattle.chord_tree.specs.declared.exprs.Dot.{Dot}
use Rattle.chord_tree.specs.declared.exprs.Expr.{Expr}
use Rattle.chord_tree.specs.Symbol.{Symbol, Terminal, Nonterminal}
use Rattle.chord_tree.specs.Grammar.{terminal_count, rule_count}
use Rattle.chord_tree.specs.Derivation.{includes, next, at_depth, Want}
use Rattle.chord_parser.specs.Runs.{Wrong, Tall, Runs, stuck, Reads, ReadAll, none, more, Onward}
use Rattle.chord_parser.specs.Samples.{sample}
use Rattle.chord_tree.specs.Node.{Node, Nodes, End, ◌▸◌, Leaf, Made, size}
use Rattle.chord_tree.specs.OneAhead.{choice}
use Rattle.chord_tree.proofs.Ahead.{next_small}
use Rattle.chord_parser.specs.Reading.{valued, StopsAs, StopsAmong, StopsBefore, Continues, IsOther, operator_at, operator_terminal, one_link, before_links, before_dots, before_more, before_opt}
use Rattle.chord_tree.specs.Program.{token_kinds}
use Rattle.chord_tree.specs.Tree.{ExprTree, LinkTrees, LinkTree, DotTree, DotTrees, ChainExpr, MoreLinks, MakeLink, MoreDots, MakeDot, links, dots, exprs}
use Rattle.chord_tree.specs.ViewExprs.{see_link, see_dot, see_expr}
use Rattle.chord_tree.specs.ExprNodes.{link_level, operator_level, level_symbol, level_tail, mark_of, mark_leaf, precedence, lifted, alone, bare, node_at, node_links, node_dot, node_dots, node_more, node_exprs}
use Rattle.chord_parser.proofs.Single.{bare_mark, of_terminal}
use Rattle.chord_parser.proofs.Reading.{step, ends, goes_on, measured}
use Rattle.chord_parser.proofs.made.ChainSteps.{product_unary, product_unary_at, sum_product, sum_product_at, order_sum, order_sum_at, equal_order, equal_order_at, and_equal, and_equal_at, more_product_none, more_product_none_at, more_product_times, more_product_times_at, more_product_divide, more_product_divide_at, more_product_remainder, more_product_remainder_at, more_sum_none, more_sum_none_at, more_sum_plus, more_sum_plus_at, more_sum_minus, more_sum_minus_at, more_order_none, more_order_none_at, more_order_less, more_order_less_at, more_order_greater, more_order_greater_at, more_order_less_or_equal, more_order_less_or_equal_at, more_order_greater_or_equal, more_order_greater_or_equal_at, more_equal_none, more_equal_none_at, more_equal_equal, more_equal_equal_at, more_equal_not_equal, more_equal_not_equal_at, more_and_none, more_and_none_at, more_and_and, more_and_and_at, more_or_none, more_or_none_at, more_or_or, more_or_or_at}
use Rattle.chord_tree.specs.declared.exprs.Operator.TheVariants as operators
use Rattle.chord_lexer.specs.declared.token.Mark.{Mark}
use Rattle.chord_tree.specs.Symbols as grammar
use Rattle.chord_tree.specs.Terminals.{terminal_of}
use Rattle.std.specs.Prelude.{Some, None}

-- Where the next of the parts that are wanted stops, the whole stops.
pub stops : {count d e : ℕ} {p q : Symbol} {ps : List Symbol} {ks mid : List Kind} {f : Nodes → Node} → Onward count p d ks (q ∷ ps) e mid f → (fault : Fault) → StopsAs q e mid fault → StopsAs p d ks fault
stops {e = e} {ps = ps} o faults.Memory h = tt
stops {e = e} {ps = ps} o (faults.At n) h = λ s. o.runs s (Wrong n) (h (at_depth e ps ++ s))
stops {e = e} {ps = ps} o (faults.Tall n) h = λ s. o.runs s (Tall n) (h (at_depth e ps ++ s))

-- where what goes on stops, the whole stops
pub stops_in : {count d e : ℕ} {p q : Symbol} {ks mid : List Kind} {g : Node → Node} → Continues count p d ks q e mid g → (fault : Fault) → StopsAs q e mid fault → StopsAs p d ks fault
stops_in c faults.Memory h = tt
stops_in c (faults.At n) h = λ s. c.runs s (Wrong n) (h s)
stops_in c (faults.Tall n) h = λ s. c.runs s (Tall n) (h s)

-- the exit of a `?` on a fault
pub exits : {T : Type 0} (p : Symbol) (d : ℕ) (ks : List Kind) (e : Fault) (r : Result T Fault) → IsErrAnd r (λ y. y ≡ e) → StopsAs p d ks e → IfErr r (λ fault. StopsAs p d ks fault)
exits p d ks e (Ok x) h g = tt
exits p d ks e (Err y) h g = subst (λ z. StopsAs p d ks z) (sym h) g

-- the exit of a `?` on a fault of which something else is known
pub leaves : {T : Type 0} (P : Fault → Type 0) (e : Fault) (r : Result T Fault) → IsErrAnd r (λ y. y ≡ e) → P e → IfErr r P
leaves P e (Ok x) h g = tt
leaves P e (Err y) h g = subst P (sym h) g

-- what is wanted of two lists of parts
wanted_both : (d : ℕ) (ps qs : List Symbol) (s : List Want) → at_depth d (ps ++ qs) ++ s ≡ at_depth d ps ++ (at_depth d qs ++ s)
wanted_both d [] qs s = refl
wanted_both d (p ∷ ps) qs s = ap (λ z. (p, d) ∷ z) (wanted_both d ps qs s)

-- what stops as a part stops as the first of parts
among_first : (p : Symbol) (ps : List Symbol) (d : ℕ) (ks : List Kind) (fault : Fault) → StopsAs p d ks fault → StopsAmong (p ∷ ps) d ks fault
among_first p ps d ks faults.Memory h = tt
among_first p ps d ks (faults.At n) h = λ s. h (at_depth d ps ++ s)
among_first p ps d ks (faults.Tall n) h = λ s. h (at_depth d ps ++ s)

-- Where the first of the parts stops, they stop.
pub stops_first : {p : Symbol} {ps : List Symbol} {d : ℕ} {ks : List Kind} {fault : Fault} → StopsAs p d ks fault → StopsBefore (p ∷ ps) d ks fault
stops_first {p} {ps} {d} {ks} {fault} h = record { stops = among_first p ps d ks fault h }

-- what stops behind a part that is read
among_later : {count d : ℕ} {p : Symbol} {ks mid : List Kind} {n : Node} (ps : List Symbol) → Reads count p d ks mid n → (fault : Fault) → StopsAmong ps d mid fault → StopsAmong (p ∷ ps) d ks fault
among_later ps r faults.Memory h = tt
among_later ps r (faults.At n) h = λ s. goes_on r _ (Wrong n) (h s)
among_later ps r (faults.Tall n) h = λ s. goes_on r _ (Tall n) (h s)

-- Where the parts behind one that is read stop, they stop.
pub stops_later : {count d : ℕ} {p : Symbol} {ps : List Symbol} {ks mid : List Kind} {n : Node} {fault : Fault} → Reads count p d ks mid n → StopsBefore ps d mid fault → StopsBefore (p ∷ ps) d ks fault
stops_later {ps} {fault} r h = record { stops = among_later ps r fault h.stops }

-- what stops among the first parts
among_sooner : (ps qs : List Symbol) (d : ℕ) (ks : List Kind) (fault : Fault) → StopsAmong ps d ks fault → StopsAmong (ps ++ qs) d ks fault
among_sooner ps qs d ks faults.Memory h = tt
among_sooner ps qs d ks (faults.At n) h = λ s. subst (λ z. Runs z ks (Wrong n)) (sym (wanted_both d ps qs s)) (h (at_depth d qs ++ s))
among_sooner ps qs d ks (faults.Tall n) h = λ s. subst (λ z. Runs z ks (Tall n)) (sym (wanted_both d ps qs s)) (h (at_depth d qs ++ s))

-- Where the first parts stop, they stop with others behind them.
pub stops_sooner : {ps : List Symbol} {d : ℕ} {ks : List Kind} {fault : Fault} (qs : List Symbol) → StopsBefore ps d ks fault → StopsBefore (ps ++ qs) d ks fault
stops_sooner {ps} {d} {ks} {fault} qs h = record { stops = among_sooner ps qs d ks fault h.stops }

-- what stops among the parts that are wanted
whole_stops : {count d e : ℕ} {p : Symbol} {ps : List Symbol} {ks mid : List Kind} {f : Nodes → Node} → Onward count p d ks ps e mid f → (fault : Fault) → StopsAmong ps e mid fault → StopsAs p d ks fault
whole_stops o faults.Memory h = tt
whole_stops o (faults.At n) h = λ s. o.runs s (Wrong n) (h s)
whole_stops o (faults.Tall n) h = λ s. o.runs s (Tall n) (h s)

-- Where the parts that are wanted stop, the whole stops.
pub stops_parts : {count d e : ℕ} {p : Symbol} {ps : List Symbol} {ks mid : List Kind} {f : Nodes → Node} {fault : Fault} → Onward count p d ks ps e mid f → StopsBefore ps e mid fault → StopsAs p d ks fault
stops_parts {fault} o h = whole_stops o fault h.stops

-- what stops among the parts of a part, with others behind them
among_folded : {count d : ℕ} {p : Symbol} {ks : List Kind} {f : Nodes → Node} (ps qs : List Symbol) → Onward count p d ks ps d ks f → (fault : Fault) → StopsAmong (ps ++ qs) d ks fault → StopsAmong (p ∷ qs) d ks fault
among_folded ps qs o faults.Memory h = tt
among_folded {d} {ks} ps qs o (faults.At n) h = λ s. o.runs _ (Wrong n) (subst (λ z. Runs z ks (Wrong n)) (wanted_both d ps qs s) (h s))
among_folded {d} {ks} ps qs o (faults.Tall n) h = λ s. o.runs _ (Tall n) (subst (λ z. Runs z ks (Tall n)) (wanted_both d ps qs s) (h s))

-- Where the parts of a part and others behind them stop, the part and the others stop.
pub stops_folded : {count d : ℕ} {p : Symbol} {ps qs : List Symbol} {ks : List Kind} {f : Nodes → Node} {fault : Fault} → Onward count p d ks ps d ks f → StopsBefore (ps ++ qs) d ks fault → StopsBefore (p ∷ qs) d ks fault
stops_folded {ps} {qs} {fault} o h = record { stops = among_folded ps qs o fault h.stops }

-- the parts that are wanted are read
pub reads_parts : {count d e : ℕ} {p : Symbol} {ps : List Symbol} {ks mid rest : List Kind} {f : Nodes → Node} {ns : Nodes} → Onward count p d ks ps e mid f → ReadAll count ps e mid rest ns → Reads count p d ks rest (f ns)
reads_parts o h = o.reads _ _ h

-- two of them are read
pub step_two : {count d e : ℕ} {p a b : Symbol} {ps : List Symbol} {ks mid end : List Kind} {f : Nodes → Node} {x y : Node} → Onward count p d ks (a ∷ b ∷ ps) e mid f → ReadAll count (a ∷ b ∷ []) e mid end (x ▸ y ▸ End) → Onward count p d ks ps e end (λ ns. f (x ▸ y ▸ ns))
step_two o (more h (more i none)) = step (step o h) i

-- three of them are read
pub step_three : {count d e : ℕ} {p a b c : Symbol} {ps : List Symbol} {ks mid end : List Kind} {f : Nodes → Node} {x y z : Node} → Onward count p d ks (a ∷ b ∷ c ∷ ps) e mid f → ReadAll count (a ∷ b ∷ c ∷ []) e mid end (x ▸ y ▸ z ▸ End) → Onward count p d ks ps e end (λ ns. f (x ▸ y ▸ z ▸ ns))
step_three o (more h (more i (more j none))) = step (step (step o h) i) j

-- parts behind two that are read
pub behind_two : {count d : ℕ} {a b : Symbol} {ps : List Symbol} {ks mid rest : List Kind} {x y : Node} {ns : Nodes} → ReadAll count (a ∷ b ∷ []) d ks mid (x ▸ y ▸ End) → ReadAll count ps d mid rest ns → ReadAll count (a ∷ b ∷ ps) d ks rest (x ▸ y ▸ ns)
behind_two (more h (more i none)) k = more h (more i k)

-- where they stop, all stop
pub stops_behind_two : {count d : ℕ} {a b : Symbol} {ps : List Symbol} {ks mid : List Kind} {x y : Node} {fault : Fault} → ReadAll count (a ∷ b ∷ []) d ks mid (x ▸ y ▸ End) → StopsBefore ps d mid fault → StopsBefore (a ∷ b ∷ ps) d ks fault
stops_behind_two (more h (more i none)) k = stops_later h (stops_later i k)

-- a part in place of its one part, before another
pub folded_one : {count d : ℕ} {p a c : Symbol} {ks rest : List Kind} {f : Nodes → Node} {x z : Node} → Onward count p d ks (a ∷ []) d ks f → ReadAll count (a ∷ c ∷ []) d ks rest (x ▸ z ▸ End) → ReadAll count (p ∷ c ∷ []) d ks rest (f (x ▸ End) ▸ z ▸ End)
folded_one o (more h (more k none)) = more (o.reads _ _ (more h none)) (more k none)

-- a part in place of its two parts, before another
pub folded_two : {count d : ℕ} {p a b c : Symbol} {ks rest : List Kind} {f : Nodes → Node} {x y z : Node} → Onward count p d ks (a ∷ b ∷ []) d ks f → ReadAll count (a ∷ b ∷ c ∷ []) d ks rest (x ▸ y ▸ z ▸ End) → ReadAll count (p ∷ c ∷ []) d ks rest (f (x ▸ y ▸ End) ▸ z ▸ End)
folded_two o (more h (more i (more k none))) = more (o.reads _ _ (more h (more i none))) (more k none)

-- a part in place of its three parts, before another
pub folded_three : {count d : ℕ} {p a b e c : Symbol} {ks rest : List Kind} {f : Nodes → Node} {x y w z : Node} → Onward count p d ks (a ∷ b ∷ e ∷ []) d ks f → ReadAll count (a ∷ b ∷ e ∷ c ∷ []) d ks rest (x ▸ y ▸ w ▸ z ▸ End) → ReadAll count (p ∷ c ∷ []) d ks rest (f (x ▸ y ▸ w ▸ End) ▸ z ▸ End)
folded_three o (more h (more i (more j (more k none)))) = more (o.reads _ _ (more h (more i (more j none)))) (more k none)

-- parts that are read, as equal nodes
pub as_nodes : {count d : ℕ} {ps : List Symbol} {ks rest : List Kind} {ns ms : Nodes} → ReadAll count ps d ks rest ns → ns ≡ ms → ReadAll count ps d ks rest ms
as_nodes {count} {d} {ps} {ks} {rest} r e = subst (λ z. ReadAll count ps d ks rest z) e r

-- nothing is read yet
pub from_the_start : {count : ℕ} {p : Symbol} {d : ℕ} {ks : List Kind} → Continues count p d ks p d ks (λ n. n)
from_the_start = record { reads = λ rest n h. h; runs = λ s v r. r }

-- the symbol begins, and goes on with its last part
pub enters : {count d e : ℕ} {p q : Symbol} {ks mid : List Kind} {f : Nodes → Node} → Onward count p d ks (q ∷ []) e mid f → Continues count p d ks q e mid (λ n. f (n ▸ End))
enters o = record { reads = λ rest n h. o.reads rest _ (more h none); runs = λ s v r. o.runs s v r }

pub then : {count d e g : ℕ} {p q x : Symbol} {ks mid end : List Kind} {u v : Node → Node} → Continues count p d ks q e mid u → Continues count q e mid x g end v → Continues count p d ks x g end (λ n. u (v n))
then a b = record { reads = λ rest n h. a.reads rest _ (b.reads rest n h); runs = λ s v r. a.runs s v (b.runs s v r) }

-- what goes on, by an equal way to its node
pub renamed : {count d e : ℕ} {p q : Symbol} {ks mid : List Kind} {u v : Node → Node} → Continues count p d ks q e mid u → ((n : Node) → u n ≡ v n) → Continues count p d ks q e mid v
renamed {count} {d} {e} {p} {q} {ks} a h = record { reads = λ rest n r. subst (λ z. Reads count p d ks rest z) (h n) (a.reads rest n r); runs = a.runs }

-- what is read, as an equal node
pub as_node : {count d : ℕ} {p : Symbol} {ks rest : List Kind} {n m : Node} → Reads count p d ks rest n → n ≡ m → Reads count p d ks rest m
as_node {count} {d} {p} {ks} {rest} r e = subst (λ z. Reads count p d ks rest z) e r

-- no number is below itself
less_not : (l : ℕ) → nat_lt l l ≡ false
-- no number is below itself
less_not l = le-ltb l l (omega arith)

-- what is of a level as itself
pub lifted_same : (l : ℕ) (n : Node) → lifted l l n ≡ n
lifted_same zero n = refl
lifted_same (suc l) n = ap (λ b. cond b (alone (suc l) (lifted l (suc l) n)) n) (less_not (suc l))

-- a chain as the nonterminal of its level
pub joined_node : (l : ℕ) (f : ExprTree) (x : LinkTree) (ls : LinkTrees) → link_level x ≡ l → node_at l (ChainExpr f x ls) ≡ Made (level_symbol l) (node_at (l - 1) f ▸ node_links l (MoreLinks x ls) ▸ End)
joined_node l f (MakeLink o at t) ls e =
    ap (λ m. lifted l m (Made (level_symbol m) (lifted (m - 1) (precedence f) (bare f) ▸ node_links m (MoreLinks (MakeLink o at t) ls) ▸ End))) e ∙ lifted_same l _

-- a symbol of a level begins with one of the level below
pub level_begun : {count d : ℕ} {ks : List Kind} (l : ℕ) → 0 < l → l ≤ 5 → Onward count (level_symbol l) d ks (level_symbol (l - 1) ∷ level_tail l ∷ []) d ks (Made (level_symbol l))
level_begun zero h k = absurd (omega arith)
level_begun {ks = ks} (suc zero) h k = product_unary (product_unary_at _ (next_small ks))
level_begun {ks = ks} (suc (suc zero)) h k = sum_product (sum_product_at _ (next_small ks))
level_begun {ks = ks} (suc (suc (suc zero))) h k = order_sum (order_sum_at _ (next_small ks))
level_begun {ks = ks} (suc (suc (suc (suc zero)))) h k = equal_order (equal_order_at _ (next_small ks))
level_begun {ks = ks} (suc (suc (suc (suc (suc zero))))) h k = and_equal (and_equal_at _ (next_small ks))
level_begun (suc (suc (suc (suc (suc (suc l)))))) h k = absurd (omega arith)

-- no link of the level comes next
pub no_link : {count d : ℕ} {ks : List Kind} (l : ℕ) → 0 < l → l ≤ 6 → IsOther l ks → Reads count (level_tail l) d ks ks (Made (level_tail l) End)
no_link zero h k o = absurd (omega arith)
no_link {ks = ks} (suc zero) h k o = ends (more_product_none (more_product_none_at _ (next_small ks) (λ q. o operators.Times q refl) (λ q. o operators.Divide q refl) (λ q. o operators.Remainder q refl)))
no_link {ks = ks} (suc (suc zero)) h k o = ends (more_sum_none (more_sum_none_at _ (next_small ks) (λ q. o operators.Plus q refl) (λ q. o operators.Minus q refl)))
no_link {ks = ks} (suc (suc (suc zero))) h k o = ends (more_order_none (more_order_none_at _ (next_small ks) (λ q. o operators.Less q refl) (λ q. o operators.Greater q refl) (λ q. o operators.LessOrEqual q refl) (λ q. o operators.GreaterOrEqual q refl)))
no_link {ks = ks} (suc (suc (suc (suc zero)))) h k o = ends (more_equal_none (more_equal_none_at _ (next_small ks) (λ q. o operators.Equal q refl) (λ q. o operators.NotEqual q refl)))
no_link {ks = ks} (suc (suc (suc (suc (suc zero))))) h k o = ends (more_and_none (more_and_none_at _ (next_small ks) (λ q. o operators.And q refl)))
no_link {ks = ks} (suc (suc (suc (suc (suc (suc zero)))))) h k o = ends (more_or_none (more_or_none_at _ (next_small ks) (λ q. o operators.Or q refl)))
no_link (suc (suc (suc (suc (suc (suc (suc l))))))) h k o = absurd (omega arith)

-- where an operator comes next, a link of its own level begins
link_begun : {count d : ℕ} {ks : List Kind} (o : Operator) → next ks ≡ operator_terminal o → Onward count (level_tail (operator_level o)) d ks (Terminal (operator_terminal o) ∷ level_symbol (operator_level o - 1) ∷ level_tail (operator_level o) ∷ []) d ks (Made (level_tail (operator_level o)))
link_begun operators.Or e = more_or_or (more_or_or_at _ e)
link_begun operators.And e = more_and_and (more_and_and_at _ e)
link_begun operators.Equal e = more_equal_equal (more_equal_equal_at _ e)
link_begun operators.NotEqual e = more_equal_not_equal (more_equal_not_equal_at _ e)
link_begun operators.Less e = more_order_less (more_order_less_at _ e)
link_begun operators.Greater e = more_order_greater (more_order_greater_at _ e)
link_begun operators.LessOrEqual e = more_order_less_or_equal (more_order_less_or_equal_at _ e)
link_begun operators.GreaterOrEqual e = more_order_greater_or_equal (more_order_greater_or_equal_at _ e)
link_begun operators.Plus e = more_sum_plus (more_sum_plus_at _ e)
link_begun operators.Minus e = more_sum_minus (more_sum_minus_at _ e)
link_begun operators.Times e = more_product_times (more_product_times_at _ e)
link_begun operators.Divide e = more_product_divide (more_product_divide_at _ e)
link_begun operators.Remainder e = more_product_remainder (more_product_remainder_at _ e)

-- a link of the level begins
pub begun_link : {count d : ℕ} {ks : List Kind} (o : Operator) (l : ℕ) → operator_level o ≡ l → next ks ≡ operator_terminal o → Onward count (level_tail l) d ks (Terminal (operator_terminal o) ∷ level_symbol (l - 1) ∷ level_tail l ∷ []) d ks (Made (level_tail l))
begun_link {count} {d} {ks} o l q e = subst (λ z. Onward count (level_tail z) d ks (Terminal (operator_terminal o) ∷ level_symbol (z - 1) ∷ level_tail z ∷ []) d ks (Made (level_tail z))) q (link_begun o e)

-- lists that grow at the end
pub links_grown : (l : ℕ) (xs : List LinkTree) (x : LinkTree) (n : Node) → before_links l (xs ++ (x ∷ [])) n ≡ before_links l xs (one_link l x n)
links_grown l [] x n = refl
links_grown l (y ∷ xs) x n = ap (one_link l y) (links_grown l xs x n)

-- links before no others are the links
pub links_all : (l : ℕ) (xs : List LinkTree) → before_links l xs (Made (level_tail l) End) ≡ node_links l (links xs)
links_all l [] = refl
links_all l (MakeLink o at t ∷ xs) = ap (λ n. one_link l (MakeLink o at t) n) (links_all l xs)

-- a call more at the end
pub dots_grown : (xs : List DotTree) (x : DotTree) (n : Node) → before_dots (xs ++ (x ∷ [])) n ≡ before_dots xs (before_dots (x ∷ []) n)
dots_grown [] x n = refl
dots_grown (y ∷ xs) x n = ap (λ z. before_dots (y ∷ []) z) (dots_grown xs x n)

-- an argument more at the end
pub more_grown : (xs : List ExprTree) (x : ExprTree) (n : Node) → before_more (xs ++ (x ∷ [])) n ≡ before_more xs (before_more (x ∷ []) n)
more_grown [] x n = refl
more_grown (y ∷ xs) x n = ap (λ z. before_more (y ∷ []) z) (more_grown xs x n)

-- what follows of an answer that is Ok
pub ok_map : {T E : Type 0} (r : Result T E) (P Q : T → Type 0) → ((x : T) → P x → Q x) → IfOk r P → IfOk r Q
ok_map (Ok x) P Q f h = f x h
ok_map (Err e) P Q f h = tt

-- what follows of two facts of an answer that is Ok
pub ok_both : {T E : Type 0} (r : Result T E) (P Q R : T → Type 0) → ((x : T) → P x → Q x → R x) → IfOk r P → IfOk r Q → IfOk r R
ok_both (Ok x) P Q R f h k = f x h k
ok_both (Err e) P Q R f h k = tt

-- what follows of an answer that is Err
pub err_map : {T E : Type 0} (r : Result T E) (P Q : E → Type 0) → ((e : E) → P e → Q e) → IfErr r P → IfErr r Q
err_map (Ok x) P Q f h = tt
err_map (Err e) P Q f h = f e h

-- there are as many kinds as tokens
pub told_size : (ts : List Token) → length (token_kinds ts) ≡ length ts
told_size [] = refl
told_size (t ∷ ts) = ap suc (told_size ts)

-- a token and a part are read
pub shorter : {count c d e : ℕ} {q : Symbol} {k : Kind} {at : ℕ} {m : Node} (left mid rest : List Token) → Reads count (Terminal c) d (token_kinds left) (token_kinds mid) (Leaf k at) → Reads count q e (token_kinds mid) (token_kinds rest) m → length rest < length left
shorter left mid rest h k = let a = measured h in let b = measured k in let x = told_size left in let y = told_size rest in omega arith

-- a call has a token
pub dot_size : (x : DotTree) → 0 < size (node_dot x)
dot_size (MakeDot at y a) = omega arith

-- a call takes a token at least
pub shorter_dot : {count d : ℕ} {q : Symbol} (x : DotTree) (left rest : List Token) → Reads count q d (token_kinds left) (token_kinds rest) (node_dot x) → length rest < length left
shorter_dot x left rest h = let a = measured h in let b = dot_size x in let y = told_size left in let z = told_size rest in omega arith

-- no rule of the symbol fits the next token
pub stuck_at : {x d : ℕ} (ts : List Token) (n : ℕ) → choice x (next (token_kinds ts)) ≡ rule_count → n ≡ length ts → StopsAs (Nonterminal x) d (token_kinds ts) (faults.At n)
stuck_at {x} {d} ts n h e = λ s. subst (λ z. Runs ((Nonterminal x, d) ∷ s) (token_kinds ts) (Wrong z)) (told_size ts ∙ sym e) (stuck (omega arith))

-- a link more in memory
pub links_push : (l : ℕ) (xs ys : List Link) (x : Link) (t : LinkTree) (n : Node) → ys ≡ xs ++ (x ∷ []) → see_link x ≡ t → before_links l (map see_link xs) (one_link l t n) ≡ before_links l (map see_link ys) n
links_push l xs ys x t n e q = ap (λ z. before_links l (map see_link xs) (one_link l z n)) (sym q) ∙ sym (links_grown l (map see_link xs) (see_link x) n) ∙ ap (λ z. before_links l z n) (sym (map-append see_link xs (x ∷ []))) ∙ ap (λ z. before_links l (map see_link z) n) (sym e)

-- the token of an operator
pub operator_read : {count d at : ℕ} {ks rest : List Kind} (c : ℕ) (o : Operator) → c ≡ operator_terminal o → Reads count (Terminal c) d ks rest (Leaf (sample c) at) → Reads count (Terminal (operator_terminal o)) d ks rest (mark_leaf (mark_of o) at)
operator_read {count} {d} {at} {ks} {rest} c o e r = subst (λ z. Reads count (Terminal (operator_terminal o)) d ks rest (Leaf z at)) (bare_mark (mark_of o)) (subst (λ z. Reads count (Terminal z) d ks rest (Leaf (sample z) at)) e r)

-- a list that grew is not empty
pub pushed : {A : Type 0} (xs ys : List A) (x : A) → ys ≡ xs ++ (x ∷ []) → 0 < length ys
pushed xs ys x e = let f = ap length e ∙ length-append xs (x ∷ []) in omega arith

-- a call more in memory
pub dots_push : (xs ys : List Dot) (x : Dot) (n : Node) → ys ≡ xs ++ (x ∷ []) → before_dots (map see_dot xs) (before_dots (see_dot x ∷ []) n) ≡ before_dots (map see_dot ys) n
dots_push xs ys x n e = sym (dots_grown (map see_dot xs) (see_dot x) n) ∙ ap (λ z. before_dots z n) (sym (map-append see_dot xs (x ∷ []))) ∙ ap (λ z. before_dots (map see_dot z) n) (sym e)

-- a call before calls is the node of them all
pub one_dot : (x : DotTree) (ds : DotTrees) → Made grammar.Dots (node_dot x ▸ node_dots ds ▸ End) ≡ node_dots (MoreDots x ds)
one_dot (MakeDot at y a) ds = refl

-- calls before no others are the calls
pub dots_all : (xs : List DotTree) → before_dots xs (Made grammar.Dots End) ≡ node_dots (dots xs)
dots_all [] = refl
dots_all (x ∷ xs) = ap (λ z. Made grammar.Dots (node_dot x ▸ z ▸ End)) (dots_all xs) ∙ one_dot x (dots xs)

-- the first argument
pub opt_first : (ys : List Expr) (x : Expr) (n : Node) → ys ≡ x ∷ [] → Made grammar.Optional_exprs (node_at 6 (see_expr x) ▸ n ▸ End) ≡ before_opt (map see_expr ys) n
opt_first ys x n e = ap (λ z. before_opt (map see_expr z) n) (sym e)

-- an argument more in memory
pub opt_push : (xs ys : List Expr) (x : Expr) (n : Node) → 0 < length xs → ys ≡ xs ++ (x ∷ []) → before_opt (map see_expr xs) (before_more (see_expr x ∷ []) n) ≡ before_opt (map see_expr ys) n
opt_push [] ys x n h e = absurd (omega arith)
opt_push (y ∷ xs) ys x n h e =
    ap (λ z. Made grammar.Optional_exprs (node_at 6 (see_expr y) ▸ z ▸ End)) (sym (more_grown (map see_expr xs) (see_expr x) n) ∙ ap (λ z. before_more z n) (sym (map-append see_expr xs (x ∷ []))))
    ∙ ap (λ z. before_opt (map see_expr z) n) (sym e)

-- further arguments before no others are those arguments
more_all : (xs : List ExprTree) → before_more xs (Made grammar.More_exprs End) ≡ node_more (exprs xs)
more_all [] = refl
more_all (x ∷ xs) = ap (λ z. before_more (x ∷ []) z) (more_all xs)

-- arguments before no others are the arguments
pub opt_all : (xs : List Expr) → 0 < length xs → before_opt (map see_expr xs) (Made grammar.More_exprs End) ≡ node_exprs (exprs (map see_expr xs))
opt_all [] h = absurd (omega arith)
opt_all (x ∷ xs) h = ap (λ z. Made grammar.Optional_exprs (node_at 6 (see_expr x) ▸ z ▸ End)) (more_all (map see_expr xs))

-- the operators of kinds of tokens
operator_back : (o : Operator) → operator_at (kinds.Mark (mark_of o)) ≡ Some o
operator_back operators.Or = refl
operator_back _ = refl

-- a mark that is an operator is the mark of that operator
mark_at : (m : Mark) (o : Operator) → operator_at (kinds.Mark m) ≡ Some o → kinds.Mark m ≡ kinds.Mark (mark_of o)
mark_at marks.Or o h = cc
mark_at _ o h = cc

-- a kind that is an operator is the mark of that operator
kind_at : (k : Kind) (o : Operator) → operator_at k ≡ Some o → k ≡ kinds.Mark (mark_of o)
kind_at (kinds.Word w) o h = cc
kind_at (kinds.Name x) o h = cc
kind_at (kinds.Number x) o h = cc
kind_at (kinds.Literal x) o h = cc
kind_at (kinds.Mark m) o h = mark_at m o h

-- where a kind is an operator, its terminal is the operator's
pub operator_read_at : (k : Kind) (o : Operator) → operator_at k ≡ Some o → terminal_of k ≡ operator_terminal o
operator_read_at k o h = ap terminal_of (kind_at k o h)

-- the token of an operator carries no value
valued_not : (o : Operator) → includes valued (operator_terminal o) ≡ false
valued_not operators.Or = refl
valued_not _ = refl

-- a kind with the terminal of an operator is that operator
same_operator : (k : Kind) (o : Operator) → terminal_of k ≡ operator_terminal o → operator_at k ≡ Some o
same_operator k o e = ap operator_at (sym (of_terminal (operator_terminal o) k e (valued_not o)) ∙ bare_mark (mark_of o)) ∙ operator_back o

-- a kind that is no operator is of no level
pub none_at : (l : ℕ) (k : Kind) (ks : List Kind) → operator_at k ≡ None → IsOther l (k ∷ ks)
none_at l k ks h = λ o e q. let a = same_operator k o e in cc

-- an operator of another level is none of this
pub other_at : (l : ℕ) (k : Kind) (ks : List Kind) (p : Operator) → operator_at k ≡ Some p → operator_level p ≢ l → IsOther l (k ∷ ks)
other_at l k ks p h n = λ o e q. let a = same_operator k o e in let b : p ≡ o = cc in n (ap operator_level b ∙ q)

-- the terminal of an operator is one of the grammar
operator_small : (o : Operator) → operator_terminal o < 52
operator_small operators.Or = lit< tt
operator_small _ = lit< tt

-- no operator is the end of the tokens
not_end : (o : Operator) → 52 ≡ operator_terminal o → ⊥
not_end o e = let h = operator_small o in omega arith

-- no operator comes at the end
pub end_other : (l : ℕ) → IsOther l []
unfolding terminal_count
end_other l = λ o e q. not_end o e

-- the same of tokens with these kinds
pub other_told : (l : ℕ) (ts : List Token) (ks : List Kind) → token_kinds ts ≡ ks → IsOther l ks → IsOther l (token_kinds ts)
other_told l ts ks e h = subst (λ z. IsOther l z) (sym e) h

-- no tokens have no kinds
pub told_nil : (ts : List Token) → length ts ≡ 0 → token_kinds ts ≡ []
told_nil [] e = refl
told_nil (t ∷ ts) e = absurd (omega arith)

-- tokens that begin with no operator have none of the level
pub none_next : (l : ℕ) (ts : List Token) (k : Kind) (ks : List Kind) → token_kinds ts ≡ k ∷ ks → operator_at k ≡ None → IsOther l (token_kinds ts)
none_next l ts k ks e h = other_told l ts (k ∷ ks) e (none_at l k ks h)

-- tokens that begin with an operator of another level have none of this
pub level_told : (l : ℕ) (ts : List Token) (k : Kind) (ks : List Kind) (p : Operator) → token_kinds ts ≡ k ∷ ks → operator_at k ≡ Some p → operator_level p ≢ l → IsOther l (token_kinds ts)
level_told l ts k ks p e h n = other_told l ts (k ∷ ks) e (other_at l k ks p h n)
