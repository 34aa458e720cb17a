-- What is said of an expression that was looked at: what it is resolved to, its type, the least of what was noted, and that its chains are as long as they can be.
use Rattle.std.specs.Prelude.{◌≡◌, ℕ, List, [], ◌∷◌, map, sum_by, Option, None}
use Rattle.chord_tree.specs.Tree.{LinkTree, DotTree, dots, links}
use Rattle.chord_tree.specs.Terms.{Term, Terms, called, operated}
use Rattle.chord_tree.specs.Walk.{Role, Used, Alone, Receiver, over_term, over_terms}
use Rattle.chord_bodies.specs.declared.stmt.Stmt.{Stmt}
use Rattle.chord_bodies.specs.View.{view_expr, view_stmt, expr_list}
use Rattle.chord_classes.specs.Site.{Site, after}
use Rattle.chord_classes.specs.TypedTerms.{is_console}
use Rattle.chord_classes.specs.Typed.{type_of_term, passed}
use Rattle.chord_classes.specs.Resolve.{resolved, all_resolved, resolved_alone}
use Rattle.chord_classes.specs.Least.{least}
use Rattle.chord_classes.specs.AllNotes.{term_keys, item_keys}
use Rattle.chord_types.specs.declared.operand.Operand.{Operand}
use Rattle.chord_types.specs.declared.operand.Arguments.{Arguments}
use Rattle.chord_types.specs.Views.{see_passed}
use Rattle.chord_types.specs.Flat.{doubled, doubled_stmt}

-- what an expression and its parts break
abbrev pub term_breaks : Site → Role → Term → List ℕ
term_breaks site role term = over_term after term_keys item_keys site role term

-- what arguments and their parts break
abbrev pub terms_breaks : Site → Terms → List ℕ
terms_breaks site terms = over_terms after term_keys item_keys site terms

-- An expression was looked at. Where nothing was noted until then, it is resolved.
pub record IsChecked (site : Site) (role : Role) (term : Term) (old new : Option ℕ) (operand : Operand) : Type 0 where
  pub built : new ≡ None → view_expr operand.expr ≡ resolved site term
  pub typed : operand.static_type ≡ type_of_term site role term
  pub noted : new ≡ least old (term_breaks site role term)
  pub flat : doubled operand.expr ≡ 0

-- arguments were looked at
pub record AreChecked (site : Site) (terms : Terms) (old new : Option ℕ) (arguments : Arguments) : Type 0 where
  pub built : new ≡ None → expr_list (map view_expr arguments.exprs.items) ≡ all_resolved site terms
  pub typed : map see_passed arguments.passed.items ≡ passed site terms
  pub noted : new ≡ least old (terms_breaks site terms)
  pub flat : sum_by doubled arguments.exprs.items ≡ 0

-- an expression was looked at on which calls may go on
pub record IsReceiver (site : Site) (role : Role) (term : Term) (old new : Option ℕ) (operand : Operand) : Type 0 where
  pub checked : IsChecked site role term old new operand
  pub console : operand.is_console ≡ is_console site term

-- a call or `new` that is a statement was looked at
pub record IsAlone (site : Site) (term : Term) (old new : Option ℕ) (stmt : Stmt) : Type 0 where
  pub built : new ≡ None → view_stmt stmt ≡ resolved_alone site term
  pub noted : new ≡ least old (term_breaks site Alone term)
  pub flat : doubled_stmt stmt ≡ 0

-- a call on an expression
abbrev pub on_dot : Term → DotTree → Term
on_dot term dot = called (dots (dot ∷ [])) term

-- an operator with an expression as its left operand
abbrev pub on_link : Term → LinkTree → Term
on_link term link = operated (links (link ∷ [])) term

-- of each expression that was looked at as a receiver, what goes on from it was looked at
abbrev pub GoesOn : Site → Role → (Term → Term) → Option ℕ → Option ℕ → Operand → Operand → Type 0
GoesOn site role goes old new before after = (term : Term) (start : Option ℕ) → IsReceiver site Receiver term start old before → IsReceiver site role (goes term) start new after

-- of each expression that was looked at as a receiver, the statement that goes on from it was looked at
abbrev pub EndsAlone : Site → (Term → Term) → Option ℕ → Option ℕ → Operand → Stmt → Type 0
EndsAlone site goes old new before stmt = (term : Term) (start : Option ℕ) → IsReceiver site Receiver term start old before → IsAlone site (goes term) start new stmt

-- of each expression that was looked at as an operand, the operators that go on from it were looked at
abbrev pub Operates : Site → (Term → Term) → Option ℕ → Option ℕ → Operand → Operand → Type 0
Operates site goes old new before after = (term : Term) (start : Option ℕ) → IsChecked site Used term start old before → IsChecked site Used (goes term) start new after
