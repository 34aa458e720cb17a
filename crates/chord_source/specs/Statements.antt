-- How a body executes statements, and what follows each.
use Rattle.std.specs.Prelude.{ℕ, suc, List}
use Rattle.chord_base.specs.declared.value.Value.{Value}
use Rattle.chord_base.specs.Operators.{text_of}
use Rattle.chord_bodies.specs.Resolved.{BodyOf, StmtOf, StmtsOf, Store, Do, Send, Print, IfThen, IfElse, While, Return, Give, Block, NoStmts, MoreStmts}
use Rattle.chord_bodies.specs.Resolved as body
use Rattle.chord_code.specs.Plays.{Play, PrintsLine}
use Rattle.chord_code.specs.Slots.{first_slots, set_slot}
use Rattle.chord_source.specs.Continuing.{Continuation, Maker, Leaving, on_found, branch, send_to, rounds, return_nothing, return_value}
use Rattle.chord_source.specs.Expressions.{evaluate, evaluate_all}

abbrev mutual
  -- a statement, and what follows it
  pub execute : ℕ → Maker → Leaving → StmtOf → Continuation → Continuation
  execute room maker out (Store i e) next vs t = evaluate room maker e (λ v ws u. on_found (set_slot i v ws) (λ xs. next xs u)) vs t
  execute room maker out (Do e) next vs t = evaluate room maker e (λ v. next) vs t
  execute room maker out (Send e c j args) next vs t = evaluate room maker e (λ o. evaluate_all room maker args (λ xs ws u. send_to o j xs (next ws u))) vs t
  execute room maker out (Print e) next vs t = evaluate room maker e (λ v ws u. on_found (text_of v) (λ line. PrintsLine line (next ws u))) vs t
  execute room maker out (IfThen e s) next vs t = evaluate room maker e (λ v ws u. branch v (execute room maker out s next ws u) (next ws u)) vs t
  execute room maker out (IfElse e s other) next vs t = evaluate room maker e (λ v ws u. branch v (execute room maker out s next ws u) (execute room maker out other next ws u)) vs t
  -- a test more than there are turns is never reached: the turn before it traps
  execute room maker out (While e s) next vs t = rounds (suc t) (evaluate room maker e) (execute room maker out s) next vs t
  execute room maker out Return next vs t = return_nothing out t
  execute room maker out (Give e) next vs t = evaluate room maker e (λ v ws u. return_value out v) vs t
  execute room maker out (Block ss) next vs t = execute_all room maker out ss next vs t

  -- statements in their order
  pub execute_all : ℕ → Maker → Leaving → StmtsOf → Continuation → Continuation
  execute_all room maker out NoStmts next vs t = next vs t
  execute_all room maker out (MoreStmts s ss) next vs t = execute room maker out s (execute_all room maker out ss next) vs t

-- a body begins with `this` and its arguments in its first slots and the unit value in all others, and returns at its end
abbrev pub run_body : ℕ → Maker → Leaving → BodyOf → List Value → ℕ → Play
run_body room maker out b xs t = on_found (first_slots (body.slots_of b) xs) (λ vs. execute_all room maker out b.stmts (λ ws. return_nothing out) vs t)
