-- Each cause of a refusal has a line, and each accepted source a machine.
use Rattle.std.proofs.Common.{ℕ, List, arith, codes, length, refl}
use Rattle.chord_lexer.specs.Reading.{IsRead, after_byte_order_mark}
use Rattle.chord_lexer.specs.declared.token.Token.{Token}
use Rattle.chord_classes.specs.Plan.{resolved_program}
use Rattle.chord_run.specs.Laws.{AcceptedHasMachine, CauseHasLine, MachineIsOfAccepted}
use Rattle.chord_run.specs.Positions.{position_of}
use Rattle.chord_run.specs.Refusals.{IsTokenAt, IsWithin, rule_front, token_start, with_position}
use Rattle.chord_run.specs.Sources.{IsShort}
use Rattle.chord_run.specs.declared.refusal.Refusal.TheVariants.{Long, Bad, Syntax, Tall, Rule}
use Rattle.chord_run.proofs.Starts.{points_at_token}
use Rattle.chord_source.specs.Source.{source_program}

-- an accepted source has a machine
pub accepted_has_machine : AcceptedHasMachine
accepted_has_machine source limits a = (source_program (resolved_program a.0) limits, (a.0, a.1, refl))

-- a source with a machine is accepted
pub machine_is_of_accepted : MachineIsOfAccepted
machine_is_of_accepted source limits program m = (m.0, m.1)

-- the byte at which the tokens of a source refuse it
refusing_byte : (source : List ℕ) (tokens : List Token) (k : ℕ) → IsShort source → IsRead source tokens → (byte : ℕ) × (IsWithin source byte × IsTokenAt source k byte)
refusing_byte source tokens k short read =
    let byte = token_start tokens k (length (after_byte_order_mark source)) in
    (byte, points_at_token source tokens k byte short read refl)

-- a cause of a refusal has a line
pub cause_has_line : CauseHasLine
cause_has_line source Long c = (codes "refused long\n", refl)
cause_has_line source (Bad k) c = (with_position (codes "refused byte ") (position_of (after_byte_order_mark source) k), (k, (record { short = c.0; within = (let p = c.1.place in omega (arith, p)) }, refl), refl))
cause_has_line source (Syntax k) c = (let b = refusing_byte source c.tokens k c.short c.read in (with_position (codes "refused syntax ") (position_of (after_byte_order_mark source) b.0), (b.0, b.1, refl)))
cause_has_line source (Tall k) c = (let b = refusing_byte source c.tokens k c.short c.read in (with_position (codes "refused tall ") (position_of (after_byte_order_mark source) b.0), (b.0, b.1, refl)))
cause_has_line source (Rule r k) c = (let b = refusing_byte source c.of_source.tokens k c.of_source.short c.of_source.read in (with_position (rule_front r) (position_of (after_byte_order_mark source) b.0), (b.0, b.1, refl)))
