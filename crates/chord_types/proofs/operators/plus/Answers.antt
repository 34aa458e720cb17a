use Rattle.std.proofs.Common.{refl, sym, ◌∙◌}
use Rattle.chord_types.proofs.operators.plus.Goals as goal

pub returns-then-is_text-2 : goal.returns-then-is_text-2
returns-then-is_text-2 c = rw (sym c.is_text.ensures ∙ c.if-is_text.false, sym c.is_text-2.ensures ∙ c.if-is_text-2.true) refl
