use Rattle.std.proofs.Common.{refl, arith}
use Rattle.chord_code.proofs.valid.valid.Goals as goal

pub returns : goal.returns
returns c = (
  λ is. record {
    main = rw (← c.items.ensures) (grind (arith, c.if-is_empty.ensures, c.if-is_empty.false));
    few = rw (← c.items-2.ensures) c.if-items-gt-MAX_CLASSES.false;
    classes = c.if-not-are_classes.ensures.0 refl;
    blocks = c.are_blocks.ensures.0 is;
  },
  λ valid. c.are_blocks.ensures.1 valid.blocks,
)
