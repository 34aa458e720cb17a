use Rattle.std.proofs.Common.{refl}
use Rattle.chord_code.proofs.valid.is_class.Goals as goal

pub returns : goal.returns
returns c = (
  λ is. record {
    builder = c.if-not-has_builder.ensures.0 refl;
    few_methods = rw (← c.items.ensures) c.if-items-gt-MAX_METHODS.false;
    few_chords = rw (← c.items-2.ensures) c.if-items-gt-MAX_CHORDS.false;
    few_parameters = c.if-not-have_few_parameters.ensures.0 refl;
    chords = c.are_chords.ensures.0 is;
  },
  λ line. c.are_chords.ensures.1 line.chords,
)
