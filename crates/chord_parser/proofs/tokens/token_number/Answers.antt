use Rattle.std.proofs.Common.{◌-◌, sym, ap, ◌∙◌}
use Rattle.chord_parser.proofs.Single.{told_length}
use Rattle.chord_parser.proofs.tokens.token_number.Goals as goal

pub returns : goal.returns
returns c = c.saturating_sub.ensures ∙ ap (λ z. c.args.count - z) (sym (told_length c.args.tokens.now))
