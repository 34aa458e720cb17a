-- The program that is parsed again spells what the first one does.
use Rattle.std.proofs.Common.{◌∙◌}
use Rattle.chord_parser.proofs.Whole.{spelled_again}
use Rattle.chord_run.proofs.parse_tests.again.Goals as goal

pub only_one-requires : goal.only_one-requires
only_one-requires c = spelled_again _ _ _ (c.deref-2.ensures.value ∙ c.in_ok-spelled.ensures.spelled) c.in-Ok.ensures.spelled
