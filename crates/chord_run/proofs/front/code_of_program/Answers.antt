use Rattle.std.proofs.Common.{length, ap, ◌∙◌, arith}
use Rattle.chord_parser.proofs.Single.{told_length}
use Rattle.chord_run.proofs.Starts.{points_at_token}
use Rattle.chord_tree.specs.View.{tree_of}
use Rattle.chord_run.proofs.front.code_of_program.Goals as goal

pub compile-requires-clause-few : goal.compile-requires-clause-few
compile-requires-clause-few c = let same = ap length c.requires.spelled ∙ told_length c.args.tokens.now in let few = c.requires.few in omega (arith, same, few)

pub returns-in-Err-Broken-clause-fault : goal.returns-in-Err-Broken-clause-fault
returns-in-Err-Broken-clause-fault c = (
  record { program = tree_of c.args.program.now; of_source = c.requires.of_source; first = rw c.in-Err-Broken.field-0-is at c.in-Err-Broken.ensures.fault },
  points_at_token c.args.source.now c.args.tokens.now _ c.start_byte.result c.requires.of_source.short c.requires.read c.start_byte.ensures,
)
