use Rattle.std.proofs.Common.{sym, ap}
use Rattle.chord_parser.proofs.Reading.{step}
use Rattle.chord_parser.proofs.Chains.{stops, stops_parts, reads_parts, exits, as_node}
use Rattle.chord_parser.proofs.made.StmtSteps.{other_new, other_new_at}
use Rattle.chord_tree.specs.StmtNodes.{node_other}
use Rattle.chord_parser.proofs.stmts.new_stmt.Goals as goal

pub returns-in_err-at-clause-err : goal.returns-in_err-at-clause-err
returns-in_err-at-clause-err c = exits _ _ _ _ _ c.from_residual.ensures.1 (stops {count = c.args.count} (other_new (other_new_at _ c.requires.first)) _ c.in_err-at.ensures.err)

pub returns-in_err-name-clause-err : goal.returns-in_err-name-clause-err
returns-in_err-name-clause-err c = exits _ _ _ _ _ c.from_residual-in_err-name.ensures.1 (stops {count = c.args.count} (step (other_new (other_new_at _ c.requires.first)) c.in_ok-at.ensures.ok) _ c.in_err-name.ensures.err)

pub returns-in_err-passed-clause-err : goal.returns-in_err-passed-clause-err
returns-in_err-passed-clause-err c = exits _ _ _ _ _ c.from_residual-in_err-passed.ensures.1 (stops_parts {count = c.args.count} (step (step (other_new (other_new_at _ c.requires.first)) c.in_ok-at.ensures.ok) c.in_ok-name.ensures.ok) c.in_err-passed.ensures.err)

pub returns-clause-ok : goal.returns-clause-ok
returns-clause-ok c = as_node (reads_parts (step (step (other_new (other_new_at _ c.requires.first)) c.in_ok-at.ensures.ok) c.in_ok-name.ensures.ok) c.in_ok-passed.ensures.ok) (sym (ap node_other c.new_object.ensures))
