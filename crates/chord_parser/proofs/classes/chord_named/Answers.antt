use Rattle.std.proofs.Common.{[], ◌∷◌, map, refl}
use Rattle.chord_tree.specs.Symbols as grammar
use Rattle.chord_tree.specs.View.{see_formals, see_header}
use Rattle.chord_tree.specs.ViewStmts.{see_block}
use Rattle.chord_parser.proofs.Chains.{stops_sooner, behind_two, stops_behind_two, leaves, as_nodes}
use Rattle.chord_parser.proofs.ClassLists.{chord_named, chord_headed, chord_gives}
use Rattle.chord_parser.proofs.classes.chord_named.Goals as goal

pub returns-in_err-name-clause-err : goal.returns-in_err-name-clause-err
returns-in_err-name-clause-err c = leaves _ _ _ c.from_residual.ensures.1 (stops_sooner (grammar.Headers ∷ grammar.Block ∷ []) c.in_err-name.ensures.err)

pub returns-in_err-headers-clause-err : goal.returns-in_err-headers-clause-err
returns-in_err-headers-clause-err c = leaves _ _ _ c.from_residual-in_err-headers.ensures.1 (stops_behind_two c.in_ok-name.ensures.ok c.in_err-headers.ensures.err)

pub returns-clause-ok : goal.returns-clause-ok
returns-clause-ok c = as_nodes (behind_two c.in_ok-name.ensures.ok c.in_ok-headers.ensures.ok) (chord_named (record { modifiers = c.args.modifiers.items; result_type = c.args.kind; name = c.in_ok-name.name; formals = see_formals c.in_ok-name.list }) (map see_header c.in_ok-headers.headers.items) (see_block c.in_ok-headers.body) c.in_ok-headers.ensures.first)

pub returns-clause-headed : goal.returns-clause-headed
returns-clause-headed c = chord_headed (record { modifiers = c.args.modifiers.items; result_type = c.args.kind; name = c.in_ok-name.name; formals = see_formals c.in_ok-name.list }) (map see_header c.in_ok-headers.headers.items) (see_block c.in_ok-headers.body) _ refl c.in_ok-headers.ensures.first

pub returns-clause-gives : goal.returns-clause-gives
returns-clause-gives c = chord_gives (record { modifiers = c.args.modifiers.items; result_type = c.args.kind; name = c.in_ok-name.name; formals = see_formals c.in_ok-name.list }) (map see_header c.in_ok-headers.headers.items) (see_block c.in_ok-headers.body) c.in_ok-headers.ensures.first
