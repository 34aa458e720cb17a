use Rattle.std.proofs.Common.{[], false, map, flat_map, length, sym, ap, ◌∙◌}
use Rattle.chord_tree.specs.View.{see_header}
use Rattle.chord_classes.specs.ChordRules.{repeated, second_sync}
use Rattle.chord_classes.specs.DeclarationRules.{repeated_formals}
use Rattle.chord_classes.specs.Least.{least, keys}
use Rattle.chord_classes.proofs.Leasts.{noted_four}
use Rattle.chord_rules.specs.Bearers.{header_barred}
use Rattle.chord_rules.specs.FormalNames.{formals_of_header}
use Rattle.chord_classes.proofs.Search.{map_length}
use Rattle.chord_rules.proofs.members.chord_breaks.Goals as goal

pub returns : goal.returns
returns c =
    let headers = map see_header c.args.headers.now in
    noted_four _ _ _ _ _ (keys 21 (flat_map (header_barred (length headers)) headers)) (keys 7 (repeated [] headers)) (keys 6 (second_sync false headers)) (keys 8 (repeated_formals [] (flat_map formals_of_header headers)))
    (c.headers_barred.ensures ∙ ap (λ z. least c.args.breaks.now.found (keys 21 (flat_map (header_barred z) headers))) (sym (map_length see_header c.args.headers.now)))
    c.in_ok-repeated_methods.ensures.repeated c.second_synchronous.ensures c.in_ok-headers_again.ensures
