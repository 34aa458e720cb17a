use Rattle.std.proofs.Common.{◌++◌, map, flat_map, ap, ◌∙◌}
use Rattle.std.specs.Prelude.{reverse}
use Rattle.chord_tree.specs.View.{see_header}
use Rattle.chord_classes.specs.DeclarationRules.{repeated_formals}
use Rattle.chord_classes.specs.Least.{least, keys}
use Rattle.chord_rules.specs.FormalNames.{formals_of_header, formal_names}
use Rattle.chord_rules.proofs.NamesBefore.{next_formals}
use Rattle.chord_classes.proofs.Search.{item_by_item}
use Rattle.chord_rules.proofs.formals.headers_again.Goals as goal

pub loop-header-preserved : goal.loop-header-preserved
loop-header-preserved c =
    item_by_item (λ hs. least c.loop-header.breaks.found (keys 8 (repeated_formals (reverse c.loop-header.names) (flat_map formals_of_header (map see_header hs))))) c.args.headers.now c.loop-header.header-index c.header-item.result _ _ c.loop-header-test.true c.header-item.is
    (next_formals c.loop-header.names c.in_ok-names.names c.header-item.result.formals.parameters.items _ _ _ (c.in_ok-names.ensures.names ∙ ap (λ z. c.loop-header.names ++ formal_names z) c.deref.ensures.value)
    (c.in_ok-names.ensures.noted ∙ ap (λ z. least c.loop-header.breaks.found (keys 8 (repeated_formals (reverse c.loop-header.names) z))) c.deref.ensures.value)) c.loop-header.invariant
