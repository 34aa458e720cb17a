use Rattle.std.proofs.Common.{◌+◌, ◌++◌, drop, ap, ◌∙◌}
use Rattle.std.specs.Prelude.{reverse, is_some}
use Rattle.chord_classes.specs.NameRules.{when}
use Rattle.chord_classes.specs.DeclarationRules.{repeated_formals}
use Rattle.chord_classes.specs.Least.{least, keys}
use Rattle.chord_rules.specs.FormalNames.{formal_names}
use Rattle.chord_rules.proofs.NamesBefore.{next_formal, next_names}
use Rattle.chord_classes.proofs.Search.{item_by_item}
use Rattle.chord_rules.proofs.formals.formals_again.Goals as goal

pub loop-formal-preserved : goal.loop-formal-preserved
loop-formal-preserved c =
    let names = c.loop-formal.names in
    let rest = drop (c.loop-formal.formal-index + 1) c.args.formals.now in
    record {
      names = item_by_item (λ fs. names ++ formal_names fs) c.args.formals.now c.loop-formal.formal-index c.formal-item.result _ _ c.loop-formal-test.true c.formal-item.is
          (next_names names c.in_ok-names.names c.items-name.result.now c.formal-item.result rest c.in_ok-names.ensures c.items-name.ensures.bytes) c.loop-formal.invariant.names;
      all = item_by_item (λ fs. least c.loop-formal.breaks.found (keys 8 (repeated_formals (reverse names) fs))) c.args.formals.now c.loop-formal.formal-index c.formal-item.result _ _ c.loop-formal-test.true c.formal-item.is
          (next_formal names c.in_ok-names.names c.items-name.result.now c.formal-item.result rest c.loop-formal.breaks.found c.note_if.new.self.found c.in_ok-names.ensures c.items-name.ensures.bytes
          (c.note_if.ensures ∙ ap (λ b. least c.loop-formal.breaks.found (keys 8 (when b c.formal-item.result.name.at))) (c.is_some.ensures ∙ ap is_some c.place.ensures)))
          c.loop-formal.invariant.all;
    }
