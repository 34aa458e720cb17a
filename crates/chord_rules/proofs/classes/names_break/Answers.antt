use Rattle.std.proofs.Common.{map, ap, ◌∙◌}
use Rattle.chord_tree.specs.View.{see_class}
use Rattle.chord_classes.specs.Table.{base_of}
use Rattle.chord_classes.specs.DeclarationRules.{declared_again, base_missing}
use Rattle.chord_classes.specs.ChordRules.{misnamed_constructors, base_token, base_has}
use Rattle.chord_classes.specs.Least.{least, keys}
use Rattle.chord_classes.proofs.Leasts.{noted_four}
use Rattle.chord_rules.proofs.classes.names_break.Goals as goal

pub returns : goal.returns
returns c =
    let done = c.args.table.now in
    let class = see_class c.args.class.now in
    let classes = map see_class c.args.classes.now in
    noted_four _ _ _ _ _ (keys 1 (declared_again done class)) (keys 3 (base_missing done class)) (keys 12 (misnamed_constructors class.name.text class.members)) (keys 12 (base_token class.base (base_has classes (base_of done class))))
    c.declared_again.ensures c.base_missing.ensures c.misnamed_constructors.ensures
    (c.base_built.ensures ∙ ap (λ z. least c.misnamed_constructors.new.breaks.found (keys 12 (base_token class.base (base_has classes z)))) c.base_of.ensures)
