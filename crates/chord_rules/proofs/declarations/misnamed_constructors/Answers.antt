use Rattle.std.proofs.Common.{map, ap, ◌∙◌}
use Rattle.chord_tree.specs.View.{see_member}
use Rattle.chord_classes.specs.ChordRules.{misnamed_constructors}
use Rattle.chord_classes.specs.Least.{least, keys}
use Rattle.chord_rules.specs.Constructors.{misnamed_from}
use Rattle.chord_rules.proofs.Builders.{misnamed_same}
use Rattle.chord_classes.proofs.Search.{search_ended}
use Rattle.chord_rules.proofs.declarations.misnamed_constructors.Goals as goal

pub returns : goal.returns
returns c =
    let name = c.args.class.now.name.text in
    search_ended (λ ms. least c.loop-member.breaks.found (keys 12 (misnamed_from name c.loop-member.seen (map see_member ms)))) c.deref-member-items.result.now c.loop-member.member-index _ c.loop-member-test.false c.loop-member.invariant
    ∙ ap (λ z. least c.args.breaks.now.found (keys 12 z)) (misnamed_same name (map see_member c.deref-member-items.result.now))
    ∙ ap (λ z. least c.args.breaks.now.found (keys 12 (misnamed_constructors name (map see_member z)))) c.deref-member-items.ensures.value
