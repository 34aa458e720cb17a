use Rattle.std.proofs.Common.{◌≤◌, [], length, map, slice_index, sym, subst, ap, ◌∙◌}
use Rattle.chord_bodies.specs.View.{view_chord_plan}
use Rattle.chord_classes.specs.Table.{inherited}
use Rattle.chord_classes.specs.Least.{least, keys}
use Rattle.chord_rules.specs.FirstHeaders.{see_lent}
use Rattle.chord_rules.specs.Labels.{AllIn, above_chords}
use Rattle.chord_rules.specs.Splits.{split_from}
use Rattle.chord_rules.specs.SplitHeaders.{splits_from}
use Rattle.chord_rules.proofs.Labels.{more_chords, under_chords}
use Rattle.chord_rules.proofs.HeaderSplits.{none_overriding, no_header_length, all_splits}
use Rattle.chord_rules.proofs.splits.splits.Goals as goal

pub labels-requires : goal.labels-requires
labels-requires c = subst (λ z. AllIn z (map view_chord_plan c.args.chords.now)) (sym c.above_chords-count.ensures) (under_chords _ (map view_chord_plan c.args.chords.now))

pub returns-then-is_empty-clause-splits : goal.returns-then-is_empty-clause-splits
returns-then-is_empty-clause-splits c =
    let methods = inherited c.args.table.now c.args.base in
    let headers = map see_lent c.args.firsts.now.all.items in
    let none = none_overriding methods headers (sym c.requires ∙ no_header_length c.args.taken.now (sym c.is_empty.ensures ∙ c.if-is_empty.true)) in
    ap (λ z. least c.args.breaks.now.found (keys 11 (split_from (map view_chord_plan c.args.chords.now) c.args.taken.now methods [] z))) (sym none)

pub returns-clause-splits : goal.returns-clause-splits
returns-clause-splits c =
    let methods = inherited c.args.table.now c.args.base in
    let headers = map see_lent c.args.firsts.now.all.items in
    let chords = map view_chord_plan c.args.chords.now in
    let few : length methods ≤ c.above_chords-count.result = subst (λ z. length methods ≤ z) (sym c.above_chords-count.ensures) (subst (λ z. z ≤ above_chords c.inherited_count.result chords) c.inherited_count.ensures (more_chords c.inherited_count.result chords)) in
    c.in_ok-labelled_splits.ensures
    ∙ ap (λ z. least c.args.breaks.now.found (keys 11 (splits_from (slice_index z) c.args.taken.now methods [] headers))) (c.deref.ensures.value ∙ c.in_ok-labels.ensures)
    ∙ ap (λ z. least c.args.breaks.now.found (keys 11 z)) (all_splits chords c.args.taken.now methods c.above_chords-count.result few headers)
