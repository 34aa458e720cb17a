use Rattle.std.proofs.Common.{map, flat_map, ap, ◌∙◌}
use Rattle.chord_tree.specs.View.{see_class, see_member}
use Rattle.chord_tree.specs.Walk.{member_headers}
use Rattle.chord_bodies.specs.View.{view_chord_plan, view_class_plan}
use Rattle.chord_classes.specs.Table.{base_of, inherited}
use Rattle.chord_classes.specs.Plan.{overridden}
use Rattle.chord_rules.specs.FirstHeaders.{see_lent}
use Rattle.chord_rules.proofs.ClassNotes.{inner_noted}
use Rattle.chord_rules.proofs.classes.inner_breaks.Goals as goal

pub returns-clause-taken : goal.returns-clause-taken
returns-clause-taken c =
    let done = c.args.table.now in
    c.in_ok-taken.ensures ∙ ap (λ z. overridden (inherited done z) (map see_lent c.in_ok-firsts.firsts.all.items)) c.base_of-base.ensures
    ∙ ap (overridden (inherited done (base_of done (see_class c.args.class.now)))) (c.in_ok-firsts.ensures ∙ ap (λ z. flat_map member_headers (map see_member z)) c.deref-3.ensures.value)

pub returns-clause-noted : goal.returns-clause-noted
returns-clause-noted c =
    let done = c.args.table.now in
    let class = see_class c.args.class.now in
    let headers = c.in_ok-firsts.ensures ∙ ap (λ z. flat_map member_headers (map see_member z)) c.deref-3.ensures.value in
    let taken = c.deref-4.ensures.value ∙ c.in_ok-taken.ensures ∙ ap (λ z. overridden (inherited done z) (map see_lent c.in_ok-firsts.firsts.all.items)) c.base_of-base.ensures ∙ ap (overridden (inherited done (base_of done class))) headers in
    inner_noted done (map view_class_plan c.args.plans.now) class c.base_of-base.result (map see_member c.deref.result.now) (map see_member c.deref-2.result.now) c.chord_room.result (map view_chord_plan c.base_chords-chords.result.now)
    (map see_lent c.in_ok-firsts.firsts.all.items) c.deref-4.result.now _ _ _ _ _ c.base_of-base.ensures (ap (map see_member) c.deref.ensures.value) (ap (map see_member) c.deref-2.ensures.value) c.chord_room.ensures c.base_chords-chords.ensures headers taken
    c.in_ok-members_break.ensures c.chords_past.ensures c.headers_break.ensures c.in_ok-splits.ensures.splits
