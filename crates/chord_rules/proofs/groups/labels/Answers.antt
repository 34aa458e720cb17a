use Rattle.std.proofs.Common.{map, ◌≡◌, ◌-◌, ◌+◌, length, sym, ap, ◌∙◌, arith}
use Rattle.chord_rules.specs.Labels.{labels_of, merged_all}
use Rattle.chord_bodies.specs.View.{view_chord_plan}
use Rattle.chord_classes.proofs.Search.{behind_end}
use Rattle.chord_rules.proofs.Labels.{no_chords, labels_more}
use Rattle.chord_rules.proofs.groups.labels.Goals as goal

pub loop-left-init : goal.loop-left-init
loop-left-init c = record {
  within = omega arith;
  so_far = c.in_ok-found.ensures ∙ no_chords c.args.count ∙ ap (λ z. labels_of c.args.count (map view_chord_plan z)) (sym (behind_end c.args.chords.now (length c.args.chords.now) (omega arith)));
}

pub loop-left-preserved : goal.loop-left-preserved
loop-left-preserved c =
    let chords = c.args.chords.now in
    let i = c.loop-left.left - 1 in
    let within = c.loop-left.invariant.within in
    let positive = c.loop-left-test.true in
    let e : c.loop-left.left ≡ i + 1 = omega arith in
    record {
      within = omega arith;
      so_far = c.in_ok-found-2.ensures ∙ ap (λ z. merged_all z c.deref.result.now) c.deref-in-loop-left.ensures.value ∙ ap (λ z. merged_all z.methods.items c.deref.result.now) (sym c.index-chords-left.is)
          ∙ labels_more c.args.count chords i c.loop-left.left c.index-chords-left.result c.deref.result.now c.requires e (omega arith) c.index-chords-left.is
          (c.deref.ensures.value ∙ c.loop-left.invariant.so_far);
    }
