use Rattle.std.proofs.Common.{◌∙◌}
use Rattle.chord_bodies.specs.View.{view_class_plan}
use Rattle.chord_gen.specs.Translation.{lines_from}
use Rattle.chord_gen.specs.TypedSource.{source_of}
use Rattle.chord_gen.proofs.BuiltMore.{class_item}
use Rattle.chord_gen.proofs.LinesTold.{methods_fit, chords_fit, class_is_told, lines_step}
use Rattle.chord_gen.proofs.lines.class_lines.Goals as goal

pub class_line-requires-clause-methods : goal.class_line-requires-clause-methods
class_line-requires-clause-methods c =
    let p = source_of c.args.plan.now c.args.bodies.now in
    let there = class_item c.classes-class-items.result.now p.classes c.loop-number.number c.class-item.result c.classes-class-items.ensures c.loop-number-test.true c.class-item.is in
    methods_fit p c.requires.typed c.loop-number.number c.class-item.result there

pub class_line-requires-clause-chords : goal.class_line-requires-clause-chords
class_line-requires-clause-chords c =
    let p = source_of c.args.plan.now c.args.bodies.now in
    let there = class_item c.classes-class-items.result.now p.classes c.loop-number.number c.class-item.result c.classes-class-items.ensures c.loop-number-test.true c.class-item.is in
    chords_fit p c.requires.typed c.loop-number.number c.class-item.result there

pub loop-number-preserved : goal.loop-number-preserved
loop-number-preserved c =
    let p = source_of c.args.plan.now c.args.bodies.now in
    let n = c.loop-number.number in
    let there = class_item c.classes-class-items.result.now p.classes n c.class-item.result c.classes-class-items.ensures c.loop-number-test.true c.class-item.is in
    let told = class_is_told p c.requires.typed n c.class-item.result there c.args.built.now.blocks.items c.args.built.now.builders.items c.args.built.now.members.items c.requires.built c.requires.classes in
    lines_step p c.loop-number.lines.items c.push.new.self.items (lines_from p 0 p.classes) n p.classes (view_class_plan c.class-item.result) c.in_ok-class_line.field-0 there (c.in_ok-class_line.ensures ∙ told) c.in_ok-push.ensures.items c.loop-number.invariant
