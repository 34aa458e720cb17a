use Rattle.std.proofs.Common.{sym, ◌∙◌, subst}
use Rattle.chord_code.specs.Sound.{IsSoundCode}
use Rattle.chord_code.specs.Valid.{IsValid}
use Rattle.chord_gen.specs.TypedSource.{source_of}
use Rattle.chord_gen.specs.Laws.{KeepsMeaning}
use Rattle.chord_gen.proofs.LinesTold.{parts_are}
use Rattle.chord_gen.proofs.Narrow.{narrow_bodies}
use Rattle.chord_gen.proofs.Valid.{translation_valid}
use Rattle.chord_gen.proofs.Keeps.{translation_keeps}
use Rattle.chord_gen.proofs.generate.generate.Goals as goal

pub all_blocks-requires-clause-narrow : goal.all_blocks-requires-clause-narrow
all_blocks-requires-clause-narrow c = narrow_bodies c.args.plan.now c.args.bodies.now c.requires.typed

pub of_parts-requires : goal.of_parts-requires
of_parts-requires c =
    let p = source_of c.args.plan.now c.args.bodies.now in
    let typed = c.requires.typed in
    let classes = c.of_items.ensures ∙ c.in_ok-classes.ensures in
    let blocks = c.of_items-2.ensures ∙ c.in_ok-built.ensures.built.blocks_are in
    subst IsValid (sym (parts_are _ _ _ _ classes blocks)) (translation_valid typed.sig p typed.typed typed.planned)

pub returns-clause-keeps : goal.returns-clause-keeps
returns-clause-keeps c =
    λ sig typed planned.
    let p = source_of c.args.plan.now c.args.bodies.now in
    let classes = c.of_items.ensures ∙ c.in_ok-classes.ensures in
    let blocks = c.of_items-2.ensures ∙ c.in_ok-built.ensures.built.blocks_are in
    subst (λ z. KeepsMeaning z p sig) (sym (c.of_parts.ensures ∙ parts_are _ _ _ _ classes blocks)) (translation_keeps sig p typed planned)

pub returns-clause-sound : goal.returns-clause-sound
returns-clause-sound c =
    let p = source_of c.args.plan.now c.args.bodies.now in
    let typed = c.requires.typed in
    let classes = c.of_items.ensures ∙ c.in_ok-classes.ensures in
    let blocks = c.of_items-2.ensures ∙ c.in_ok-built.ensures.built.blocks_are in
    subst IsSoundCode (sym (c.of_parts.ensures ∙ parts_are _ _ _ _ classes blocks)) (translation_keeps typed.sig p typed.typed typed.planned).sound
