use Rattle.std.proofs.Common.{subst, sym}
use Rattle.chord_gen.specs.TypedSource.{IsTypedSource}
use Rattle.chord_run.proofs.Compiled.{has_code, source_is}
use Rattle.chord_tree.specs.View.{tree_of}
use Rattle.chord_run.proofs.compile.compile_bodies.Goals as goal

pub generate-requires : goal.generate-requires
generate-requires c =
    let p = tree_of c.args.program.now in
    let same = source_is p c.in-Ok.layout c.args.bodies.now c.in-Ok.ensures.planned c.requires.typed in
    record { typed = subst IsTypedSource (sym same) (c.accepted.ensures p c.requires.grammatical c.requires.free (c.plan_rules.ensures p c.in-Ok.ensures.free)) }

pub returns-in-Ok-generate-clause-code : goal.returns-in-Ok-generate-clause-code
returns-in-Ok-generate-clause-code c =
    let p = tree_of c.args.program.now in
    let same = source_is p c.in-Ok.layout c.args.bodies.now c.in-Ok.ensures.planned c.requires.typed in
    has_code p _ c.in-Ok-generate.code same
    (subst IsTypedSource (sym same) (c.accepted.ensures p c.requires.grammatical c.requires.free (c.plan_rules.ensures p c.in-Ok.ensures.free)))
    c.in-Ok-generate.ensures.keeps c.in-Ok-generate.ensures.code c.in-Ok-generate.ensures.sound ((c.passes.ensures p).0.accepted c.requires.free c.in-Ok.ensures.free)

pub returns-in-Err-Rule-clause-fault : goal.returns-in-Err-Rule-clause-fault
returns-in-Err-Rule-clause-fault c =
    let p = tree_of c.args.program.now in
    let fault = rw c.in-Err-Rule.field-0-is at c.in-Err-Rule.ensures.fault in
    rw (c.in-Err-Rule.rule-is, c.in-Err-Rule.token-is) ((c.passes.ensures p).1.resolved_alone _ _ fault c.requires.free)
