use Rattle.std.proofs.Common.{◌<◌, arith, length}
use Rattle.std.proofs.lemmas.Option.{slice_get_within}
use Rattle.chord_code.specs.Meaning.{code_program}
use Rattle.chord_lists.specs.Bag.{numbers_of}
use Rattle.chord_lists.proofs.Spots.{got}
use Rattle.chord_code.proofs.Validity.{valid_methods}
use Rattle.chord_lists.proofs.Going.{can_fire, none_can, lacks_more}
use Rattle.chord_lists.proofs.code_run.fires.Goals as goal

pub returns-then-fires_at-clause-yes : goal.returns-then-fires_at-clause-yes
returns-then-fires_at-clause-yes c =
    λ yes.
    can_fire (code_program c.args.program.now.code.now c.args.program.now.limits.now) _ _ (numbers_of c.args.bag.now) c.requires.lists (c.fires_at.ensures.yes c.if-fires_at.true)

pub loop-entry-preserved : goal.loop-entry-preserved
loop-entry-preserved c =
    let es = c.args.entries.now in
    let k = c.loop-entry.entry-index in
    let lt : k < length es = omega (arith, c.loop-entry-test.true) in
    lacks_more (code_program c.args.program.now.code.now c.args.program.now.limits.now) (numbers_of c.args.bag.now) es k c.entry-item.result (got es k c.entry-item.result lt c.entry-item.is) (c.fires_at.ensures.no c.if-fires_at.false) c.loop-entry.invariant

pub returns-clause-no : goal.returns-clause-no
returns-clause-no c =
    λ no.
    let code = c.args.program.now.code.now in
    let limits = c.args.program.now.limits.now in
    none_can (code_program code limits) c.args.entries.now _ (numbers_of c.args.bag.now) (valid_methods code limits c.parts-parts.ensures.valid) c.requires.within c.requires.lists
    (λ i e s. c.loop-entry.invariant i e (let l = slice_get_within c.args.entries.now i e s in omega (arith, l, c.loop-entry-test.false)) s)
