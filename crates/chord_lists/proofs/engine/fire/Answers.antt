use Rattle.chord_lists.specs.Bag.{numbers_of}
use Rattle.chord_lists.proofs.Engines.{state_may_begin, state_fired}
use Rattle.chord_lists.proofs.engine.fire.Goals as goal

pub begin-requires-clause-may : goal.begin-requires-clause-may
begin-requires-clause-may g c =
    let m = c.requires.chord in
    let index = numbers_of c.take_all.new.self in
    let members = c.take_all.new.members in
    state_may_begin _ _ _ index _ _ c.args.chord c.args.object c.args.methods.now members c.requires.state.1 c.requires.room m.is m.numbered m.some m.few
    c.take_all.ensures

pub returns : goal.returns
returns g c =
    let m = c.requires.chord in
    let stands = g.P.Playable.stands c.args.program.now c.begin.new.bodies in
    let index = numbers_of c.take_all.new.self in
    let members = c.take_all.new.members in
    state_fired _ _ stands _ index _ c.args.chord _ _ c.args.methods.now members c.requires.state.1 c.requires.room m.is m.numbered m.some m.few
    c.take_all.ensures c.in_ok-begin.ensures
