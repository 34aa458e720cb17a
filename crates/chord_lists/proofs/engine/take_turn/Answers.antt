use Rattle.chord_lists.specs.Bag.{numbers_of}
use Rattle.chord_lists.proofs.Engines.{state_over, state_plain, state_message}
use Rattle.chord_lists.proofs.engine.take_turn.Goals as goal

pub returns-in-Over : goal.returns-in-Over
returns-in-Over g c =
    let s = c.requires.state in
    let w = rw c.in-Over.is at (c.in_ok-go_on.ensures s.history s.played s.bodies) in
    state_over _ _ (g.P.Playable.stands c.args.program.now c.go_on.new.bodies) _ _ s c.requires.some w.0 w.1

pub returns-in-Plain : goal.returns-in-Plain
returns-in-Plain g c =
    let s = c.requires.state in
    let w = rw c.in-Plain.is at (c.in_ok-go_on.ensures s.history s.played s.bodies) in
    state_plain _ _ _ _ _ s w.0 w.1 w.2

pub returns-in_ok-note-in-Message : goal.returns-in_ok-note-in-Message
returns-in_ok-note-in-Message g c =
    let s = c.requires.state in
    let w = rw c.in-Message.is at (c.in_ok-go_on.ensures s.history s.played s.bodies) in
    let index = numbers_of c.note.new.self in
    state_message _ _ _ _ index _ c.in-Message.object c.in-Message.method s w.0 w.1 w.2 c.in_ok-note-in-Message.ensures.pushed
