use Rattle.chord_lists.proofs.Engines.{state_idle}
use Rattle.chord_lists.proofs.engine.advance.Goals as goal

pub take_turn-requires-in-None-find_chord-clause-state :
    goal.take_turn-requires-in-None-find_chord-clause-state
take_turn-requires-in-None-find_chord-clause-state g c =
    state_idle _ _ _ _ _ _ (rw c.in-Some.is at c.requires.state) c.in-None-find_chord.ensures.none
