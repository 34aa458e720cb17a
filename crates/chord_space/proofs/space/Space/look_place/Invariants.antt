use Rattle.chord_space.specs.Desks.{space_code, space_limits}
use Rattle.chord_space.proofs.space.Space.look_place.Given as goal

abbrev pub ghosts-step_look_place : goal.ghosts-step_look_place
ghosts-step_look_place g a = record { parts = space_code a.self.now; limits = space_limits a.self.now }
