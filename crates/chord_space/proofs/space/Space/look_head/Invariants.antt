use Rattle.chord_space.specs.Desks.{space_code, space_limits}
use Rattle.chord_space.proofs.space.Space.look_head.Given as goal

abbrev pub ghosts-step_look_head : goal.ghosts-step_look_head
ghosts-step_look_head g a = record { parts = space_code a.self.now; limits = space_limits a.self.now; object = a.object; method = a.method }
