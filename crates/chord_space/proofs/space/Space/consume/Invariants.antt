use Rattle.chord_space.specs.Desks.{space_code, space_limits}
use Rattle.chord_space.proofs.space.Space.consume.Given as goal

abbrev pub ghosts-step_consume : goal.ghosts-step_consume
ghosts-step_consume g a = record { parts = space_code a.self.now; limits = space_limits a.self.now }
