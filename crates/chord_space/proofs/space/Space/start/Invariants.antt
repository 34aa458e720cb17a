use Rattle.chord_space.specs.Desks.{space_code, space_limits}
use Rattle.chord_space.proofs.space.Space.start.Given as goal

abbrev pub ghosts-step_start : goal.ghosts-step_start
ghosts-step_start g a = record { parts = space_code a.self.now; limits = space_limits a.self.now }
