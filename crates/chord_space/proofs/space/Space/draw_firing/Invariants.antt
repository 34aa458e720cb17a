use Rattle.chord_space.specs.Desks.{space_code, space_limits}
use Rattle.chord_space.proofs.space.Space.draw_firing.Given as goal

abbrev pub ghosts-step_draw_firing : goal.ghosts-step_draw_firing
ghosts-step_draw_firing g a = record { parts = space_code a.self.now; limits = space_limits a.self.now; chord = a.chord; object = a.object; members = a.members.now }
