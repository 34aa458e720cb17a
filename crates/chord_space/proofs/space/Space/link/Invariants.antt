use Rattle.chord_space.proofs.space.Space.link.Given as goal

abbrev pub ghosts-step_link : goal.ghosts-step_link
ghosts-step_link g a = record { object = a.object; method = a.method }
