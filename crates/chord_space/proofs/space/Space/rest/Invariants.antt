use Rattle.chord_space.proofs.space.Space.rest.Given as goal

abbrev pub ghosts-step_rest : goal.ghosts-step_rest
ghosts-step_rest g a = record { message = a.m }
