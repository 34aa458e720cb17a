use Rattle.chord_space.proofs.space.Space.bypass_head.Given as goal

abbrev pub ghosts-step_bypass_head : goal.ghosts-step_bypass_head
ghosts-step_bypass_head g a = record { object = a.object; method = a.method }
