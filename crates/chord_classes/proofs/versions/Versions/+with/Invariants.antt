use Rattle.chord_classes.proofs.versions.Versions.+with.Given as goal

abbrev pub decreases-with : goal.decreases-with
decreases-with l = l.number
