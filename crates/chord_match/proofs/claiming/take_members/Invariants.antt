use Rattle.chord_space.specs.Desks.{view, program_of, IsDeskOf, IsSameDesk}
use Rattle.chord_match.specs.Claiming.{Taking, WereClaimed}
use Rattle.chord_match.proofs.claiming.take_members.Given as goal

abbrev pub invariant-loop-at : goal.invariant-loop-at
invariant-loop-at g l = IsDeskOf l.space l.desk × IsSameDesk l.fn.desk l.desk
    × Taking l.space.events (program_of l.space) (view l.desk) l.object l.chord l.members l.nexts l.at
    × WereClaimed l.space.events (program_of l.space) (view l.fn.desk) l.object l.chord l.members l.nexts l.at (view l.desk)
