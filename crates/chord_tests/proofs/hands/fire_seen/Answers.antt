use Rattle.std.proofs.Common.{[], refl, subst}
use Rattle.chord_space.specs.Desks.{view, program_of}
use Rattle.chord_tests.specs.Pairs.{first_object, IsLetter}
use Rattle.chord_match.specs.Fires.{IsFireAnswer}
use Rattle.chord_match.specs.declared.handing.Firing.{Firing}
use Rattle.chord_tests.specs.declared.codes.Letter.{Letter}
use Rattle.chord_tests.proofs.ByHand.{stands_by_lost, holds_fired}
use Rattle.chord_tests.proofs.hands.fire_seen.Goals as goal

pub returns-clause-fired : goal.returns-clause-fired
returns-clause-fired c f hand e =
    holds_fired (λ (q : Letter). q.past.items) (λ q. []) (λ q. IsLetter q.past.items) (λ q t. t) (λ q. refl) (program_of c.args.space.now) c.args.space.now.events (view c.args.desk.now) (view c.fire.new.desk) c.args.members.now f hand c.requires.desk.1
    (subst (λ (z : Firing Letter). IsFireAnswer (λ (q : Letter). q.past.items) (λ q. []) (λ q. IsLetter q.past.items) (program_of c.args.space.now) c.args.space.now.events (view c.args.desk.now) (view c.fire.new.desk) first_object 0 c.args.members.now c.args.nexts.now z) e c.fire.ensures.firing)

pub returns-clause-lost : goal.returns-clause-lost
returns-clause-lost c i e =
    stands_by_lost c.args.space.now.events (program_of c.args.space.now) (view c.args.desk.now) (view c.fire.new.desk) first_object 0 c.args.members.now c.args.nexts.now i c.requires.desk.2
    (subst (λ (z : Firing Letter). IsFireAnswer (λ (q : Letter). q.past.items) (λ q. []) (λ q. IsLetter q.past.items) (program_of c.args.space.now) c.args.space.now.events (view c.args.desk.now) (view c.fire.new.desk) first_object 0 c.args.members.now c.args.nexts.now z) e c.fire.ensures.firing)
