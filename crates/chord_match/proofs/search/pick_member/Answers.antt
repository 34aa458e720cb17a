use Rattle.std.proofs.Common.{sym, subst}
use Rattle.chord_space.specs.Desks.{view}
use Rattle.chord_match.specs.declared.search.Pick.{Pick}
use Rattle.chord_match.specs.Noting.{all_told}
use Rattle.chord_match.specs.Searching.{Picked}
use Rattle.chord_match.proofs.Knowing.{picked_own, picked_sought}
use Rattle.chord_match.proofs.search.pick_member.Goals as goal

pub returns-then-method-own-clause-picked : goal.returns-then-method-own-clause-picked
returns-then-method-own-clause-picked g c v t = picked_own c.args.space.now.events v (view c.args.desk.now) c.args.object c.args.own.now c.args.method (all_told c.args.known.now) c.if-method-own.true t

pub returns-else-method-own-clause-picked : goal.returns-else-method-own-clause-picked
returns-else-method-own-clause-picked g c v t =
    subst (λ (p : Pick). Picked c.args.space.now.events v (view c.args.desk.now) (view c.ask.new.desk) c.args.object c.args.own.now c.args.method (all_told c.args.known.now) (all_told c.ask.new.known) p) (sym c.of.ensures)
    (picked_sought c.args.space.now.events v (view c.args.desk.now) (view c.ask.new.desk) c.args.object c.args.own.now c.args.method (all_told c.args.known.now) (all_told c.ask.new.known) c.ask.result c.if-method-own.false c.ask.ensures.learned t)
