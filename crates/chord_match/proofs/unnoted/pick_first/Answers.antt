use Rattle.std.proofs.Common.{◌<◌, sym, subst, arith}
use Rattle.chord_space.specs.Desks.{view}
use Rattle.chord_match.specs.declared.search.Pick.{Pick}
use Rattle.chord_match.specs.Searching.{PickedFirst}
use Rattle.chord_match.proofs.Knowing.{first_own, first_sought}
use Rattle.chord_match.proofs.unnoted.pick_first.Goals as goal

pub returns-then-method-own-clause-picked : goal.returns-then-method-own-clause-picked
returns-then-method-own-clause-picked g c v known t none low = first_own c.args.space.now.events v (view c.args.desk.now) c.args.object c.args.own.now c.args.method known c.if-method-own.true t

pub returns-else-method-own-clause-picked : goal.returns-else-method-own-clause-picked
returns-else-method-own-clause-picked g c v known t none low =
    let few : c.args.method < 16 = (let b = c.requires.bounds.2 in let is = c.args.space.now.sized.5 in let f = c.args.space.now.sized.6 in omega (arith, b, is, f)) in
    subst (λ (p : Pick). PickedFirst c.args.space.now.events v (view c.args.desk.now) (view c.seek.new.desk) c.args.object c.args.own.now c.args.method known p) (sym c.of.ensures)
    (first_sought c.args.space.now.events v (view c.args.desk.now) (view c.seek.new.desk) c.args.object c.args.own.now c.args.method known none low few c.if-method-own.false t c.seek.result c.seek.ensures.sought c.seek.ensures.tidy c.seek.ensures.other_heads)
