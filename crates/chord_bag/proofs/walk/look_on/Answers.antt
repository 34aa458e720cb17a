use Rattle.std.proofs.Common.{refl, subst}
use Rattle.chord_word.specs.declared.cells.Cell.TheVariants.{Empty, Pending, Claimed, Consumed}
use Rattle.chord_space.specs.Desks.{view}
use Rattle.chord_bag.specs.declared.walk.Turn.{Turn}
use Rattle.chord_bag.specs.Walking.{IsTurn}
use Rattle.chord_bag.proofs.Turning.{one_turn, goes_past}
use Rattle.chord_bag.proofs.walk.look_on.Goals as goal

pub returns-in-Pending-clause-turned : goal.returns-in-Pending-clause-turned
returns-in-Pending-clause-turned g c = one_turn c.args.space.now.events c.args.i c.args.busy c.look_cell-word.result (view c.args.desk.now) (view c.look_cell-word.new.desk) Pending c.look_cell-word.ensures.looked c.in-Pending.is

pub returns-in-Empty-clause-turned : goal.returns-in-Empty-clause-turned
returns-in-Empty-clause-turned g c = one_turn c.args.space.now.events c.args.i c.args.busy c.look_cell-word.result (view c.args.desk.now) (view c.look_cell-word.new.desk) Empty c.look_cell-word.ensures.looked c.in-Empty.is

pub returns-in-Claimed-clause-turned : goal.returns-in-Claimed-clause-turned
returns-in-Claimed-clause-turned g c = one_turn c.args.space.now.events c.args.i c.args.busy c.look_cell-word.result (view c.args.desk.now) (view c.look_cell-word.new.desk) Claimed c.look_cell-word.ensures.looked c.in-Claimed.is

pub returns-in_default-clause-turned : goal.returns-in_default-clause-turned
returns-in_default-clause-turned g c =
    let n = c.args.space.now.events in let word = c.look_cell-word.result in let u = view c.args.desk.now in let w = view c.look_cell-word.new.desk in
    subst (λ (t : Turn). IsTurn n u w c.args.i c.args.busy t) (goes_past c.args.i c.args.busy word.next word.cell c.in_default.not-Pending c.in_default.not-Empty c.in_default.not-Claimed c.in_default.not-Consumed)
    (one_turn n c.args.i c.args.busy word u w word.cell c.look_cell-word.ensures.looked refl)

pub returns-in-Consumed-clause-turned : goal.returns-in-Consumed-clause-turned
returns-in-Consumed-clause-turned g c = one_turn c.args.space.now.events c.args.i c.args.busy c.look_cell-word.result (view c.args.desk.now) (view c.look_cell-word.new.desk) Consumed c.look_cell-word.ensures.looked c.in-Consumed.is
