use Rattle.std.proofs.Common.{sym}
use Rattle.chord_types.proofs.CallNotes.{same_count}
use Rattle.chord_types.proofs.arguments.fit_counted.Goals as goal

pub fit_all-requires : goal.fit_all-requires
fit_all-requires c = sym c.if-actuals-formals.true

pub returns-then-actuals-formals-clause-sound : goal.returns-then-actuals-formals-clause-sound
returns-then-actuals-formals-clause-sound c = rw (same_count c.args.formals.now c.args.actuals.now c.if-actuals-formals.true) c.fit_all.ensures.sound

pub returns-then-actuals-formals-clause-noted : goal.returns-then-actuals-formals-clause-noted
returns-then-actuals-formals-clause-noted c = rw (same_count c.args.formals.now c.args.actuals.now c.if-actuals-formals.true) c.fit_all.ensures.noted
