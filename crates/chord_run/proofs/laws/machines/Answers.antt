use Rattle.chord_run.proofs.Machines.{machine_ends_bodies, machine_is_sound, report_is_run, run_keeps_traps, run_keeps_types, run_plays_well, run_serves}
use Rattle.chord_run.proofs.laws.machines.Goals as goal

pub returns-clause-sound : goal.returns-clause-sound
returns-clause-sound c = machine_is_sound c.types.ensures c.plan.ensures c.sound.ensures

pub returns-clause-ends : goal.returns-clause-ends
returns-clause-ends c = machine_ends_bodies c.types.ensures c.plan.ensures c.ends.ensures

pub returns-clause-runs : goal.returns-clause-runs
returns-clause-runs c = run_serves (machine_is_sound c.types.ensures c.plan.ensures c.sound.ensures) c.callers.ensures

pub returns-clause-traps : goal.returns-clause-traps
returns-clause-traps c = run_keeps_traps c.traps.ensures.sources c.traps.ensures.runs

pub returns-clause-types : goal.returns-clause-types
returns-clause-types c = run_keeps_types c.types.ensures c.plan.ensures c.typed.ensures

pub returns-clause-bodies : goal.returns-clause-bodies
returns-clause-bodies c = run_plays_well c.types.ensures c.plan.ensures c.bodies.ensures

pub returns-clause-reports : goal.returns-clause-reports
returns-clause-reports c =
    report_is_run (run_serves (machine_is_sound c.types.ensures c.plan.ensures c.sound.ensures) c.callers.ensures) (run_keeps_traps c.traps.ensures.sources c.traps.ensures.runs)
    (run_keeps_types c.types.ensures c.plan.ensures c.typed.ensures)
