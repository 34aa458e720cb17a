use Rattle.std.proofs.Common.{◌<◌, ◌≡◌, length, ap, arith}
use Rattle.chord_code.specs.Meaning.{code_program}
use Rattle.chord_run.proofs.Statuses.{filled_status, short_status}
use Rattle.chord_run.proofs.top.is_full.Goals as goal

pub returns-then-entries-limits-clause-gives : goal.returns-then-entries-limits-clause-gives
returns-then-entries-limits-clause-gives c =
    let e = ap length c.entries.ensures.entries in
    let short : length c.args.journal.now < c.args.limits.now.events = (let l = c.if-entries-limits.true in omega (arith, e, l)) in
    short_status (code_program c.args.code.now c.args.limits.now) c.args.limits.now.events c.args.journal.now (c.requires.whole short) c.requires.few

pub returns-clause-gives : goal.returns-clause-gives
returns-clause-gives c =
    let e = ap length c.entries.ensures.entries in
    let filled : length c.args.journal.now ≡ c.args.limits.now.events = (let l = c.if-entries-limits.false in let few = c.requires.few in omega (arith, e, l, few)) in
    filled_status (code_program c.args.code.now c.args.limits.now) c.args.limits.now.events c.args.journal.now c.in_ok-follows.follows c.requires.run filled c.in_ok-follows.ensures.yes c.in_ok-follows.ensures.no
