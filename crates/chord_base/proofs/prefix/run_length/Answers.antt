use Rattle.std.proofs.Common.{List, sym, subst}
use Rattle.chord_base.specs.declared.event.Entry.{Entry}
use Rattle.chord_base.specs.Machine.{IsPast}
use Rattle.chord_base.specs.BodyTable.{IsTable}
use Rattle.chord_base.proofs.Prefixes.{reverse_more, run_stops, run_whole}
use Rattle.chord_base.proofs.prefix.run_length.Goals as goal

pub returns-then-not-branch : goal.returns-then-not-branch
returns-then-not-branch g c =
    let p = g.M.Meaning.program c.args.meaning.now in
    run_stops p c.args.entries.now c.loop-i.i c.index-entries-i.result c.loop-i-test.true c.index-entries-i.is c.loop-i.invariant.past (λ m. (let t = c.in_ok-may_follow.ensures.1 m in cc))

pub loop-i-preserved : goal.loop-i-preserved
loop-i-preserved g c =
    let p = g.M.Meaning.program c.args.meaning.now in
    let i = c.loop-i.i in
    let more = reverse_more c.args.entries.now i c.index-entries-i.result c.loop-i-test.true c.index-entries-i.is in
    record {
      past = subst (λ (h : List Entry). IsPast p h) (sym more) (c.loop-i.invariant.past, c.in_ok-may_follow.ensures.0 (cc));
      table = subst (λ (h : List Entry). IsTable p h c.in_ok-bodies.bodies.items) (sym more) c.in_ok-bodies.ensures;
    }

pub returns : goal.returns
returns g c =
    let p = g.M.Meaning.program c.args.meaning.now in
    run_whole p c.args.entries.now c.loop-i.i c.loop-i.auto.i-end c.loop-i-test.false c.loop-i.invariant.past
