use Rattle.std.proofs.Common.{arith, sym, ◌∙◌}
use Rattle.chord_gen.proofs.BuiltMore.{noted_there, noted_never, noted_past}
use Rattle.chord_gen.proofs.building.note.Goals as goal

pub returns-then-place-len : goal.returns-then-place-len
returns-then-place-len c =
    let n = c.len.ensures ∙ c.args.members.now.ok.0 in
    let past = c.if-place-len.true in
    noted_past c.args.members.now.items c.args.member c.args.number (omega (arith, n, past))

pub returns-then-index-eq0 : goal.returns-then-index-eq0
returns-then-index-eq0 c =
    let n = c.len.ensures ∙ c.args.members.now.ok.0 in
    let within = c.if-place-len.false in
    noted_there c.args.members.now.items c.args.member c.args.number c.index.result.now (omega (arith, n, within)) (sym c.index.ensures ∙ c.if-index-eq0.true)

pub returns-else-index-eq0 : goal.returns-else-index-eq0
returns-else-index-eq0 c =
    let n = c.len.ensures ∙ c.args.members.now.ok.0 in
    let within = c.if-place-len.false in
    noted_never c.args.members.now.items c.args.member c.args.number c.index.result.now (omega (arith, n, within)) (λ e. c.if-index-eq0.false (c.index.ensures ∙ e))
