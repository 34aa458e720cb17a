use Rattle.std.proofs.Common.{◌≡◌, drop, [], sym, ap, ◌∙◌, arith}
use Rattle.std.proofs.lemmas.List.{drop_all}
use Rattle.chord_base.specs.Bodies.{served_among}
use Rattle.chord_base.proofs.Served.{served_none, served_on}
use Rattle.chord_base.proofs.prefix.served_of.Goals as goal

pub loop-i-preserved : goal.loop-i-preserved
loop-i-preserved g c =
    let sync = (g.M.Meaning.program c.args.meaning.now).is_sync c.args.class in
    c.loop-i.invariant ∙ served_on sync c.args.methods.now c.args.members.now c.loop-i.i (omega arith) (omega arith) (cc)

pub returns-then-i-members : goal.returns-then-i-members
returns-then-i-members g c =
    let sync = (g.M.Meaning.program c.args.meaning.now).is_sync c.args.class in
    let none : drop c.loop-i.i c.args.members.now ≡ [] = drop_all c.loop-i.i c.args.members.now (omega arith) in
    sym (c.loop-i.invariant ∙ ap (λ z. served_among sync (drop c.loop-i.i c.args.methods.now) z) none ∙ served_none sync (drop c.loop-i.i c.args.methods.now))
