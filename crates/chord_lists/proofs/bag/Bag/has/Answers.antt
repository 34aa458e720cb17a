use Rattle.std.proofs.Common.{◌∙◌, sym}
use Rattle.chord_lists.specs.Bag.{address_to, older_of}
use Rattle.chord_lists.proofs.Newest.{apart_first}
use Rattle.chord_lists.proofs.bag.Bag.has.Goals as goal

pub returns-then-is_newest_to-clause-yes : goal.returns-then-is_newest_to-clause-yes
returns-then-is_newest_to-clause-yes c = λ _.
    let k = address_to c.args.object c.args.method in
    let ns = older_of c.args.self.now.older k in
    let x = apart_first c.args.self.now.newest k ns (sym c.is_newest_to.ensures ∙ c.if-is_newest_to.true) in
    (x.0.number, ns, x.2)
