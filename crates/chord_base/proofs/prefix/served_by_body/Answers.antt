use Rattle.std.proofs.Common.{reverse, refl}
use Rattle.chord_base.proofs.Entries.{serves_by}
use Rattle.chord_base.proofs.prefix.served_by_body.Goals as goal

pub returns-in-Some : goal.returns-in-Some
returns-in-Some g c =
    let p = g.M.Meaning.program c.args.meaning.now in
    let h = reverse c.args.past.now in
    rw (serves_by p c.args.body h _ c.entry_of.ensures, c.in-Some.is) c.served_by.ensures

pub returns-in-None : goal.returns-in-None
returns-in-None g c =
    let p = g.M.Meaning.program c.args.meaning.now in
    let h = reverse c.args.past.now in
    rw (serves_by p c.args.body h _ c.entry_of.ensures, c.in-None.is) refl
