use Rattle.std.proofs.Common.{◌≡◌, List, [], ◌∷◌, ◌++◌, reverse, set, sym, subst, arith}
use Rattle.chord_base.specs.declared.body.Body as body
use Rattle.chord_base.specs.declared.body.Body.TheVariants as a_body
use Rattle.chord_base.specs.Bodies.{heard, serves}
use Rattle.chord_base.specs.BodyTable.{doing_of, IsTable}
use Rattle.chord_base.proofs.Table.{table_more, body_within, same_length}
use Rattle.chord_base.proofs.prefix.after.Goals as goal

pub index_mut-requires : goal.index_mut-requires
index_mut-requires g c =
    let p = g.M.Meaning.program c.args.meaning.now in
    let h = reverse c.args.past.now in
    let e = c.args.entry.now in
    let within = body_within p h c.args.bodies.now e.number e.body e.what c.requires.table c.requires.may.numbered c.requires.may.comes in
    let size = same_length doing_of (λ x. heard e.what (serves p e.body h) (doing_of x)) c.in_ok-after.after.items c.args.bodies.now c.in_ok-after.ensures in
    omega (arith, within, size, c.requires.table.size, c.in_ok-push.ensures.len)

pub returns : goal.returns
returns g c =
    let p = g.M.Meaning.program c.args.meaning.now in
    let h = reverse c.args.past.now in
    let e = c.args.entry.now in
    let k : c.push.new.self.items ≡ c.in_ok-after.after.items ++ a_body.Absent ∷ [] = c.in_ok-push.ensures.items in
    subst (λ (z : List body.Body). IsTable p (e ∷ h) (set z e.body c.in_ok-mine.mine)) (sym k)
    (table_more p h e c.args.bodies.now c.in_ok-after.after.items c.in_ok-mine.mine c.requires.table c.requires.may c.in_ok-mine.ensures c.in_ok-after.ensures)
