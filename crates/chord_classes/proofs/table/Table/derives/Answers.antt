use Rattle.std.proofs.Common.{subst, ap, ◌∙◌, is_some}
use Rattle.chord_classes.specs.Entries.{AreEntries}
use Rattle.chord_classes.specs.Owned.{IsShapeTable}
use Rattle.chord_classes.proofs.TableLookups.{no_entry}
use Rattle.chord_classes.proofs.Mapped.{entry_read, derives_alone}
use Rattle.chord_classes.proofs.table.Table.derives.Goals as goal

pub returns-in-Some : goal.returns-in-Some
returns-in-Some c =
    let t = subst (λ z. IsShapeTable z c.self.inside.entries.items c.self.inside.index.names c.self.inside.index.lines c.self.inside.index.owners) c.self.view_is c.self.invariant in
    let here = entry_read c.self.inside.entries.items c.deref.result.now c.args.class c.in-Some.entry.now c.deref.ensures.value c.in-Some.ensures.lookup.0 c.in-Some.ensures.lookup.1 in
    c.is_some.ensures ∙ ap is_some c.get-in-Some.ensures ∙ (t.mapped c.args.class c.in-Some.entry.now here).derives_from c.args.base

pub returns-in-None : goal.returns-in-None
returns-in-None c =
    let t = subst (λ z. AreEntries z c.self.inside.entries.items c.self.inside.index.names) c.self.view_is c.self.invariant.are in
    derives_alone c.args.self.now c.args.class c.args.base (no_entry t c.deref.result.now c.args.class c.deref.ensures.value c.in-None.ensures.lookup.0)
