use Rattle.std.proofs.Common.{subst}
use Rattle.chord_classes.specs.Entries.{AreEntries}
use Rattle.chord_classes.proofs.TableLookups.{at_entry, no_entry, no_builder}
use Rattle.chord_classes.proofs.table.Table.builder.Goals as goal

pub returns-in-Some : goal.returns-in-Some
returns-in-Some c =
    let t = subst (λ z. AreEntries z c.self.inside.entries.items c.self.inside.index.names) c.self.view_is c.self.invariant.are in
    let e = at_entry t c.deref.result.now c.args.class c.in-Some.entry.now c.deref.ensures.value c.in-Some.ensures.lookup.0 c.in-Some.ensures.lookup.1 in e.builder

pub returns-in-None : goal.returns-in-None
returns-in-None c =
    let t = subst (λ z. AreEntries z c.self.inside.entries.items c.self.inside.index.names) c.self.view_is c.self.invariant.are in
    no_builder c.args.self.now c.args.class (no_entry t c.deref.result.now c.args.class c.deref.ensures.value c.in-None.ensures.lookup.0)
