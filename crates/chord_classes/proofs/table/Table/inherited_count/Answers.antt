use Rattle.std.proofs.Common.{length, sym, ap, subst, ◌∙◌, arith}
use Rattle.chord_classes.specs.Table.{inherited}
use Rattle.chord_classes.specs.Entries.{AreEntries}
use Rattle.chord_classes.proofs.TableLookups.{at_entry, no_entry, no_methods, methods_count}
use Rattle.chord_classes.proofs.table.Table.inherited_count.Goals as goal

pub overflow_add-result : goal.overflow_add-result
overflow_add-result c =
    let t = subst (λ z. AreEntries z c.self.inside.entries.items c.self.inside.index.names) c.self.view_is c.self.invariant.are in
    let e = at_entry t c.deref.result.now c.in-Some.class c.in-Some-get.entry.now c.deref.ensures.value c.in-Some-get.ensures.lookup.0 c.in-Some-get.ensures.lookup.1 in
    let fits = e.fits in
    let own = c.in-Some-get.entry.now.own.all.ok.0 in
    omega (arith, fits, own, c.len.ensures)

pub returns-in-Some-get : goal.returns-in-Some-get
returns-in-Some-get c =
    let t = subst (λ z. AreEntries z c.self.inside.entries.items c.self.inside.index.names) c.self.view_is c.self.invariant.are in
    let e = at_entry t c.deref.result.now c.in-Some.class c.in-Some-get.entry.now c.deref.ensures.value c.in-Some-get.ensures.lookup.0 c.in-Some-get.ensures.lookup.1 in
    let count = methods_count e in
    let own = c.in-Some-get.entry.now.own.all.ok.0 in
    omega (arith, count, own, c.len.ensures) ∙ ap (λ z. length (inherited c.args.self.now z)) (sym c.in-Some.is)

pub returns-in-None : goal.returns-in-None
returns-in-None c =
    let t = subst (λ z. AreEntries z c.self.inside.entries.items c.self.inside.index.names) c.self.view_is c.self.invariant.are in
    sym (ap (λ z. length (inherited c.args.self.now z)) c.in-Some.is ∙ ap length (no_methods c.args.self.now c.in-Some.class (no_entry t c.deref.result.now c.in-Some.class c.deref.ensures.value c.in-None.ensures.lookup.0)))
