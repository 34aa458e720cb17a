use Rattle.std.proofs.Common.{sym, ◌∙◌, subst, arith}
use Rattle.chord_classes.specs.Entries.{AreEntries}
use Rattle.chord_classes.proofs.TableLookups.{class_found, class_fits}
use Rattle.chord_classes.proofs.table.Table.class_named.Goals as goal

pub overflow_cast-result : goal.overflow_cast-result
overflow_cast-result c =
    let t = subst (λ z. AreEntries z c.self.inside.entries.items c.self.inside.index.names) c.self.view_is c.self.invariant.are in
    let less = class_fits t c.args.name.now c.in-Some.place (sym c.place.ensures ∙ c.in-Some.is) in omega (arith, less)

pub returns-in-Some : goal.returns-in-Some
returns-in-Some c =
    let t = subst (λ z. AreEntries z c.self.inside.entries.items c.self.inside.index.names) c.self.view_is c.self.invariant.are in
    sym c.in-Some.is ∙ c.place.ensures ∙ class_found t c.args.name.now

pub returns-in-None : goal.returns-in-None
returns-in-None c =
    let t = subst (λ z. AreEntries z c.self.inside.entries.items c.self.inside.index.names) c.self.view_is c.self.invariant.are in
    sym c.in-None.is ∙ c.place.ensures ∙ class_found t c.args.name.now
