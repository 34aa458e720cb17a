use Rattle.std.proofs.Common.{sym, ap, subst, ◌∙◌, arith}
use Rattle.std.specs.Prelude.{option_map}
use Rattle.chord_classes.specs.Entries.{AreEntries}
use Rattle.chord_classes.specs.Owned.{IsShapeTable, owned_method, new_method, shift}
use Rattle.chord_classes.proofs.TableLookups.{at_entry, own_fits}
use Rattle.chord_classes.proofs.Mapped.{entry_read, none_read}
use Rattle.chord_classes.proofs.table.Table.method_named.Goals as goal

pub returns-in_default-owner : goal.returns-in_default-owner
returns-in_default-owner c =
    let inside = c.self.inside in
    let t = subst (λ z. IsShapeTable z inside.entries.items inside.index.names inside.index.lines inside.index.owners) c.self.view_is c.self.invariant in
    let here = entry_read inside.entries.items c.deref.result.now c.args.class c.in-Some.entry.now c.deref.ensures.value c.in-Some.ensures.lookup.0 c.in-Some.ensures.lookup.1 in
    sym ((t.mapped c.args.class c.in-Some.entry.now here).found c.args.name.now ∙ ap (λ z. owned_method inside.entries.items z c.args.name.now) (sym c.owner.ensures ∙ c.in_default-owner.is))

pub returns-in_default-get : goal.returns-in_default-get
returns-in_default-get c =
    let inside = c.self.inside in
    let t = subst (λ z. IsShapeTable z inside.entries.items inside.index.names inside.index.lines inside.index.owners) c.self.view_is c.self.invariant in
    let here = entry_read inside.entries.items c.deref.result.now c.args.class c.in-Some.entry.now c.deref.ensures.value c.in-Some.ensures.lookup.0 c.in-Some.ensures.lookup.1 in
    let gone = none_read inside.entries.items c.deref-2.result.now c.in-Some-owner.owner c.deref-2.ensures.value c.in_default-get.ensures.lookup.0 in
    sym ((t.mapped c.args.class c.in-Some.entry.now here).found c.args.name.now ∙ ap (λ z. owned_method inside.entries.items z c.args.name.now) (sym c.owner.ensures ∙ c.in-Some-owner.is) ∙ ap (λ z. new_method z c.args.name.now) gone)

pub overflow_add-result : goal.overflow_add-result
overflow_add-result c =
    let t = subst (λ z. AreEntries z c.self.inside.entries.items c.self.inside.index.names) c.self.view_is c.self.invariant.are in
    let e = at_entry t c.deref-2.result.now c.in-Some-owner.owner c.in-Some-get.owner.now c.deref-2.ensures.value c.in-Some-get.ensures.lookup.0 c.in-Some-get.ensures.lookup.1 in
    let fits = own_fits e c.args.name.now c.in-Some-named.own c.in-Some-named.ensures in omega (arith, fits)

pub overflow_cast-result : goal.overflow_cast-result
overflow_cast-result c =
    let t = subst (λ z. AreEntries z c.self.inside.entries.items c.self.inside.index.names) c.self.view_is c.self.invariant.are in
    let e = at_entry t c.deref-2.result.now c.in-Some-owner.owner c.in-Some-get.owner.now c.deref-2.ensures.value c.in-Some-get.ensures.lookup.0 c.in-Some-get.ensures.lookup.1 in
    let fits = own_fits e c.args.name.now c.in-Some-named.own c.in-Some-named.ensures in omega (arith, fits)

pub returns-in-Some-named : goal.returns-in-Some-named
returns-in-Some-named c =
    let inside = c.self.inside in
    let t = subst (λ z. IsShapeTable z inside.entries.items inside.index.names inside.index.lines inside.index.owners) c.self.view_is c.self.invariant in
    let here = entry_read inside.entries.items c.deref.result.now c.args.class c.in-Some.entry.now c.deref.ensures.value c.in-Some.ensures.lookup.0 c.in-Some.ensures.lookup.1 in
    let there = entry_read inside.entries.items c.deref-2.result.now c.in-Some-owner.owner c.in-Some-get.owner.now c.deref-2.ensures.value c.in-Some-get.ensures.lookup.0 c.in-Some-get.ensures.lookup.1 in
    sym ((t.mapped c.args.class c.in-Some.entry.now here).found c.args.name.now ∙ ap (λ z. owned_method inside.entries.items z c.args.name.now) (sym c.owner.ensures ∙ c.in-Some-owner.is) ∙ ap (λ z. new_method z c.args.name.now) there
    ∙ ap (option_map (shift c.in-Some-get.owner.now.first)) (sym c.in-Some-named.ensures))

pub returns-in-None : goal.returns-in-None
returns-in-None c =
    let inside = c.self.inside in
    let t = subst (λ z. IsShapeTable z inside.entries.items inside.index.names inside.index.lines inside.index.owners) c.self.view_is c.self.invariant in
    let here = entry_read inside.entries.items c.deref.result.now c.args.class c.in-Some.entry.now c.deref.ensures.value c.in-Some.ensures.lookup.0 c.in-Some.ensures.lookup.1 in
    let there = entry_read inside.entries.items c.deref-2.result.now c.in-Some-owner.owner c.in-Some-get.owner.now c.deref-2.ensures.value c.in-Some-get.ensures.lookup.0 c.in-Some-get.ensures.lookup.1 in
    sym ((t.mapped c.args.class c.in-Some.entry.now here).found c.args.name.now ∙ ap (λ z. owned_method inside.entries.items z c.args.name.now) (sym c.owner.ensures ∙ c.in-Some-owner.is) ∙ ap (λ z. new_method z c.args.name.now) there
    ∙ ap (option_map (shift c.in-Some-get.owner.now.first)) (sym c.in-None.ensures))
