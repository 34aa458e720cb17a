use Rattle.std.proofs.Common.{◌≡◌, ◌++◌, ◌∷◌, [], sym, refl, ap, subst, ◌∙◌, arith, length, map, is_some}
use Rattle.chord_tree.specs.View.{see_class}
use Rattle.chord_classes.specs.Table.{shape_of, method_named}
use Rattle.chord_classes.specs.MethodViews.{see_method, names_of}
use Rattle.chord_classes.specs.Entries.{shapes_of}
use Rattle.chord_classes.specs.Owned.{IsOwned, IsOwning, AddsNames, owned_at, line_at}
use Rattle.chord_classes.specs.Forks.{IsVersion, IsNextVersion}
use Rattle.chord_classes.proofs.Adding.{shapes_more}
use Rattle.chord_classes.proofs.Mapped.{table_extended, line_there, owned_there}
use Rattle.chord_classes.proofs.table.Table.with.Goals as goal

pub with-requires-clause-line : goal.with-requires-clause-line
with-requires-clause-line c =
    let index = c.self.inside.index in
    subst (IsVersion (length index.lines)) (sym (c.line_at-line.ensures ∙ ap (λ z. line_at z c.args.base) c.deref.ensures.value))
    (line_there (shapes_of c.self.inside.entries.items) c.self.inside.entries.items index.names index.lines index.owners c.self.invariant c.args.base)

pub with-requires-clause-owned : goal.with-requires-clause-owned
with-requires-clause-owned c =
    let index = c.self.inside.index in
    subst (IsOwned index.owners) (sym (c.owned_at-owned.ensures ∙ ap (λ z. owned_at z c.args.base) c.deref-2.ensures.value))
    (owned_there (shapes_of c.self.inside.entries.items) c.self.inside.entries.items index.names index.lines index.owners c.self.invariant c.args.base)

pub invariant_of-result : goal.invariant_of-result
invariant_of-result c =
    let entries = c.self.inside.entries in
    let old = c.self.inside.index in
    let new = c.in_ok-index.field-0 in
    let number : c.len-number.result ≡ length entries.items = (let few = entries.ok.0 in omega (arith, few, c.len-number.ensures)) in
    table_extended c.args.self entries.items c.add_one.new.list.items old.names new.index.names old.lines new.index.lines old.owners new.index.owners _ c.items.result.now new.line c.len-number.result
    c.self.view_is c.self.invariant
    (let few = entries.ok.0 in omega (arith, few, c.len.ensures, c.in_ok-check_room.ensures.fit.0))
    (record {
      base = c.requires.base;
      first = c.inherited_count-first.ensures;
      grown = c.requires.own;
      fits = (let own = c.args.own.all.ok.0 in omega (arith, own, c.len-2.ensures, c.in_ok-check_room.ensures.fit.1));
      builder = c.requires.builder;
    })
    c.in_ok-add_one.ensures.items c.in_ok-index.ensures.names c.items.ensures.bytes refl
    (subst (λ z. IsNextVersion old.lines new.index.lines z (length entries.items) c.len-number.result new.line) (c.line_at-line.ensures ∙ ap (λ z. line_at z c.args.base) c.deref.ensures.value)
    (subst (λ z. IsNextVersion old.lines new.index.lines c.line_at-line.result z c.len-number.result new.line) number c.in_ok-index.ensures.line))
    (subst (λ z. IsOwning old.owners new.index.owners z new.owned (λ name. is_some (method_named (map see_method c.args.own.all.items) name)) (length entries.items)) (c.owned_at-owned.ensures ∙ ap (λ z. owned_at z c.args.base) c.deref-2.ensures.value)
    (subst (λ z. IsOwning old.owners new.index.owners c.owned_at-owned.result new.owned (λ name. is_some (method_named (map see_method z) name)) (length entries.items)) c.deref-3.ensures.value
    (subst (λ z. IsOwning old.owners new.index.owners c.owned_at-owned.result new.owned (λ name. is_some (method_named (map see_method c.deref-3.result.now) name)) z) number c.in_ok-index.ensures.owned)))
    (subst (λ z. AddsNames old.owners new.index.owners (names_of z)) c.deref-3.ensures.value c.in_ok-index.ensures.added)

pub returns : goal.returns
returns c = ap shapes_of c.in_ok-add_one.ensures.items ∙ shapes_more c.self.inside.entries.items _ ∙ ap (λ z. z ++ (shape_of z (see_class c.args.class.now) ∷ [])) c.self.view_is
