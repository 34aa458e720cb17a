use Rattle.std.proofs.Common.{Some, reverse, refl, sym, ap, ◌∙◌}
use Rattle.std.proofs.lemmas.Option.{slice_get_past, slice_get-get_or}
use Rattle.chord_base.proofs.Entries.{maker_by}
use Rattle.chord_base.proofs.prefix.begun_by.Goals as goal

pub returns-in-Some-get : goal.returns-in-Some-get
returns-in-Some-get c =
    let h = reverse c.args.past.now in
    let x = c.in-Some-get.ensures.lookup in
    let at = c.in-Some-entry_of.entry.now.body in
    let e = slice_get-get_or c.args.bodies.now at c.in-Some-get.caller.now x.3.0 ∙ ap Some (sym x.1) in
    rw (c.in-Some.is, maker_by c.in-Some.call h _ c.entry_of.ensures, c.in-Some-entry_of.is, e) c.placed.ensures

pub returns-in-None-get : goal.returns-in-None-get
returns-in-None-get c =
    let h = reverse c.args.past.now in
    let at = c.in-Some-entry_of.entry.now.body in
    rw (c.in-Some.is, maker_by c.in-Some.call h _ c.entry_of.ensures, c.in-Some-entry_of.is, slice_get_past c.args.bodies.now at c.in-None-get.ensures.lookup.3) refl

pub returns-in-None : goal.returns-in-None
returns-in-None c =
    let h = reverse c.args.past.now in
    rw (c.in-Some.is, maker_by c.in-Some.call h _ c.entry_of.ensures, c.in-None.is) refl
