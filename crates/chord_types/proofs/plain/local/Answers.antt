use Rattle.std.proofs.Common.{is_some, ap, ◌∙◌}
use Rattle.chord_tree.specs.ViewExprs.{see_expr}
use Rattle.chord_bodies.proofs.Viewed.{viewed_store}
use Rattle.chord_classes.specs.Site.{variable_named}
use Rattle.chord_types.proofs.Doubled.{doubled_store}
use Rattle.chord_types.proofs.PlainStmts.{local_item}
use Rattle.chord_types.proofs.plain.local.Goals as goal

pub returns : goal.returns
returns c =
    local_item c.args.site.now c.declare.new.self c.args.written.now c.args.name.now c.args.at (see_expr c.args.value.now) c.args.breaks.now.found c.expr.new.breaks.found c.note_undeclared.new.breaks.found c.fit.new.breaks.found c.note_if.new.self.found c.in_ok-value.value c.written-wanted.result c.is_declared.result c.in_ok-slot.slot _
    c.in_ok-value.ensures c.note_undeclared.ensures c.fit.ensures.noted c.note_if.ensures c.written-wanted.ensures (c.is_declared.ensures ∙ ap (λ z. is_some (variable_named c.args.site.now.scope z)) c.items.ensures.bytes) c.in_ok-slot.ensures.slot c.in_ok-slot.ensures.declared
    (viewed_store c.in_ok-slot.slot c.in_ok-value.value.expr) (doubled_store c.in_ok-slot.slot c.in_ok-value.value.expr)
