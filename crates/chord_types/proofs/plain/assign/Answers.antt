use Rattle.std.proofs.Common.{is_some, ap, ◌∙◌}
use Rattle.chord_tree.specs.ViewExprs.{see_expr}
use Rattle.chord_bodies.proofs.Viewed.{viewed_store}
use Rattle.chord_classes.specs.Site.{variable_named}
use Rattle.chord_classes.specs.Typed.{local_type}
use Rattle.chord_classes.specs.Resolve.{slot_of}
use Rattle.chord_types.specs.Sites.{see_site}
use Rattle.chord_types.proofs.Doubled.{doubled_store}
use Rattle.chord_types.proofs.PlainStmts.{assign_plain}
use Rattle.chord_types.proofs.plain.assign.Goals as goal

pub returns : goal.returns
returns c =
    let site = see_site c.args.site.now in
    assign_plain site c.args.name.now c.args.at (see_expr c.args.value.now) c.args.breaks.now.found c.expr.new.breaks.found c.note_if.new.self.found c.fit.new.breaks.found c.in_ok-value.value c.is_declared.result c.variable_type.result c.slot.result _
    c.in_ok-value.ensures c.note_if.ensures c.fit.ensures.noted
    (c.is_declared.ensures ∙ ap (λ z. is_some (variable_named site.scope z)) c.items-text.ensures.bytes) (c.variable_type.ensures ∙ ap (λ z. local_type (variable_named site.scope z)) c.items-text.ensures.bytes) (c.slot.ensures ∙ ap (λ z. slot_of (variable_named site.scope z)) c.items-text.ensures.bytes)
    (viewed_store c.slot.result c.in_ok-value.value.expr) (doubled_store c.slot.result c.in_ok-value.value.expr)
