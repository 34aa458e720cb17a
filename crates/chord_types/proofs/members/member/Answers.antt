use Rattle.std.proofs.Common.{◌+◌, length, map, refl, sym, ap, subst, ◌∙◌}
use Rattle.chord_tree.specs.View.{see_member}
use Rattle.chord_bodies.specs.View.{view_stmt, stmt_list}
use Rattle.chord_classes.specs.Resolve.{is_builder}
use Rattle.chord_types.specs.StmtChecked.{IsBlockChecked}
use Rattle.chord_types.proofs.EnteredMembers.{member_checked, slots_fit}
use Rattle.chord_types.proofs.members.member.Goals as goal

pub made-requires : goal.made-requires
made-requires c =
    let b = subst (λ z. IsBlockChecked (record { table = c.in_ok-site.site.table; own = c.in_ok-site.site.own; in_main = c.in_ok-site.site.in_main; due = c.in_ok-site.site.due; scope = c.in_ok-site.site.scope; next = c.in_ok-site.site.next; types = c.replace-parameters.new.dest }) c.block.new.site z c.args.breaks.now.found c.block.new.breaks.found c.in_ok-stmts.stmts.items) c.body_of.ensures c.in_ok-stmts.ensures in
    slots_fit c.args.table.now c.args.own (see_member c.args.member.now) c.in_ok-site.site (record { table = c.in_ok-site.site.table; own = c.in_ok-site.site.own; in_main = c.in_ok-site.site.in_main; due = c.in_ok-site.site.due; scope = c.in_ok-site.site.scope; next = c.in_ok-site.site.next; types = c.replace-parameters.new.dest }) c.block.new.site c.args.breaks.now.found c.block.new.breaks.found c.in_ok-stmts.stmts.items c.in_ok-site.ensures refl (ap (λ z. z.items) c.replace-parameters.ensures.after ∙ c.new.ensures.items) b
    ∙ ap (λ z. 1 + length z.items + length c.block.new.site.types.items) (sym c.replace-parameters.ensures.value)

pub returns : goal.returns
returns c =
    let b = subst (λ z. IsBlockChecked (record { table = c.in_ok-site.site.table; own = c.in_ok-site.site.own; in_main = c.in_ok-site.site.in_main; due = c.in_ok-site.site.due; scope = c.in_ok-site.site.scope; next = c.in_ok-site.site.next; types = c.replace-parameters.new.dest }) c.block.new.site z c.args.breaks.now.found c.block.new.breaks.found c.in_ok-stmts.stmts.items) c.body_of.ensures c.in_ok-stmts.ensures in
    member_checked c.args.table.now c.args.own (see_member c.args.member.now) c.in_ok-site.site (record { table = c.in_ok-site.site.table; own = c.in_ok-site.site.own; in_main = c.in_ok-site.site.in_main; due = c.in_ok-site.site.due; scope = c.in_ok-site.site.scope; next = c.in_ok-site.site.next; types = c.replace-parameters.new.dest }) c.block.new.site c.args.breaks.now.found c.block.new.breaks.found c.note_types.new.breaks.found c.note_unreturned.new.breaks.found c.in_ok-stmts.stmts.items c.due_known-due.result _
    c.in_ok-site.ensures refl (ap (λ z. z.items) c.replace-parameters.ensures.after ∙ c.new.ensures.items) b c.note_types.ensures c.note_unreturned.ensures c.due_known-due.ensures
    (c.made.ensures.built ∙ ap (λ z. record { class = c.args.own; is_main = c.block.new.site.in_main; is_constructor = z; parameters = c.replace-parameters.result.items; locals = c.block.new.site.types.items; result = c.due_known-due.result; stmts = stmt_list (map view_stmt c.in_ok-stmts.stmts.items) }) c.is_builder-is_builder.ensures
    ∙ ap (λ z. record { class = c.args.own; is_main = c.block.new.site.in_main; is_constructor = is_builder (see_member c.args.member.now); parameters = z.items; locals = c.block.new.site.types.items; result = c.due_known-due.result; stmts = stmt_list (map view_stmt c.in_ok-stmts.stmts.items) }) c.replace-parameters.ensures.value)
    c.made.ensures.flat
