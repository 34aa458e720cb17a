use Rattle.std.proofs.Common.{◌≡◌, sym, ap, ◌∙◌, map}
use Rattle.std.specs.Prelude.{is_some}
use Rattle.chord_tree.specs.View.{see_header}
use Rattle.chord_classes.specs.Table.{is_main, inherited, method_named}
use Rattle.chord_classes.specs.MethodViews.{see_method}
use Rattle.chord_classes.proofs.GrownMethods.{named_joined, known_own, known_inherits, own_is_some}
use Rattle.chord_classes.proofs.build.adds_none.Goals as goal

pub returns : goal.returns
returns c =
    let name = c.args.header.now.name.text in
    let inherits = inherited c.args.table.now c.args.base in
    let own = map see_method c.args.own.now.all.items in
    let same : c.items-name.result.now ≡ name = c.items-name.ensures.bytes in
    known_inherits (is_main (see_header c.args.header.now)) _ _ _ c.inherits.result (sym c.is_main.ensures ∙ c.if-is_main.false) (named_joined inherits own name)
    (ap (λ z. is_some (method_named own z)) (sym same) ∙ sym (own_is_some c.named.result _ c.named.ensures) ∙ sym c.is_some.ensures ∙ c.if-is_some.false)
    (c.inherits.ensures ∙ ap (λ z. is_some (method_named inherits z)) same)

pub returns-then-is_some : goal.returns-then-is_some
returns-then-is_some c =
    let name = c.args.header.now.name.text in
    let inherits = inherited c.args.table.now c.args.base in
    let own = map see_method c.args.own.now.all.items in
    let same : c.items-name.result.now ≡ name = c.items-name.ensures.bytes in
    known_own (is_main (see_header c.args.header.now)) _ _ _ (named_joined inherits own name)
    (ap (λ z. is_some (method_named own z)) (sym same) ∙ sym (own_is_some c.named.result _ c.named.ensures) ∙ sym c.is_some.ensures ∙ c.if-is_some.true)
