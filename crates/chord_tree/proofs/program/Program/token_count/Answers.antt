use Rattle.std.proofs.Common.{◌-◌, length, get_or, ap, ◌∙◌, arith}
use Rattle.chord_tree.specs.View.{tree_of}
use Rattle.chord_tree.specs.Program.{spelling}
use Rattle.chord_tree.proofs.Counts.{some_class, count_of}
use Rattle.chord_tree.proofs.program.Program.token_count.Goals as goal

pub returns-in-Some : goal.returns-in-Some
returns-in-Some c =
    let d = c.in-Some.class.now in
    count_of c.self.inside.usings.items c.self.inside.classes.items d c.self.invariant (c.in-Some.ensures.item.1 ∙ ap (λ z. get_or z (length z - 1) d) c.deref.ensures.value)
    ∙ ap (λ z. length (spelling (tree_of z))) c.self.view_is

pub overflow_add-result : goal.overflow_add-result
overflow_add-result c = let e = returns-in-Some c in let r = c.requires in omega arith

pub returns-in-None : goal.returns-in-None
returns-in-None c =
    let s = some_class c.self.inside.usings.items c.self.inside.classes.items c.self.invariant in
    let n = c.in-None.ensures.item.3 in
    let l = ap length c.deref.ensures.value in
    absurd (omega arith)
