use Rattle.std.proofs.Common.{false, map, sym, ap, ◌∙◌}
use Rattle.chord_tree.specs.declared.exprs.Calls.{out-Calls}
use Rattle.chord_tree.specs.declared.exprs.Chain.{out-Chain}
use Rattle.chord_tree.specs.Tree.{dots, links}
use Rattle.chord_tree.specs.Terms.{term, started}
use Rattle.chord_tree.specs.ViewExprs.{see_expr, see_start, see_dot, see_link}
use Rattle.chord_tree.proofs.SeenExprs.{seen_chain, seen_chained, seen_minus, seen_not, seen_alone, seen_calls, seen_called}
use Rattle.chord_classes.specs.ItemRules.{is_true_word}
use Rattle.chord_types.proofs.Returning.{chain_is_no_word, dots_are_no_word}
use Rattle.chord_types.proofs.returns.is_true_word.Goals as goal

pub returns-in-Chain : goal.returns-in-Chain
returns-in-Chain c =
    let chain = out-Chain c.in-Chain.field-0.value in
    sym (ap (λ z. is_true_word (term z)) (ap see_expr c.in-Chain.is ∙ seen_chained _ ∙ seen_chain _) ∙ chain_is_no_word (see_expr chain.first) (see_link chain.link) (links (map see_link chain.more.items)))

pub returns-in-Minus : goal.returns-in-Minus
returns-in-Minus c = sym (ap (λ z. is_true_word (term z)) (ap see_expr c.in-Minus.is ∙ seen_minus _ _))

pub returns-in-Not : goal.returns-in-Not
returns-in-Not c = sym (ap (λ z. is_true_word (term z)) (ap see_expr c.in-Not.is ∙ seen_not _ _))

pub returns-in-Start : goal.returns-in-Start
returns-in-Start c = c.begins_true.ensures ∙ sym (ap (λ z. is_true_word (term z)) (ap see_expr c.in-Start.is ∙ seen_alone c.in-Start.start))

pub returns-in-Calls : goal.returns-in-Calls
returns-in-Calls c =
    let calls = out-Calls c.in-Calls.field-0.value in
    sym (ap (λ z. is_true_word (term z)) (ap see_expr c.in-Calls.is ∙ seen_called _ ∙ seen_calls _) ∙ dots_are_no_word (see_dot calls.first) (dots (map see_dot calls.more.items)) (started (see_start calls.start) false))
