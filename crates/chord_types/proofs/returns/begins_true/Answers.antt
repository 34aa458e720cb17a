use Rattle.std.proofs.Common.{false, sym, ap, ◌∙◌}
use Rattle.chord_tree.specs.Terms.{started}
use Rattle.chord_tree.specs.ViewExprs.{see_start}
use Rattle.chord_tree.proofs.SeenExprs.{seen_start_variable, seen_start_call, seen_start_this, seen_start_new, seen_start_number, seen_start_literal, seen_start_true, seen_start_false, seen_start_chain_group, seen_start_group}
use Rattle.chord_classes.specs.ItemRules.{is_true_word}
use Rattle.chord_types.proofs.Terms.{own_call_term, creation_term}
use Rattle.chord_types.proofs.returns.begins_true.Goals as goal

pub returns-in-Variable : goal.returns-in-Variable
returns-in-Variable c = sym (ap (λ z. is_true_word (started z false)) (ap see_start c.in-Variable.is ∙ seen_start_variable _))

pub returns-in-Call : goal.returns-in-Call
returns-in-Call c = sym (ap (λ z. is_true_word (started z false)) (ap see_start c.in-Call.is ∙ seen_start_call _) ∙ ap is_true_word (own_call_term c.in-Call.field-0.value false))

pub returns-in-This : goal.returns-in-This
returns-in-This c = sym (ap (λ z. is_true_word (started z false)) (ap see_start c.in-This.is ∙ seen_start_this _))

pub returns-in-New : goal.returns-in-New
returns-in-New c = sym (ap (λ z. is_true_word (started z false)) (ap see_start c.in-New.is ∙ seen_start_new _) ∙ ap is_true_word (creation_term c.in-New.field-0.value false))

pub returns-in-Number : goal.returns-in-Number
returns-in-Number c = sym (ap (λ z. is_true_word (started z false)) (ap see_start c.in-Number.is ∙ seen_start_number _ _))

pub returns-in-Literal : goal.returns-in-Literal
returns-in-Literal c = sym (ap (λ z. is_true_word (started z false)) (ap see_start c.in-Literal.is ∙ seen_start_literal _ _))

pub returns-in-True : goal.returns-in-True
returns-in-True c = sym (ap (λ z. is_true_word (started z false)) (ap see_start c.in-True.is ∙ seen_start_true _))

pub returns-in-False : goal.returns-in-False
returns-in-False c = sym (ap (λ z. is_true_word (started z false)) (ap see_start c.in-False.is ∙ seen_start_false _))

pub returns-in-Group : goal.returns-in-Group
returns-in-Group c = sym (ap (λ z. is_true_word (started z false)) (ap see_start c.in-Group.is ∙ seen_start_group _ _))

pub returns-in-ChainGroup : goal.returns-in-ChainGroup
returns-in-ChainGroup c = sym (ap (λ z. is_true_word (started z false)) (ap see_start c.in-ChainGroup.is ∙ seen_start_chain_group _ _))
