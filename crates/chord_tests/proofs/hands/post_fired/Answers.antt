use Rattle.std.proofs.Common.{false, [], ◌∷◌, ◌∙◌, subst, sym}
use Rattle.chord_base.specs.declared.event.What.TheVariants.{Fired}
use Rattle.chord_base.specs.Meaning.{Program}
use Rattle.chord_rule.specs.declared.view.View.{View}
use Rattle.chord_rule.specs.Kinds.{entry}
use Rattle.chord_space.specs.Desks.{view, space_code, space_limits}
use Rattle.chord_space.specs.Gives.{MayPost}
use Rattle.chord_tests.specs.Pairs.{pair_program, first_object}
use Rattle.chord_tests.proofs.ByHand.{of_table, may_post_fourth}
use Rattle.chord_tests.proofs.hands.post_fired.Goals as goal

pub post-requires-clause-post : goal.post-requires-clause-post
post-requires-clause-post c =
    let s = c.args.space.now in let v : View = view c.args.desk.now in let vs = c.of_items.ensures ∙ c.new.ensures.items in
    of_table (λ (p : Program). MayPost p v 4 c.in_ok-past.past.items) false s.events (space_code s) (space_limits s) c.requires.table.0.0 c.requires.table.0.1
    (subst (MayPost (pair_program false s.events) v 4) (sym (c.in_ok-past.ensures.items ∙ (λ k. entry 4 4 (Fired 0 first_object (c.copied.ensures k) (vs k)) ∷ []))) (may_post_fourth s.events v c.args.members.now c.requires.desk.1))
