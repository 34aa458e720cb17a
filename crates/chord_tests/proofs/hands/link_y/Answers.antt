use Rattle.std.proofs.Common.{false, List, [], ◌∷◌, Some, refl, sym, subst, ◌≡◌}
use Rattle.chord_base.specs.declared.event.Entry.{Entry}
use Rattle.chord_base.specs.Meaning.{Program}
use Rattle.chord_rule.specs.declared.view.View.{View}
use Rattle.chord_rule.specs.Bags.{head_number}
use Rattle.chord_rule.specs.Kinds.{saw_head, flown, address_set}
use Rattle.chord_rule.specs.Made.{key}
use Rattle.chord_space.specs.Desks.{view, space_code, space_limits}
use Rattle.chord_space.specs.Gives.{MayLink}
use Rattle.chord_tests.specs.Pairs.{pair_program, first_object, sent_both}
use Rattle.chord_tests.proofs.ByHand.{of_table, may_add_y, holds_linked}
use Rattle.chord_tests.proofs.hands.link_y.Goals as goal

pub link-requires-clause-link : goal.link-requires-clause-link
link-requires-clause-link c = let s = c.args.space.now in let v : View = view c.args.desk.now in of_table (λ (p : Program). MayLink p v 3 first_object 1 c.new.result.items []) false s.events (space_code s) (space_limits s) c.requires.table.0.0 c.requires.table.0.1 (subst (λ (z : List Entry). MayLink (pair_program false s.events) v 3 first_object 1 z []) (sym c.new.ensures.items) (may_add_y s.events v c.requires.desk.1))

pub returns-clause-linked : goal.returns-clause-linked
returns-clause-linked c =
    let v : View = view c.args.desk.now in let u : View = view c.link.new.desk in
    holds_linked v u sent_both (3 ∷ []) 3 (key first_object 1) c.link.ensures.linked.0 (head_number (key first_object 1)) refl c.requires.desk.1
    (subst (λ (z : List Entry). u ≡ saw_head (flown (address_set v 3) 3 (key first_object 1) c.link.ensures.linked.0 z) (head_number (key first_object 1)) (Some 3)) c.new.ensures.items c.link.ensures.linked.1)
