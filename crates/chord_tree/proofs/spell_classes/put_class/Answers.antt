use Rattle.std.proofs.Common.{map, sym}
use Rattle.chord_tree.specs.ClassNodes.{node_members}
use Rattle.chord_tree.specs.View.{see_member}
use Rattle.chord_tree.proofs.Words.{nil, cons, made, leaf, seen_as, on_ok}
use Rattle.chord_tree.proofs.spell_classes.put_class.Goals as goal

pub returns : goal.returns
returns c = on_ok _ _ _ (λ h. made (cons c.in_ok-put_public.ensures (cons c.in_ok-put_keyword.ensures (cons c.in_ok-put_name.ensures (cons c.in_ok-put_base.ensures (cons c.in_ok-put_mark.ensures (cons (seen_as (λ z. node_members (map see_member z)) _ _ (sym c.deref.ensures.value) c.in_ok-put_members.ensures) (cons (leaf h) nil)))))))) c.put_mark-2.ensures
