use Rattle.std.proofs.Common.{map, sym}
use Rattle.chord_tree.specs.ClassNodes.{node_member}
use Rattle.chord_tree.specs.ViewStmts.{see_block}
use Rattle.chord_tree.specs.View.{see_formals, see_header, see_member}
use Rattle.chord_tree.specs.Tree.{ConstructorMember, ChordMember}
use Rattle.chord_tree.proofs.Words.{seen_as, on_ok}
use Rattle.chord_tree.proofs.spell_classes.put_member.Goals as goal

pub returns-in-Constructor : goal.returns-in-Constructor
returns-in-Constructor c = on_ok _ _ _ (λ h. seen_as (λ z. node_member (see_member z)) _ _ c.in-Constructor.is (seen_as (λ z. node_member (ConstructorMember z c.in-Constructor.name (see_formals c.in-Constructor.formals) (see_block c.in-Constructor.body))) _ _ (sym c.deref.ensures.value) h)) c.put_constructor.ensures

pub returns-in-Chord : goal.returns-in-Chord
returns-in-Chord c = on_ok _ _ _ (λ h. seen_as (λ z. node_member (see_member z)) _ _ c.in-Chord.is (seen_as (λ z. node_member (ChordMember (map see_header z) (see_block c.in-Chord.body))) _ _ (sym c.deref-in-Chord.ensures.value) h)) c.put_chord.ensures
