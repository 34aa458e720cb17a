-- What is said of the members of a class and of classes, one after another.
use Rattle.std.proofs.Common.{◌≡◌, ℕ, ◌+◌, ◌++◌, List, [], ◌∷◌, sym, ap, ◌∙◌, Option, None, map}
use Rattle.std.specs.Prelude.{sum_by}
use Rattle.chord_tree.specs.Tree.{MemberTree, ClassTree}
use Rattle.chord_bodies.specs.declared.body.Body.{Body}
use Rattle.chord_bodies.specs.Resolved.{BodyOf}
use Rattle.chord_bodies.specs.BodyView.{view_body}
use Rattle.chord_classes.specs.Table.{Shape}
use Rattle.chord_classes.specs.Resolve.{resolved_member, resolved_classes}
use Rattle.chord_classes.specs.Least.{least}
use Rattle.chord_types.specs.MemberChecked.{IsMemberChecked, member_breaks}
use Rattle.chord_types.specs.Flat.{doubled_body, AreFlat}
use Rattle.chord_types.specs.Answer.{AreMembersChecked, AreClassesChecked, members_breaks, classes_breaks}
use Rattle.chord_classes.proofs.Leasts.{least_append}
use Rattle.chord_types.proofs.Notes.{nothing_before, nothing_after, append_more}

-- Of members the first were looked at, and what is left gives the whole.
pub record MembersLeft (table : List Shape) (own : ℕ) (all rest : List MemberTree) (found0 found : Option ℕ) (before bodies : List BodyOf) : Type 0 where
  pub built : (class : ClassTree) → found ≡ None → bodies ++ map (resolved_member table own class) rest ≡ before ++ map (resolved_member table own class) all
  pub noted : (class : ClassTree) → least found (members_breaks table own class rest) ≡ least found0 (members_breaks table own class all)

-- one more member was looked at
pub member_less : (table : List Shape) (own : ℕ) (all rest : List MemberTree) (member : MemberTree) (found0 found more : Option ℕ) (before bodies : List BodyOf) (body : Body)
    → MembersLeft table own all (member ∷ rest) found0 found before bodies → IsMemberChecked table own member found more body → MembersLeft table own all rest found0 more before (bodies ++ (view_body body ∷ []))
member_less table own all rest member found0 found more before bodies body h k = record {
  built = λ class e.
      sym (append_more bodies (view_body body ∷ []) (map (resolved_member table own class) rest)) ∙ ap (λ z. bodies ++ (z ∷ map (resolved_member table own class) rest)) (k.built class e)
      ∙ h.built class (nothing_before found more (member_breaks table own class member) (k.noted class) e);
  noted = λ class. ap (λ z. least z (members_breaks table own class rest)) (k.noted class) ∙ sym (least_append found (member_breaks table own class member) (members_breaks table own class rest)) ∙ h.noted class;
}

-- all members were looked at
pub members_checked : (table : List Shape) (own : ℕ) (all rest : List MemberTree) (found0 found : Option ℕ) (before bodies : List Body) → rest ≡ [] → MembersLeft table own all rest found0 found (map view_body before) (map view_body bodies) → sum_by doubled_body bodies ≡ sum_by doubled_body before → AreMembersChecked table own all found0 found before bodies
members_checked table own all rest found0 found before bodies e h hf = record {
  built = λ class n. sym (nothing_after (map view_body bodies)) ∙ ap (λ z. map view_body bodies ++ map (resolved_member table own class) z) (sym e) ∙ h.built class n;
  noted = λ class. ap (λ z. least found (members_breaks table own class z)) (sym e) ∙ h.noted class;
  flat = hf;
}

-- Of classes the first were looked at, and what is left gives the whole.
pub record ClassesLeft (table : List Shape) (number : ℕ) (all rest : List ClassTree) (found0 found : Option ℕ) (bodies : List BodyOf) : Type 0 where
  pub built : found ≡ None → bodies ++ resolved_classes table number rest ≡ resolved_classes table 0 all
  pub noted : least found (classes_breaks table number rest) ≡ least found0 (classes_breaks table 0 all)

-- one more class was looked at
pub class_less : (table : List Shape) (number : ℕ) (all rest : List ClassTree) (class : ClassTree) (found0 found more : Option ℕ) (before bodies : List Body)
    → ClassesLeft table number all (class ∷ rest) found0 found (map view_body before) → AreMembersChecked table number class.members found more before bodies → ClassesLeft table (number + 1) all rest found0 more (map view_body bodies)
class_less table number all rest class found0 found more before bodies h k = record {
  built = λ e.
      ap (λ z. z ++ resolved_classes table (number + 1) rest) (k.built class e) ∙ sym (append_more (map view_body before) (map (resolved_member table number class) class.members) (resolved_classes table (number + 1) rest))
      ∙ h.built (nothing_before found more (members_breaks table number class class.members) (k.noted class) e);
  noted = ap (λ z. least z (classes_breaks table (number + 1) rest)) (k.noted class) ∙ sym (least_append found (members_breaks table number class class.members) (classes_breaks table (number + 1) rest)) ∙ h.noted;
}

-- all classes were looked at
pub classes_checked : (table : List Shape) (number : ℕ) (all rest : List ClassTree) (found0 found : Option ℕ) (bodies : List Body) → rest ≡ [] → ClassesLeft table number all rest found0 found (map view_body bodies) → AreFlat bodies → AreClassesChecked table all found0 found bodies
classes_checked table number all rest found0 found bodies e h hf = record {
  built = λ n. sym (nothing_after (map view_body bodies)) ∙ ap (λ z. map view_body bodies ++ resolved_classes table number z) (sym e) ∙ h.built n;
  noted = ap (λ z. least found (classes_breaks table number z)) (sym e) ∙ h.noted;
  flat = hf;
}
