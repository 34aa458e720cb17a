-- What is known at each spot of a program that breaks no rule on names and types.
use Rattle.std.proofs.Common.{◌≡◌, List, []}
use Rattle.chord_tree.specs.Tree.{ItemTree, MemberTree}
use Rattle.chord_tree.specs.Walk.{Role, Spot, AtTerm, AtItem, AtMember}
use Rattle.chord_classes.specs.Table.{Shape}
use Rattle.chord_classes.specs.Site.{Site}
use Rattle.chord_classes.specs.TypedTerms.{TypedTerm}
use Rattle.chord_classes.specs.NameRules.{undeclared, unknown, inaccessible, used_valueless, miscounted}
use Rattle.chord_classes.specs.TypeRules.{disagreeing}
use Rattle.chord_classes.specs.Typed.{typed_term}
use Rattle.chord_classes.specs.ItemRules.{undeclared_item, undeclared_member, unknown_item, disagreeing_item, misreturned, unreturned}

-- no rule is broken at an expression
pub record FreeTerm (site : Site) (role : Role) (parts : TypedTerm) : Type 0 where
  pub undeclared : undeclared site parts ≡ []
  pub unknown : unknown site role parts ≡ []
  pub disagreeing : disagreeing site parts ≡ []
  pub inaccessible : inaccessible site parts ≡ []
  pub used_valueless : used_valueless site role parts ≡ []
  pub miscounted : miscounted site parts ≡ []

-- no rule is broken at an item
pub record FreeItem (site : Site) (item : ItemTree) : Type 0 where
  pub undeclared : undeclared_item site item ≡ []
  pub unknown : unknown_item site item ≡ []
  pub disagreeing : disagreeing_item site item ≡ []
  pub misreturned : misreturned site item ≡ []

-- no rule is broken at a member
pub record FreeMember (table : List Shape) (member : MemberTree) : Type 0 where
  pub undeclared : undeclared_member table member ≡ []
  pub unreturned : unreturned member ≡ []

-- no rule is broken at a spot
abbrev pub Free : List Shape → Spot Site → Type 0
Free table (AtTerm site role term) = FreeTerm site role (typed_term site term)
Free table (AtItem site item) = FreeItem site item
Free table (AtMember class member) = FreeMember table member
