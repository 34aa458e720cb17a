-- The rule on constructors, member by member.
use Rattle.std.proofs.Common.{◌≡◌, ℕ, List, [], ◌∷◌, ◌++◌, true, false, not, bytes_eq, flat_map, refl, ap}
use Rattle.chord_tree.specs.Tree.{MemberTree, ConstructorMember, ChordMember}
use Rattle.chord_classes.specs.NameRules.{when}
use Rattle.chord_classes.specs.ChordRules.{builder_token, misnamed_constructors}
use Rattle.chord_rules.specs.Constructors.{misnamed_from}

-- where a constructor stands before members, the rule is broken at each constructor among them
behind_one : (class : List ℕ) (members : List MemberTree) → misnamed_from class true members ≡ flat_map builder_token members
behind_one class [] = refl
behind_one class (ConstructorMember modifiers name formals body ∷ more) = ap (λ z. name.at ∷ z) (behind_one class more)
behind_one class (ChordMember headers body ∷ more) = behind_one class more

-- the constructors that have another name than their class or stand behind one are those of which the rule speaks
pub misnamed_same : (class : List ℕ) (members : List MemberTree) → misnamed_from class false members ≡ misnamed_constructors class members
misnamed_same class [] = refl
misnamed_same class (ConstructorMember modifiers name formals body ∷ more) = ap (λ z. when (not (bytes_eq name.text class)) name.at ++ z) (behind_one class more)
misnamed_same class (ChordMember headers body ∷ more) = misnamed_same class more
