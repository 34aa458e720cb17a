-- The rule on constructors, member by member.
use Rattle.std.specs.Prelude.{ℕ, List, [], ◌∷◌, ◌++◌, Bool, not, ◌||◌, bytes_eq}
use Rattle.chord_tree.specs.Tree.{MemberTree, ConstructorMember, ChordMember}
use Rattle.chord_classes.specs.NameRules.{when}
use Rattle.chord_classes.specs.Resolve.{is_builder}

-- a constructor has another name than its class, or stands behind one
abbrev pub misnamed_at : List ℕ → Bool → MemberTree → List ℕ
misnamed_at class seen (ConstructorMember modifiers name formals body) = when (seen || not (bytes_eq name.text class)) name.at
misnamed_at class seen (ChordMember headers body) = []

-- the constructors among members that have another name than their class, or stand behind one
abbrev pub misnamed_from : List ℕ → Bool → List MemberTree → List ℕ
misnamed_from class seen [] = []
misnamed_from class seen (member ∷ more) = misnamed_at class seen member ++ misnamed_from class (seen || is_builder member) more
