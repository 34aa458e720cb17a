-- What is said of a member that was looked at, and of the parameters that were declared.
use Rattle.std.specs.Prelude.{◌≡◌, ℕ, List, [], ◌∷◌, ◌++◌, map, Option, None}
use Rattle.chord_tree.specs.declared.classes.Formal.{Formal}
use Rattle.chord_tree.specs.Tree.{HeaderTree, MemberTree, ClassTree}
use Rattle.chord_tree.specs.Walk.{over_member}
use Rattle.chord_base.specs.declared.static_type.StaticType.{StaticType}
use Rattle.chord_bodies.specs.declared.body.Body.{Body}
use Rattle.chord_bodies.specs.BodyView.{view_body}
use Rattle.chord_classes.specs.Table.{Shape}
use Rattle.chord_classes.specs.Types.{type_known}
use Rattle.chord_classes.specs.Site as sites
use Rattle.chord_classes.specs.Site.{after, enter, member_formals}
use Rattle.chord_classes.specs.Resolve.{resolved_member}
use Rattle.chord_classes.specs.Least.{least}
use Rattle.chord_classes.specs.AllNotes.{term_keys, item_keys, member_keys}
use Rattle.chord_types.specs.declared.site.Site.{Site}
use Rattle.chord_types.specs.Sites.{see_site, declares}
use Rattle.chord_types.specs.Flat.{doubled_body}

-- the parameters of a header
abbrev pub header_formals : HeaderTree → List Formal
header_formals header = header.formals.parameters

-- the static types of parameters
abbrev pub formal_statics : List Shape → List Formal → List StaticType
formal_statics table formals = map (λ (formal : Formal). type_known table formal.value_type) formals

-- the place behind the declarations of parameters
abbrev pub declares_all : sites.Site → List Formal → sites.Site
declares_all site [] = site
declares_all site (formal ∷ more) = declares_all (declares site formal.value_type formal.name) more

-- parameters were declared, and nothing else changed
pub record DeclaresAll (old new : Site) (formals : List Formal) : Type 0 where
  pub types : new.types.items ≡ old.types.items ++ formal_statics old.table.now formals
  pub site : see_site new ≡ declares_all (see_site old) formals

-- a place is where the body of a member begins
pub record IsEntered (table : List Shape) (own : ℕ) (member : MemberTree) (begin : Site) : Type 0 where
  pub types : begin.types.items ≡ formal_statics table (member_formals member)
  pub site : (class : ClassTree) → see_site begin ≡ enter table own class member

-- what a member breaks
abbrev pub member_breaks : List Shape → ℕ → ClassTree → MemberTree → List ℕ
member_breaks table own class member = over_member after term_keys item_keys (enter table) (member_keys table) own class member

-- a member was looked at
pub record IsMemberChecked (table : List Shape) (own : ℕ) (member : MemberTree) (old new : Option ℕ) (body : Body) : Type 0 where
  pub built : (class : ClassTree) → new ≡ None → view_body body ≡ resolved_member table own class member
  pub noted : (class : ClassTree) → new ≡ least old (member_breaks table own class member)
  pub flat : doubled_body body ≡ 0
