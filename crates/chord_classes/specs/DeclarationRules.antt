-- The rules on declarations: names of classes, bases, headers of one chord, parameters, modifiers and groups. Where each is broken.
use Rattle.std.specs.Prelude.{◌≡◌, ◌<◌, ◌⊎◌, ℕ, ◌+◌, List, [], ◌∷◌, ◌++◌, Bool, true, false, not, ◌&&◌, ◌||◌, nat_eq, length, filter, bytes_eq, codes, is_some, is_none, flat_map}
use Rattle.chord_tree.specs.declared.classes.ModifierKeyword.{ModifierKeyword}
use Rattle.chord_tree.specs.declared.classes.ModifierKeyword.TheVariants as modifiers
use Rattle.chord_tree.specs.declared.classes.Modifier.{Modifier}
use Rattle.chord_tree.specs.declared.classes.Formal.{Formal}
use Rattle.chord_tree.specs.Tree.{HeaderTree, MemberTree, ConstructorMember, ChordMember, ClassTree}
use Rattle.chord_tree.specs.Walk.{headers_of}
use Rattle.chord_bodies.specs.Resolved.{ChordOf, ClassOf}
use Rattle.chord_classes.specs.Table.{Method, Shape, has_word, is_virtual_word, is_main, class_named, method_named, base_of, inherited, shape_of, among}
use Rattle.chord_classes.specs.NameRules.{when}
use Rattle.chord_classes.specs.OverrideRules.{overrides}
use Rattle.chord_classes.specs.Plan.{header_number, overridden, base_chords, class_plan}
use Rattle.chord_classes.specs.ChordRules.{named_in, base_token, static_word}
use Rattle.chord_classes.specs.Site.{member_formals}

-- C01: a class name was declared before, or is `Console`
abbrev pub declared_again : List Shape → ClassTree → List ℕ
declared_again done class = when (is_some (class_named done class.name.text) || bytes_eq class.name.text (codes "Console")) class.name.at

-- C03: a base class is not declared earlier in the text
abbrev pub base_missing : List Shape → ClassTree → List ℕ
base_missing done class = base_token class.base (is_none (base_of done class))

-- the parameters whose name stands before them
abbrev pub repeated_formals : List (List ℕ) → List Formal → List ℕ
repeated_formals before [] = []
repeated_formals before (formal ∷ more) = when (named_in formal.name.text before) formal.name.at ++ repeated_formals (formal.name.text ∷ before) more

-- C08: a parameter name stands a second time in one chord's header or one constructor
abbrev pub parameter_again : List Shape → ClassTree → List ℕ
parameter_again done class = flat_map (λ (member : MemberTree). repeated_formals [] (member_formals member)) class.members

-- an access modifier
abbrev pub is_access : ModifierKeyword → Bool
is_access modifiers.Public = true
is_access modifiers.Protected = true
is_access modifiers.Private = true
is_access _ = false

-- an access modifier with which a method may be `virtual` or `override`
abbrev pub is_open : ModifierKeyword → Bool
is_open modifiers.Public = true
is_open modifiers.Protected = true
is_open _ = false

-- where a modifier stands: on a constructor, or in a header, which may be that of `Main` alone
pub data Bearer : Type 0 where
  OnConstructor : Bearer
  InHeader : (main_alone : Bool) → Bearer

-- `static` may stand there
abbrev pub bears_static : Bearer → Bool
bears_static OnConstructor = false
bears_static (InHeader main_alone) = main_alone

-- `virtual` and `override` may stand there
abbrev pub bears_virtual : Bearer → Bool
bears_virtual OnConstructor = false
bears_virtual (InHeader main_alone) = true

-- A modifier is not allowed, with those before it and all those beside it: it repeats one, or one before it excludes it, or its bearer does.
abbrev pub is_barred : Bearer → List Modifier → List Modifier → ModifierKeyword → Bool
is_barred bearer before all modifiers.Public = has_word is_access before
is_barred bearer before all modifiers.Protected = has_word is_access before
is_barred bearer before all modifiers.Private = has_word is_access before
is_barred bearer before all modifiers.Static = has_word static_word before || (has_word is_virtual_word before || not (bears_static bearer))
is_barred bearer before all modifiers.Virtual = has_word is_virtual_word before || (has_word static_word before || (not (bears_virtual bearer) || not (has_word is_open all)))
is_barred bearer before all modifiers.Override = has_word is_virtual_word before || (has_word static_word before || (not (bears_virtual bearer) || not (has_word is_open all)))

-- the modifiers that are not allowed, of those behind these
abbrev pub barred_among : Bearer → List Modifier → List Modifier → List Modifier → List ℕ
barred_among bearer all before [] = []
barred_among bearer all before (modifier ∷ more) = when (is_barred bearer before all modifier.keyword) modifier.at ++ barred_among bearer all (before ++ (modifier ∷ [])) more

-- the modifiers of a member that are not allowed
abbrev pub barred_in : MemberTree → List ℕ
barred_in (ConstructorMember modifiers name formals body) = barred_among OnConstructor modifiers [] modifiers
barred_in (ChordMember headers body) = flat_map (λ (header : HeaderTree). barred_among (InHeader (is_main header && nat_eq (length headers) 1)) header.modifiers [] header.modifiers) headers

-- C21: a modifier is not allowed
abbrev pub modifiers_barred : List Shape → ClassTree → List ℕ
modifiers_barred done class = flat_map barred_in class.members

-- Groups.

-- one effective chord has both methods
pub data Linked : List ChordOf → ℕ → ℕ → Type 0 where
  here : {k : ChordOf} {ks : List ChordOf} {i j : ℕ} → among i k.methods ≡ true → among j k.methods ≡ true → Linked (k ∷ ks) i j
  later : {k : ChordOf} {ks : List ChordOf} {i j : ℕ} → Linked ks i j → Linked (k ∷ ks) i j

-- methods are linked directly or through others
pub data Grouped (chords : List ChordOf) : ℕ → ℕ → Type 0 where
  itself : {i : ℕ} → Grouped chords i i
  through : {i j k : ℕ} → Linked chords i j → Grouped chords j k → Grouped chords i k

-- the headers with `override` that name a method of the base class
abbrev pub overriding : List Method → List HeaderTree → List HeaderTree
overriding methods headers = filter (λ header. overrides header && is_some (method_named methods header.name.text)) headers

-- a header is among headers
abbrev pub IsAmong : HeaderTree → List HeaderTree → Type 0
IsAmong header [] = ⊥
IsAmong header (other ∷ more) = (header ≡ other) ⊎ IsAmong header more

-- C11: a class overrides some and not all methods of a group of its base class; the token is that of the class's first overriding header of that group
pub record IsSplit (done : List Shape) (plans : List ClassOf) (class : ClassTree) (at : ℕ) : Type 0 where
  pub before : List HeaderTree
  pub header : HeaderTree
  pub rest : List HeaderTree
  pub are : overriding (inherited done (base_of done class)) (headers_of class) ≡ before ++ (header ∷ rest)
  pub token : header.name.at ≡ at
  -- no overriding header before it is of the group
  pub first : (other : HeaderTree) → IsAmong other before → Grouped (base_chords plans (base_of done class)) (header_number (inherited done (base_of done class)) header) (header_number (inherited done (base_of done class)) other) → ⊥
  -- a method of the group is not overridden
  pub missing : ℕ
  pub within : missing < length (inherited done (base_of done class))
  pub grouped : Grouped (base_chords plans (base_of done class)) (header_number (inherited done (base_of done class)) header) missing
  pub spared : among missing (overridden (inherited done (base_of done class)) (headers_of class)) ≡ false

-- a class among these overrides a group in part, where the first member has this number
abbrev pub SplitAmong : List Shape → List ClassOf → ℕ → List ClassTree → ℕ → Type 0
SplitAmong done plans number [] at = ⊥
SplitAmong done plans number (class ∷ more) at =
    IsSplit done plans class at ⊎ SplitAmong (done ++ (shape_of done class ∷ [])) (plans ++ (class_plan done plans number class ∷ [])) (number + length class.members) more at
