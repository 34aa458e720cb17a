-- In which class a method is new, and what the table in memory keeps to find it.
use Rattle.std.specs.Prelude.{◌≡◌, ℕ, ◌+◌, ◌*◌, ◌^◌, ◌<◌, ◌≤◌, List, [], ◌++◌, map, flat_map, length, slice_get, Bool, cond, Option, Some, None, is_some, option_map, option_and_then}
use Rattle.chord_classes.specs.Table.{Found, Shape, method_named, methods_at, derives}
use Rattle.chord_classes.specs.NamePlaces.{name_place}
use Rattle.chord_classes.specs.MethodViews.{see_method, names_of}
use Rattle.chord_classes.specs.Forks.{under, IsVersion}
use Rattle.chord_classes.specs.Entries.{AreEntries}
use Rattle.chord_classes.specs.declared.versions.Fork.{Fork}
use Rattle.chord_classes.specs.declared.owners.Owners.{Owners}
use Rattle.chord_classes.specs.declared.entry.Entry.{Entry}

-- the class in which the method of a name is new, as a version has it
abbrev pub owner_in : Owners → Option ℕ → List ℕ → Option ℕ
owner_in owners version name = option_and_then (under owners.versions version) (name_place owners.names name)

-- a version is there, and has nothing under numbers that are no name's place
pub record IsOwned (owners : Owners) (version : Option ℕ) : Type 0 where
  pub there : IsVersion (length owners.versions) version
  pub none : (place : ℕ) → length owners.names ≤ place → under owners.versions version place ≡ None

-- a version was made of another: methods of some names are new in a class; each version that was there stays
pub record IsOwning (old new : Owners) (version made : Option ℕ) (adds : List ℕ → Bool) (owner : ℕ) : Type 0 where
  pub stays : (other : Option ℕ) → IsOwned old other → IsOwned new other
  pub same : (other : Option ℕ) → IsOwned old other → (name : List ℕ) → owner_in new other name ≡ owner_in old other name
  pub is_owned : IsOwned new made
  pub each : (name : List ℕ) → owner_in new made name ≡ cond (adds name) (Some owner) (owner_in old version name)

-- names came behind those that were there, and together no more forks than they have names, each taken as often as the number of all names has halves
pub record AddsNames (old new : Owners) (more : List (List ℕ)) : Type 0 where
  pub names : new.names ≡ old.names ++ more
  pub few : (halves : ℕ) → length new.names < 2 ^ halves → length new.versions ≤ length old.versions + length more * halves

-- no names and no forks
abbrev pub no_owners : Owners
no_owners = record { names = []; versions = [] }

-- the names of the methods that are new in the classes of entries
abbrev pub new_names : List Entry → List (List ℕ)
new_names entries = flat_map (λ (entry : Entry). names_of entry.own.all.items) entries

-- a method, counted from a later number on
abbrev pub shift : ℕ → Found → Found
shift k found = record { number = k + found.number; method = found.method }

-- the method of a name that is new in the class of an entry
abbrev pub new_method : Option Entry → List ℕ → Option Found
new_method None name = None
new_method (Some entry) name = option_map (shift entry.first) (method_named (map see_method entry.own.all.items) name)

-- the method of a name that is new in a class
abbrev pub owned_method : List Entry → Option ℕ → List ℕ → Option Found
owned_method entries None name = None
owned_method entries (Some owner) name = new_method (slice_get entries owner) name

-- the version of an entry by which it is told what its class derives from
abbrev pub line_in : Option Entry → Option ℕ
line_in None = None
line_in (Some entry) = entry.line

-- the same of a base class
abbrev pub line_at : List Entry → Option ℕ → Option ℕ
line_at entries None = None
line_at entries (Some base) = line_in (slice_get entries base)

-- the version of an entry by which its methods are found
abbrev pub owned_in : Option Entry → Option ℕ
owned_in None = None
owned_in (Some entry) = entry.owned

-- the same of a base class
abbrev pub owned_at : List Entry → Option ℕ → Option ℕ
owned_at entries None = None
owned_at entries (Some base) = owned_in (slice_get entries base)

-- an entry's versions tell what its class derives from, and in which class each of its methods is new
pub record IsMapped (shapes : List Shape) (entries : List Entry) (lines : List Fork) (owners : Owners) (class : ℕ) (entry : Entry) : Type 0 where
  pub line : IsVersion (length lines) entry.line
  pub derives_from : (base : ℕ) → is_some (under lines entry.line base) ≡ derives shapes class base
  pub owned : IsOwned owners entry.owned
  pub there : (name : List ℕ) (owner : ℕ) → owner_in owners entry.owned name ≡ Some owner → owner < length entries
  pub found : (name : List ℕ) → method_named (methods_at shapes class) name ≡ owned_method entries (owner_in owners entry.owned name) name

-- the table in memory: each entry is that of its class, and its versions are its class's; it keeps a method's name once, where the method is new
pub record IsShapeTable (shapes : List Shape) (entries : List Entry) (names : List (List ℕ)) (lines : List Fork) (owners : Owners) : Type 0 where
  pub are : AreEntries shapes entries names
  pub mapped : (class : ℕ) (entry : Entry) → slice_get entries class ≡ Some entry → IsMapped shapes entries lines owners class entry
  pub owns : AddsNames no_owners owners (new_names entries)
  -- together the classes take no more forks than there are classes, each taken as often as their number has halves
  pub few : (halves : ℕ) → length entries < 2 ^ halves → length lines ≤ length entries * halves
