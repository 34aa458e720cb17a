-- Where an expression stands, as it lies in memory.
use Rattle.std.specs.Prelude.{◌≡◌, ◌+◌, [], ◌∷◌, ◌++◌, option_map}
use Rattle.std.specs.Borrow.{Bor}
use Rattle.chord_tree.specs.declared.names.Name.{Name}
use Rattle.chord_tree.specs.declared.names.ValueType.{ValueType}
use Rattle.chord_classes.specs.Site as sites
use Rattle.chord_classes.specs.Types.{type_written, type_known}
use Rattle.chord_types.specs.declared.site.Site.{Site}

-- the place in the text that one in memory stands for
abbrev pub see_site : Site → sites.Site
see_site site = record {
  table = site.table.now;
  own = site.own;
  in_main = site.in_main;
  due = option_map (λ (written : Bor ValueType). written.now) site.due;
  scope = site.scope;
  next = site.next;
}

-- the place behind the declaration of a variable
abbrev pub declares : sites.Site → ValueType → Name → sites.Site
declares site written name = record {
  table = site.table;
  own = site.own;
  in_main = site.in_main;
  due = site.due;
  scope = site.scope ++ (record { name = name.text; slot = site.next; static_type = type_written site.table written } ∷ []);
  next = site.next + 1;
}

-- A variable of a written type was declared in the next free slot, and nothing else changed.
pub record Declares (old new : Site) (written : ValueType) (name : Name) : Type 0 where
  pub types : new.types.items ≡ old.types.items ++ (type_known old.table.now written ∷ [])
  pub site : see_site new ≡ declares (see_site old) written name
