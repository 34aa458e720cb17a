-- Where the values of a list lie. No public clause names this file.
use Rattle.std.specs.Prelude.{List, [], ◌∷◌}
use Rattle.chord_base.specs.declared.value.Value.{Value}
use Rattle.chord_base.specs.declared.value.Store.{Store}
use Rattle.chord_base.specs.declared.value.Store.TheVariants.{Nothing, One, Several}

-- the values of a list
abbrev pub values_in : Store → List Value
values_in Nothing = []
values_in (One value) = value ∷ []
values_in (Several values) = values.items
