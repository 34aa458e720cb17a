-- The names of parameters.
use Rattle.std.specs.Prelude.{ℕ, List, map}
use Rattle.chord_tree.specs.declared.classes.Formal.{Formal}
use Rattle.chord_tree.specs.Tree.{HeaderTree}

-- the names of parameters, in their order
abbrev pub formal_names : List Formal → List (List ℕ)
formal_names formals = map (λ (formal : Formal). formal.name.text) formals

-- the parameters of a header
abbrev pub formals_of_header : HeaderTree → List Formal
formals_of_header header = header.formals.parameters
