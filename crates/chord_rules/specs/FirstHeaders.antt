-- The headers of a class that lie in memory.
use Rattle.std.specs.Prelude.{ℕ, List, map}
use Rattle.std.specs.Borrow.{Bor}
use Rattle.chord_tree.specs.declared.classes.Header.{Header}
use Rattle.chord_tree.specs.Tree.{HeaderTree}
use Rattle.chord_tree.specs.View.{see_header}

-- the tree of a header that is lent
abbrev pub see_lent : Bor Header → HeaderTree
see_lent header = see_header header.now

-- the names of headers
abbrev pub names_of_headers : List (Bor Header) → List (List ℕ)
names_of_headers headers = map (λ (header : Bor Header). header.now.name.text) headers
