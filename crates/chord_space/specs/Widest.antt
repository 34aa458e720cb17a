-- How many heads an object has in a table: as many as the code's largest class has methods.
use Rattle.std.specs.Prelude.{ℕ, List, [], ◌∷◌, length, max}
use Rattle.chord_code.specs.declared.parts.ClassLine.{ClassLine}
use Rattle.chord_code.specs.declared.parts.Parts.{Parts}

-- the most methods of one of these classes, or this number where it is larger
abbrev pub most_methods : ℕ → List ClassLine → ℕ
most_methods k [] = k
most_methods k (c ∷ cs) = most_methods (max k (length c.methods)) cs

-- the number of methods of the code's largest class
abbrev pub widest : Parts → ℕ
widest code = most_methods 0 code.classes
