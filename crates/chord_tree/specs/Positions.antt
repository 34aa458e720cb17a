-- Where the tokens of a program stand: what follows from the numbers in it.
use Rattle.std.specs.Prelude.{ℕ, ◌<◌, List, [], ◌∷◌}
use Rattle.chord_tree.specs.Node.{Node, Nodes, End, ◌▸◌, Leaf, Made}
use Rattle.chord_tree.specs.Tree.{ClassTree}

-- Each class ends after its name, and before the name of the next.
abbrev pub AreInOrder : List ClassTree → Type 0
AreInOrder [] = Unit {0}
AreInOrder (class ∷ []) = class.name.at < class.end
AreInOrder (class ∷ next ∷ more) = (class.name.at < class.end) × (class.end < next.name.at) × AreInOrder (next ∷ more)

abbrev mutual
  -- Each number in a node is below the bound.
  pub IsBelow : ℕ → Node → Type 0
  IsBelow bound (Leaf kind number) = number < bound
  IsBelow bound (Made part inner) = AreBelow bound inner

  -- the same of nodes side by side
  pub AreBelow : ℕ → Nodes → Type 0
  AreBelow bound End = Unit {0}
  AreBelow bound (node ▸ rest) = IsBelow bound node × AreBelow bound rest
