-- The numbers in a program say where its tokens stand.
use Rattle.std.proofs.Common.{ℕ, ◌+◌, ◌<◌, ◌≤◌, true, false, List, [], ◌∷◌, length, cond, arith}
use Rattle.chord_lexer.specs.declared.token.Kind.{Kind}
use Rattle.chord_tree.specs.Terminals.{terminal_of}
use Rattle.chord_tree.specs.Derivation.{includes}
use Rattle.chord_tree.specs.Node.{Node, Nodes, End, ◌▸◌, Leaf, Made, size, size_all, unnumbered, number_at, IsNumbered, AllNumbered}
use Rattle.chord_tree.specs.Tree.{UsingTree, ClassTree, ProgramTree}
use Rattle.chord_tree.specs.ClassNodes.{node_class, node_classes, node_usings, node_program, node_all_classes}
use Rattle.chord_tree.specs.Program.{spelling}
use Rattle.chord_tree.specs.Positions.{AreInOrder, IsBelow, AreBelow}
use Rattle.chord_tree.proofs.Counts.{class_end, spelled_count}

-- the name of a class stands after its first token
class_name : (c : ClassTree) (at : ℕ) → IsNumbered (node_class c) at → at < c.name.at
class_name c at h = let e = h.1.1.0 in omega arith

-- and before its `}`
class_within : (c : ClassTree) (at : ℕ) → IsNumbered (node_class c) at → c.name.at < c.end
class_within c at h = let e = h.1.1.0 in let f = h.1.1.1.1.1.1.0 in omega arith

-- a class and those after it
in_order : (c : ClassTree) (cs : List ClassTree) (at : ℕ) → IsNumbered (node_class c) at → IsNumbered (node_classes cs) (at + size (node_class c)) → AreInOrder (c ∷ cs)
in_order c [] at h g = class_within c at h
in_order c (x ∷ xs) at h g =
    (class_within c at h, (let e = class_end c at h in let f = class_name x (at + size (node_class c)) g.0 in omega arith), in_order x xs (at + size (node_class c)) g.0 g.1.0)

-- the classes behind `using` lines stand in their order, where each number is the place of its token
of_classes : (usings : List UsingTree) (cs : List ClassTree) → IsNumbered (node_all_classes usings cs) 0 → AreInOrder cs
of_classes usings [] h = tt
of_classes usings (c ∷ cs) h = in_order c cs (0 + size (node_usings usings)) h.1.0 h.1.1.0

-- the classes of a program stand in their order
pub classes_in_order : (p : ProgramTree) → IsNumbered (node_program p) 0 → AreInOrder p.classes
classes_in_order p h = of_classes p.usings p.classes h

-- the number that a tree keeps of a token is at most that of the token
number_within : (k : Kind) (at : ℕ) → number_at k at ≤ at
number_within k at = elim (includes unnumbered (terminal_of k)) as (λ b. cond b 0 at ≤ at) [ true ↦ omega arith | false ↦ omega arith ]

mutual
  -- a node's numbers are below the place after its last token
  numbers_below : (bound : ℕ) (n : Node) (at : ℕ) → IsNumbered n at → at + size n ≤ bound → IsBelow bound n
  numbers_below bound (Leaf kind number) at h l = let w = number_within kind at in omega (arith, h)
  numbers_below bound (Made part inner) at h l = all_below_bound bound inner at h l

  -- and those of nodes side by side
  all_below_bound : (bound : ℕ) (ns : Nodes) (at : ℕ) → AllNumbered ns at → at + size_all ns ≤ bound → AreBelow bound ns
  all_below_bound bound End at h l = tt
  all_below_bound bound (n ▸ ns) at h l = (numbers_below bound n at h.0 (omega arith), all_below_bound bound ns (at + size n) h.1 (omega arith))

-- each number in a program is below the number of its tokens
pub program_below : (p : ProgramTree) → IsNumbered (node_program p) 0 → IsBelow (length (spelling p)) (node_program p)
program_below p h = let e = spelled_count (node_program p) 0 [] in numbers_below (length (spelling p)) (node_program p) 0 h (omega arith)
