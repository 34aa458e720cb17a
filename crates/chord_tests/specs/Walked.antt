-- The walk over the example, where the number of the class and of the locals in scope goes along, as their sum.
use Rattle.std.specs.Prelude.{ℕ, ◌+◌, List, [], ◌∷◌, codes}
use Rattle.chord_tree.specs.Tree.{ItemTree, LocalItem, StmtItem, MemberTree, ClassTree}
use Rattle.chord_tree.specs.Terms.{Term, VariableTerm, LiteralTerm, NewTerm, CallTerm, NoTerms, MoreTerms}
use Rattle.chord_tree.specs.Walk.{Used, Alone, Receiver, Spot, AtTerm, AtItem, AtMember}
use Rattle.chord_tests.specs.Example.{named, give_item, buffer_chord, buffer_class, local_item, put_item, print_item, main_chord, main_class}

-- a body begins with the number of its class
abbrev pub class_number : ℕ → ClassTree → MemberTree → ℕ
class_number number class member = number

-- one more is in scope after a local
abbrev pub with_local : ℕ → ItemTree → ℕ
with_local locals (LocalItem value_type name assign value) = locals + 1
with_local locals (StmtItem stmt) = locals

-- "hi"
abbrev text_term : Term
text_term = LiteralTerm (codes "hi") 43

-- b.Put("hi")
abbrev put_term : Term
put_term = CallTerm (VariableTerm (named (codes "b") 39)) 40 (named (codes "Put") 41) 42 (MoreTerms text_term NoTerms)

-- b.Get()
abbrev got_term : Term
got_term = CallTerm (VariableTerm (named (codes "b") 50)) 51 (named (codes "Get") 52) 53 NoTerms

-- Console.WriteLine(b.Get())
abbrev print_term : Term
print_term = CallTerm (VariableTerm (named (codes "Console") 46)) 47 (named (codes "WriteLine") 48) 49 (MoreTerms got_term NoTerms)

-- the spots of `return s;`, of the chord, and of the three items of `Main`, each after its parts
abbrev pub example_spots : List (Spot ℕ)
example_spots =
    AtTerm 0 Used (VariableTerm (named (codes "s") 18)) ∷ AtItem 0 give_item ∷ AtMember buffer_class buffer_chord
    ∷ AtTerm 1 Used (NewTerm 34 (named (codes "Buffer") 35) 36 NoTerms) ∷ AtItem 1 local_item
    ∷ AtTerm 2 Receiver (VariableTerm (named (codes "b") 39)) ∷ AtTerm 2 Used text_term ∷ AtTerm 2 Alone put_term ∷ AtItem 2 put_item
    ∷ AtTerm 2 Receiver (VariableTerm (named (codes "Console") 46)) ∷ AtTerm 2 Receiver (VariableTerm (named (codes "b") 50)) ∷ AtTerm 2 Used got_term
    ∷ AtTerm 2 Alone print_term ∷ AtItem 2 print_item
    ∷ AtMember main_class main_chord ∷ []
