-- What holds of each walk over a program.
use Rattle.std.specs.Prelude.{◌≡◌, ℕ, ◌+◌, Bool, List, ◌++◌, flat_map}
use Rattle.std.specs.List.{count_by}
use Rattle.chord_tree.specs.Tree.{ItemTree, MemberTree, ClassTree, ProgramTree}
use Rattle.chord_tree.specs.Terms.{Term}
use Rattle.chord_tree.specs.Walk.{Role, over_program, spots, at_spot}

-- what is noted on a walk: at an expression, at an item and at a member
pub record Notes (Around Note : Type 0) : Type 0 where
  pub at_term : Around → Role → Term → List Note
  pub at_item : Around → ItemTree → List Note
  pub at_member : ClassTree → MemberTree → List Note

-- what a walk over a program notes
abbrev pub noted : {Around Note : Type 0} → (Around → ItemTree → Around) → (ℕ → ClassTree → MemberTree → Around) → Notes Around Note → ProgramTree → List Note
noted after enter notes program = over_program after notes.at_term notes.at_item enter notes.at_member program

-- what the first notes at a place, and then what the second notes there
abbrev pub both : {Around Note : Type 0} → Notes Around Note → Notes Around Note → Notes Around Note
both first second = record {
  at_term = λ around role term. first.at_term around role term ++ second.at_term around role term;
  at_item = λ around item. first.at_item around item ++ second.at_item around item;
  at_member = λ class member. first.at_member class member ++ second.at_member class member;
}

-- A walk notes what is noted at each of its spots, in the order of the spots.
abbrev pub NotesAtSpots : Type 0 → Type 0 → Type 0
NotesAtSpots Around Note =
    (after : Around → ItemTree → Around) (enter : ℕ → ClassTree → MemberTree → Around) (notes : Notes Around Note) (program : ProgramTree)
    → noted after enter notes program ≡ flat_map (at_spot notes.at_term notes.at_item notes.at_member) (spots after enter program)

-- One walk for two rules notes of each kind as many as a walk for each.
abbrev pub NotesTogether : Type 0 → Type 0 → Type 0
NotesTogether Around Note =
    (after : Around → ItemTree → Around) (enter : ℕ → ClassTree → MemberTree → Around) (first second : Notes Around Note) (program : ProgramTree) (kind : Note → Bool)
    → count_by kind (noted after enter (both first second) program) ≡ count_by kind (noted after enter first program) + count_by kind (noted after enter second program)
