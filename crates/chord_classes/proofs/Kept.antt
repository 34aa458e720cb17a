-- A program that breaks no rule on names and types has bodies that keep to their types.
use Rattle.std.proofs.Common.{◌≡◌, ℕ, List, [], ◌∷◌, refl, sym, ◌∙◌, arith}
use Rattle.std.specs.Prelude.{flat_map, Contains}
use Rattle.chord_tree.specs.Tree.{ProgramTree}
use Rattle.chord_tree.specs.Walk.{Spot, AtTerm, AtItem, AtMember, spots, at_spot}
use Rattle.chord_tree.specs.Laws.{Notes}
use Rattle.chord_tree.proofs.Walks.{notes_at_spots}
use Rattle.chord_bodies.specs.Types.{BodyIs}
use Rattle.chord_classes.specs.Table.{table_of}
use Rattle.chord_classes.specs.Types.{signatures_of}
use Rattle.chord_classes.specs.Site.{Site, after, enter}
use Rattle.chord_classes.specs.Rules.{in_program, notes_02, notes_14, notes_15, notes_16, notes_17, notes_18, notes_19, notes_22, C02, C14, C15, C16, C17, C18, C19, C22, IsFree, is_type_rule}
use Rattle.chord_classes.specs.Resolve.{bodies_of}
use Rattle.chord_classes.specs.Laws.{TypesKept}
use Rattle.chord_classes.proofs.Every.{Every, every_get}
use Rattle.chord_classes.proofs.Facts.{left_nil, right_nil}
use Rattle.chord_classes.proofs.Free.{Free}
use Rattle.chord_classes.proofs.Declared.{table_declared}
use Rattle.chord_classes.proofs.Bodies.{classes_are, classes_free}

-- a list that contains nothing is empty
pub none_contained : (xs : List ℕ) → ((at : ℕ) → Contains xs at → ⊥) → xs ≡ []
none_contained [] h = refl
none_contained (x ∷ xs) h = absurd (h x (0, omega arith, refl))

-- what a rule notes at spots
abbrev at_all : Notes Site ℕ → List (Spot Site) → List ℕ
at_all notes ss = flat_map (at_spot notes.at_term notes.at_item notes.at_member) ss

-- no rule notes anything at these spots
record EmptyStmt (p : ProgramTree) (ss : List (Spot Site)) : Type 0 where
  by_02 : at_all (notes_02 p) ss ≡ []
  by_14 : at_all notes_14 ss ≡ []
  by_15 : at_all notes_15 ss ≡ []
  by_16 : at_all notes_16 ss ≡ []
  by_17 : at_all notes_17 ss ≡ []
  by_18 : at_all notes_18 ss ≡ []
  by_19 : at_all notes_19 ss ≡ []
  by_22 : at_all notes_22 ss ≡ []

-- what a rule notes at the first of some spots, and at the others
abbrev at_one : Notes Site ℕ → Spot Site → List ℕ
at_one notes s = at_spot notes.at_term notes.at_item notes.at_member s

-- where a rule notes nothing at spots, it notes nothing at the first
first : (notes : Notes Site ℕ) (s : Spot Site) (ss : List (Spot Site)) → at_all notes (s ∷ ss) ≡ [] → at_one notes s ≡ []
first notes s ss h = left_nil (at_one notes s) (at_all notes ss) h

-- where a rule notes nothing at spots, it notes nothing at those behind the first
others : (notes : Notes Site ℕ) (s : Spot Site) (ss : List (Spot Site)) → at_all notes (s ∷ ss) ≡ [] → at_all notes ss ≡ []
others notes s ss h = right_nil (at_one notes s) (at_all notes ss) h

-- where no rule notes anything at spots, none does at the spots behind the first
nothing_later : (p : ProgramTree) (s : Spot Site) (ss : List (Spot Site)) → EmptyStmt p (s ∷ ss) → EmptyStmt p ss
nothing_later p s ss n = record {
  by_02 = others (notes_02 p) s ss n.by_02;
  by_14 = others notes_14 s ss n.by_14;
  by_15 = others notes_15 s ss n.by_15;
  by_16 = others notes_16 s ss n.by_16;
  by_17 = others notes_17 s ss n.by_17;
  by_18 = others notes_18 s ss n.by_18;
  by_19 = others notes_19 s ss n.by_19;
  by_22 = others notes_22 s ss n.by_22;
}

-- where no rule notes anything at spots, none is broken at the first
free_here : (p : ProgramTree) (s : Spot Site) (ss : List (Spot Site)) → EmptyStmt p (s ∷ ss) → Free (table_of p) s
free_here p (AtTerm site role term) ss n = record {
  undeclared = first (notes_02 p) (AtTerm site role term) ss n.by_02;
  unknown = first notes_14 (AtTerm site role term) ss n.by_14;
  disagreeing = first notes_15 (AtTerm site role term) ss n.by_15;
  inaccessible = first notes_16 (AtTerm site role term) ss n.by_16;
  used_valueless = first notes_19 (AtTerm site role term) ss n.by_19;
  miscounted = first notes_22 (AtTerm site role term) ss n.by_22;
}
free_here p (AtItem site item) ss n = record {
  undeclared = first (notes_02 p) (AtItem site item) ss n.by_02;
  unknown = first notes_14 (AtItem site item) ss n.by_14;
  disagreeing = first notes_15 (AtItem site item) ss n.by_15;
  misreturned = first notes_18 (AtItem site item) ss n.by_18;
}
free_here p (AtMember class member) ss n = record {
  undeclared = first (notes_02 p) (AtMember class member) ss n.by_02;
  unreturned = first notes_17 (AtMember class member) ss n.by_17;
}

-- where no rule notes anything at spots, none is broken at each of them
all_free : (p : ProgramTree) (ss : List (Spot Site)) → EmptyStmt p ss → Every (Free (table_of p)) ss
all_free p [] n = tt
all_free p (s ∷ ss) n = (free_here p s ss n, all_free p ss (nothing_later p s ss n))

-- a rule that is not broken notes nothing at any spot
unbroken : (p : ProgramTree) (notes : Notes Site ℕ) → ((at : ℕ) → Contains (in_program p notes) at → ⊥) → at_all notes (spots after (enter (table_of p)) p) ≡ []
unbroken p notes h = sym (notes_at_spots after (enter (table_of p)) notes p) ∙ none_contained (in_program p notes) h

-- in a program that breaks no rule on names and types no rule notes anything at its spots
nothing_noted : (p : ProgramTree) → IsFree is_type_rule p → EmptyStmt p (spots after (enter (table_of p)) p)
nothing_noted p free = record {
  by_02 = unbroken p (notes_02 p) (λ at k. free 2 at refl (C02 at k));
  by_14 = unbroken p notes_14 (λ at k. free 14 at refl (C14 at k));
  by_15 = unbroken p notes_15 (λ at k. free 15 at refl (C15 at k));
  by_16 = unbroken p notes_16 (λ at k. free 16 at refl (C16 at k));
  by_17 = unbroken p notes_17 (λ at k. free 17 at refl (C17 at k));
  by_18 = unbroken p notes_18 (λ at k. free 18 at refl (C18 at k));
  by_19 = unbroken p notes_19 (λ at k. free 19 at refl (C19 at k));
  by_22 = unbroken p notes_22 (λ at k. free 22 at refl (C22 at k));
}

pub types_kept : TypesKept
types_kept p program free i b e =
    let h = all_free p (spots after (enter (table_of p)) p) (nothing_noted p free) in
    let declared = table_declared p (classes_free (table_of p) 0 p.classes h) in
    every_get (BodyIs (signatures_of p)) (bodies_of p) i b (classes_are (table_of p) 0 p.classes declared h) e
