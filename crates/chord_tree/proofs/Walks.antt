-- Two rules on one walk: of each kind they note as many as on a walk each.
use Rattle.std.proofs.Common.{◌≡◌, ℕ, Bool, cond, List, [], ◌∷◌, ◌++◌, ◌+◌, refl, ap, ap₂, sym, ◌∙◌, count_by, flat_map, arith}
use Rattle.std.proofs.lemmas.List.Sums.{sum_by-append}
use Rattle.chord_tree.specs.Walk.{Spot, AtTerm, AtItem, AtMember, spots, at_spot}
use Rattle.chord_tree.specs.Laws.{Notes, both, NotesAtSpots, NotesTogether}
use Rattle.chord_tree.proofs.Spots.{program_spots}

module _ {Note : Type 0} (kind : Note → Bool) where
  -- how many of the notes are of the kind
  abbrev counted : List Note → ℕ
  counted = count_by kind

  -- two lists of notes, one behind the other, have as many of the kind as the two together
  joined : (a b : List Note) → counted (a ++ b) ≡ counted a + counted b
  joined a b = sum_by-append (λ x. cond (kind x) 1 0) a b

  -- a and b at one spot, and then the spots others it
  two_at_a_spot : (a b all one other : List Note) → counted all ≡ counted one + counted other → counted ((a ++ b) ++ all) ≡ counted (a ++ one) + counted (b ++ other)
  two_at_a_spot a b all one other others = omega (arith, joined (a ++ b) all, joined a b, joined a one, joined b other, others)

  module _ {Around : Type 0} (first second : Notes Around Note) where
    -- what a rule notes at a spot
    abbrev at : Notes Around Note → Spot Around → List Note
    at notes = at_spot notes.at_term notes.at_item notes.at_member

    -- at some spots two rules on one walk note as many of the kind as on a walk each
    at_spots : (ss : List (Spot Around)) → counted (flat_map (at (both first second)) ss) ≡ counted (flat_map (at first) ss) + counted (flat_map (at second) ss)
    at_spots [] = refl
    at_spots (AtTerm around role term ∷ ss) = two_at_a_spot (first.at_term around role term) (second.at_term around role term) _ _ _ (at_spots ss)
    at_spots (AtItem around item ∷ ss) = two_at_a_spot (first.at_item around item) (second.at_item around item) _ _ _ (at_spots ss)
    at_spots (AtMember class member ∷ ss) = two_at_a_spot (first.at_member class member) (second.at_member class member) _ _ _ (at_spots ss)

-- a walk notes what is noted at its spots
pub notes_at_spots : {Around Note : Type 0} → NotesAtSpots Around Note
notes_at_spots after enter notes program = program_spots after notes.at_term notes.at_item notes.at_member enter program

-- one walk for two rules notes as many as two walks
pub notes_together : {Around Note : Type 0} → NotesTogether Around Note
notes_together after enter first second program kind =
    ap (count_by kind) (notes_at_spots after enter (both first second) program) ∙ at_spots kind first second (spots after enter program)
    ∙ ap₂ (λ m n. m + n) (ap (count_by kind) (sym (notes_at_spots after enter first program))) (ap (count_by kind) (sym (notes_at_spots after enter second program)))
