-- The least number that is noted on one walk for all rules is the break of the program.
use Rattle.std.proofs.Common.{◌≡◌, ℕ, ◌+◌, ◌<◌, ◌≤◌, List, [], ◌∷◌, ◌++◌, true, false, refl, sym, subst, arith, inl, inr}
use Rattle.std.specs.Prelude.{◌*◌, flat_map}
use Rattle.std.proofs.lemmas.Bool.Decides.{leb_tells}
use Rattle.chord_tree.specs.Tree.{ProgramTree}
use Rattle.chord_tree.specs.Walk.{Spot, AtTerm, AtItem, AtMember, spots, at_spot}
use Rattle.chord_tree.specs.Laws.{Notes}
use Rattle.chord_tree.proofs.Walks.{notes_at_spots}
use Rattle.chord_classes.specs.Table.{table_of}
use Rattle.chord_classes.specs.Site.{Site, after, enter}
use Rattle.chord_classes.specs.Typed.{typed_term}
use Rattle.chord_classes.specs.NameRules.{undeclared, unknown, inaccessible, used_valueless, miscounted, too_large, too_long}
use Rattle.chord_classes.specs.TypeRules.{disagreeing}
use Rattle.chord_classes.specs.ItemRules.{undeclared_item, undeclared_member, unknown_item, disagreeing_item, misreturned, redeclared, unreturned}
use Rattle.chord_classes.specs.Rules.{in_program, is_type_rule, Broken, C01, C02, C03, C04, C05, C06, C07, C08, C09, C10, C11, C12, C13, C14, C15, C16, C17, C18, C19, C20, C21, C22, C23, C24, notes_02, notes_14, notes_15, notes_16, notes_17, notes_18, notes_19, notes_20, notes_22, notes_23, notes_24}
use Rattle.chord_classes.specs.Breaks.{IsNotAfter}
use Rattle.chord_classes.specs.Least.{keys}
use Rattle.chord_classes.proofs.Leasts.{IsIn, contains_in, in_contains, in_left, in_right, in_either, at_key, of_key, not_less, is_least, none_noted}
use Rattle.chord_classes.specs.AllNotes.{all_notes, LeastIsBreak}

-- a rule of this number, and what it notes
data IsRule (p : ProgramTree) : ℕ → Notes Site ℕ → Type 0 where
  Rule_02 : IsRule p 2 (notes_02 p)
  Rule_14 : IsRule p 14 notes_14
  Rule_15 : IsRule p 15 notes_15
  Rule_16 : IsRule p 16 notes_16
  Rule_17 : IsRule p 17 notes_17
  Rule_18 : IsRule p 18 notes_18
  Rule_19 : IsRule p 19 notes_19
  Rule_20 : IsRule p 20 notes_20
  Rule_22 : IsRule p 22 notes_22
  Rule_23 : IsRule p 23 notes_23
  Rule_24 : IsRule p 24 notes_24

-- what a rule notes at a spot
abbrev at_one : Notes Site ℕ → Spot Site → List ℕ
at_one notes s = at_spot notes.at_term notes.at_item notes.at_member s

-- what a rule notes at spots
abbrev at_all : Notes Site ℕ → List (Spot Site) → List ℕ
at_all notes ss = flat_map (at_one notes) ss

-- what a rule notes at a spot is noted with its number
keyed : (p : ProgramTree) (r : ℕ) (notes : Notes Site ℕ) (s : Spot Site) (at : ℕ) → IsRule p r notes → IsIn (at_one notes s) at → IsIn (at_one (all_notes p) s) (32 * at + r)
keyed p r notes (AtTerm site role term) at Rule_02 h = in_left (keys 2 (undeclared site (typed_term site term))) (keys 23 (too_large (typed_term site term)) ++ (keys 24 (too_long (typed_term site term)) ++ (keys 14 (unknown site role (typed_term site term)) ++ (keys 15 (disagreeing site (typed_term site term)) ++ (keys 16 (inaccessible site (typed_term site term)) ++ (keys 19 (used_valueless site role (typed_term site term)) ++ (keys 22 (miscounted site (typed_term site term))))))))) (32 * at + 2) (at_key 2 (undeclared site (typed_term site term)) at h)
keyed p r notes (AtTerm site role term) at Rule_14 h = in_right (keys 2 (undeclared site (typed_term site term))) (keys 23 (too_large (typed_term site term)) ++ (keys 24 (too_long (typed_term site term)) ++ (keys 14 (unknown site role (typed_term site term)) ++ (keys 15 (disagreeing site (typed_term site term)) ++ (keys 16 (inaccessible site (typed_term site term)) ++ (keys 19 (used_valueless site role (typed_term site term)) ++ (keys 22 (miscounted site (typed_term site term))))))))) (32 * at + 14) (in_right (keys 23 (too_large (typed_term site term))) (keys 24 (too_long (typed_term site term)) ++ (keys 14 (unknown site role (typed_term site term)) ++ (keys 15 (disagreeing site (typed_term site term)) ++ (keys 16 (inaccessible site (typed_term site term)) ++ (keys 19 (used_valueless site role (typed_term site term)) ++ (keys 22 (miscounted site (typed_term site term)))))))) (32 * at + 14) (in_right (keys 24 (too_long (typed_term site term))) (keys 14 (unknown site role (typed_term site term)) ++ (keys 15 (disagreeing site (typed_term site term)) ++ (keys 16 (inaccessible site (typed_term site term)) ++ (keys 19 (used_valueless site role (typed_term site term)) ++ (keys 22 (miscounted site (typed_term site term))))))) (32 * at + 14) (in_left (keys 14 (unknown site role (typed_term site term))) (keys 15 (disagreeing site (typed_term site term)) ++ (keys 16 (inaccessible site (typed_term site term)) ++ (keys 19 (used_valueless site role (typed_term site term)) ++ (keys 22 (miscounted site (typed_term site term)))))) (32 * at + 14) (at_key 14 (unknown site role (typed_term site term)) at h))))
keyed p r notes (AtTerm site role term) at Rule_15 h = in_right (keys 2 (undeclared site (typed_term site term))) (keys 23 (too_large (typed_term site term)) ++ (keys 24 (too_long (typed_term site term)) ++ (keys 14 (unknown site role (typed_term site term)) ++ (keys 15 (disagreeing site (typed_term site term)) ++ (keys 16 (inaccessible site (typed_term site term)) ++ (keys 19 (used_valueless site role (typed_term site term)) ++ (keys 22 (miscounted site (typed_term site term))))))))) (32 * at + 15) (in_right (keys 23 (too_large (typed_term site term))) (keys 24 (too_long (typed_term site term)) ++ (keys 14 (unknown site role (typed_term site term)) ++ (keys 15 (disagreeing site (typed_term site term)) ++ (keys 16 (inaccessible site (typed_term site term)) ++ (keys 19 (used_valueless site role (typed_term site term)) ++ (keys 22 (miscounted site (typed_term site term)))))))) (32 * at + 15) (in_right (keys 24 (too_long (typed_term site term))) (keys 14 (unknown site role (typed_term site term)) ++ (keys 15 (disagreeing site (typed_term site term)) ++ (keys 16 (inaccessible site (typed_term site term)) ++ (keys 19 (used_valueless site role (typed_term site term)) ++ (keys 22 (miscounted site (typed_term site term))))))) (32 * at + 15) (in_right (keys 14 (unknown site role (typed_term site term))) (keys 15 (disagreeing site (typed_term site term)) ++ (keys 16 (inaccessible site (typed_term site term)) ++ (keys 19 (used_valueless site role (typed_term site term)) ++ (keys 22 (miscounted site (typed_term site term)))))) (32 * at + 15) (in_left (keys 15 (disagreeing site (typed_term site term))) (keys 16 (inaccessible site (typed_term site term)) ++ (keys 19 (used_valueless site role (typed_term site term)) ++ (keys 22 (miscounted site (typed_term site term))))) (32 * at + 15) (at_key 15 (disagreeing site (typed_term site term)) at h)))))
keyed p r notes (AtTerm site role term) at Rule_16 h = in_right (keys 2 (undeclared site (typed_term site term))) (keys 23 (too_large (typed_term site term)) ++ (keys 24 (too_long (typed_term site term)) ++ (keys 14 (unknown site role (typed_term site term)) ++ (keys 15 (disagreeing site (typed_term site term)) ++ (keys 16 (inaccessible site (typed_term site term)) ++ (keys 19 (used_valueless site role (typed_term site term)) ++ (keys 22 (miscounted site (typed_term site term))))))))) (32 * at + 16) (in_right (keys 23 (too_large (typed_term site term))) (keys 24 (too_long (typed_term site term)) ++ (keys 14 (unknown site role (typed_term site term)) ++ (keys 15 (disagreeing site (typed_term site term)) ++ (keys 16 (inaccessible site (typed_term site term)) ++ (keys 19 (used_valueless site role (typed_term site term)) ++ (keys 22 (miscounted site (typed_term site term)))))))) (32 * at + 16) (in_right (keys 24 (too_long (typed_term site term))) (keys 14 (unknown site role (typed_term site term)) ++ (keys 15 (disagreeing site (typed_term site term)) ++ (keys 16 (inaccessible site (typed_term site term)) ++ (keys 19 (used_valueless site role (typed_term site term)) ++ (keys 22 (miscounted site (typed_term site term))))))) (32 * at + 16) (in_right (keys 14 (unknown site role (typed_term site term))) (keys 15 (disagreeing site (typed_term site term)) ++ (keys 16 (inaccessible site (typed_term site term)) ++ (keys 19 (used_valueless site role (typed_term site term)) ++ (keys 22 (miscounted site (typed_term site term)))))) (32 * at + 16) (in_right (keys 15 (disagreeing site (typed_term site term))) (keys 16 (inaccessible site (typed_term site term)) ++ (keys 19 (used_valueless site role (typed_term site term)) ++ (keys 22 (miscounted site (typed_term site term))))) (32 * at + 16) (in_left (keys 16 (inaccessible site (typed_term site term))) (keys 19 (used_valueless site role (typed_term site term)) ++ (keys 22 (miscounted site (typed_term site term)))) (32 * at + 16) (at_key 16 (inaccessible site (typed_term site term)) at h))))))
keyed p r notes (AtTerm site role term) at Rule_17 h = absurd h
keyed p r notes (AtTerm site role term) at Rule_18 h = absurd h
keyed p r notes (AtTerm site role term) at Rule_19 h = in_right (keys 2 (undeclared site (typed_term site term))) (keys 23 (too_large (typed_term site term)) ++ (keys 24 (too_long (typed_term site term)) ++ (keys 14 (unknown site role (typed_term site term)) ++ (keys 15 (disagreeing site (typed_term site term)) ++ (keys 16 (inaccessible site (typed_term site term)) ++ (keys 19 (used_valueless site role (typed_term site term)) ++ (keys 22 (miscounted site (typed_term site term))))))))) (32 * at + 19) (in_right (keys 23 (too_large (typed_term site term))) (keys 24 (too_long (typed_term site term)) ++ (keys 14 (unknown site role (typed_term site term)) ++ (keys 15 (disagreeing site (typed_term site term)) ++ (keys 16 (inaccessible site (typed_term site term)) ++ (keys 19 (used_valueless site role (typed_term site term)) ++ (keys 22 (miscounted site (typed_term site term)))))))) (32 * at + 19) (in_right (keys 24 (too_long (typed_term site term))) (keys 14 (unknown site role (typed_term site term)) ++ (keys 15 (disagreeing site (typed_term site term)) ++ (keys 16 (inaccessible site (typed_term site term)) ++ (keys 19 (used_valueless site role (typed_term site term)) ++ (keys 22 (miscounted site (typed_term site term))))))) (32 * at + 19) (in_right (keys 14 (unknown site role (typed_term site term))) (keys 15 (disagreeing site (typed_term site term)) ++ (keys 16 (inaccessible site (typed_term site term)) ++ (keys 19 (used_valueless site role (typed_term site term)) ++ (keys 22 (miscounted site (typed_term site term)))))) (32 * at + 19) (in_right (keys 15 (disagreeing site (typed_term site term))) (keys 16 (inaccessible site (typed_term site term)) ++ (keys 19 (used_valueless site role (typed_term site term)) ++ (keys 22 (miscounted site (typed_term site term))))) (32 * at + 19) (in_right (keys 16 (inaccessible site (typed_term site term))) (keys 19 (used_valueless site role (typed_term site term)) ++ (keys 22 (miscounted site (typed_term site term)))) (32 * at + 19) (in_left (keys 19 (used_valueless site role (typed_term site term))) (keys 22 (miscounted site (typed_term site term))) (32 * at + 19) (at_key 19 (used_valueless site role (typed_term site term)) at h)))))))
keyed p r notes (AtTerm site role term) at Rule_20 h = absurd h
keyed p r notes (AtTerm site role term) at Rule_22 h = in_right (keys 2 (undeclared site (typed_term site term))) (keys 23 (too_large (typed_term site term)) ++ (keys 24 (too_long (typed_term site term)) ++ (keys 14 (unknown site role (typed_term site term)) ++ (keys 15 (disagreeing site (typed_term site term)) ++ (keys 16 (inaccessible site (typed_term site term)) ++ (keys 19 (used_valueless site role (typed_term site term)) ++ (keys 22 (miscounted site (typed_term site term))))))))) (32 * at + 22) (in_right (keys 23 (too_large (typed_term site term))) (keys 24 (too_long (typed_term site term)) ++ (keys 14 (unknown site role (typed_term site term)) ++ (keys 15 (disagreeing site (typed_term site term)) ++ (keys 16 (inaccessible site (typed_term site term)) ++ (keys 19 (used_valueless site role (typed_term site term)) ++ (keys 22 (miscounted site (typed_term site term)))))))) (32 * at + 22) (in_right (keys 24 (too_long (typed_term site term))) (keys 14 (unknown site role (typed_term site term)) ++ (keys 15 (disagreeing site (typed_term site term)) ++ (keys 16 (inaccessible site (typed_term site term)) ++ (keys 19 (used_valueless site role (typed_term site term)) ++ (keys 22 (miscounted site (typed_term site term))))))) (32 * at + 22) (in_right (keys 14 (unknown site role (typed_term site term))) (keys 15 (disagreeing site (typed_term site term)) ++ (keys 16 (inaccessible site (typed_term site term)) ++ (keys 19 (used_valueless site role (typed_term site term)) ++ (keys 22 (miscounted site (typed_term site term)))))) (32 * at + 22) (in_right (keys 15 (disagreeing site (typed_term site term))) (keys 16 (inaccessible site (typed_term site term)) ++ (keys 19 (used_valueless site role (typed_term site term)) ++ (keys 22 (miscounted site (typed_term site term))))) (32 * at + 22) (in_right (keys 16 (inaccessible site (typed_term site term))) (keys 19 (used_valueless site role (typed_term site term)) ++ (keys 22 (miscounted site (typed_term site term)))) (32 * at + 22) (in_right (keys 19 (used_valueless site role (typed_term site term))) (keys 22 (miscounted site (typed_term site term))) (32 * at + 22) (at_key 22 (miscounted site (typed_term site term)) at h)))))))
keyed p r notes (AtTerm site role term) at Rule_23 h = in_right (keys 2 (undeclared site (typed_term site term))) (keys 23 (too_large (typed_term site term)) ++ (keys 24 (too_long (typed_term site term)) ++ (keys 14 (unknown site role (typed_term site term)) ++ (keys 15 (disagreeing site (typed_term site term)) ++ (keys 16 (inaccessible site (typed_term site term)) ++ (keys 19 (used_valueless site role (typed_term site term)) ++ (keys 22 (miscounted site (typed_term site term))))))))) (32 * at + 23) (in_left (keys 23 (too_large (typed_term site term))) (keys 24 (too_long (typed_term site term)) ++ (keys 14 (unknown site role (typed_term site term)) ++ (keys 15 (disagreeing site (typed_term site term)) ++ (keys 16 (inaccessible site (typed_term site term)) ++ (keys 19 (used_valueless site role (typed_term site term)) ++ (keys 22 (miscounted site (typed_term site term)))))))) (32 * at + 23) (at_key 23 (too_large (typed_term site term)) at h))
keyed p r notes (AtTerm site role term) at Rule_24 h = in_right (keys 2 (undeclared site (typed_term site term))) (keys 23 (too_large (typed_term site term)) ++ (keys 24 (too_long (typed_term site term)) ++ (keys 14 (unknown site role (typed_term site term)) ++ (keys 15 (disagreeing site (typed_term site term)) ++ (keys 16 (inaccessible site (typed_term site term)) ++ (keys 19 (used_valueless site role (typed_term site term)) ++ (keys 22 (miscounted site (typed_term site term))))))))) (32 * at + 24) (in_right (keys 23 (too_large (typed_term site term))) (keys 24 (too_long (typed_term site term)) ++ (keys 14 (unknown site role (typed_term site term)) ++ (keys 15 (disagreeing site (typed_term site term)) ++ (keys 16 (inaccessible site (typed_term site term)) ++ (keys 19 (used_valueless site role (typed_term site term)) ++ (keys 22 (miscounted site (typed_term site term)))))))) (32 * at + 24) (in_left (keys 24 (too_long (typed_term site term))) (keys 14 (unknown site role (typed_term site term)) ++ (keys 15 (disagreeing site (typed_term site term)) ++ (keys 16 (inaccessible site (typed_term site term)) ++ (keys 19 (used_valueless site role (typed_term site term)) ++ (keys 22 (miscounted site (typed_term site term))))))) (32 * at + 24) (at_key 24 (too_long (typed_term site term)) at h)))
keyed p r notes (AtItem site item) at Rule_02 h = in_left (keys 2 (undeclared_item site item)) (keys 14 (unknown_item site item) ++ (keys 15 (disagreeing_item site item) ++ (keys 18 (misreturned site item) ++ (keys 20 (redeclared site item))))) (32 * at + 2) (at_key 2 (undeclared_item site item) at h)
keyed p r notes (AtItem site item) at Rule_14 h = in_right (keys 2 (undeclared_item site item)) (keys 14 (unknown_item site item) ++ (keys 15 (disagreeing_item site item) ++ (keys 18 (misreturned site item) ++ (keys 20 (redeclared site item))))) (32 * at + 14) (in_left (keys 14 (unknown_item site item)) (keys 15 (disagreeing_item site item) ++ (keys 18 (misreturned site item) ++ (keys 20 (redeclared site item)))) (32 * at + 14) (at_key 14 (unknown_item site item) at h))
keyed p r notes (AtItem site item) at Rule_15 h = in_right (keys 2 (undeclared_item site item)) (keys 14 (unknown_item site item) ++ (keys 15 (disagreeing_item site item) ++ (keys 18 (misreturned site item) ++ (keys 20 (redeclared site item))))) (32 * at + 15) (in_right (keys 14 (unknown_item site item)) (keys 15 (disagreeing_item site item) ++ (keys 18 (misreturned site item) ++ (keys 20 (redeclared site item)))) (32 * at + 15) (in_left (keys 15 (disagreeing_item site item)) (keys 18 (misreturned site item) ++ (keys 20 (redeclared site item))) (32 * at + 15) (at_key 15 (disagreeing_item site item) at h)))
keyed p r notes (AtItem site item) at Rule_16 h = absurd h
keyed p r notes (AtItem site item) at Rule_17 h = absurd h
keyed p r notes (AtItem site item) at Rule_18 h = in_right (keys 2 (undeclared_item site item)) (keys 14 (unknown_item site item) ++ (keys 15 (disagreeing_item site item) ++ (keys 18 (misreturned site item) ++ (keys 20 (redeclared site item))))) (32 * at + 18) (in_right (keys 14 (unknown_item site item)) (keys 15 (disagreeing_item site item) ++ (keys 18 (misreturned site item) ++ (keys 20 (redeclared site item)))) (32 * at + 18) (in_right (keys 15 (disagreeing_item site item)) (keys 18 (misreturned site item) ++ (keys 20 (redeclared site item))) (32 * at + 18) (in_left (keys 18 (misreturned site item)) (keys 20 (redeclared site item)) (32 * at + 18) (at_key 18 (misreturned site item) at h))))
keyed p r notes (AtItem site item) at Rule_19 h = absurd h
keyed p r notes (AtItem site item) at Rule_20 h = in_right (keys 2 (undeclared_item site item)) (keys 14 (unknown_item site item) ++ (keys 15 (disagreeing_item site item) ++ (keys 18 (misreturned site item) ++ (keys 20 (redeclared site item))))) (32 * at + 20) (in_right (keys 14 (unknown_item site item)) (keys 15 (disagreeing_item site item) ++ (keys 18 (misreturned site item) ++ (keys 20 (redeclared site item)))) (32 * at + 20) (in_right (keys 15 (disagreeing_item site item)) (keys 18 (misreturned site item) ++ (keys 20 (redeclared site item))) (32 * at + 20) (in_right (keys 18 (misreturned site item)) (keys 20 (redeclared site item)) (32 * at + 20) (at_key 20 (redeclared site item) at h))))
keyed p r notes (AtItem site item) at Rule_22 h = absurd h
keyed p r notes (AtItem site item) at Rule_23 h = absurd h
keyed p r notes (AtItem site item) at Rule_24 h = absurd h
keyed p r notes (AtMember class member) at Rule_02 h = in_left (keys 2 (undeclared_member (table_of p) member)) (keys 17 (unreturned member)) (32 * at + 2) (at_key 2 (undeclared_member (table_of p) member) at h)
keyed p r notes (AtMember class member) at Rule_14 h = absurd h
keyed p r notes (AtMember class member) at Rule_15 h = absurd h
keyed p r notes (AtMember class member) at Rule_16 h = absurd h
keyed p r notes (AtMember class member) at Rule_17 h = in_right (keys 2 (undeclared_member (table_of p) member)) (keys 17 (unreturned member)) (32 * at + 17) (at_key 17 (unreturned member) at h)
keyed p r notes (AtMember class member) at Rule_18 h = absurd h
keyed p r notes (AtMember class member) at Rule_19 h = absurd h
keyed p r notes (AtMember class member) at Rule_20 h = absurd h
keyed p r notes (AtMember class member) at Rule_22 h = absurd h
keyed p r notes (AtMember class member) at Rule_23 h = absurd h
keyed p r notes (AtMember class member) at Rule_24 h = absurd h

-- what is noted at a spot is what a rule notes there
record Says (p : ProgramTree) (f : Notes Site ℕ → List ℕ) (k : ℕ) : Type 0 where
  rule : ℕ
  at : ℕ
  notes : Notes Site ℕ
  is : IsRule p rule notes
  key : k ≡ 32 * at + rule
  said : IsIn (f notes) at

-- each number that is noted at a spot is that of a rule and of a token that the rule notes there
says : (p : ProgramTree) (s : Spot Site) (k : ℕ) → IsIn (at_one (all_notes p) s) k → Says p (λ notes. at_one notes s) k
says p (AtTerm site role term) k h = elim (in_either (keys 2 (undeclared site (typed_term site term))) (keys 23 (too_large (typed_term site term)) ++ (keys 24 (too_long (typed_term site term)) ++ (keys 14 (unknown site role (typed_term site term)) ++ (keys 15 (disagreeing site (typed_term site term)) ++ (keys 16 (inaccessible site (typed_term site term)) ++ (keys 19 (used_valueless site role (typed_term site term)) ++ (keys 22 (miscounted site (typed_term site term))))))))) k h) [ inl a ↦ (let x = of_key 2 (undeclared site (typed_term site term)) k a in record { rule = 2; at = x.0; notes = (notes_02 p); is = Rule_02; key = x.1; said = x.2 }) | inr b0 ↦ elim (in_either (keys 23 (too_large (typed_term site term))) (keys 24 (too_long (typed_term site term)) ++ (keys 14 (unknown site role (typed_term site term)) ++ (keys 15 (disagreeing site (typed_term site term)) ++ (keys 16 (inaccessible site (typed_term site term)) ++ (keys 19 (used_valueless site role (typed_term site term)) ++ (keys 22 (miscounted site (typed_term site term)))))))) k b0) [ inl a ↦ (let x = of_key 23 (too_large (typed_term site term)) k a in record { rule = 23; at = x.0; notes = notes_23; is = Rule_23; key = x.1; said = x.2 }) | inr b1 ↦ elim (in_either (keys 24 (too_long (typed_term site term))) (keys 14 (unknown site role (typed_term site term)) ++ (keys 15 (disagreeing site (typed_term site term)) ++ (keys 16 (inaccessible site (typed_term site term)) ++ (keys 19 (used_valueless site role (typed_term site term)) ++ (keys 22 (miscounted site (typed_term site term))))))) k b1) [ inl a ↦ (let x = of_key 24 (too_long (typed_term site term)) k a in record { rule = 24; at = x.0; notes = notes_24; is = Rule_24; key = x.1; said = x.2 }) | inr b2 ↦ elim (in_either (keys 14 (unknown site role (typed_term site term))) (keys 15 (disagreeing site (typed_term site term)) ++ (keys 16 (inaccessible site (typed_term site term)) ++ (keys 19 (used_valueless site role (typed_term site term)) ++ (keys 22 (miscounted site (typed_term site term)))))) k b2) [ inl a ↦ (let x = of_key 14 (unknown site role (typed_term site term)) k a in record { rule = 14; at = x.0; notes = notes_14; is = Rule_14; key = x.1; said = x.2 }) | inr b3 ↦ elim (in_either (keys 15 (disagreeing site (typed_term site term))) (keys 16 (inaccessible site (typed_term site term)) ++ (keys 19 (used_valueless site role (typed_term site term)) ++ (keys 22 (miscounted site (typed_term site term))))) k b3) [ inl a ↦ (let x = of_key 15 (disagreeing site (typed_term site term)) k a in record { rule = 15; at = x.0; notes = notes_15; is = Rule_15; key = x.1; said = x.2 }) | inr b4 ↦ elim (in_either (keys 16 (inaccessible site (typed_term site term))) (keys 19 (used_valueless site role (typed_term site term)) ++ (keys 22 (miscounted site (typed_term site term)))) k b4) [ inl a ↦ (let x = of_key 16 (inaccessible site (typed_term site term)) k a in record { rule = 16; at = x.0; notes = notes_16; is = Rule_16; key = x.1; said = x.2 }) | inr b5 ↦ elim (in_either (keys 19 (used_valueless site role (typed_term site term))) (keys 22 (miscounted site (typed_term site term))) k b5) [ inl a ↦ (let x = of_key 19 (used_valueless site role (typed_term site term)) k a in record { rule = 19; at = x.0; notes = notes_19; is = Rule_19; key = x.1; said = x.2 }) | inr b6 ↦ (let x = of_key 22 (miscounted site (typed_term site term)) k b6 in record { rule = 22; at = x.0; notes = notes_22; is = Rule_22; key = x.1; said = x.2 }) ] ] ] ] ] ] ]
says p (AtItem site item) k h = elim (in_either (keys 2 (undeclared_item site item)) (keys 14 (unknown_item site item) ++ (keys 15 (disagreeing_item site item) ++ (keys 18 (misreturned site item) ++ (keys 20 (redeclared site item))))) k h) [ inl a ↦ (let x = of_key 2 (undeclared_item site item) k a in record { rule = 2; at = x.0; notes = (notes_02 p); is = Rule_02; key = x.1; said = x.2 }) | inr b0 ↦ elim (in_either (keys 14 (unknown_item site item)) (keys 15 (disagreeing_item site item) ++ (keys 18 (misreturned site item) ++ (keys 20 (redeclared site item)))) k b0) [ inl a ↦ (let x = of_key 14 (unknown_item site item) k a in record { rule = 14; at = x.0; notes = notes_14; is = Rule_14; key = x.1; said = x.2 }) | inr b1 ↦ elim (in_either (keys 15 (disagreeing_item site item)) (keys 18 (misreturned site item) ++ (keys 20 (redeclared site item))) k b1) [ inl a ↦ (let x = of_key 15 (disagreeing_item site item) k a in record { rule = 15; at = x.0; notes = notes_15; is = Rule_15; key = x.1; said = x.2 }) | inr b2 ↦ elim (in_either (keys 18 (misreturned site item)) (keys 20 (redeclared site item)) k b2) [ inl a ↦ (let x = of_key 18 (misreturned site item) k a in record { rule = 18; at = x.0; notes = notes_18; is = Rule_18; key = x.1; said = x.2 }) | inr b3 ↦ (let x = of_key 20 (redeclared site item) k b3 in record { rule = 20; at = x.0; notes = notes_20; is = Rule_20; key = x.1; said = x.2 }) ] ] ] ]
says p (AtMember class member) k h = elim (in_either (keys 2 (undeclared_member (table_of p) member)) (keys 17 (unreturned member)) k h) [ inl a ↦ (let x = of_key 2 (undeclared_member (table_of p) member) k a in record { rule = 2; at = x.0; notes = (notes_02 p); is = Rule_02; key = x.1; said = x.2 }) | inr b0 ↦ (let x = of_key 17 (unreturned member) k b0 in record { rule = 17; at = x.0; notes = notes_17; is = Rule_17; key = x.1; said = x.2 }) ]

-- what a rule notes at spots is noted there with the rule's number
keyed_all : (p : ProgramTree) (r : ℕ) (notes : Notes Site ℕ) (ss : List (Spot Site)) (at : ℕ) → IsRule p r notes → IsIn (at_all notes ss) at → IsIn (at_all (all_notes p) ss) (32 * at + r)
keyed_all p r notes [] at rule h = absurd h
keyed_all p r notes (s ∷ ss) at rule h =
    elim (in_either (at_one notes s) (at_all notes ss) at h) [
      | inl a ↦ in_left (at_one (all_notes p) s) (at_all (all_notes p) ss) (32 * at + r) (keyed p r notes s at rule a)
      | inr b ↦ in_right (at_one (all_notes p) s) (at_all (all_notes p) ss) (32 * at + r) (keyed_all p r notes ss at rule b)
    ]

-- each number that is noted at spots is that of a rule and of a token that the rule notes there
says_all : (p : ProgramTree) (ss : List (Spot Site)) (k : ℕ) → IsIn (at_all (all_notes p) ss) k → Says p (λ notes. at_all notes ss) k
says_all p [] k h = absurd h
says_all p (s ∷ ss) k h =
    elim (in_either (at_one (all_notes p) s) (at_all (all_notes p) ss) k h) [
      | inl a ↦ (let x = says p s k a in record { rule = x.rule; at = x.at; notes = x.notes; is = x.is; key = x.key; said = in_left (at_one x.notes s) (at_all x.notes ss) x.at x.said })
      | inr b ↦ (let x = says_all p ss k b in record { rule = x.rule; at = x.at; notes = x.notes; is = x.is; key = x.key; said = in_right (at_one x.notes s) (at_all x.notes ss) x.at x.said })
    ]

-- the spots of a program
abbrev all_spots : ProgramTree → List (Spot Site)
all_spots p = spots after (enter (table_of p)) p

-- what a rule notes in a program is what it notes at the program's spots
at_spots : (p : ProgramTree) (notes : Notes Site ℕ) → in_program p notes ≡ at_all notes (all_spots p)
at_spots p notes = notes_at_spots after (enter (table_of p)) notes p

-- a rule that notes is broken
breaks : (p : ProgramTree) (r : ℕ) (notes : Notes Site ℕ) (at : ℕ) → IsRule p r notes → IsIn (in_program p notes) at → Broken p r at
breaks p r notes at Rule_02 h = C02 at (contains_in (in_program p (notes_02 p)) at h)
breaks p r notes at Rule_14 h = C14 at (contains_in (in_program p notes_14) at h)
breaks p r notes at Rule_15 h = C15 at (contains_in (in_program p notes_15) at h)
breaks p r notes at Rule_16 h = C16 at (contains_in (in_program p notes_16) at h)
breaks p r notes at Rule_17 h = C17 at (contains_in (in_program p notes_17) at h)
breaks p r notes at Rule_18 h = C18 at (contains_in (in_program p notes_18) at h)
breaks p r notes at Rule_19 h = C19 at (contains_in (in_program p notes_19) at h)
breaks p r notes at Rule_20 h = C20 at (contains_in (in_program p notes_20) at h)
breaks p r notes at Rule_22 h = C22 at (contains_in (in_program p notes_22) at h)
breaks p r notes at Rule_23 h = C23 at (contains_in (in_program p notes_23) at h)
breaks p r notes at Rule_24 h = C24 at (contains_in (in_program p notes_24) at h)

-- each rule that notes is one on names and types, and its number is below 32
is_type : (p : ProgramTree) (r : ℕ) (notes : Notes Site ℕ) → IsRule p r notes → (is_type_rule r ≡ true) × (r < 32)
is_type p r notes Rule_02 = (refl, omega arith)
is_type p r notes Rule_14 = (refl, omega arith)
is_type p r notes Rule_15 = (refl, omega arith)
is_type p r notes Rule_16 = (refl, omega arith)
is_type p r notes Rule_17 = (refl, omega arith)
is_type p r notes Rule_18 = (refl, omega arith)
is_type p r notes Rule_19 = (refl, omega arith)
is_type p r notes Rule_20 = (refl, omega arith)
is_type p r notes Rule_22 = (refl, omega arith)
is_type p r notes Rule_23 = (refl, omega arith)
is_type p r notes Rule_24 = (refl, omega arith)

-- false is not true
false_true : false ≡ true → ⊥
false_true e = cc

-- a rule on names and types that is broken is noted
record IsNoted (p : ProgramTree) (r at : ℕ) : Type 0 where
  notes : Notes Site ℕ
  is : IsRule p r notes
  said : IsIn (in_program p notes) at

-- a rule on names and types that a program breaks at a token notes that token
is_noted : (p : ProgramTree) (r at : ℕ) → is_type_rule r ≡ true → Broken p r at → IsNoted p r at
is_noted p r at e (C01 k h) = absurd (false_true e)
is_noted p r at e (C02 k h) = record { notes = (notes_02 p); is = Rule_02; said = in_contains (in_program p (notes_02 p)) k h }
is_noted p r at e (C03 k h) = absurd (false_true e)
is_noted p r at e (C04 k h) = absurd (false_true e)
is_noted p r at e (C05 k h) = absurd (false_true e)
is_noted p r at e (C06 k h) = absurd (false_true e)
is_noted p r at e (C07 k h) = absurd (false_true e)
is_noted p r at e (C08 k h) = absurd (false_true e)
is_noted p r at e (C09 k h) = absurd (false_true e)
is_noted p r at e (C10 k h) = absurd (false_true e)
is_noted p r at e (C11 k h) = absurd (false_true e)
is_noted p r at e (C12 k h) = absurd (false_true e)
is_noted p r at e (C13 k h) = absurd (false_true e)
is_noted p r at e (C14 k h) = record { notes = notes_14; is = Rule_14; said = in_contains (in_program p notes_14) k h }
is_noted p r at e (C15 k h) = record { notes = notes_15; is = Rule_15; said = in_contains (in_program p notes_15) k h }
is_noted p r at e (C16 k h) = record { notes = notes_16; is = Rule_16; said = in_contains (in_program p notes_16) k h }
is_noted p r at e (C17 k h) = record { notes = notes_17; is = Rule_17; said = in_contains (in_program p notes_17) k h }
is_noted p r at e (C18 k h) = record { notes = notes_18; is = Rule_18; said = in_contains (in_program p notes_18) k h }
is_noted p r at e (C19 k h) = record { notes = notes_19; is = Rule_19; said = in_contains (in_program p notes_19) k h }
is_noted p r at e (C20 k h) = record { notes = notes_20; is = Rule_20; said = in_contains (in_program p notes_20) k h }
is_noted p r at e (C21 k h) = absurd (false_true e)
is_noted p r at e (C22 k h) = record { notes = notes_22; is = Rule_22; said = in_contains (in_program p notes_22) k h }
is_noted p r at e (C23 k h) = record { notes = notes_23; is = Rule_23; said = in_contains (in_program p notes_23) k h }
is_noted p r at e (C24 k h) = record { notes = notes_24; is = Rule_24; said = in_contains (in_program p notes_24) k h }

-- a break of a rule on names and types is among the numbers that are noted, and the rule's own number is below 32
noted_key : (p : ProgramTree) (r at : ℕ) → is_type_rule r ≡ true → Broken p r at → IsIn (in_program p (all_notes p)) (32 * at + r) × (r < 32)
noted_key p r at e b =
    let n = is_noted p r at e b in
    (subst (λ z. IsIn z (32 * at + r)) (sym (at_spots p (all_notes p))) (keyed_all p r n.notes (all_spots p) at n.is (subst (λ z. IsIn z at) (at_spots p n.notes) n.said)), (is_type p r n.notes n.is).1)

-- a break whose number is not greater than that of another is not after it
first_of : (r k s l : ℕ) → 32 * k + r ≤ 32 * l + s → r < 32 → s < 32 → IsNotAfter r k s l
first_of r k s l h a b = elim (leb_tells l k) [ inl (t, g) ↦ inr (omega arith, omega arith) | inr (t, g) ↦ inl (omega arith) ]

-- breaks of one number are of one rule at one token
same_rule : (r k s l : ℕ) → 32 * k + r ≡ 32 * l + s → r < 32 → s < 32 → (r ≡ s) × (k ≡ l)
same_rule r k s l h a b = (omega arith, omega arith)

pub least_is_break : LeastIsBreak
least_is_break p = record {
  some = λ rule at e small.
      let least_is = is_least (in_program p (all_notes p)) (32 * at + rule) e in
      let x = says_all p (all_spots p) (32 * at + rule) (subst (λ z. IsIn z (32 * at + rule)) (at_spots p (all_notes p)) least_is.0) in
      let same = same_rule rule at x.rule x.at x.key small (is_type p x.rule x.notes x.is).1 in
      let b : Broken p x.rule x.at = breaks p x.rule x.notes x.at x.is (subst (λ z. IsIn z x.at) (sym (at_spots p x.notes)) x.said) in
      record {
        is_mine = subst (λ z. is_type_rule z ≡ true) (sym same.0) (is_type p x.rule x.notes x.is).0;
        broken = subst (λ z. Broken p z at) (sym same.0) (subst (λ z. Broken p x.rule z) (sym same.1) b);
        first = λ s l h c. let n = noted_key p s l h c in first_of rule at s l (not_less (in_program p (all_notes p)) (32 * at + rule) (32 * l + s) least_is.1 n.0) small n.1;
      };
  none = λ e rule at m b. none_noted (in_program p (all_notes p)) (32 * at + rule) e (noted_key p rule at m b).0;
}
