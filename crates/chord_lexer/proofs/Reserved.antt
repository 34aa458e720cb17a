-- Reserved words, looked up by their first letter.
use Rattle.std.proofs.Common.{sym, ◌∙◌, ne_eqb, nat_eq, ◌≡◌, ℕ, zero, suc, ◌+◌, ◌<◌, true, false, List, [], ◌∷◌, length, drop, get_or, map, refl, arith, add-one, Some, inl, inr}
use Rattle.std.proofs.lemmas.Bool.{cases_Bool}
use Rattle.std.proofs.lemmas.Bool.Decides.{eqb_tells}
use Rattle.std.specs.Prelude.{bytes_eq}
use Rattle.chord_lexer.specs.declared.token.Keyword.{Keyword}
use Rattle.chord_lexer.specs.Identifiers.{find_reserved, keyword_of}
use Rattle.chord_lexer.specs.Scanning.{reserved_with}
use Rattle.chord_lexer.proofs.Runs.{and_right}

-- the reserved words that begin with a byte are enough to look up an identifier that begins with it
by_letter : (b : ℕ) (bs : List ℕ) → find_reserved (reserved_with b) (b ∷ bs) ≡ keyword_of (b ∷ bs)
unfolding keyword_of
by_letter b bs =
    elim (eqb_tells b 97) [
      | inl e0 ↦ rw e0.1 refl
      | inr e0 ↦
          elim (eqb_tells b 98) [
            | inl e1 ↦ rw e1.1 refl
            | inr e1 ↦
                elim (eqb_tells b 99) [
                  | inl e2 ↦ rw e2.1 refl
                  | inr e2 ↦
                      elim (eqb_tells b 100) [
                        | inl e3 ↦ rw e3.1 refl
                        | inr e3 ↦
                            elim (eqb_tells b 101) [
                              | inl e4 ↦ rw e4.1 refl
                              | inr e4 ↦
                                  elim (eqb_tells b 102) [
                                    | inl e5 ↦ rw e5.1 refl
                                    | inr e5 ↦
                                        elim (eqb_tells b 103) [
                                          | inl e6 ↦ rw e6.1 refl
                                          | inr e6 ↦
                                              elim (eqb_tells b 105) [
                                                | inl e7 ↦ rw e7.1 refl
                                                | inr e7 ↦
                                                    elim (eqb_tells b 108) [
                                                      | inl e8 ↦ rw e8.1 refl
                                                      | inr e8 ↦
                                                          elim (eqb_tells b 110) [
                                                            | inl e9 ↦ rw e9.1 refl
                                                            | inr e9 ↦
                                                                elim (eqb_tells b 111) [
                                                                  | inl e10 ↦ rw e10.1 refl
                                                                  | inr e10 ↦
                                                                      elim (eqb_tells b 112) [
                                                                        | inl e11 ↦ rw e11.1 refl
                                                                        | inr e11 ↦
                                                                            elim (eqb_tells b 114) [
                                                                              | inl e12 ↦ rw e12.1 refl
                                                                              | inr e12 ↦
                                                                                  elim (eqb_tells b 115) [
                                                                                    | inl e13 ↦ rw e13.1 refl
                                                                                    | inr e13 ↦
                                                                                        elim (eqb_tells b 116) [
                                                                                          | inl e14 ↦ rw e14.1 refl
                                                                                          | inr e14 ↦
                                                                                              elim (eqb_tells b 117) [
                                                                                                | inl e15 ↦ rw e15.1 refl
                                                                                                | inr e15 ↦
                                                                                                    elim (eqb_tells b 118) [
                                                                                                      | inl e16 ↦ rw e16.1 refl
                                                                                                      | inr e16 ↦
                                                                                                          elim (eqb_tells b 119) [
                                                                                                            | inl e17 ↦ rw e17.1 refl
                                                                                                            | inr e17 ↦
                                                                                                                rw (e0.0, e1.0, e2.0, e3.0, e4.0, e5.0, e6.0, e7.0, e8.0, e9.0, e10.0, e11.0, e12.0, e13.0, e14.0, e15.0, e16.0, e17.0) refl
                                                                                                          ]
                                                                                                    ]
                                                                                              ]
                                                                                        ]
                                                                                  ]
                                                                            ]
                                                                      ]
                                                                ]
                                                          ]
                                                    ]
                                              ]
                                        ]
                                  ]
                            ]
                      ]
                ]
          ]
    ]

-- the reserved words that begin with its first letter are enough to look a word up
pub by_first : (identifier : List ℕ) → 0 < length identifier → find_reserved (reserved_with (get_or identifier 0 0)) identifier ≡ keyword_of identifier
by_first [] l = absurd (omega arith)
by_first (b ∷ bs) l = by_letter b bs

-- the identifiers of a table from one of its places on: the identifier is the one there, or it is looked for after it
pub entry_here : {X : Type 0} (entry : X → List ℕ × Keyword) (table : List X) (identifier : List ℕ) (i : ℕ) (d : X) → i < length table → bytes_eq identifier (entry (get_or table i d)).0 ≡ true → find_reserved (drop i (map entry table)) identifier ≡ Some (entry (get_or table i d)).1
entry_here entry [] identifier i d l e = absurd (omega arith)
entry_here entry (x ∷ table) identifier zero d l e = rw e refl
entry_here entry (x ∷ table) identifier (suc i) d l e = entry_here entry table identifier i d (omega arith) e

-- where the entry at a place is of another word, the entries from there on have for the identifier what those after it have
not_here : {X : Type 0} (entry : X → List ℕ × Keyword) (table : List X) (identifier : List ℕ) (i : ℕ) (d : X) → i < length table → bytes_eq identifier (entry (get_or table i d)).0 ≡ false → find_reserved (drop i (map entry table)) identifier ≡ find_reserved (drop (suc i) (map entry table)) identifier
not_here entry [] identifier i d l e = absurd (omega arith)
not_here entry (x ∷ table) identifier zero d l e = rw e refl
not_here entry (x ∷ table) identifier (suc i) d l e = not_here entry table identifier i d (omega arith) e

-- an entry of another word is passed over
pub entry_not_here : {X : Type 0} (entry : X → List ℕ × Keyword) (table : List X) (identifier : List ℕ) (i : ℕ) (d : X) → i < length table → bytes_eq identifier (entry (get_or table i d)).0 ≡ false → find_reserved (drop i (map entry table)) identifier ≡ find_reserved (drop (i + 1) (map entry table)) identifier
entry_not_here entry table identifier i d l e = rw add-one (not_here entry table identifier i d l e)

-- equal words have one length
one_length : (these those : List ℕ) → bytes_eq these those ≡ true → length these ≡ length those
one_length [] [] h = refl
one_length [] (b ∷ those) h = cc
one_length (a ∷ these) [] h = cc
one_length (a ∷ these) (b ∷ those) h = let r = one_length these those (and_right (nat_eq a b) _ h) in omega arith

-- words of two lengths are not equal
pub other_length : (these those : List ℕ) → (length these ≡ length those → ⊥) → nat_eq (length these) (length those) ≡ bytes_eq these those
other_length these those n = elim (cases_Bool (bytes_eq these those)) [
  | inl e ↦ absurd (n (one_length these those e))
  | inr e ↦ ne_eqb (length these) (length those) n ∙ sym e
]
