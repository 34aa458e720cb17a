-- A table of what each body does, after one more entry.
use Rattle.std.proofs.Common.{◌≡◌, ℕ, zero, suc, ◌<◌, ◌≤◌, true, false, ltb, ◌==◌, List, [], ◌∷◌, ◌++◌, length, map, set, get_or, Option, Some, None, refl, sym, ap, ◌∙◌, arith, inl, inr, if◌then◌else◌}
use Rattle.std.proofs.lemmas.Bool.{eqb-true, eq-eqb}
use borrow.Author.Tests.{ltb-true, ltb-false}
use Rattle.std.proofs.lemmas.List.{get_or-set_same, get_or-set_other, length-set, length-append}
use Rattle.chord_base.specs.declared.event.What.{What}
use Rattle.chord_base.specs.declared.event.What.TheVariants.{Begun, Made, Sent, Called, Printed, Fired, Ended}
use Rattle.chord_base.specs.declared.event.Entry.{Entry}
use Rattle.chord_base.specs.declared.body.Body as body
use Rattle.chord_base.specs.declared.body.Body.TheVariants as a_body
use Rattle.chord_base.specs.Meaning.{Program, Asked}
use Rattle.chord_base.specs.Messages.{maker}
use Rattle.chord_base.specs.Bodies.{Doing, Absent, own, heard, doing, serves, asked, Asks}
use Rattle.chord_base.specs.Machine.{Comes, MayFollow}
use Rattle.chord_base.specs.BodyTable.{doing_of, doing_at, IsTable}
use Rattle.chord_base.proofs.Waits.{either, heard_absent}

-- past the end of a table bodies are absent
pub doing_at_or : (bodies : List body.Body) (b : ℕ) → doing_at bodies b ≡ doing_of (get_or bodies b a_body.Absent)
doing_at_or [] zero = refl
doing_at_or [] (suc b) = refl
doing_at_or (x ∷ xs) zero = refl
doing_at_or (x ∷ xs) (suc b) = doing_at_or xs b

-- past the end of the table each body is absent
pub absent_at_end : (bodies : List body.Body) (b : ℕ) → length bodies ≤ b → doing_at bodies b ≡ Absent
absent_at_end [] zero l = refl
absent_at_end [] (suc b) l = refl
absent_at_end (x ∷ xs) zero l = absurd (omega (arith, l))
absent_at_end (x ∷ xs) (suc b) l = absent_at_end xs b (omega (arith, l))

-- one more absent body changes nothing
absent_more : (bodies : List body.Body) (b : ℕ) → get_or (bodies ++ a_body.Absent ∷ []) b a_body.Absent ≡ get_or bodies b a_body.Absent
absent_more [] zero = refl
absent_more [] (suc zero) = refl
absent_more [] (suc (suc b)) = refl
absent_more (x ∷ xs) zero = refl
absent_more (x ∷ xs) (suc b) = absent_more xs b

-- what a table says where one body is set
pub set_at : (bodies : List body.Body) (mine : body.Body) (i b : ℕ) → i ≤ length bodies → doing_at (set (bodies ++ a_body.Absent ∷ []) i mine) b ≡ (if i == b then doing_of mine else doing_at bodies b)
set_at bodies mine i b l =
    let longer = bodies ++ a_body.Absent ∷ [] in
    let fits : i < length longer = omega (arith, l, length-append bodies (a_body.Absent ∷ [])) in
    doing_at_or (set longer i mine) b ∙
    elim (either (i == b)) [
      | inl y ↦ rw (y, ← eqb-true i b y) (ap doing_of (get_or-set_same longer i mine a_body.Absent fits))
      | inr o ↦ rw o (ap doing_of (get_or-set_other longer i b mine a_body.Absent (λ e. let z : true ≡ false = sym (eq-eqb i b (sym e)) ∙ o in cc) ∙ absent_more bodies b) ∙ sym (doing_at_or bodies b))
    ]

-- a table of what each body does after a change that absent bodies do not see
pub changed_at : (f : Doing → Doing) → f Absent ≡ Absent → (bodies after : List body.Body) → map doing_of after ≡ map (λ x. f (doing_of x)) bodies → (b : ℕ) → doing_at after b ≡ f (doing_at bodies b)
changed_at f a [] [] e zero = sym a
changed_at f a [] [] e (suc b) = sym a
changed_at f a [] (y ∷ ys) e b = cc
changed_at f a (x ∷ xs) [] e b = cc
changed_at f a (x ∷ xs) (y ∷ ys) e zero = cc
changed_at f a (x ∷ xs) (y ∷ ys) e (suc b) = changed_at f a xs ys (cc) b

-- tables that look the same have the same length
pub same_length : (f : body.Body → Doing) (g : body.Body → Doing) (xs ys : List body.Body) → map f xs ≡ map g ys → length xs ≡ length ys
same_length f g [] [] e = refl
same_length f g [] (y ∷ ys) e = cc
same_length f g (x ∷ xs) [] e = cc
same_length f g (x ∷ xs) (y ∷ ys) e = let t : map f xs ≡ map g ys = cc in let n = same_length f g xs ys t in omega (arith, n)

-- a body that asks has an element of the table
asks_within : (p : Program) (bodies : List body.Body) (b : ℕ) (a : Asked) → asked p (doing_at bodies b) ≡ Some a → b < length bodies
asks_within p bodies b a e =
    elim (either (ltb b (length bodies))) [
      | inl y ↦ ltb-true b (length bodies) y
      | inr o ↦ (let z : ◌≡◌ {A = Option Asked} None (Some a) = sym (ap (asked p) (absent_at_end bodies b (omega (arith, ltb-false b (length bodies) o)))) ∙ e in cc)
    ]

-- a body that has a next ask has a number no larger than the number of entries
next_within : (p : Program) (h : List Entry) (bodies : List body.Body) (b : ℕ) (w : What) → IsTable p h bodies → Asks p h b w → b ≤ length h
next_within p h bodies b w t a = let l = asks_within p bodies b _ (ap (asked p) (t.says b) ∙ a.1) in omega (arith, l, t.size)

-- the body of an entry that may follow has an earlier entry, or this one is its first
pub body_within : (p : Program) (h : List Entry) (bodies : List body.Body) (n b : ℕ) (w : What) → IsTable p h bodies → n ≡ length h → Comes p h n b w → b ≤ length h
body_within p h bodies n b Begun t i c = omega (arith, c.1)
body_within p h bodies n b (Fired k o ms vs) t i c = omega (arith, c.0, i)
body_within p h bodies n b (Made k) t i c = next_within p h bodies b (Made k) t c
body_within p h bodies n b (Sent o j vs) t i c = next_within p h bodies b (Sent o j vs) t c
body_within p h bodies n b (Called o j vs) t i c = next_within p h bodies b (Called o j vs) t c
body_within p h bodies n b (Printed x) t i c = next_within p h bodies b (Printed x) t c
body_within p h bodies n b (Ended x) t i c = next_within p h bodies b (Ended x) t c

-- the table after one more entry
pub table_more : (p : Program) (h : List Entry) (e : Entry) (bodies others : List body.Body) (mine : body.Body) → IsTable p h bodies → MayFollow p h e → doing_of mine ≡ own p e.number e.what (λ q. maker q h) (doing_at bodies) (doing_at bodies e.body) → map doing_of others ≡ map (λ x. heard e.what (serves p e.body h) (doing_of x)) bodies → IsTable p (e ∷ h) (set (others ++ a_body.Absent ∷ []) e.body mine)
table_more p h e bodies others mine t m o r =
    let size : length others ≡ length bodies = same_length doing_of (λ x. heard e.what (serves p e.body h) (doing_of x)) others bodies r in
    let within : e.body ≤ length others = (let l = body_within p h bodies e.number e.body e.what t m.numbered m.comes in omega (arith, l, size, t.size)) in
    let all : doing_at bodies ≡ doing p h = (λ k b. t.says b k) in
    record {
      size = omega (arith, length-set (others ++ a_body.Absent ∷ []) e.body mine, length-append others (a_body.Absent ∷ []), size, t.size);
      says =
          λ b.
          set_at others mine e.body b within ∙
          elim (either (e.body == b)) [
            | inl y ↦ rw (y, ← eqb-true e.body b y) (o ∙ ap (λ f. own p e.number e.what (λ q. maker q h) f (f e.body)) all)
            | inr n ↦ rw n (changed_at (heard e.what (serves p e.body h)) (heard_absent e.what (serves p e.body h)) bodies others r b ∙ ap (heard e.what (serves p e.body h)) (t.says b))
          ];
    }
