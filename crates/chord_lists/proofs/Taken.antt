-- Of each entry of a history, whether a firing has taken it.
use Rattle.std.proofs.Common.{◌≡◌, ℕ, zero, suc, ◌<◌, ◌≤◌, Bool, true, false, ◌==◌, ◌||◌, List, [], ◌∷◌, ◌++◌, length, refl, sym, ap, ◌∙◌, subst, arith, inl, inr, Some, set, get_or}
use Rattle.std.specs.Prelude.{slice_get}
use Rattle.std.proofs.lemmas.List.{length-append, length-set}
use Rattle.std.proofs.lemmas.Bool.{eqb-true, eqb-false}
use Rattle.chord_base.specs.declared.event.Entry.{Entry}
use Rattle.chord_base.specs.Messages.{message_of, members_of, has}
use Rattle.chord_base.proofs.Waits.{either}
use Rattle.chord_lists.specs.CodeStands.{entry_message, message_at}
use Rattle.chord_lists.proofs.Spots.{has_behind}
use Rattle.chord_lists.specs.CodeGoes.{is_taken, HasTaken, HasTakenNext, MarksTaken}

-- what stands at a place before the last one stands there without it
before_last : (xs : List Bool) (x : Bool) (n : ℕ) → (length xs ≡ n → ⊥) → get_or (xs ++ x ∷ []) n true ≡ get_or xs n true
before_last [] x zero d = absurd (d refl)
before_last [] x (suc n) d = refl
before_last (y ∷ xs) x zero d = refl
before_last (y ∷ xs) x (suc n) d = before_last xs x n (λ e. d (ap suc e))

-- the last one
last_is : (xs : List Bool) (x : Bool) → get_or (xs ++ x ∷ []) (length xs) true ≡ x
last_is [] x = refl
last_is (y ∷ xs) x = last_is xs x

-- one entry more
pub marked_next : (taken after : List Bool) (es h : List Entry) (e : Entry) → MarksTaken taken es h → e.number ≡ length h → slice_get es (length h) ≡ Some e → HasTakenNext (members_of e.what) taken after → MarksTaken after es (e ∷ h)
marked_next taken after es h e a number there t =
    let end : length t.between ≡ length h = t.before.long ∙ a.long in
    record {
      left =
          λ n.
          elim (either (e.number == n)) [
            | inl y ↦
                (let at : length h ≡ n = sym number ∙ eqb-true e.number n y in
                let new : is_taken after n ≡ false = ap (λ z. is_taken z n) t.is ∙ subst (λ i. get_or (t.between ++ false ∷ []) i true ≡ false) (end ∙ at) (last_is t.between false) in
                let found : message_at es n ≡ message_of e.what = ap entry_message (subst (λ i. slice_get es i ≡ Some e) at there) in
                rw (y, new) (sym found))
            | inr o ↦
                (let apart : length t.between ≡ n → ⊥ = λ d. eqb-false e.number n o (number ∙ sym end ∙ d) in
                let same : is_taken after n ≡ (has n (members_of e.what) || is_taken taken n) = ap (λ z. is_taken z n) t.is ∙ before_last t.between false n apart ∙ t.before.taken n in
                elim (either (has n (members_of e.what))) [
                  | inl y ↦ (let gone : is_taken after n ≡ true = same ∙ rw y refl in rw (o, y, gone) refl)
                  | inr z ↦ (let kept : is_taken after n ≡ is_taken taken n = same ∙ rw z refl in rw (o, z, kept) (a.left n))
                ])
          ];
      long = ap length t.is ∙ length-append t.between (false ∷ []) ∙ omega (arith, end);
    }

-- a number is among some numbers and itself
has_last : (n m : ℕ) (ms : List ℕ) → (n == m) ≡ true → has n (ms ++ m ∷ []) ≡ true
has_last n m ms y = has_behind n ms (m ∷ []) (rw y refl)

-- another one is among them if it is without this one
has_without : (n m : ℕ) (ms : List ℕ) → (n == m) ≡ false → has n (ms ++ m ∷ []) ≡ has n ms
has_without n m [] o = rw o refl
has_without n m (k ∷ ms) o = elim (either (n == k)) [ inl y ↦ rw y refl | inr z ↦ rw z (has_without n m ms o) ]

-- a place that is set to true was taken
taken_here : (xs : List Bool) (i : ℕ) → get_or (set xs i true) i true ≡ true
taken_here [] i = refl
taken_here (x ∷ xs) zero = refl
taken_here (x ∷ xs) (suc i) = taken_here xs i

-- the others are as they were
taken_there : (xs : List Bool) (i n : ℕ) → (n ≡ i → ⊥) → get_or (set xs i true) n true ≡ get_or xs n true
taken_there [] i n d = refl
taken_there (x ∷ xs) zero zero d = absurd (d refl)
taken_there (x ∷ xs) zero (suc n) d = refl
taken_there (x ∷ xs) (suc i) zero d = refl
taken_there (x ∷ xs) (suc i) (suc n) d = taken_there xs i n (λ e. d (ap suc e))

-- of what is not there yet it need not be said
taken_past : (xs : List Bool) (n : ℕ) → length xs ≤ n → get_or xs n true ≡ true
taken_past [] n l = refl
taken_past (x ∷ xs) zero l = absurd (omega (arith, l))
taken_past (x ∷ xs) (suc n) l = taken_past xs n (omega (arith, l))

-- one number more, which is there
pub taken_one : (ms : List ℕ) (m : ℕ) (old taken after : List Bool) → HasTaken ms old taken → after ≡ set taken m true → HasTaken (ms ++ m ∷ []) old after
taken_one ms m old taken after t is =
    record {
      taken =
          λ n.
          ap (λ z. is_taken z n) is
          ∙ elim (either (n == m)) [
            | inl y ↦
                (let here : get_or (set taken m true) n true ≡ true = subst (λ i. get_or (set taken m true) i true ≡ true) (sym (eqb-true n m y)) (taken_here taken m) in
                here ∙ ap (λ b. b || is_taken old n) (sym (has_last n m ms y)))
            | inr o ↦ taken_there taken m n (eqb-false n m o) ∙ t.taken n ∙ ap (λ b. b || is_taken old n) (sym (has_without n m ms o))
          ];
      long = ap length is ∙ length-set taken m true ∙ t.long;
    }

-- one number more, which is not
pub taken_absent : (ms : List ℕ) (m : ℕ) (old taken : List Bool) → HasTaken ms old taken → length taken ≤ m → HasTaken (ms ++ m ∷ []) old taken
taken_absent ms m old taken t l =
    record {
      taken =
          λ n.
          elim (either (n == m)) [
            | inl y ↦ taken_past taken n (let e = eqb-true n m y in omega (arith, l, e)) ∙ ap (λ b. b || is_taken old n) (sym (has_last n m ms y))
            | inr o ↦ t.taken n ∙ ap (λ b. b || is_taken old n) (sym (has_without n m ms o))
          ];
      long = t.long;
    }

-- of what is there it is said
pub taken_at : (xs : List Bool) (n : ℕ) (b : Bool) → n < length xs → is_taken xs n ≡ get_or xs n b
taken_at [] n b l = absurd (omega (arith, l))
taken_at (x ∷ xs) zero b l = refl
taken_at (x ∷ xs) (suc n) b l = taken_at xs n b (omega (arith, l))
