-- What operators give: values of the types that they have in the language.
use Rattle.std.proofs.Common.{◌≡◌, ℕ, zero, suc, ◌+◌, List, ◌++◌, Bool, true, false, cond, Some, refl, subst, length}
use Rattle.std.specs.Prelude.{ℤ, pos, negsuc, nat_lt, not}
use Rattle.chord_base.specs.declared.event.Trap.TheVariants.{TextTooLong}
use Rattle.std.proofs.lemmas.Option.{none-some, same_Some}
use Rattle.std.proofs.lemmas.Bool.{false≢true}
use Rattle.chord_base.specs.declared.value.Value.{Value}
use Rattle.chord_base.specs.declared.value.Value.TheVariants.{Unit as NoValue, Int, Flag, Text, Ref}
use Rattle.chord_base.specs.declared.operation.Operation.{Operation}
use Rattle.chord_base.specs.declared.operation.Operation.TheVariants.{Add, Subtract, Multiply, Divide, Remainder, Join, Equal, NotEqual, Less, Greater, LessOrEqual, GreaterOrEqual}
use Rattle.chord_base.specs.declared.static_type.StaticType.{StaticType}
use Rattle.chord_base.specs.declared.static_type.StaticType.TheVariants as ty
use Rattle.chord_base.specs.Operators.{Computed, Is, Trapped, Mistyped, compute, negated, denied, text_of, compared, of_ints, unless_zero}
use Rattle.chord_bodies.specs.Types.{Signatures, Has, operation_result, prints}

-- what an operator comes to is a value of this type, or a trap
abbrev pub GivesType : Signatures → StaticType → Computed → Type 0
GivesType sig c (Is v) = Has sig (Some c) v
GivesType sig c (Trapped t) = Unit {0}
GivesType sig c Mistyped = ⊥

module _ (sig : Signatures) where
  -- an operator on ints gives what its function on ints gives
  ints_give : (f : ℤ → ℤ → Computed) (c : StaticType) (x y : Value) → ((m n : ℤ) → GivesType sig c (f m n)) → Has sig (Some ty.Int) x → Has sig (Some ty.Int) y → GivesType sig c (of_ints f x y)
  ints_give f c (Int m) (Int n) h i j = h m n
  ints_give f c (Int m) NoValue h i j = absurd j
  ints_give f c (Int m) (Flag b) h i j = absurd j
  ints_give f c (Int m) (Text s) h i j = absurd j
  ints_give f c (Int m) (Ref o) h i j = absurd j
  ints_give f c NoValue y h i j = absurd i
  ints_give f c (Flag b) y h i j = absurd i
  ints_give f c (Text s) y h i j = absurd i
  ints_give f c (Ref o) y h i j = absurd i

  -- what is divided by an int is an int, or a trap
  division_gives : (n q : ℤ) → GivesType sig ty.Int (unless_zero n q)
  division_gives (pos zero) q = tt
  division_gives (pos (suc n)) q = tt
  division_gives (negsuc n) q = tt

  -- the same where the operands' types and the result's are equal to those
  ints_give_as : (f : ℤ → ℤ → Computed) (t a b c : StaticType) (x y : Value) → ((m n : ℤ) → GivesType sig t (f m n)) → a ≡ ty.Int → b ≡ ty.Int → t ≡ c → Has sig (Some a) x → Has sig (Some b) y → GivesType sig c (of_ints f x y)
  ints_give_as f t a b c x y h ea eb ec i j = subst (λ z. GivesType sig z (of_ints f x y)) ec (ints_give f t x y h (subst (λ z. Has sig (Some z) x) ea i) (subst (λ z. Has sig (Some z) y) eb j))

  -- a value of a type that can be printed has a text
  pub has_text : (t : StaticType) (v : Value) → prints t ≡ true → Has sig (Some t) v → (s : List ℕ) × (text_of v ≡ Some s)
  has_text ty.Int (Int n) e i = (_, refl)
  has_text ty.Bool (Flag true) e i = (_, refl)
  has_text ty.Bool (Flag false) e i = (_, refl)
  has_text ty.Text (Text s) e i = (s, refl)
  has_text (ty.Class c) v e i = absurd (false≢true e)
  has_text ty.Int NoValue e i = absurd i
  has_text ty.Int (Flag b) e i = absurd i
  has_text ty.Int (Text s) e i = absurd i
  has_text ty.Int (Ref o) e i = absurd i
  has_text ty.Bool NoValue e i = absurd i
  has_text ty.Bool (Int n) e i = absurd i
  has_text ty.Bool (Text s) e i = absurd i
  has_text ty.Bool (Ref o) e i = absurd i
  has_text ty.Text NoValue e i = absurd i
  has_text ty.Text (Int n) e i = absurd i
  has_text ty.Text (Flag b) e i = absurd i
  has_text ty.Text (Ref o) e i = absurd i

  -- a text that is cut off where it is too long is a text, or a trap
  short_text : (b : Bool) (s : List ℕ) → GivesType sig ty.Text (cond b (Trapped TextTooLong) (Is (Text s)))
  short_text true s = tt
  short_text false s = tt

  -- two values with texts joined are a text, or a trap
  join_gives_text : (x y : Value) (s t : List ℕ) → text_of x ≡ Some s → text_of y ≡ Some t → GivesType sig ty.Text (compute Join x y)
  join_gives_text x y s t e f = rw (e, f) (short_text (nat_lt 1024 (length s + length t)) (s ++ t))

  -- what `+` joins can be printed on either side, and the result is a text
  join_types : (a b c : StaticType) → operation_result sig Join a b ≡ Some c → (prints a ≡ true) × (prints b ≡ true) × (ty.Text ≡ c)
  join_types ty.Text ty.Int c e = (refl, refl, same_Some _ _ e)
  join_types ty.Text ty.Bool c e = (refl, refl, same_Some _ _ e)
  join_types ty.Text ty.Text c e = (refl, refl, same_Some _ _ e)
  join_types ty.Int ty.Text c e = (refl, refl, same_Some _ _ e)
  join_types ty.Bool ty.Text c e = (refl, refl, same_Some _ _ e)
  join_types ty.Text (ty.Class k) c e = absurd (none-some _ e)
  join_types ty.Int ty.Int c e = absurd (none-some _ e)
  join_types ty.Int ty.Bool c e = absurd (none-some _ e)
  join_types ty.Int (ty.Class k) c e = absurd (none-some _ e)
  join_types ty.Bool ty.Int c e = absurd (none-some _ e)
  join_types ty.Bool ty.Bool c e = absurd (none-some _ e)
  join_types ty.Bool (ty.Class k) c e = absurd (none-some _ e)
  join_types (ty.Class k) b c e = absurd (none-some _ e)

  -- `+` of what it joins gives its type
  join_gives : (a b c : StaticType) (x y : Value) → operation_result sig Join a b ≡ Some c → Has sig (Some a) x → Has sig (Some b) y → GivesType sig c (compute Join x y)
  join_gives a b c x y e i j =
      let k = join_types a b c e in
      let s = has_text a x k.0 i in
      let t = has_text b y k.1 j in
      subst (λ z. GivesType sig z (compute Join x y)) k.2 (join_gives_text x y s.0 t.0 s.1 t.1)

  -- two types whose values `==` compares
  abbrev AreComparable : StaticType → StaticType → Type 0
  AreComparable ty.Int ty.Int = Unit {0}
  AreComparable ty.Bool ty.Bool = Unit {0}
  AreComparable ty.Text ty.Text = Unit {0}
  AreComparable (ty.Class c) (ty.Class d) = Unit {0}
  AreComparable _ _ = ⊥

  -- values that may be compared give a truth value
  comparison_gives : (f : Bool → Bool) (a b : StaticType) (x y : Value) → AreComparable a b → Has sig (Some a) x → Has sig (Some b) y → GivesType sig ty.Bool (compared f x y)
  comparison_gives f ty.Int ty.Int (Int m) (Int n) k i j = tt
  comparison_gives f ty.Bool ty.Bool (Flag m) (Flag n) k i j = tt
  comparison_gives f ty.Text ty.Text (Text m) (Text n) k i j = tt
  comparison_gives f (ty.Class c) (ty.Class d) (Ref m) (Ref n) k i j = tt
  comparison_gives f ty.Int ty.Int (Int m) NoValue k i j = absurd j
  comparison_gives f ty.Int ty.Int (Int m) (Flag b) k i j = absurd j
  comparison_gives f ty.Int ty.Int (Int m) (Text s) k i j = absurd j
  comparison_gives f ty.Int ty.Int (Int m) (Ref o) k i j = absurd j
  comparison_gives f ty.Int ty.Int NoValue y k i j = absurd i
  comparison_gives f ty.Int ty.Int (Flag b) y k i j = absurd i
  comparison_gives f ty.Int ty.Int (Text s) y k i j = absurd i
  comparison_gives f ty.Int ty.Int (Ref o) y k i j = absurd i
  comparison_gives f ty.Bool ty.Bool (Flag m) NoValue k i j = absurd j
  comparison_gives f ty.Bool ty.Bool (Flag m) (Int n) k i j = absurd j
  comparison_gives f ty.Bool ty.Bool (Flag m) (Text s) k i j = absurd j
  comparison_gives f ty.Bool ty.Bool (Flag m) (Ref o) k i j = absurd j
  comparison_gives f ty.Bool ty.Bool NoValue y k i j = absurd i
  comparison_gives f ty.Bool ty.Bool (Int n) y k i j = absurd i
  comparison_gives f ty.Bool ty.Bool (Text s) y k i j = absurd i
  comparison_gives f ty.Bool ty.Bool (Ref o) y k i j = absurd i
  comparison_gives f ty.Text ty.Text (Text m) NoValue k i j = absurd j
  comparison_gives f ty.Text ty.Text (Text m) (Int n) k i j = absurd j
  comparison_gives f ty.Text ty.Text (Text m) (Flag b) k i j = absurd j
  comparison_gives f ty.Text ty.Text (Text m) (Ref o) k i j = absurd j
  comparison_gives f ty.Text ty.Text NoValue y k i j = absurd i
  comparison_gives f ty.Text ty.Text (Int n) y k i j = absurd i
  comparison_gives f ty.Text ty.Text (Flag b) y k i j = absurd i
  comparison_gives f ty.Text ty.Text (Ref o) y k i j = absurd i
  comparison_gives f (ty.Class c) (ty.Class d) (Ref m) NoValue k i j = absurd j
  comparison_gives f (ty.Class c) (ty.Class d) (Ref m) (Int n) k i j = absurd j
  comparison_gives f (ty.Class c) (ty.Class d) (Ref m) (Flag b) k i j = absurd j
  comparison_gives f (ty.Class c) (ty.Class d) (Ref m) (Text s) k i j = absurd j
  comparison_gives f (ty.Class c) (ty.Class d) NoValue y k i j = absurd i
  comparison_gives f (ty.Class c) (ty.Class d) (Int n) y k i j = absurd i
  comparison_gives f (ty.Class c) (ty.Class d) (Flag b) y k i j = absurd i
  comparison_gives f (ty.Class c) (ty.Class d) (Text s) y k i j = absurd i
  comparison_gives f _ _ x y k i j = absurd k

  -- `==` takes comparable types, and gives a truth value
  equal_types : (a b c : StaticType) → operation_result sig Equal a b ≡ Some c → AreComparable a b × (ty.Bool ≡ c)
  equal_types ty.Int ty.Int c e = (tt, same_Some _ _ e)
  equal_types ty.Bool ty.Bool c e = (tt, same_Some _ _ e)
  equal_types ty.Text ty.Text c e = (tt, same_Some _ _ e)
  equal_types (ty.Class k) (ty.Class l) c e = (tt, same_Some _ _ e)
  equal_types _ _ c e = absurd (none-some _ e)

  -- `!=` takes comparable types, and gives a truth value
  unequal_types : (a b c : StaticType) → operation_result sig NotEqual a b ≡ Some c → AreComparable a b × (ty.Bool ≡ c)
  unequal_types ty.Int ty.Int c e = (tt, same_Some _ _ e)
  unequal_types ty.Bool ty.Bool c e = (tt, same_Some _ _ e)
  unequal_types ty.Text ty.Text c e = (tt, same_Some _ _ e)
  unequal_types (ty.Class k) (ty.Class l) c e = (tt, same_Some _ _ e)
  unequal_types _ _ c e = absurd (none-some _ e)

  -- an operator on operands that fit it gives a value of its type, or a trap
  pub operator_gives : (op : Operation) (a b c : StaticType) (x y : Value) → operation_result sig op a b ≡ Some c → Has sig (Some a) x → Has sig (Some b) y → GivesType sig c (compute op x y)
  operator_gives Add ty.Int ty.Int c x y e i j = ints_give_as _ ty.Int ty.Int ty.Int c x y (λ m n. tt) refl refl (same_Some _ _ e) i j
  operator_gives Subtract ty.Int ty.Int c x y e i j = ints_give_as _ ty.Int ty.Int ty.Int c x y (λ m n. tt) refl refl (same_Some _ _ e) i j
  operator_gives Multiply ty.Int ty.Int c x y e i j = ints_give_as _ ty.Int ty.Int ty.Int c x y (λ m n. tt) refl refl (same_Some _ _ e) i j
  operator_gives Divide ty.Int ty.Int c x y e i j = ints_give_as _ ty.Int ty.Int ty.Int c x y (λ m n. division_gives n _) refl refl (same_Some _ _ e) i j
  operator_gives Remainder ty.Int ty.Int c x y e i j = ints_give_as _ ty.Int ty.Int ty.Int c x y (λ m n. division_gives n _) refl refl (same_Some _ _ e) i j
  operator_gives Less ty.Int ty.Int c x y e i j = ints_give_as _ ty.Bool ty.Int ty.Int c x y (λ m n. tt) refl refl (same_Some _ _ e) i j
  operator_gives Greater ty.Int ty.Int c x y e i j = ints_give_as _ ty.Bool ty.Int ty.Int c x y (λ m n. tt) refl refl (same_Some _ _ e) i j
  operator_gives LessOrEqual ty.Int ty.Int c x y e i j = ints_give_as _ ty.Bool ty.Int ty.Int c x y (λ m n. tt) refl refl (same_Some _ _ e) i j
  operator_gives GreaterOrEqual ty.Int ty.Int c x y e i j = ints_give_as _ ty.Bool ty.Int ty.Int c x y (λ m n. tt) refl refl (same_Some _ _ e) i j
  operator_gives Join a b c x y e i j = join_gives a b c x y e i j
  operator_gives Equal a b c x y e i j = let k = equal_types a b c e in subst (λ z. GivesType sig z (compute Equal x y)) k.1 (comparison_gives (λ z. z) a b x y k.0 i j)
  operator_gives NotEqual a b c x y e i j = let k = unequal_types a b c e in subst (λ z. GivesType sig z (compute NotEqual x y)) k.1 (comparison_gives not a b x y k.0 i j)
  operator_gives Add _ _ c x y e i j = absurd (none-some _ e)
  operator_gives Subtract _ _ c x y e i j = absurd (none-some _ e)
  operator_gives Multiply _ _ c x y e i j = absurd (none-some _ e)
  operator_gives Divide _ _ c x y e i j = absurd (none-some _ e)
  operator_gives Remainder _ _ c x y e i j = absurd (none-some _ e)
  operator_gives Less _ _ c x y e i j = absurd (none-some _ e)
  operator_gives Greater _ _ c x y e i j = absurd (none-some _ e)
  operator_gives LessOrEqual _ _ c x y e i j = absurd (none-some _ e)
  operator_gives GreaterOrEqual _ _ c x y e i j = absurd (none-some _ e)

  -- unary `-` of an int gives an int
  pub negation_gives : (x : Value) → Has sig (Some ty.Int) x → GivesType sig ty.Int (negated x)
  negation_gives (Int n) i = tt
  negation_gives NoValue i = absurd i
  negation_gives (Flag b) i = absurd i
  negation_gives (Text s) i = absurd i
  negation_gives (Ref o) i = absurd i

  -- `!` of a truth value gives a truth value
  pub denial_gives : (x : Value) → Has sig (Some ty.Bool) x → GivesType sig ty.Bool (denied x)
  denial_gives (Flag b) i = tt
  denial_gives NoValue i = absurd i
  denial_gives (Int n) i = absurd i
  denial_gives (Text s) i = absurd i
  denial_gives (Ref o) i = absurd i
