-- The program of a valid and sound code is one that the table takes.
use Rattle.std.proofs.Common.{◌≡◌, ◌⊎◌, ℕ, ◌<◌, ◌≤◌, Bool, true, false, ◌==◌, ◌||◌, List, [], ◌∷◌, length, if◌then◌else◌, refl, ap, subst, arith, inl, inr}
use Rattle.std.proofs.lemmas.Bool.{eqb-true, eq-eqb}
use Rattle.chord_base.specs.declared.value.Object.{Object}
use Rattle.chord_base.specs.declared.value.Value as value
use Rattle.chord_base.specs.declared.value.Value.TheVariants as a_value
use Rattle.chord_base.specs.declared.event.End.{End}
use Rattle.chord_base.specs.declared.event.End.TheVariants.{Gives, Traps}
use Rattle.chord_base.specs.declared.event.Entry.{Entry}
use Rattle.chord_base.specs.declared.event.Limits.{Limits}
use Rattle.chord_base.specs.declared.event.What.{What}
use Rattle.chord_base.specs.declared.event.What.TheVariants.{Begun, Made, Sent, Called, Printed, Fired, Ended}
use Rattle.chord_base.specs.Meaning.{Program, HaveMethods}
use Rattle.chord_base.specs.Messages.{has}
use Rattle.chord_base.specs.Machine.{IsPast}
use Rattle.chord_base.specs.Objects.{ValuesAmong, EndAmong, WhatAmong, IsTame, makes, was_made}
use Rattle.chord_base.proofs.Objects.{objects_were_made}
use Rattle.chord_code.specs.declared.parts.Parts.{Parts}
use Rattle.chord_code.specs.Meaning.{code_program}
use Rattle.chord_code.specs.Valid.{IsValid}
use Rattle.chord_code.specs.Sound.{IsSoundCode}
use Rattle.chord_code.proofs.Tame.{code_is_tame}
use Rattle.chord_code.proofs.Validity.{valid_within, valid_chords_right}
use Rattle.chord_rule.specs.Made.{ValuesName, EndNames, Names, IsMade, AreMade, IsTabled}

-- what makes an object of a class is that
makes_it : (c : ℕ) (w : What) → makes c w ≡ true → w ≡ Made c
makes_it c (Made k) e = ap Made (eqb-true k c e)
makes_it c Begun e = absurd (cc)
makes_it c (Sent o j vs) e = absurd (cc)
makes_it c (Called o j vs) e = absurd (cc)
makes_it c (Printed t) e = absurd (cc)
makes_it c (Fired k o ms vs) e = absurd (cc)
makes_it c (Ended x) e = absurd (cc)

-- an object that was made has an entry that made it
made_there : (h : List Entry) (o : Object) → was_made h o ≡ true → IsMade h o
made_there [] o e = absurd (let z : false ≡ true = e in cc)
made_there (x ∷ h) o e = by_number (x.number == o.number) refl e (made_there h o)
  where
    by_number : (b : Bool) → (x.number == o.number) ≡ b → (if b then makes o.class x.what else was_made h o) ≡ true → (was_made h o ≡ true → IsMade h o) → IsMade (x ∷ h) o
    by_number true is made rest = (x, inl refl, eqb-true x.number o.number is, makes_it o.class x.what made)
    by_number false is made rest = let r = rest made in (r.0, inr r.1, r.2, r.3)

-- a value that names an object among these
value_among : (f : Object → Bool) (vs : List value.Value) (o : Object) → ValuesAmong f vs → ValuesName vs o → f o ≡ true
value_among f [] o a n = absurd n
value_among f (v ∷ vs) o a (inr n) = value_among f vs o a.1 n
value_among f (a_value.Ref q ∷ vs) o a (inl n) = subst (λ (z : Object). f z ≡ true) n a.0
value_among f (a_value.Unit ∷ vs) o a (inl n) = absurd n
value_among f (a_value.Int i ∷ vs) o a (inl n) = absurd n
value_among f (a_value.Flag b ∷ vs) o a (inl n) = absurd n
value_among f (a_value.Text t ∷ vs) o a (inl n) = absurd n

-- an end that names an object among these
end_among : (f : Object → Bool) (x : End) (o : Object) → EndAmong f x → EndNames x o → f o ≡ true
end_among f (Gives (a_value.Ref q)) o a n = subst (λ (z : Object). f z ≡ true) n a
end_among f (Gives a_value.Unit) o a n = absurd n
end_among f (Gives (a_value.Int i)) o a n = absurd n
end_among f (Gives (a_value.Flag b)) o a n = absurd n
end_among f (Gives (a_value.Text t)) o a n = absurd n
end_among f (Traps t) o a n = absurd n

-- the receiver of an entry, or one of its values, is among these
receiver_among : (f : Object → Bool) (q : Object) (vs : List value.Value) (o : Object) → (f q ≡ true) × ValuesAmong f vs → (q ≡ o) ⊎ ValuesName vs o → f o ≡ true
receiver_among f q vs o a (inl e) = subst (λ (z : Object). f z ≡ true) e a.0
receiver_among f q vs o a (inr n) = value_among f vs o a.1 n

-- each object that an entry names is among these
named_among : (f : Object → Bool) (w : What) (o : Object) → WhatAmong f w → Names w o → f o ≡ true
named_among f Begun o a n = absurd n
named_among f (Made c) o a n = absurd n
named_among f (Sent q j vs) o a n = receiver_among f q vs o a n
named_among f (Called q j vs) o a n = receiver_among f q vs o a n
named_among f (Printed t) o a n = absurd n
named_among f (Fired k q ms vs) o a n = receiver_among f q vs o a n
named_among f (Ended x) o a n = end_among f x o a n

-- in a past each object that an entry names was made before it
pub names_made : (p : Program) → IsTame p → HaveMethods p → (h : List Entry) → IsPast p h → AreMade h
names_made p tame methods [] past = tt
names_made p tame methods (e ∷ h) past = (names_made p tame methods h past.0, λ o names. made_there h o (named_among (was_made h) e.what o (objects_were_made p e h tame methods past) names))

-- a chord with a method has one
some_method : (js : List ℕ) → 0 < length js → (j : ℕ) × (has j js ≡ true)
some_method [] l = absurd (omega arith)
some_method (j ∷ js) l = (j, ap (λ (b : Bool). b || has j js) (eq-eqb j j refl))

-- the program of a valid and sound code, for a depth that a run may have, is one that the table takes
pub tabled : (code : Parts) (limits : Limits) → IsValid code → IsSoundCode code → 0 < limits.depth → limits.depth ≤ 256 → IsTabled (code_program code limits)
tabled code limits valid sound some low = let right = valid_chords_right code limits valid in record {
  sound = (sound limits some low).sound;
  one_sync = right.one_sync;
  some_method = λ c k js at. some_method js (right.some c k js at);
  different = right.different;
  few = right.few;
  made = names_made (code_program code limits) (code_is_tame code limits (valid_within code valid)) right.some;
}
