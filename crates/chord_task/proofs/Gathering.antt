-- What was gathered from the parcels of a firing has the values of all.
use Rattle.std.proofs.Common.{◌≡◌, ◌≢◌, inl, inr, ⊎_elim, true, false, ◌==◌, suc, List, [], ◌∷◌, ◌++◌, length, Some, None, refl, sym, ap, ◌∙◌, arith, append-nil, append_assoc}
use Rattle.std.proofs.lemmas.Bool.{eqb-true}
use Rattle.chord_base.specs.declared.value.Value.{Value}
use Rattle.chord_vm.specs.Frames.{laid}
use Rattle.chord_task.specs.declared.args.Args.{Args}
use Rattle.chord_task.specs.Arguments.{for_entry, AreTwice}
use Rattle.chord_task.specs.Gathering.{AreGathered}

-- the values of a message more come behind the others
entries_more : (as_ : List Args) (a : Args) → laid (for_entry (as_ ++ a ∷ [])) ≡ laid (for_entry as_) ++ a.first
entries_more [] a = append-nil a.first
entries_more (x ∷ as_) a = ap (λ (vs : List Value). x.first ++ vs) (entries_more as_ a) ∙ sym (append_assoc x.first (laid (for_entry as_)) a.first)

-- one message more
one_longer : (as_ : List Args) (a : Args) → length (as_ ++ a ∷ []) ≡ suc (length as_)
one_longer [] a = refl
one_longer (x ∷ as_) a = ap suc (one_longer as_ a)

-- all have their arguments twice, and one more has
twice_more : (as_ : List Args) (a : Args) → AreTwice as_ → a.second ≡ a.first → AreTwice (as_ ++ a ∷ [])
twice_more [] a t e = (e, tt)
twice_more (x ∷ as_) a t e = (t.0, twice_more as_ a t.1 e)

-- those before it have, and it has
twice_before : (as_ : List Args) (a : Args) → AreTwice (as_ ++ a ∷ []) → AreTwice as_ × (a.second ≡ a.first)
twice_before [] a t = (tt, t.0)
twice_before (x ∷ as_) a t = let b = twice_before as_ a t.1 in ((t.0, b.0), b.1)

-- no values are none
pub no_values : (vs : List Value) → (length vs == 0) ≡ true → vs ≡ []
no_values [] e = refl
no_values (v ∷ vs) e = let z = eqb-true (length (v ∷ vs)) 0 e in absurd (omega (arith, z))

-- some are not none
pub some_values : (vs : List Value) → (length vs == 0) ≡ false → vs ≢ []
some_values vs e q = let z : true ≡ false = sym (ap (λ (x : List Value). length x == 0) q) ∙ e in absurd (cc)

-- nothing came yet
pub none_gathered : (one : Args) → one.first ≡ [] → one.second ≡ [] → AreGathered one None []
none_gathered one first second = record {
  twice = λ t. (second ∙ sym first, tt);
  values = λ t. append-nil one.first ∙ first;
  few = inl first;
}

module _ (all : List Args) (a : Args) where
  -- no message before it has values
  pub first_one : (one : Args) → AreGathered one None all → one.first ≡ [] → AreGathered a None (all ++ a ∷ [])
  first_one one g none = record {
    twice = λ t. ((twice_before all a t).1, tt);
    values = λ t. append-nil a.first ∙ sym (entries_more all a ∙ ap (λ (vs : List Value). vs ++ a.first) (sym (g.values (twice_before all a t).0) ∙ append-nil one.first ∙ none));
    few = inr (let l = one_longer all a in omega (arith, l));
  }

  -- it has no values
  pub none_more : (one : Args) → AreGathered one None all → a.first ≡ [] → AreGathered one None (all ++ a ∷ [])
  none_more one g none = record {
    twice = λ t. g.twice (twice_before all a t).0;
    values = λ t. g.values (twice_before all a t).0 ∙ sym (entries_more all a ∙ ap (λ (vs : List Value). laid (for_entry all) ++ vs) none ∙ append-nil (laid (for_entry all)));
    few = ⊎_elim (λ e. inl e) (λ n. inr (let l = one_longer all a in omega (arith, l, n))) g.few;
  }

  -- it is the second one with values
  pub second_one : (one rest : Args) → AreGathered one None all → one.first ≢ [] → AreGathered rest (Some (one ∷ a ∷ [])) (all ++ a ∷ [])
  second_one one rest g some = record {
    twice = λ t. let b = twice_before all a t in let q = g.twice b.0 in (q.0, (b.1, tt));
    values = λ t. ap (λ (vs : List Value). one.first ++ vs) (append-nil a.first) ∙ ap (λ (vs : List Value). vs ++ a.first) (sym (append-nil one.first) ∙ g.values (twice_before all a t).0) ∙ sym (entries_more all a);
    few = ⊎_elim (λ e. absurd (some e)) (λ n. let l = one_longer all a in omega (arith, l, n)) g.few;
  }

  -- several before it have values
  pub several_more : (one : Args) (several : List Args) → AreGathered one (Some several) all → AreGathered one (Some (several ++ a ∷ [])) (all ++ a ∷ [])
  several_more one several g = record {
    twice = λ t. let b = twice_before all a t in twice_more several a (g.twice b.0) b.1;
    values = λ t. entries_more several a ∙ ap (λ (vs : List Value). vs ++ a.first) (g.values (twice_before all a t).0) ∙ sym (entries_more all a);
    few = let l = one_longer several a in let m = one_longer all a in let f = g.few in omega (arith, l, m, f);
  }
