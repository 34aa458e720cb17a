-- The chords of a class that a search went through.
use Rattle.std.proofs.Common.{map, ◌≤◌, ◌≡◌, ◌≢◌, inl, inr, ⊎_elim, ℕ, ◌+◌, ◌<◌, true, false, List, length, slice_get, slice_index_or, sym, ap, ◌∙◌, subst, arith, Option, Some, None}
use mathlib.Core.Path.{Path}
use mathlib.Core.Logic.{dite}
use Rattle.std.proofs.Math.Decide.{dec_lt}
use Rattle.std.proofs.lemmas.List.{length-map}
use Rattle.std.proofs.lemmas.Option.{slice_get_within}
use Rattle.chord_base.specs.Messages.{has}
use Rattle.chord_code.specs.declared.parts.ChordLine.{ChordLine}
use Rattle.chord_code.specs.Headers.{LackHeader}
use Rattle.chord_code.specs.Meaning.{methods_of}
use Rattle.chord_code.proofs.Headers.{methods_at}
use Rattle.chord_bag.specs.declared.walk.Sought.{Sought}
use Rattle.chord_bag.specs.declared.walk.Sought.TheVariants.{Bare, Busy}
use Rattle.chord_match.specs.declared.search.Own.{Own}
use Rattle.chord_match.specs.declared.search.Step.{Step}
use Rattle.chord_match.specs.declared.search.Step.TheVariants as a_step
use Rattle.chord_match.specs.Searching.{KeepsKnown, LearnsOf, IsStuck, AreStuck, IsHolder, IsHolding, IsWithout, KnowsBeside, TellsBare, firstly}
use Rattle.chord_match.proofs.Knowing.{stuck_kept}
use Rattle.chord_match.proofs.Lists.{all_below_more}

-- the chords that are stuck stay so where more is known
pub are_kept : (own : Own) (jss : List (List ℕ)) (n : ℕ) (a b : List (Option Sought)) (busy : Option ℕ) → KeepsKnown a b → AreStuck own jss n a busy → AreStuck own jss n b busy
are_kept own jss n a b None k s = λ q js l e h. stuck_kept own js a b None k (s q js l e h)
are_kept own jss n a b (Some i) k s = ((λ q js l e h. let t = s.0 q js l e h in (t.0, stuck_kept own js a b t.0 k t.1)), let t = s.1 in (t.0, t.1, t.2, t.3, t.4, stuck_kept own t.1 a b (Some i) k t.5))

-- one chord more is stuck
pub are_more : (own : Own) (jss : List (List ℕ)) (n : ℕ) (js : List ℕ) (a : List (Option Sought)) (busy more : Option ℕ) → slice_get jss n ≡ Some js → has own.method js ≡ true → IsStuck own js a more → AreStuck own jss n a busy → AreStuck own jss (n + 1) a (firstly busy more)
are_more own jss n js a busy more here on stuck s = cases busy more stuck s
  where
    same_js : (q : ℕ) (ks : List ℕ) → q ≡ n → slice_get jss q ≡ Some ks → js ≡ ks
    same_js q ks same e = let z : Some js ≡ Some ks = sym here ∙ ap (slice_get jss) (sym same) ∙ e in cc

    cases : (busy more : Option ℕ) → IsStuck own js a more → AreStuck own jss n a busy → AreStuck own jss (n + 1) a (firstly busy more)
    cases None None stuck s = λ q ks l e h. ⊎_elim (λ same. subst (λ (z : List ℕ). IsStuck own z a None) (same_js q ks same e) stuck) (λ low. s q ks low e h) (all_below_more q n l)
    cases None (Some i) stuck s = (
      (λ q ks l e h. ⊎_elim (λ same. (Some i, subst (λ (z : List ℕ). IsStuck own z a (Some i)) (same_js q ks same e) stuck)) (λ low. (None, s q ks low e h)) (all_below_more q n l)),
      (n, js, omega arith, here, on, stuck),
    )
    cases (Some i) more stuck s = (
      (λ q ks l e h. ⊎_elim (λ same. (more, subst (λ (z : List ℕ). IsStuck own z a more) (same_js q ks same e) stuck)) (λ low. s.0 q ks low e h) (all_below_more q n l)),
      (let t = s.1 in (t.0, t.1, let low = t.2 in omega (arith, low), t.3, t.4, t.5)),
    )

-- no chord is stuck where none has the method
pub none_stuck : (own : Own) (jss : List (List ℕ)) (n : ℕ) (a : List (Option Sought)) → LackHeader own.method jss 0 n → AreStuck own jss n a None
none_stuck own jss n a s = λ q js l e h. let z : false ≡ true = sym (s q js (omega arith) l e) ∙ h in absurd (cc)

-- the chords that are stuck are all where none behind them has the method
pub all_stuck : (own : Own) (jss : List (List ℕ)) (n m : ℕ) (a : List (Option Sought)) (busy : Option ℕ) → n ≤ m → LackHeader own.method jss n m → AreStuck own jss n a busy → AreStuck own jss m a busy
all_stuck own jss n m a None most off s = λ q js l e h. before q js l e h
  where
    before : (q : ℕ) (js : List ℕ) → q < m → slice_get jss q ≡ Some js → has own.method js ≡ true → IsStuck own js a None
    before q js l e h = dite (dec_lt q n) (λ low. s q js low e h) (λ high. let z : false ≡ true = sym (off q js (omega (arith, high)) l e) ∙ h in absurd (cc))
all_stuck own jss n m a (Some i) most off s = ((λ q js l e h. before q js l e h), let t = s.1 in (t.0, t.1, let low = t.2 in omega (arith, low, most), t.3, t.4, t.5))
  where
    before : (q : ℕ) (js : List ℕ) → q < m → slice_get jss q ≡ Some js → has own.method js ≡ true → (b : Option ℕ) × IsStuck own js a b
    before q js l e h = dite (dec_lt q n) (λ low. s.0 q js low e h) (λ high. let z : false ≡ true = sym (off q js (omega (arith, high)) l e) ∙ h in absurd (cc))

-- each of the chords that were gone through is stuck
each_stuck : (own : Own) (jss : List (List ℕ)) (m : ℕ) (a : List (Option Sought)) (busy : Option ℕ) → AreStuck own jss m a busy → (q : ℕ) (js : List ℕ) → q < m → slice_get jss q ≡ Some js → has own.method js ≡ true → (b : Option ℕ) × IsStuck own js a b
each_stuck own jss m a None s q js l e h = (None, s q js l e h)
each_stuck own jss m a (Some i) s q js l e h = s.0 q js l e h

-- one chord alone has the method, and only what it is stuck for is known to be bare
pub one_without : (own : Own) (jss : List (List ℕ)) (n : ℕ) (js : List ℕ) (a : List (Option Sought)) (busy : Option ℕ) → slice_get jss n ≡ Some js → has own.method js ≡ true → IsStuck own js a busy
    → LackHeader own.method jss 0 n → LackHeader own.method jss (n + 1) (length jss) → TellsBare a (a_step.Stuck busy) → IsWithout own jss a busy
one_without own jss n js a None here on stuck before behind bare =
    let low = slice_get_within jss n js here in
    all_stuck own jss (n + 1) (length jss) a None (omega (arith, low)) behind (are_more own jss n js a None None here on stuck (none_stuck own jss n a before))
one_without own jss n js a (Some i) here on stuck before behind bare =
    let low = slice_get_within jss n js here in
    let all = all_stuck own jss (n + 1) (length jss) a (Some i) (omega (arith, low)) behind (are_more own jss n js a None (Some i) here on stuck (none_stuck own jss n a before)) in
    ((λ q ks e h. all.0 q ks (slice_get_within jss q ks e) e h), (n, js, here, on, stuck, (λ j h e. let z : Path Step (a_step.Stuck (Some i)) (a_step.Stuck None) = bare j e in absurd (cc))))

module _ (own : Own) (jss : List (List ℕ)) (a : List (Option Sought)) (beside : KnowsBeside own jss a) where
  -- something is known of other bags alone than that of the own method
  not_own : (j : ℕ) (x : Sought) → slice_index_or a j None ≡ Some x → j ≢ own.method
  not_own j x e = elim (beside j) [
    | inl z ↦ absurd (let y : Path (Option Sought) None (Some x) = sym z ∙ e in cc)
    | inr y ↦ y.5
  ]

  -- where no bag is busy, what is stuck is so by a bare one
  not_busy : (js : List ℕ) → ((j i : ℕ) → has j js ≡ true → slice_index_or a j None ≢ Some (Busy i)) → (b : Option ℕ) → IsStuck own js a b → IsStuck own js a None
  not_busy js never None t = t
  not_busy js never (Some i) t = absurd (never t.0 i t.1 t.2.1)

  -- a chord that nothing holds up is stuck by a bare bag
  held_by_none : (js : List ℕ) → IsHolder js a None → (b : Option ℕ) × IsStuck own js a b → IsStuck own js a None
  held_by_none js (inl y) t = (y.0, y.1, (not_own y.0 Bare y.2, y.2))
  held_by_none js (inr never) t = not_busy js never t.0 t.1

  -- all chords are stuck, and were gone through once more for what holds one of them up
  pub told_held : (busy r : Option ℕ) → AreStuck own jss (length jss) a busy → IsHolding own.method jss a r → IsWithout own jss a r
  told_held busy None s h = λ q js l e on. held_by_none js (h q js e on) (each_stuck own jss (length jss) a busy s q js l e on)
  told_held busy (Some i) s h = (
    (λ q js e on. each_stuck own jss (length jss) a busy s q js (slice_get_within jss q js e) e on),
    (let y = h.4.0 in (h.0, h.1, h.2, h.3, (y.0, y.1, (not_own y.0 (Busy i) y.2, y.2)), h.4.1)),
  )

-- the methods of the line of this number
pub chord_line_at : (lines : List ChordLine) (n : ℕ) (line : ChordLine) → line ≡ slice_index_or lines n line → n < length lines → slice_get (map methods_of lines) n ≡ Some (methods_of line)
chord_line_at lines n line e l = methods_at lines n line l ∙ ap (λ (z : ChordLine). Some (methods_of z)) (sym e)

-- all lines were gone through
pub all_lines : (own : Own) (lines : List ChordLine) (n : ℕ) (a : List (Option Sought)) (busy : Option ℕ) → length lines ≤ n → n ≤ length lines → AreStuck own (map methods_of lines) n a busy → AreStuck own (map methods_of lines) (length (map methods_of lines)) a busy
all_lines own lines n a busy all most s = subst (λ (z : ℕ). AreStuck own (map methods_of lines) z a busy) (let e = length-map lines methods_of in omega (arith, e, all, most)) s

-- what is known of the bags of one chord more stands beside the own method
pub beside_more : (own : Own) (jss : List (List ℕ)) (k : ℕ) (js : List ℕ) (a b : List (Option Sought)) → slice_get jss k ≡ Some js → has own.method js ≡ true → KnowsBeside own jss a → LearnsOf own js a b → KnowsBeside own jss b
beside_more own jss k js a b here on s t q = elim (t q) [
  | inl e ↦ elim (s q) [
    | inl z ↦ inl (e ∙ z)
    | inr y ↦ inr y
  ]
  | inr y ↦ inr (k, js, here, on, y.0, y.1)
]
