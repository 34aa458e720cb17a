-- What `At` and `Tall` say, in the words of programs; and each list of kinds has a program, or one of the two.
use Rattle.std.proofs.Common.{◌≡◌, ℕ, ◌+◌, ◌-◌, ◌<◌, List, [], ◌∷◌, ◌++◌, length, take, drop, refl, sym, ap, subst, ◌∙◌, arith, append_assoc, append-nil, length-append, length-drop, ◌⊎◌, inl, inr}
use Rattle.std.proofs.lemmas.List.{take-append-drop, length-take-le}
use Rattle.std.proofs.Math.Seq.{take-append_seam, take-append-add}
use Rattle.chord_lexer.specs.declared.token.Kind.{Kind}
use Rattle.chord_tree.specs.Grammar.{nonterminal_count}
use Rattle.chord_tree.specs.Derivation.{Spelled, kinds_of, NotTall, Derives, done}
use Rattle.chord_tree.specs.Node.{spell}
use Rattle.chord_tree.specs.ClassNodes.{node_program}
use Rattle.chord_tree.proofs.OneTree.{derives, start_legal}
use Rattle.chord_parser.specs.declared.parser.ParseFault.TheVariants as faults
use Rattle.chord_parser.specs.Answers.{start, IsAnswer}
use Rattle.chord_parser.specs.Exact.{BeginsThrough, IsWrong, IsTall}
use Rattle.chord_parser.specs.Runs.{Verdict, Fine, Wrong, Tall}
use Rattle.chord_parser.specs.Laws.{IsSpelledBySome, AreOfSome, IsFirstWrong, IsFirstTall, AreOfNotTall, DerivedWhereSpelled, AtMeansWrong, TallMeansTall, EachIsAnswered, HasOneAnswer, NotTallHasNone}
use Rattle.chord_parser.proofs.Ends.{some_verdict}
use Rattle.chord_parser.proofs.Outcomes.{Outcome, IsDerivedList, outcome, by_kinds}
use Rattle.chord_parser.proofs.OneVerdict.{at_only, tall_only}
use Rattle.chord_parser.proofs.StandsClasses.{spelled_by_one}
use Rattle.chord_parser.proofs.Whole.{only_memory}

-- the grammar derives what a program spells
spelled_derived : (w : List Spelled) → IsSpelledBySome w → Derives start w
spelled_derived w s = subst (λ z. Derives start z) s.2 (derives s.1.derived done)

-- The grammar derives tokens exactly where some program spells them, with the same depths.
pub derived_where_spelled : DerivedWhereSpelled
derived_where_spelled w = (spelled_by_one w, spelled_derived w)

-- what is derived is of a program's kinds
of_some : (w : List Spelled) → Derives start w → AreOfSome (kinds_of w)
of_some w r = let s = spelled_by_one w r in (s.0, s.1, ap kinds_of s.2)

-- a program's kinds are those of what is derived
from_some : (ks : List Kind) → AreOfSome ks → (w : List Spelled) × Derives start w × (kinds_of w ≡ ks)
from_some ks s = (spell (node_program s.0) 0 [], derives s.1.derived done, s.2)

-- the kinds up to the first of a suffix
taken_through : (ks fs : List Kind) (k : Kind) (suffix : List Kind) (n : ℕ) → ks ≡ fs ++ k ∷ suffix → length fs ≡ n → take (n + 1) ks ≡ fs ++ k ∷ []
taken_through ks fs k suffix n e l = ap (take (n + 1)) e ∙ ap (λ z. take (z + 1) (fs ++ k ∷ suffix)) (sym l) ∙ take-append-add fs (k ∷ suffix) 1

-- kinds that begin with one more than the first n begin so far through what follows them
further_through : (ks fs suffix u rest : List Kind) (n : ℕ) → ks ≡ fs ++ suffix → length fs ≡ n → n < length ks → u ≡ take (n + 1) ks ++ rest → BeginsThrough u fs suffix
further_through ks fs [] u rest n e l m f = let a = ap length e ∙ length-append fs [] in absurd (omega (arith, a, l, m))
further_through ks fs (k ∷ suffix) u rest n e l m f = (rest, f ∙ ap (λ z. z ++ rest) (taken_through ks fs k suffix n e l) ∙ append_assoc fs (k ∷ []) rest)

-- kinds that are the first n and no more begin through nothing after them
whole_through : (ks fs suffix : List Kind) (n : ℕ) → ks ≡ fs ++ suffix → length fs ≡ n → n ≡ length ks → BeginsThrough ks fs suffix
whole_through ks fs [] n e l m = e ∙ append-nil fs
whole_through ks fs (k ∷ suffix) n e l m = let a = ap length e ∙ length-append fs (k ∷ suffix) in absurd (omega (arith, a, l, m))

-- what begins through what follows the first n goes one further than they, or is all of them
through_cases : (ks fs suffix u : List Kind) (n : ℕ) → ks ≡ fs ++ suffix → length fs ≡ n → BeginsThrough u fs suffix → ((n < length ks) × ((rest : List Kind) × (u ≡ take (n + 1) ks ++ rest))) ⊎ ((n ≡ length ks) × (u ≡ ks))
through_cases ks fs [] u n e l b = let a = ap length e ∙ length-append fs [] in inr (omega (arith, a, l), b ∙ sym (e ∙ append-nil fs))
through_cases ks fs (k ∷ suffix) u n e l (rest, b) =
    let a = ap length e ∙ length-append fs (k ∷ suffix) in
    inl (omega (arith, a, l), (rest, b ∙ sym (ap (λ z. z ++ rest) (taken_through ks fs k suffix n e l) ∙ append_assoc fs (k ∷ []) rest)))

-- as many kinds as come before what is left
front_length : (ks fs suffix : List Kind) (k left : ℕ) → ks ≡ fs ++ suffix → length suffix ≡ left → k + left ≡ length ks → length fs ≡ k
front_length ks fs suffix k left e c h = let a = ap length e ∙ length-append fs suffix in omega (arith, a, c, h)

-- a refusal at a token says that it is wrong
wrong_at : (ks : List Kind) (k : ℕ) → IsAnswer ks (faults.At k) → IsFirstWrong ks k
wrong_at ks k (left, h, o) =
    let l = front_length ks (kinds_of o.prefix) o.suffix k left o.cut o.count h in
    record {
      within = omega (arith, h);
      front = o.prefix;
      first = sym (ap (take k) o.cut ∙ ap (λ z. take z (kinds_of o.prefix ++ o.suffix)) (sym l) ∙ take-append_seam (kinds_of o.prefix) o.suffix);
      begin = (o.rest, spelled_by_one (o.prefix ++ o.rest) o.opens);
      not_tall = o.not_tall;
      no_further = λ m (rest, s). let w = from_some (take (k + 1) ks ++ rest) s in o.refuses w.0 (further_through ks (kinds_of o.prefix) o.suffix (kinds_of w.0) rest k o.cut l m w.2) w.1;
      not_whole = λ m s. let w = from_some ks s in o.refuses w.0 (subst (λ z. BeginsThrough z (kinds_of o.prefix) o.suffix) (sym w.2) (whole_through ks (kinds_of o.prefix) o.suffix k o.cut l m)) w.1;
    }

-- a token that is wrong is one at which a refusal comes
wrong_at_answers : (ks : List Kind) (k : ℕ) → IsFirstWrong ks k → IsAnswer ks (faults.At k)
wrong_at_answers ks k o =
    let cut : ks ≡ kinds_of o.front ++ drop k ks = sym (ap (λ z. z ++ drop k ks) o.first ∙ take-append-drop k ks) in
    let l : length (kinds_of o.front) ≡ k = ap length o.first ∙ length-take-le k ks o.within in (
      length ks - k,
      (let m = o.within in omega arith),
      record {
        prefix = o.front;
        rest = o.begin.0;
        suffix = drop k ks;
        cut = cut;
        count = length-drop k ks;
        not_tall = o.not_tall;
        opens = spelled_derived (o.front ++ o.begin.0) o.begin.1;
        refuses = λ w b r. let s = of_some w r in elim (through_cases ks (kinds_of o.front) (drop k ks) (kinds_of w) k cut l b) [
          | inl c ↦ o.no_further c.0 (c.1.0, subst AreOfSome c.1.1 s)
          | inr c ↦ o.not_whole c.0 (subst AreOfSome c.1 s)
        ];
      },
    )

-- `At` is the answer exactly where a token is wrong
pub at_means_wrong : AtMeansWrong
at_means_wrong ks k = (wrong_at ks k, wrong_at_answers ks k)

-- the answer of a tall token says that it is tall, and none before it
tall_at : (ks : List Kind) (k : ℕ) → IsAnswer ks (faults.Tall k) → IsFirstTall ks k
tall_at ks k (left, h, o) =
    let l = front_length ks (kinds_of o.prefix) (o.kind ∷ o.suffix) k left o.cut o.count h in
    record {
      within = (let c = o.count in omega (arith, h));
      front = o.prefix;
      kind = o.kind;
      depth = o.depth;
      first = sym (taken_through ks (kinds_of o.prefix) o.kind o.suffix k o.cut l);
      begin = (o.rest, subst IsSpelledBySome (sym (append_assoc o.prefix ((o.kind, o.depth) ∷ []) o.rest)) (spelled_by_one (o.prefix ++ (o.kind, o.depth) ∷ o.rest) o.opens));
      not_tall = o.not_tall;
      tall = o.tall;
    }

-- the first token that is tall is the one at which the answer comes
tall_at_answers : (ks : List Kind) (k : ℕ) → IsFirstTall ks k → IsAnswer ks (faults.Tall k)
tall_at_answers ks k o =
    let m = o.within in
    let c = length-drop (k + 1) ks in (
      length ks - k,
      omega arith,
      record {
        prefix = o.front;
        kind = o.kind;
        depth = o.depth;
        rest = o.begin.0;
        suffix = drop (k + 1) ks;
        cut = sym (sym (append_assoc (kinds_of o.front) (o.kind ∷ []) (drop (k + 1) ks)) ∙ ap (λ z. z ++ drop (k + 1) ks) o.first ∙ take-append-drop (k + 1) ks);
        count = omega arith;
        not_tall = o.not_tall;
        tall = o.tall;
        opens = subst (λ z. Derives start z) (append_assoc o.front ((o.kind, o.depth) ∷ []) o.begin.0) (spelled_derived ((o.front ++ (o.kind, o.depth) ∷ []) ++ o.begin.0) o.begin.1);
      },
    )

-- `Tall` is the answer exactly where a token is the first that is tall
pub tall_means_tall : TallMeansTall
tall_means_tall ks k = (tall_at ks k, tall_at_answers ks k)

-- what is derived without a tall token is spelled by a program without one
derived_not_tall : (ks : List Kind) → IsDerivedList start ks → AreOfNotTall ks
derived_not_tall ks o =
    let s = spelled_by_one o.text o.derived in
    (s.0, s.1, subst NotTall (sym s.2) o.not_tall, ap kinds_of s.2 ∙ o.same)

-- a verdict at a token, by the tokens before it
at_answer : (ks : List Kind) (n : ℕ) → IsWrong start ks n → IsAnswer ks (faults.At (length ks - n))
at_answer ks n o = (n, (let a = ap length o.cut ∙ length-append (kinds_of o.prefix) o.suffix in let c = o.count in omega arith), o)

-- and at a tall token
tall_answer : (ks : List Kind) (n : ℕ) → IsTall start ks n → IsAnswer ks (faults.Tall (length ks - n))
tall_answer ks n o = (n, (let a = ap length o.cut ∙ length-append (kinds_of o.prefix) (o.kind ∷ o.suffix) in let c = o.count in omega arith), o)

-- whatever the verdict is, it is one of the three
by_outcome : (ks : List Kind) (v : Verdict) → Outcome start ks v → AreOfNotTall ks ⊎ ((k : ℕ) × IsAnswer ks (faults.At k)) ⊎ ((k : ℕ) × IsAnswer ks (faults.Tall k))
by_outcome ks Fine o = inl (derived_not_tall ks o)
by_outcome ks (Wrong n) o = inr (inl (_, at_answer ks n (by_kinds start ks n o)))
by_outcome ks (Tall n) o = inr (inr (_, tall_answer ks n o))

-- Kinds are those of a program without a tall token, or have a first token that is wrong, or a first that is tall.
pub each_is_answered : EachIsAnswered
unfolding nonterminal_count
each_is_answered ks = let v = some_verdict ks start refl in by_outcome ks v.0 (outcome v.1 refl start_legal)

-- kinds have at most one answer that is no lack of memory
pub has_one_answer : HasOneAnswer
has_one_answer ks f faults.Memory m n a b = absurd (n refl)
has_one_answer ks f (faults.At k) m n a b = elim (at_only ks f a k b) [ inl e ↦ absurd (m e) | inr e ↦ e ]
has_one_answer ks f (faults.Tall k) m n a b = elim (tall_only ks f a k b) [ inl e ↦ absurd (m e) | inr e ↦ e ]

-- those of a program without a tall token have none
pub not_tall_has_none : NotTallHasNone
not_tall_has_none ks f m s a = m (only_memory ks f a s.0 s.1 s.2 s.3)
