-- Groups that are split, one overriding header after the other.
use Rattle.std.proofs.Common.{◌≡◌, ℕ, zero, suc, ◌+◌, ◌<◌, List, [], ◌∷◌, ◌++◌, Bool, true, false, not, ◌&&◌, ◌⊎◌, inl, inr, nat_eq, length, refl, sym, ap, subst, ◌∙◌, append_assoc, arith}
use Rattle.std.specs.Prelude.{Contains}
use Rattle.std.proofs.lemmas.Bool.{eqb-true, eq-eqb, false≢true, or_cases, or_left, or_right, and_parts, and_from, not-true, not_from_false, false_from_ne_true}
use Rattle.std.proofs.lemmas.List.{append-nil}
use Rattle.std.proofs.lemmas.List.Elements.{Contains-append_left, Contains-append_right, Contains-append_cases}
use Rattle.chord_tree.specs.Tree.{HeaderTree, ClassTree}
use Rattle.chord_tree.specs.Walk.{headers_of}
use Rattle.chord_bodies.specs.Resolved.{ChordOf, ClassOf}
use Rattle.chord_classes.specs.Table.{Method, Shape, among, inherited, base_of, shape_of}
use Rattle.chord_classes.specs.NameRules.{when}
use Rattle.chord_classes.specs.Plan.{header_number, overridden, base_chords, class_plan}
use Rattle.chord_classes.specs.DeclarationRules.{Grouped, IsAmong, IsSplit, SplitAmong, overriding}
use Rattle.chord_classes.specs.ChordRules.{over_plans}
use Rattle.chord_rules.specs.Groups.{label}
use Rattle.chord_rules.specs.Splits.{any_spared, any_labelled, split_from, split, SplitsAreListed}
use Rattle.chord_rules.proofs.Grouping.{label_grouped, grouped_label}

-- where a token is noted by a condition, the condition is true and the token is its own
in_when : (b : Bool) (x at : ℕ) → Contains (when b x) at → (b ≡ true) × (x ≡ at)
in_when true x at (zero, l, e) = (refl, e)
in_when true x at (suc k, l, e) = absurd (omega arith)
in_when false x at (k, l, e) = absurd (omega arith)

-- a condition that is true notes its token
when_in : (b : Bool) (x at : ℕ) → b ≡ true → x ≡ at → Contains (when b x) at
when_in b x at h e = subst (λ z. Contains (when b x) z) e (subst (λ z. Contains (when z x) x) (sym h) (0, omega arith, refl))

module _ (chords : List ChordOf) (taken : List ℕ) (methods : List Method) where
  -- where one of the first n methods has this label and is not overridden, one of them is of this group and is not
  spared_at : (i n : ℕ) → any_spared chords taken methods i n ≡ true → (m : ℕ) × (m < n) × Grouped chords i m × (among m taken ≡ false)
  spared_at i zero h = absurd (false≢true h)
  spared_at i (suc n) h = elim (or_cases (nat_eq (label chords i) (label chords n) && not (among n taken)) (any_spared chords taken methods i n) h) [
    | inl a ↦ (let p = and_parts (nat_eq (label chords i) (label chords n)) (not (among n taken)) a in (n, omega arith, label_grouped chords i n (eqb-true _ _ p.0), not-true (among n taken) p.1))
    | inr b ↦ (let r = spared_at i n b in let l = r.1 in (r.0, omega arith, r.2, r.3))
  ]

  -- where one of the first n methods is of this group and is not overridden, one of them has this label and is not
  at_spared : (i n m : ℕ) → m < n → Grouped chords i m → among m taken ≡ false → any_spared chords taken methods i n ≡ true
  at_spared i zero m l g f = absurd (omega arith)
  at_spared i (suc n) m l g f = elim (below m n l) [
    | inl e ↦ or_left (nat_eq (label chords i) (label chords n) && not (among n taken)) _
        (and_from _ _ (eq-eqb _ _ (grouped_label g ∙ ap (label chords) e)) (not_from_false (among n taken) (sym (ap (λ z. among z taken) e) ∙ f)))
    | inr k ↦ or_right (nat_eq (label chords i) (label chords n) && not (among n taken)) _ (at_spared i n m k g f)
  ]
    where
      below : (m n : ℕ) → m < suc n → (m ≡ n) ⊎ (m < n)
      below zero zero l = inl refl
      below zero (suc n) l = inr (omega arith)
      below (suc m) zero l = absurd (omega arith)
      below (suc m) (suc n) l = elim (below m n (omega arith)) [ inl e ↦ inl (ap suc e) | inr k ↦ inr (omega arith) ]

  -- where one of these headers has the label of this one, one of them is of its group
  labelled_at : (h : HeaderTree) (hs : List HeaderTree) → any_labelled chords taken methods h hs ≡ true → (other : HeaderTree) × IsAmong other hs × Grouped chords (header_number methods h) (header_number methods other)
  labelled_at h [] t = absurd (false≢true t)
  labelled_at h (x ∷ xs) t = elim (or_cases (nat_eq (label chords (header_number methods h)) (label chords (header_number methods x))) (any_labelled chords taken methods h xs) t) [
    | inl a ↦ (x, inl refl, label_grouped chords (header_number methods h) (header_number methods x) (eqb-true _ _ a))
    | inr b ↦ (let r = labelled_at h xs b in (r.0, inr r.1, r.2))
  ]

  -- where one of these headers is of the group of this one, one of them has its label
  at_labelled : (h other : HeaderTree) (hs : List HeaderTree) → IsAmong other hs → Grouped chords (header_number methods h) (header_number methods other) → any_labelled chords taken methods h hs ≡ true
  at_labelled h other [] a g = absurd a
  at_labelled h other (x ∷ xs) (inl e) g = or_left (nat_eq (label chords (header_number methods h)) (label chords (header_number methods x))) _ (eq-eqb _ _ (grouped_label g ∙ ap (λ z. label chords (header_number methods z)) e))
  at_labelled h other (x ∷ xs) (inr k) g = or_right (nat_eq (label chords (header_number methods h)) (label chords (header_number methods x))) _ (at_labelled h other xs k g)

  -- one of these headers has this token and another label than all before it, and a method of its label is not overridden
  record Split (before headers : List HeaderTree) (at : ℕ) : Type 0 where
    ahead : List HeaderTree
    header : HeaderTree
    rest : List HeaderTree
    are : headers ≡ ahead ++ (header ∷ rest)
    token : header.name.at ≡ at
    alone : any_labelled chords taken methods header (before ++ ahead) ≡ false
    some : any_spared chords taken methods (header_number methods header) (length methods) ≡ true

  -- a header has another label than those before it, and a method of its label is not overridden
  here_is : List HeaderTree → HeaderTree → Bool
  here_is before h = not (any_labelled chords taken methods h before) && any_spared chords taken methods (header_number methods h) (length methods)

  -- each token of the list is that of a header which is the first of its label, where a method of that label is not overridden
  of_list : (before headers : List HeaderTree) (at : ℕ) → Contains (split_from chords taken methods before headers) at → Split before headers at
  of_list before [] at (k, l, e) = absurd (omega arith)
  of_list before (h ∷ hs) at c = elim (Contains-append_cases (when (not (any_labelled chords taken methods h before) && any_spared chords taken methods (header_number methods h) (length methods)) h.name.at) (split_from chords taken methods (before ++ (h ∷ [])) hs) at c) [
    | inl a ↦ (
        let w = in_when (not (any_labelled chords taken methods h before) && any_spared chords taken methods (header_number methods h) (length methods)) h.name.at at a in
        let p = and_parts (not (any_labelled chords taken methods h before)) (any_spared chords taken methods (header_number methods h) (length methods)) w.0 in
        record { ahead = []; header = h; rest = hs; are = refl; token = w.1; alone = ap (any_labelled chords taken methods h) (append-nil before) ∙ not-true _ p.0; some = p.1 })
    | inr b ↦ (
        let r = of_list (before ++ (h ∷ [])) hs at b in
        record { ahead = h ∷ r.ahead; header = r.header; rest = r.rest; are = ap (λ z. h ∷ z) r.are; token = r.token; alone = ap (any_labelled chords taken methods r.header) (sym (append_assoc before (h ∷ []) r.ahead)) ∙ r.alone; some = r.some })
  ]

  -- the token of a header which is the first of its label is in the list, where a method of that label is not overridden
  to_list : (before ahead : List HeaderTree) (h : HeaderTree) (rest : List HeaderTree) (at : ℕ) → h.name.at ≡ at → any_labelled chords taken methods h (before ++ ahead) ≡ false
      → any_spared chords taken methods (header_number methods h) (length methods) ≡ true → Contains (split_from chords taken methods before (ahead ++ (h ∷ rest))) at
  to_list before [] h rest at t a s =
      Contains-append_left (when (not (any_labelled chords taken methods h before) && any_spared chords taken methods (header_number methods h) (length methods)) h.name.at) (split_from chords taken methods (before ++ (h ∷ [])) rest) at
      (when_in _ h.name.at at (and_from (not (any_labelled chords taken methods h before)) (any_spared chords taken methods (header_number methods h) (length methods)) (not_from_false _ (ap (any_labelled chords taken methods h) (sym (append-nil before)) ∙ a)) s) t)
  to_list before (x ∷ xs) h rest at t a s =
      Contains-append_right (when (not (any_labelled chords taken methods x before) && any_spared chords taken methods (header_number methods x) (length methods)) x.name.at) (split_from chords taken methods (before ++ (x ∷ [])) (xs ++ (h ∷ rest))) at
      (to_list (before ++ (x ∷ [])) xs h rest at t (ap (any_labelled chords taken methods h) (append_assoc before (x ∷ []) xs) ∙ a) s)

-- each token that is listed for a class is one at which it overrides a group in part
listed_split : (done : List Shape) (plans : List ClassOf) (class : ClassTree) (at : ℕ) → Contains (split done plans class) at → IsSplit done plans class at
listed_split done plans class at c =
    let methods = inherited done (base_of done class) in
    let chords = base_chords plans (base_of done class) in
    let taken = overridden methods (headers_of class) in
    let r = of_list chords taken methods [] (overriding methods (headers_of class)) at c in
    let s = spared_at chords taken methods (header_number methods r.header) (length methods) r.some in
    record {
      before = r.ahead;
      header = r.header;
      rest = r.rest;
      are = r.are;
      token = r.token;
      first = λ other a g. false≢true (sym r.alone ∙ at_labelled chords taken methods r.header other r.ahead a g);
      missing = s.0;
      within = s.1;
      grouped = s.2;
      spared = s.3;
    }

-- each token at which a class overrides a group in part is listed for it
split_listed : (done : List Shape) (plans : List ClassOf) (class : ClassTree) (at : ℕ) → IsSplit done plans class at → Contains (split done plans class) at
split_listed done plans class at s =
    let methods = inherited done (base_of done class) in
    let chords = base_chords plans (base_of done class) in
    let taken = overridden methods (headers_of class) in
    subst (λ z. Contains (split_from chords taken methods [] z) at) (sym s.are)
    (to_list chords taken methods [] s.before s.header s.rest at s.token
    (false_from_ne_true (any_labelled chords taken methods s.header s.before) (λ t. (let r = labelled_at chords taken methods s.header s.before t in s.first r.0 r.1 r.2)))
    (at_spared chords taken methods (header_number methods s.header) (length methods) s.missing s.within s.grouped s.spared))

-- each token that is listed over classes is one at which a class among them overrides a group in part
listed_among : (done : List Shape) (plans : List ClassOf) (number : ℕ) (cs : List ClassTree) (at : ℕ) → Contains (over_plans split done plans number cs) at → SplitAmong done plans number cs at
listed_among done plans number [] at (k, l, e) = absurd (omega arith)
listed_among done plans number (c ∷ cs) at h = elim (Contains-append_cases (split done plans c) (over_plans split (done ++ (shape_of done c ∷ [])) (plans ++ (class_plan done plans number c ∷ [])) (number + length c.members) cs) at h) [
  | inl a ↦ inl (listed_split done plans c at a)
  | inr b ↦ inr (listed_among (done ++ (shape_of done c ∷ [])) (plans ++ (class_plan done plans number c ∷ [])) (number + length c.members) cs at b)
]

-- each token at which a class among these overrides a group in part is listed over them
among_listed : (done : List Shape) (plans : List ClassOf) (number : ℕ) (cs : List ClassTree) (at : ℕ) → SplitAmong done plans number cs at → Contains (over_plans split done plans number cs) at
among_listed done plans number [] at h = absurd h
among_listed done plans number (c ∷ cs) at (inl s) =
    Contains-append_left (split done plans c) (over_plans split (done ++ (shape_of done c ∷ [])) (plans ++ (class_plan done plans number c ∷ [])) (number + length c.members) cs) at (split_listed done plans c at s)
among_listed done plans number (c ∷ cs) at (inr k) =
    Contains-append_right (split done plans c) (over_plans split (done ++ (shape_of done c ∷ [])) (plans ++ (class_plan done plans number c ∷ [])) (number + length c.members) cs) at
    (among_listed (done ++ (shape_of done c ∷ [])) (plans ++ (class_plan done plans number c ∷ [])) (number + length c.members) cs at k)

pub splits_listed : SplitsAreListed
splits_listed done plans number cs at = (listed_among done plans number cs at, among_listed done plans number cs at)
