-- Two methods have one label exactly where they are linked directly or through others.
use Rattle.std.proofs.Common.{◌≡◌, ℕ, List, [], ◌∷◌, true, false, cond, map, nat_eq, inl, inr, refl, sym, ap, subst, ◌∙◌}
use Rattle.std.proofs.lemmas.Bool.{eqb-true, eq-eqb, false≢true, both_ways, cases_Bool, or_cases, or_left, or_right}
use Rattle.chord_bodies.specs.Resolved.{ChordOf}
use Rattle.chord_classes.specs.Table.{among}
use Rattle.chord_classes.specs.DeclarationRules.{Linked, here, later, Grouped, itself, through}
use Rattle.chord_rules.specs.Groups.{label, merged, LabelsGroup}

-- a label among the labels of a chord is one of them
among_map : (f : ℕ → ℕ) (v : ℕ) (k : List ℕ) → among v (map f k) ≡ true → (x : ℕ) × (among x k ≡ true) × (v ≡ f x)
among_map f v [] h = absurd (false≢true h)
among_map f v (y ∷ ys) h = elim (or_cases (nat_eq v (f y)) (among v (map f ys)) h) [
  | inl e ↦ (y, or_left (nat_eq y y) (among y ys) (eq-eqb y y refl), eqb-true v (f y) e)
  | inr m ↦ let r = among_map f v ys m in (r.0, or_right (nat_eq r.0 y) (among r.0 ys) r.1, r.2)
]

-- what a function makes of one of some numbers is among what it makes of all of them
map_among : (f : ℕ → ℕ) (x : ℕ) (k : List ℕ) → among x k ≡ true → among (f x) (map f k) ≡ true
map_among f x [] h = absurd (false≢true h)
map_among f x (y ∷ ys) h = elim (or_cases (nat_eq x y) (among x ys) h) [
  | inl e ↦ or_left (nat_eq (f x) (f y)) (among (f x) (map f ys)) (eq-eqb (f x) (f y) (ap f (eqb-true x y e)))
  | inr m ↦ or_right (nat_eq (f x) (f y)) (among (f x) (map f ys)) (map_among f x ys m)
]

-- methods that are linked with one that others are linked with are linked with those
pub chained : {ks : List ChordOf} {i j k : ℕ} → Grouped ks i j → Grouped ks j k → Grouped ks i k
chained itself q = q
chained (through l p) q = through l (chained p q)

-- methods that are linked are linked the other way round
linked_back : {ks : List ChordOf} {i j : ℕ} → Linked ks i j → Linked ks j i
linked_back (here a b) = here b a
linked_back (later l) = later (linked_back l)

-- linked both ways
pub turned_round : {ks : List ChordOf} {i j : ℕ} → Grouped ks i j → Grouped ks j i
turned_round itself = itself
turned_round (through l p) = chained (turned_round p) (through (linked_back l) itself)

-- what is grouped by some chords is grouped by more
pub wider : {k : ChordOf} {ks : List ChordOf} {i j : ℕ} → Grouped ks i j → Grouped (k ∷ ks) i j
wider itself = itself
wider (through l p) = through (later l) (wider p)

-- the label after a chord, where the label before is among its methods' labels or not
merged_in : (j : ℕ) (js : List ℕ) (f : ℕ → ℕ) (v : ℕ) → among v (map f (j ∷ js)) ≡ true → merged (j ∷ js) f v ≡ f j
merged_in j js f v h = ap (λ z. cond z (f j) v) h

-- a label that is not among those of a chord's methods stays
merged_out : (j : ℕ) (js : List ℕ) (f : ℕ → ℕ) (v : ℕ) → among v (map f (j ∷ js)) ≡ false → merged (j ∷ js) f v ≡ v
merged_out j js f v h = ap (λ z. cond z (f j) v) h

-- after a chord, any two of its methods have one label
one_label : (k : List ℕ) (f : ℕ → ℕ) (i j : ℕ) → among i k ≡ true → among j k ≡ true → merged k f (f i) ≡ merged k f (f j)
one_label [] f i j a b = absurd (false≢true a)
one_label (h ∷ t) f i j a b = merged_in h t f (f i) (map_among f i (h ∷ t) a) ∙ sym (merged_in h t f (f j) (map_among f j (h ∷ t) b))

-- linked methods have one label
linked_label : {ks : List ChordOf} {i j : ℕ} → Linked ks i j → label ks i ≡ label ks j
linked_label (here {k = k} {ks = ks} {i = i} {j = j} a b) = one_label k.methods (label ks) i j a b
linked_label (later {k = k} {ks = ks} l) = ap (merged k.methods (label ks)) (linked_label l)

-- grouped methods have one label
pub grouped_label : {ks : List ChordOf} {i j : ℕ} → Grouped ks i j → label ks i ≡ label ks j
grouped_label itself = refl
grouped_label (through l p) = linked_label l ∙ grouped_label p

-- two labels that a chord makes one
joined : (k : ChordOf) (ks : List ChordOf) → ((i j : ℕ) → label ks i ≡ label ks j → Grouped ks i j) → (i j : ℕ)
    → among (label ks i) (map (label ks) k.methods) ≡ true → among (label ks j) (map (label ks) k.methods) ≡ true → Grouped (k ∷ ks) i j
joined k ks ih i j a b =
    let x = among_map (label ks) (label ks i) k.methods a in
    let y = among_map (label ks) (label ks j) k.methods b in
    chained (wider (ih i x.0 x.2)) (through (here x.1 y.1) (wider (turned_round (ih j y.0 y.2))))

-- methods that have one label after a chord with methods are grouped, if those with one label before it are
label_step : (k : ChordOf) (h : ℕ) (t : List ℕ) (ks : List ChordOf) → k.methods ≡ h ∷ t → ((i j : ℕ) → label ks i ≡ label ks j → Grouped ks i j) → (i j : ℕ)
    → merged (h ∷ t) (label ks) (label ks i) ≡ merged (h ∷ t) (label ks) (label ks j) → Grouped (k ∷ ks) i j
label_step k h t ks is ih i j e =
    let f = label ks in
    let self : among (f h) (map f (h ∷ t)) ≡ true = or_left (nat_eq (f h) (f h)) (among (f h) (map f t)) (eq-eqb (f h) (f h) refl) in
    elim (cases_Bool (among (f i) (map f (h ∷ t)))) [
      | inl a ↦ elim (cases_Bool (among (f j) (map f (h ∷ t)))) [
        | inl b ↦ joined k ks ih i j (ap (λ z. among (f i) (map f z)) is ∙ a) (ap (λ z. among (f j) (map f z)) is ∙ b)
        | inr b ↦ absurd (both_ways _ b (subst (λ z. among z (map f (h ∷ t)) ≡ true) (sym (merged_in h t f (f i) a) ∙ e ∙ merged_out h t f (f j) b) self))
      ]
      | inr a ↦ elim (cases_Bool (among (f j) (map f (h ∷ t)))) [
        | inl b ↦ absurd (both_ways _ a (subst (λ z. among z (map f (h ∷ t)) ≡ true) (sym (merged_in h t f (f j) b) ∙ sym e ∙ merged_out h t f (f i) a) self))
        | inr b ↦ wider (ih i j (sym (merged_out h t f (f i) a) ∙ e ∙ merged_out h t f (f j) b))
      ]
    ]

-- methods that have one label after a chord are grouped, if those with one label before it are
label_by : (k : ChordOf) (methods : List ℕ) (ks : List ChordOf) → k.methods ≡ methods → ((i j : ℕ) → label ks i ≡ label ks j → Grouped ks i j) → (i j : ℕ)
    → merged methods (label ks) (label ks i) ≡ merged methods (label ks) (label ks j) → Grouped (k ∷ ks) i j
label_by k [] ks is ih i j e = wider (ih i j e)
label_by k (h ∷ t) ks is ih i j e = label_step k h t ks is ih i j e

-- methods of one label are grouped
pub label_grouped : (ks : List ChordOf) (i j : ℕ) → label ks i ≡ label ks j → Grouped ks i j
label_grouped [] i j e = subst (λ z. Grouped [] i z) e itself
label_grouped (k ∷ ks) i j e = label_by k k.methods ks refl (label_grouped ks) i j e

pub labels_group : LabelsGroup
labels_group ks i j = (label_grouped ks i j, grouped_label)
