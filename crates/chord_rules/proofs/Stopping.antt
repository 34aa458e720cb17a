-- Behind the first class that breaks a rule nothing less is noted, and no class before it breaks one.
use Rattle.std.proofs.Common.{◌≡◌, ℕ, ◌+◌, ◌≤◌, List, [], ◌∷◌, ◌++◌, false, length, min, arith, refl, sym, ap, ◌∙◌, inl, inr, append_assoc, Option, Some, None}
use Rattle.std.specs.Prelude.{◌*◌, map, take, drop, get_or, ◌<◌, is_some}
use Rattle.std.proofs.Math.Seq.{take-append_seam}
use Rattle.std.proofs.lemmas.Bool.{false≢true}
use Rattle.std.proofs.lemmas.List.{append-nil, length-append, map-append, take-append-drop, take_more}
use Rattle.chord_tree.specs.declared.names.Name.{Name}
use Rattle.chord_tree.specs.Tree.{UsingTree, ClassTree, ProgramTree}
use Rattle.chord_tree.specs.Node.{size, IsNumbered}
use Rattle.chord_tree.specs.ClassNodes.{node_base, node_class, node_classes, node_usings, node_all_classes}
use Rattle.chord_tree.specs.Program.{IsProgram}
use Rattle.chord_bodies.specs.Resolved.{ClassOf}
use Rattle.chord_classes.specs.Table.{Shape, shape_of}
use Rattle.chord_classes.specs.Plan.{class_plan, plans_after}
use Rattle.chord_classes.specs.ChordRules.{over_plans}
use Rattle.chord_classes.specs.Least.{least}
use Rattle.chord_classes.proofs.Leasts.{IsIn, in_either, least_append, is_least}
use Rattle.chord_classes.proofs.Facts.{none_some}
use Rattle.chord_classes.proofs.GrownMethods.{map_end}
use Rattle.chord_classes.proofs.Search.{behind_end}
use Rattle.chord_rules.specs.ClassKeys.{class_keys}
use Rattle.chord_rules.specs.Passing.{ClassesNumbered, StopBeforeBreak}
use Rattle.chord_rules.proofs.ClassNotes.{next_class, next_plans}
use Rattle.chord_rules.proofs.Within.{BaseWithin, AreKeys, noted_within_members, class_within_keys}

-- the name of a base lies between two bounds if the tokens of its node do
base_within : (lo hi : ℕ) (base : Option Name) (at : ℕ) → lo ≤ at → at + size (node_base base) ≤ hi → IsNumbered (node_base base) at → BaseWithin lo hi base
base_within lo hi None at l u h = tt
base_within lo hi (Some x) at l u h = let e = h.1.0 in (omega (arith, e), omega (arith, e))

-- what a class breaks stands in it
class_keys_within : (classes : List ClassTree) (done : List Shape) (plans : List ClassOf) (c : ClassTree) (at : ℕ) → IsNumbered (node_class c) at → AreKeys at (at + size (node_class c)) (class_keys classes done plans c)
class_keys_within classes done plans c at h =
    let e = h.1.1.0 in
    class_within_keys at (at + size (node_class c)) classes done plans c (omega (arith, e), omega (arith, e))
    (base_within at (at + size (node_class c)) c.base _ (omega arith) (omega arith) h.1.1.1.0)
    (noted_within_members at (at + size (node_class c)) c.members _ (omega arith) (omega arith) h.1.1.1.1.1.0)

-- what classes break stands behind their first token
later_keys : (classes : List ClassTree) (done : List Shape) (plans : List ClassOf) (number : ℕ) (cs : List ClassTree) (at : ℕ) → IsNumbered (node_classes cs) at → (k : ℕ) → IsIn (over_plans (class_keys classes) done plans number cs) k → 32 * at ≤ k
later_keys classes done plans number [] at h k i = absurd i
later_keys classes done plans number (c ∷ cs) at h k i = elim (in_either (class_keys classes done plans c) (over_plans (class_keys classes) (done ++ (shape_of done c ∷ [])) (plans ++ (class_plan done plans number c ∷ [])) (number + length c.members) cs) k i) [
  | inl a ↦ ((class_keys_within classes done plans c at h.0).each k a).0
  | inr b ↦ (let l = later_keys classes (done ++ (shape_of done c ∷ [])) (plans ++ (class_plan done plans number c ∷ [])) (number + length c.members) cs (at + size (node_class c)) h.1.0 k b in omega (arith, l))
]

-- the least stays where none is less
least_stays : (ks : List ℕ) (k : ℕ) → ((x : ℕ) → IsIn ks x → k ≤ x) → least (Some k) ks ≡ Some k
least_stays [] k f = refl
least_stays (x ∷ xs) k f = let l = f x (inl refl) in let e : min k x ≡ k = omega (arith, l) in ap (λ z. least (Some z) xs) e ∙ least_stays xs k (λ y i. f y (inr i))

-- after a class that breaks a rule the least is that of all classes
pub classes_stopped : (classes : List ClassTree) (done : List Shape) (plans : List ClassOf) (number : ℕ) (c : ClassTree) (rest : List ClassTree) (o p : Option ℕ) (k : ℕ) → ClassesNumbered (c ∷ rest) → o ≡ None → p ≡ least o (class_keys classes done plans c) → p ≡ Some k
    → least o (over_plans (class_keys classes) done plans number (c ∷ rest)) ≡ p
classes_stopped classes done plans number c rest o p k numbered n hp hk =
    let at = numbered.0 in
    let later = over_plans (class_keys classes) (done ++ (shape_of done c ∷ [])) (plans ++ (class_plan done plans number c ∷ [])) (number + length c.members) rest in
    let here = is_least (class_keys classes done plans c) k (ap (λ z. least z (class_keys classes done plans c)) (sym n) ∙ sym hp ∙ hk) in
    let below = ((class_keys_within classes done plans c at numbered.1.0).each k here.0).1 in
    least_append o (class_keys classes done plans c) later ∙ ap (λ z. least z later) (sym hp ∙ hk)
    ∙ least_stays later k (λ x i. (let l = later_keys classes (done ++ (shape_of done c ∷ [])) (plans ++ (class_plan done plans number c ∷ [])) (number + length c.members) rest (at + size (node_class c)) numbered.1.1.0 x i in omega (arith, l, below)))
    ∙ sym hk

-- the classes behind the first are numbered
pub numbered_rest : (c : ClassTree) (cs : List ClassTree) → ClassesNumbered (c ∷ cs) → ClassesNumbered cs
numbered_rest c cs h = (h.0 + size (node_class c), h.1.1.0)

-- the classes of a numbered tree of usings and classes are numbered
of_classes : (usings : List UsingTree) (cs : List ClassTree) → IsNumbered (node_all_classes usings cs) 0 → ClassesNumbered cs
of_classes usings [] h = (0, tt)
of_classes usings (c ∷ cs) h = (0 + size (node_usings usings), (h.1.0, (h.1.1.0, tt)))

-- the classes of a program are numbered
pub numbered_classes : (p : ProgramTree) → IsProgram p → ClassesNumbered p.classes
numbered_classes p h = of_classes p.usings p.classes h.numbered

-- where nothing is noted nothing was noted before
pub none_before : (o : Option ℕ) (ks : List ℕ) → least o ks ≡ None → o ≡ None
none_before o [] h = h
none_before None (k ∷ ks) h = refl
none_before (Some m) (k ∷ ks) h = absurd (none_some (sym (none_before (Some (min m k)) ks h)))

-- what is not there is none
pub no_some : (o : Option ℕ) → is_some o ≡ false → o ≡ None
no_some None h = refl
no_some (Some k) h = absurd (false≢true (sym h))

-- where nothing is noted there was nothing to note
none_to_note : (o : Option ℕ) (ks : List ℕ) → least o ks ≡ None → ks ≡ []
none_to_note o [] h = refl
none_to_note None (k ∷ ks) h = absurd (none_some (sym (none_before (Some k) ks h)))
none_to_note (Some m) (k ∷ ks) h = absurd (none_some (sym (none_before (Some (min m k)) ks h)))

-- These classes break no rule: what they and others behind them come to, those others come to after these shapes and plans.
pub record WereUnbroken (rule : List Shape → List ClassOf → ClassTree → List ℕ) (classes : List ClassTree) (done : List Shape) (plans : List ClassOf) (number : ℕ) : Type 0 where
  pub count : length plans ≡ length classes
  pub planned : (rest : List ClassTree) → plans_after [] [] 0 (classes ++ rest) ≡ plans_after done plans number rest
  pub unbroken : (rest : List ClassTree) → over_plans rule [] [] 0 (classes ++ rest) ≡ over_plans rule done plans number rest

-- one more class that breaks no rule
pub one_unbroken : (rule : List Shape → List ClassOf → ClassTree → List ℕ) (classes : List ClassTree) (done table : List Shape) (plans after : List ClassOf) (number next : ℕ) (class : ClassTree) (o p : Option ℕ)
    → WereUnbroken rule classes done plans number
    → table ≡ done ++ (shape_of done class ∷ []) → after ≡ plans ++ (class_plan done plans number class ∷ []) → next ≡ number + length class.members
    → p ≡ least o (rule done plans class) → p ≡ None → WereUnbroken rule (classes ++ (class ∷ [])) table after next
one_unbroken rule classes done table plans after number next class o p were t a n h none = record {
  count = ap length a ∙ length-append plans (class_plan done plans number class ∷ []) ∙ ap (λ z. z + 1) were.count ∙ sym (length-append classes (class ∷ []));
  planned = λ rest. ap (plans_after [] [] 0) (append_assoc classes (class ∷ []) rest) ∙ were.planned (class ∷ rest) ∙ next_plans done table plans after number next class rest t a n;
  unbroken = λ rest. ap (over_plans rule [] [] 0) (append_assoc classes (class ∷ []) rest) ∙ were.unbroken (class ∷ rest)
      ∙ next_class rule done table plans after number next class rest t a n (none_to_note o (rule done plans class) (sym h ∙ none));
}

-- where the first of the classes break no rule, their plans stop before a break
pub stop_before_break : (classes first rest : List ClassTree) (done : List Shape) (plans : List ClassOf) (number : ℕ) → first ++ rest ≡ classes → WereUnbroken (class_keys classes) first done plans number → StopBeforeBreak classes plans
stop_before_break classes first rest done plans number whole were =
    let taken : take (length plans) classes ≡ first ++ [] = ap (λ z. take z classes) were.count ∙ ap (take (length first)) (sym whole) ∙ take-append_seam first rest ∙ sym (append-nil first) in
    record {
      planned = sym (ap (plans_after [] [] 0) taken ∙ were.planned []);
      unbroken = ap (over_plans (class_keys classes) [] [] 0) taken ∙ were.unbroken [];
    }

-- what a function gives for items up to a place, and what it gives for those from there on
pub both_parts : {A B : Type 0} (f : A → B) (xs : List A) (i : ℕ) → map f (take i xs) ++ map f (drop i xs) ≡ map f xs
both_parts f xs i = sym (map-append f (take i xs) (drop i xs)) ∙ ap (map f) (take-append-drop i xs)

-- what a function gives for items up to a place behind the last
pub all_taken : {A B : Type 0} (f : A → B) (xs : List A) (i : ℕ) → length xs ≤ i → map f (take i xs) ++ [] ≡ map f xs
all_taken f xs i l = ap (λ z. map f (take i xs) ++ map f z) (sym (behind_end xs i l)) ∙ both_parts f xs i

-- what a function gives for items up to the next place
pub one_taken : {A B : Type 0} (f : A → B) (xs : List A) (i : ℕ) (x : A) → i < length xs → x ≡ get_or xs i x → map f (take (i + 1) xs) ≡ map f (take i xs) ++ (f x ∷ [])
one_taken f xs i x l e = ap (map f) (take_more xs i x l ∙ ap (λ z. take i xs ++ (z ∷ [])) (sym e)) ∙ map_end f (take i xs) x
