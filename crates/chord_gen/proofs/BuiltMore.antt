-- What was built, block by block.
use Rattle.std.proofs.Common.{◌≡◌, ℕ, zero, suc, ◌+◌, ◌<◌, ◌≤◌, ◌==◌, ◌⊎◌, List, [], ◌∷◌, ◌++◌, Bool, true, false, cond, ◌||◌, Option, Some, None, inl, inr, length, map, get_or, refl, sym, ◌∙◌, ap, arith, length-append, append_assoc, slice_get, slice_set, drop}
use Rattle.std.specs.Prelude.{unwrap_or, option_map, replicate}
use Rattle.std.proofs.lemmas.Bool.{eq-eqb, ne_eqb}
use Rattle.std.proofs.lemmas.Option.{none-some, same_Some, slice_get_within, slice_get-get_or, slice_get-map}
use Rattle.chord_bodies.specs.declared.plan.ClassPlan.{ClassPlan}
use Rattle.chord_bodies.specs.View.{view_class_plan}
use Rattle.chord_bodies.specs.Resolved.{ClassOf, Resolved}
use Rattle.chord_code.specs.declared.parts.Block.{Block}
use Rattle.chord_source.specs.Objects.{constructor_of}
use Rattle.chord_gen.specs.Translation.{has_own, has_builder, Origin, OfMain, OfBuilder, OfBody, is_origin, block_number, origins_from, one_higher, block_of, init_code}
use Rattle.chord_gen.specs.TypedSource.{IsTypedSource}
use Rattle.chord_gen.specs.Building.{IsBuilt, class_origins, is_told, numbered_member, base_told, init_listed}
use Rattle.chord_gen.proofs.Numbers.{has_of_base, has_builder_by_base}
use Rattle.chord_code.specs.declared.instruction.Instruction.TheVariants as i

-- a number that an origin has, it keeps where one more origin stands behind
number_kept : (o x : Origin) (os : List Origin) (n : ℕ) → block_number o os ≡ Some n → block_number o (os ++ x ∷ []) ≡ Some n
number_kept o x [] n e = absurd (none-some _ e)
number_kept o x (y ∷ os) n e = by_first (is_origin o y) e (number_kept o x os)
  where
    by_first : (b : Bool) → cond b (Some 0) (one_higher (block_number o os)) ≡ Some n → ((m : ℕ) → block_number o os ≡ Some m → block_number o (os ++ x ∷ []) ≡ Some m) → cond b (Some 0) (one_higher (block_number o (os ++ x ∷ []))) ≡ Some n
    by_first true e h = e
    by_first false e h = by_number (block_number o os) refl e
      where
        by_number : (z : Option ℕ) → block_number o os ≡ z → one_higher z ≡ Some n → one_higher (block_number o (os ++ x ∷ [])) ≡ Some n
        by_number None w e = absurd (none-some _ e)
        by_number (Some m) w e = ap one_higher (h m w) ∙ e

-- another origin that stands behind gives an origin no number
number_other : (o x : Origin) (os : List Origin) → is_origin o x ≡ false → block_number o (os ++ x ∷ []) ≡ block_number o os
number_other o x [] e = rw e refl
number_other o x (y ∷ os) e = ap (λ z. cond (is_origin o y) (Some 0) (one_higher z)) (number_other o x os e)

-- an origin that had no number has that of the length before it
number_new : (o x : Origin) (os : List Origin) → is_origin o x ≡ true → block_number o os ≡ None → block_number o (os ++ x ∷ []) ≡ Some (length os)
number_new o x [] e n = rw e refl
number_new o x (y ∷ os) e n = by_first (is_origin o y) n (number_new o x os e)
  where
    by_first : (b : Bool) → cond b (Some 0) (one_higher (block_number o os)) ≡ None → (block_number o os ≡ None → block_number o (os ++ x ∷ []) ≡ Some (length os)) → cond b (Some 0) (one_higher (block_number o (os ++ x ∷ []))) ≡ Some (suc (length os))
    by_first true n h = absurd (none-some _ (sym n))
    by_first false n h = ap one_higher (h (by_number (block_number o os) n))
      where
        by_number : (z : Option ℕ) → one_higher z ≡ None → z ≡ None
        by_number None w = refl
        by_number (Some m) w = absurd (none-some _ (sym w))

-- what is behind a mapped list
map_behind : {A B : Type 0} (f : A → B) (xs : List A) (x : A) → map f (xs ++ x ∷ []) ≡ map f xs ++ f x ∷ []
map_behind f [] x = refl
map_behind f (y ∷ xs) x = ap (λ zs. f y ∷ zs) (map_behind f xs x)

-- a mapped list has as many items
pub map_count : {A B : Type 0} (f : A → B) (xs : List A) → length (map f xs) ≡ length xs
map_count f [] = refl
map_count f (x ∷ xs) = ap suc (map_count f xs)

-- a number is noted where 0 stands
pub noted_there : (ms : List ℕ) (j n d : ℕ) → j < length ms → get_or ms j d ≡ 0 → slice_set ms j n ≡ numbered_member ms j n
noted_there [] j n d l e = absurd (omega arith)
noted_there (zero ∷ ms) zero n d l e = refl
noted_there (suc m ∷ ms) zero n d l e = absurd (omega (arith, e))
noted_there (zero ∷ ms) (suc j) n d l e = ap (λ z. 0 ∷ z) (noted_there ms j n d (omega arith) e)
noted_there (suc m ∷ ms) (suc j) n d l e = ap (λ z. suc m ∷ z) (noted_there ms j n d (omega arith) e)

-- no number is noted where another stands
pub noted_never : (ms : List ℕ) (j n d : ℕ) → j < length ms → (get_or ms j d ≡ 0 → ⊥) → ms ≡ numbered_member ms j n
noted_never [] j n d l h = refl
noted_never (zero ∷ ms) zero n d l h = absurd (h refl)
noted_never (suc m ∷ ms) zero n d l h = refl
noted_never (zero ∷ ms) (suc j) n d l h = ap (λ z. 0 ∷ z) (noted_never ms j n d (omega arith) h)
noted_never (suc m ∷ ms) (suc j) n d l h = ap (λ z. suc m ∷ z) (noted_never ms j n d (omega arith) h)

-- no number is noted past the end
pub noted_past : (ms : List ℕ) (j n : ℕ) → length ms ≤ j → ms ≡ numbered_member ms j n
noted_past [] j n l = refl
noted_past (m ∷ ms) zero n l = absurd (omega arith)
noted_past (zero ∷ ms) (suc j) n l = ap (λ z. 0 ∷ z) (noted_past ms j n (omega arith))
noted_past (suc m ∷ ms) (suc j) n l = ap (λ z. suc m ∷ z) (noted_past ms j n (omega arith))

-- where a number is noted there are as many
noted_length : (ms : List ℕ) (j n : ℕ) → length (numbered_member ms j n) ≡ length ms
noted_length [] j n = refl
noted_length (zero ∷ ms) zero n = refl
noted_length (suc m ∷ ms) zero n = refl
noted_length (zero ∷ ms) (suc j) n = ap suc (noted_length ms j n)
noted_length (suc m ∷ ms) (suc j) n = ap suc (noted_length ms j n)

-- the number, unless another stands there
abbrev in_place : ℕ → ℕ → ℕ
in_place zero n = n
in_place (suc m) n = suc m

-- the same of the next places
one_deeper : (k j m old n : ℕ) → ((k ≡ j) × (m ≡ in_place old n)) ⊎ ((k ≡ j → ⊥) × (m ≡ old)) → ((suc k ≡ suc j) × (m ≡ in_place old n)) ⊎ ((suc k ≡ suc j → ⊥) × (m ≡ old))
one_deeper k j m old n (inl h) = inl (ap suc h.0, h.1)
one_deeper k j m old n (inr h) = inr ((λ q. h.0 (omega (arith, q))), h.1)

-- what stands where a number was noted: at its place that number, unless another stood there, and elsewhere what stood there
noted_get : (ms : List ℕ) (j n k m : ℕ) → slice_get (numbered_member ms j n) k ≡ Some m → (old : ℕ) × (slice_get ms k ≡ Some old) × (((k ≡ j) × (m ≡ in_place old n)) ⊎ ((k ≡ j → ⊥) × (m ≡ old)))
noted_get [] j n k m e = absurd (none-some _ e)
noted_get (zero ∷ ms) zero n zero m e = (0, refl, inl (refl, sym (same_Some _ _ e)))
noted_get (suc x ∷ ms) zero n zero m e = (suc x, refl, inl (refl, sym (same_Some _ _ e)))
noted_get (zero ∷ ms) zero n (suc k) m e = (m, e, inr ((λ q. omega (arith, q)), refl))
noted_get (suc x ∷ ms) zero n (suc k) m e = (m, e, inr ((λ q. omega (arith, q)), refl))
noted_get (zero ∷ ms) (suc j) n zero m e = (0, refl, inr ((λ q. omega (arith, q)), sym (same_Some _ _ e)))
noted_get (suc x ∷ ms) (suc j) n zero m e = (suc x, refl, inr ((λ q. omega (arith, q)), sym (same_Some _ _ e)))
noted_get (zero ∷ ms) (suc j) n (suc k) m e = (let h = noted_get ms j n k m e in (h.0, h.1, one_deeper k j m h.0 n h.2))
noted_get (suc x ∷ ms) (suc j) n (suc k) m e = (let h = noted_get ms j n k m e in (h.0, h.1, one_deeper k j m h.0 n h.2))

-- an item of a list with one more is one before it, or the last
one_behind : {A : Type 0} (xs : List A) (x : A) (k : ℕ) (y : A) → slice_get (xs ++ x ∷ []) k ≡ Some y → (slice_get xs k ≡ Some y) ⊎ ((k ≡ length xs) × (y ≡ x))
one_behind [] x zero y e = inr (refl, sym (same_Some _ _ e))
one_behind [] x (suc k) y e = absurd (none-some _ e)
one_behind (z ∷ xs) x zero y e = inl e
one_behind (z ∷ xs) x (suc k) y e =
    elim (one_behind xs x k y e) [
      | inl h ↦ inl h
      | inr h ↦ inr (ap suc h.0, h.1)
    ]

-- the number of an origin behind the block of `Main` is not 0
number_is_more : (o : Origin) (os : List Origin) → is_origin o OfMain ≡ false → (n : ℕ) → block_number o (OfMain ∷ os) ≡ Some n → (m : ℕ) × (n ≡ suc m)
number_is_more o os e n h = by_number (block_number o os) (ap (λ b. cond b (Some 0) (one_higher (block_number o os))) (sym e) ∙ h)
  where
    by_number : (z : Option ℕ) → one_higher z ≡ Some n → (m : ℕ) × (n ≡ suc m)
    by_number None w = absurd (none-some _ w)
    by_number (Some m) w = (m, sym (same_Some _ _ w))

-- an item that is there, and those behind it
pub dropped_at : {A : Type 0} (xs : List A) (k : ℕ) (x : A) → slice_get xs k ≡ Some x → drop k xs ≡ x ∷ drop (k + 1) xs
dropped_at xs k x e = let n : suc k ≡ k + 1 = omega arith in from_here xs k x e ∙ ap (λ m. x ∷ drop m xs) n
  where
    from_here : {A : Type 0} (xs : List A) (k : ℕ) (x : A) → slice_get xs k ≡ Some x → drop k xs ≡ x ∷ drop (suc k) xs
    from_here [] k x e = absurd (none-some _ e)
    from_here (y ∷ xs) zero x e = ap (λ z. z ∷ xs) (same_Some _ _ e)
    from_here (y ∷ xs) (suc k) x e = from_here xs k x e

-- nothing behind a list changes nothing
pub none_joined : {A : Type 0} (xs : List A) → xs ++ [] ≡ xs
none_joined [] = refl
none_joined (x ∷ xs) = ap (λ ys. x ∷ ys) (none_joined xs)

-- a class in memory is that of the plan at its place
pub class_item : (cs : List ClassPlan) (classes : List ClassOf) (k : ℕ) (x : ClassPlan) → map view_class_plan cs ≡ classes → k < length cs → x ≡ get_or cs k x → slice_get classes k ≡ Some (view_class_plan x)
class_item cs classes k x m l e = ap (λ z. slice_get z k) (sym m) ∙ slice_get-map view_class_plan cs k ∙ ap (option_map view_class_plan) (slice_get-get_or cs k x l ∙ ap Some (sym e))

-- the base of a class has a number that fits an instruction
pub base_is_low : (p : Resolved) → IsTypedSource p → (k : ℕ) (x : ClassOf) → slice_get p.classes k ≡ Some x → (b : ℕ) → x.base ≡ Some b → b < 1024
base_is_low p is k x e b q =
    let less = is.planned.bases k b x e q in
    let within = slice_get_within p.classes k x e in
    let few = is.planned.few in
    omega (arith, less, within, few)

-- the blocks of one class more
pub origins_step : (p : Resolved) (before all : List Origin) (n m k : ℕ) (classes : List ClassOf) (x : ClassOf) → m ≡ n + 1 → slice_get classes k ≡ Some x → before ++ origins_from p n (drop k classes) ≡ all → (before ++ class_origins p n x.own) ++ origins_from p m (drop (k + 1) classes) ≡ all
origins_step p before all n m k classes x w e h =
    let s : m ≡ suc n = omega (arith, w) in
    let rest = origins_from p (suc n) (drop (k + 1) classes) in
    let first = cond (has_builder p n) (OfBuilder n ∷ []) [] in
    ap (λ z. (before ++ class_origins p n x.own) ++ origins_from p z (drop (k + 1) classes)) s
    ∙ append_assoc before (class_origins p n x.own) rest
    ∙ ap (λ z. before ++ z) (append_assoc first (map OfBody x.own) rest)
    ∙ ap (λ z. before ++ origins_from p n z) (sym (dropped_at classes k x e)) ∙ h

-- of no member a number is noted at first
zeros_get : (n k v : ℕ) → slice_get (replicate n 0) k ≡ Some v → v ≡ 0
zeros_get zero k v e = absurd (none-some _ e)
zeros_get (suc n) zero v e = sym (same_Some _ _ e)
zeros_get (suc n) (suc k) v e = zeros_get n k v e

-- as many zeros as are wanted
zeros_length : (n : ℕ) → length {A = ℕ} (replicate n 0) ≡ n
zeros_length zero = refl
zeros_length (suc n) = ap suc (zeros_length n)

-- the block of `Main` is built first
pub main_built : (p : Resolved) (blocks : List Block) (builders : List (Option ℕ)) (members : List ℕ) (n : ℕ) (block : Block) → block ≡ block_of p OfMain → blocks ≡ block ∷ [] → builders ≡ [] → members ≡ replicate n 0 → n ≡ length p.bodies → IsBuilt p blocks builders members (OfMain ∷ [])
main_built p blocks builders members n block b m s k w = record {
  blocks_are = m ∙ ap (λ z. z ∷ []) b;
  begun = ([], refl);
  builders_are = λ c z e. absurd (none-some _ (sym (ap (λ y. slice_get y c) s) ∙ e));
  builders_tell = λ c z e. absurd (none-some _ (sym (ap (λ y. slice_get y c) s) ∙ e));
  none_beyond = λ c l. refl;
  members_are = λ j v e. zeros_get n j v (sym (ap (λ y. slice_get y j) k) ∙ e);
  all_members = ap length k ∙ zeros_length n ∙ w;
}

module _ (p : Resolved) where
  -- the block of a member is built, and its number noted where it has none
  pub body_added : (blocks more : List Block) (builders : List (Option ℕ)) (members noted_members : List ℕ) (os : List Origin) (j number : ℕ) (block : Block) → IsBuilt p blocks builders members os
      → block ≡ block_of p (OfBody j) → more ≡ blocks ++ block ∷ [] → number ≡ length blocks → noted_members ≡ numbered_member members j number → IsBuilt p more builders noted_members (os ++ OfBody j ∷ [])
  body_added blocks more builders members noted_members os j number block is b m n k = record {
    blocks_are = m ∙ ap (λ z. z ++ block ∷ []) is.blocks_are ∙ ap (λ z. map (block_of p) os ++ z ∷ []) b ∙ sym (map_behind (block_of p) os (OfBody j));
    begun = (is.begun.0 ++ OfBody j ∷ [], ap (λ z. z ++ OfBody j ∷ []) is.begun.1);
    builders_are = λ c z e. is.builders_are c z e ∙ sym (number_other (OfBuilder c) (OfBody j) os refl);
    builders_tell = is.builders_tell;
    none_beyond = λ c l. number_other (OfBuilder c) (OfBody j) os refl ∙ is.none_beyond c l;
    members_are = λ i v e. member i v (noted_get members j number i v (ap (λ z. slice_get z i) (sym k) ∙ e));
    all_members = ap length k ∙ noted_length members j number ∙ is.all_members;
  }
    where
      count : number ≡ length os
      count = n ∙ ap length is.blocks_are ∙ map_count (block_of p) os

      same : (i old v : ℕ) (z : Option ℕ) → block_number (OfBody i) os ≡ z → (i == j) ≡ true → old ≡ unwrap_or z 0 → v ≡ in_place old number → v ≡ unwrap_or (block_number (OfBody i) (os ++ OfBody j ∷ [])) 0
      same i old v None w q o e =
          e ∙ ap (λ x. in_place x number) o ∙ count ∙ ap (λ z. unwrap_or z 0) (sym (number_new (OfBody i) (OfBody j) os q w))
      same i old v (Some x) w q o e =
          let s = number_is_more (OfBody i) is.begun.0 refl x (ap (block_number (OfBody i)) (sym is.begun.1) ∙ w) in
          e ∙ ap (λ y. in_place y number) (o ∙ s.1) ∙ sym s.1 ∙ ap (λ z. unwrap_or z 0) (sym (number_kept (OfBody i) (OfBody j) os x w))

      member : (i v : ℕ) → (old : ℕ) × (slice_get members i ≡ Some old) × (((i ≡ j) × (v ≡ in_place old number)) ⊎ ((i ≡ j → ⊥) × (v ≡ old))) → v ≡ unwrap_or (block_number (OfBody i) (os ++ OfBody j ∷ [])) 0
      member i v h =
          elim h.2 [
            | inl q ↦ same i h.0 v (block_number (OfBody i) os) refl (eq-eqb i j q.0) (is.members_are i h.0 h.1) q.1
            | inr q ↦ q.1 ∙ is.members_are i h.0 h.1 ∙ ap (λ z. unwrap_or z 0) (sym (number_other (OfBody i) (OfBody j) os (ne_eqb i j q.0)))
          ]

  -- the builder of the next class is built
  pub builder_added : (blocks more : List Block) (builders told : List (Option ℕ)) (members : List ℕ) (os : List Origin) (c number : ℕ) (block : Block) → IsBuilt p blocks builders members os
      → c ≡ length builders → has_builder p c ≡ true → block ≡ block_of p (OfBuilder c) → more ≡ blocks ++ block ∷ [] → number ≡ length blocks → told ≡ builders ++ Some number ∷ [] → IsBuilt p more told members (os ++ OfBuilder c ∷ [])
  builder_added blocks more builders told members os c number block is at has b m n t = record {
    blocks_are = m ∙ ap (λ z. z ++ block ∷ []) is.blocks_are ∙ ap (λ z. map (block_of p) os ++ z ∷ []) b ∙ sym (map_behind (block_of p) os (OfBuilder c));
    begun = (is.begun.0 ++ OfBuilder c ∷ [], ap (λ z. z ++ OfBuilder c ∷ []) is.begun.1);
    builders_are = λ d z e. by_place d z (one_behind builders (Some number) d z (ap (λ y. slice_get y d) (sym t) ∙ e));
    builders_tell = λ d z e. by_told d z (one_behind builders (Some number) d z (ap (λ y. slice_get y d) (sym t) ∙ e));
    none_beyond = λ d l. (let k = ap length t ∙ length-append builders (Some number ∷ []) in
        number_other (OfBuilder d) (OfBuilder c) os (ne_eqb d c (λ e. omega (arith, k, l, e, at))) ∙ is.none_beyond d (omega (arith, k, l)));
    members_are = λ i v e. is.members_are i v e ∙ ap (λ z. unwrap_or z 0) (sym (number_other (OfBody i) (OfBuilder c) os refl));
    all_members = is.all_members;
  }
    where
      count : number ≡ length os
      count = n ∙ ap length is.blocks_are ∙ map_count (block_of p) os

      by_place : (d : ℕ) (z : Option ℕ) → (slice_get builders d ≡ Some z) ⊎ ((d ≡ length builders) × (z ≡ Some number)) → z ≡ block_number (OfBuilder d) (os ++ OfBuilder c ∷ [])
      by_place d z (inl e) = let l = slice_get_within builders d z e in is.builders_are d z e ∙ sym (number_other (OfBuilder d) (OfBuilder c) os (ne_eqb d c (λ q. omega (arith, l, q, at))))
      by_place d z (inr e) =
          let same : d ≡ c = e.0 ∙ sym at in
          e.1 ∙ ap (λ y. Some y) count ∙ sym (number_new (OfBuilder d) (OfBuilder c) os (eq-eqb d c same) (is.none_beyond d (let q = e.0 in omega (arith, q))))

      by_told : (d : ℕ) (z : Option ℕ) → (slice_get builders d ≡ Some z) ⊎ ((d ≡ length builders) × (z ≡ Some number)) → is_told z ≡ has_builder p d
      by_told d z (inl e) = is.builders_tell d z e
      by_told d z (inr e) = ap is_told e.1 ∙ sym (ap (has_builder p) (e.0 ∙ sym at) ∙ has)

  -- the next class has no builder
  pub no_builder_added : (blocks : List Block) (builders told : List (Option ℕ)) (members : List ℕ) (os : List Origin) (c : ℕ) → IsBuilt p blocks builders members os
      → c ≡ length builders → has_builder p c ≡ false → told ≡ builders ++ None ∷ [] → IsBuilt p blocks told members os
  no_builder_added blocks builders told members os c is at has t = record {
    blocks_are = is.blocks_are;
    begun = is.begun;
    builders_are = λ d z e. by_place d z (one_behind builders None d z (ap (λ y. slice_get y d) (sym t) ∙ e));
    builders_tell = λ d z e. by_told d z (one_behind builders None d z (ap (λ y. slice_get y d) (sym t) ∙ e));
    none_beyond = λ d l. (let k = ap length t ∙ length-append builders nothing in is.none_beyond d (omega (arith, k, l)));
    members_are = is.members_are;
    all_members = is.all_members;
  }
    where
      nothing : List (Option ℕ)
      nothing = None ∷ []

      by_place : (d : ℕ) (z : Option ℕ) → (slice_get builders d ≡ Some z) ⊎ ((d ≡ length builders) × (z ≡ None)) → z ≡ block_number (OfBuilder d) os
      by_place d z (inl e) = is.builders_are d z e
      by_place d z (inr e) = e.1 ∙ sym (is.none_beyond d (let q = e.0 in omega (arith, q)))

      by_told : (d : ℕ) (z : Option ℕ) → (slice_get builders d ≡ Some z) ⊎ ((d ≡ length builders) × (z ≡ None)) → is_told z ≡ has_builder p d
      by_told d z (inl e) = is.builders_tell d z e
      by_told d z (inr e) = ap is_told e.1 ∙ sym (ap (has_builder p) (e.0 ∙ sym at) ∙ has)

  module _ (bases : (c b : ℕ) (x : ClassOf) → slice_get p.classes c ≡ Some x → x.base ≡ Some b → b < c) where
    -- a class whose base is told has a builder where that has one, or where it has a constructor
    pub builder_is_told : (blocks : List Block) (builders : List (Option ℕ)) (members : List ℕ) (os : List Origin) (c : ℕ) (x : ClassOf) → IsBuilt p blocks builders members os → c ≡ length builders → slice_get p.classes c ≡ Some x
        → (has_builder p c ≡ (is_told (base_told builders x.base) || has_own (constructor_of p x))) × (init_code p x.base ≡ init_listed (base_told builders x.base))
    builder_is_told blocks builders members os c x is at e = by_base x.base refl (has_builder_by_base p bases c x e)
      where
        turned : (a b : Bool) → (a || b) ≡ (b || a)
        turned true true = refl
        turned true false = refl
        turned false true = refl
        turned false false = refl

        told_by : (t : Bool) (b : ℕ) → is_told (cond t (Some b) None) ≡ t
        told_by true b = refl
        told_by false b = refl

        init_by : (t : Bool) (b : ℕ) → cond t (i.Init b ∷ []) [] ≡ init_listed (cond t (Some b) None)
        init_by true b = refl
        init_by false b = refl

        by_base : (o : Option ℕ) → x.base ≡ o → has_builder p c ≡ (has_own (constructor_of p x) || has_of_base p bases o) → (has_builder p c ≡ (is_told (base_told builders o) || has_own (constructor_of p x))) × (init_code p o ≡ init_listed (base_told builders o))
        by_base None q h = (h ∙ turned (has_own (constructor_of p x)) false, refl)
        by_base (Some b) q h =
            let less = bases c b x e q in
            let within : b < length builders = omega (arith, less, at) in
            let there = slice_get-get_or builders b None within in
            let tells : is_told (unwrap_or (slice_get builders b) None) ≡ has_builder p b = ap (λ z. is_told (unwrap_or z None)) there ∙ is.builders_tell b (get_or builders b None) there in (
              h ∙ turned (has_own (constructor_of p x)) (has_builder p b) ∙ ap (λ z. z || has_own (constructor_of p x)) (sym (told_by (is_told (unwrap_or (slice_get builders b) None)) b ∙ tells)),
              ap (λ z. cond z (i.Init b ∷ []) []) (sym tells) ∙ init_by (is_told (unwrap_or (slice_get builders b) None)) b,
            )
