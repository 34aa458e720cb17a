-- The ways of a desk: a look at a head begins one, a look at the message to which it has come goes on, and links leave it.
use Rattle.std.proofs.Common.{◌≡◌, ◌⊎◌, inl, inr, ⊎_elim, ℕ, zero, suc, ◌<◌, ◌≤◌, Bool, true, false, ◌||◌, if◌then◌else◌, eqb, ne_eqb, List, [], ◌∷◌, length, refl, sym, ap, ◌∙◌, subst, arith, eq-eqb, Option, Some, None}
use Rattle.std.specs.List.{list_any, IsDistinct, AllByRecursion}
use Rattle.std.proofs.lemmas.Bool.{eqb-true}
use Rattle.std.proofs.lemmas.Map.Steps.{length-le_from_distinct_below}
use mathlib.Core.Path.{Path}
use mathlib.Core.Logic.{dite}
use native.Mathlib.Decide.{ℕ_discrete}
use Rattle.chord_word.specs.declared.cells.Cell.{Cell}
use Rattle.chord_word.specs.declared.cells.Cell.TheVariants.{Empty, Pending, Claimed, Consumed, Woken, Ready, Started}
use Rattle.chord_word.specs.declared.cells.Word.{Word}
use Rattle.chord_rule.specs.declared.view.Look.{Look}
use Rattle.chord_rule.specs.declared.view.Way.{Way}
use Rattle.chord_rule.specs.Bags.{LinkOrder, IsArmed, IsConsumed, BagLaw, Leads, cell_of, head_number}
use Rattle.chord_rule.specs.Duties.{has_come_to}
use Rattle.chord_rule.specs.Heads.{HeadLaw}
use Rattle.chord_rule.specs.Ways.{way_onward, way_begun, gone_on, on_way, HasWay, WasRead, IsLinkedCell, HasLooksLeft, AllAbove, LeadsDown, WereLinked, IsCutShort, IsMetOn, ReadsPast, AreDown, WayLaw}
use Rattle.chord_rule.specs.Numbers.{HasNumber}
use Rattle.chord_rule.proofs.Lists.{some_is}

-- the numbers of these looks
abbrev numbers_of : List Look → List ℕ
numbers_of [] = []
numbers_of (l ∷ ls) = l.number ∷ numbers_of ls

-- as many numbers as looks
numbers_long : (ls : List Look) → length (numbers_of ls) ≡ length ls
numbers_long [] = refl
numbers_long (l ∷ ls) = ap suc (numbers_long ls)

-- a message that was linked before these is none of them
above_apart : (o : LinkOrder) (x : ℕ) (ls : List Look) → AllAbove o (o.rank x) ls → AllByRecursion (λ y. eqb x y ≡ false) (numbers_of ls)
above_apart o x [] a = tt
above_apart o x (l ∷ ls) a = (ne_eqb x l.number (λ e. let same : o.rank x ≡ o.rank l.number = ap o.rank e in let up = a.0 in absurd (omega (arith, same, up))), above_apart o x ls a.1)

-- looks each at a message that was linked before the last are at different ones
falls_distinct : (n k : ℕ) (o : LinkOrder) (ls : List Look) → LeadsDown n k o ls → IsDistinct eqb (numbers_of ls)
unfolding IsDistinct
falls_distinct n k o [] f = tt
falls_distinct n k o (l ∷ ls) f = (above_apart o l.number ls f.2, falls_distinct n k o ls f.3)

-- and these are below n
falls_below : (n k : ℕ) (o : LinkOrder) (ls : List Look) → LeadsDown n k o ls → (q : ℕ) → list_any (eqb q) (numbers_of ls) ≡ true → q < n
falls_below n k o [] f q h = let z : false ≡ true = h in absurd (cc)
falls_below n k o (l ∷ ls) f q h = cases (falls_below n k o ls f.3 q) (eqb q l.number) refl h
  where
    cases : (list_any (eqb q) (numbers_of ls) ≡ true → q < n) → (b : Bool) → eqb q l.number ≡ b → (b || list_any (eqb q) (numbers_of ls)) ≡ true → q < n
    cases later true e h = let same = eqb-true q l.number e in let low = f.1 in omega (arith, same, low)
    cases later false e h = later h

-- where a way goes on there is room for one more look
pub way_room : (n : ℕ) (cells : ℕ → Word) (o : LinkOrder) (ws : List Way) → ((w : Way) → HasWay w ws → WayLaw n cells o w) → HasLooksLeft n ws
unfolding IsDistinct
way_room n cells o ws law w rest is x at = let l = law w (subst (HasWay w) (sym is) (inl refl)) in let p = l.place x at in
    let more = length-le_from_distinct_below (x ∷ numbers_of w.looks) n (above_apart o x w.looks p.2, falls_distinct n l.along o w.looks l.falls)
    (λ q h. below q (falls_below n l.along o w.looks l.falls q) p.1 (eqb q x) refl h) in
    let long = numbers_long w.looks in (p.1, omega (arith, more, long))
  where
    below : (q : ℕ) → (list_any (eqb q) (numbers_of w.looks) ≡ true → q < n) → x < n → (b : Bool) → eqb q x ≡ b → (b || list_any (eqb q) (numbers_of w.looks)) ≡ true → q < n
    below q later low true e h = let same = eqb-true q x e in omega (arith, same, low)
    below q later low false e h = later h

-- a message that was looked at on a way is in the bag of the way
pub read_bag : (n k : ℕ) (o : LinkOrder) (i : ℕ) (ls : List Look) → LeadsDown n k o ls → WasRead i ls → o.bag i ≡ Some k
read_bag n k o i [] f r = absurd r
read_bag n k o i (l ∷ ls) f (inl e) = ap o.bag e ∙ f.0
read_bag n k o i (l ∷ ls) f (inr r) = read_bag n k o i ls f.3 r

-- what is above s is above r where r is less
lower : (o : LinkOrder) (r s : ℕ) (ls : List Look) → r < s → AllAbove o s ls → AllAbove o r ls
lower o r s [] l a = tt
lower o r s (x ∷ xs) l a = (let up = a.0 in omega (arith, l, up), lower o r s xs l a.1)

-- a cell is that of a consumed message or not
consumed_or_not : (c : Cell) → IsConsumed c ⊎ (IsConsumed c → ⊥)
consumed_or_not Empty = inr (λ z. z)
consumed_or_not Pending = inr (λ z. z)
consumed_or_not Claimed = inr (λ z. z)
consumed_or_not Consumed = inl tt
consumed_or_not (Woken q) = inr (λ z. z)
consumed_or_not Ready = inr (λ z. z)
consumed_or_not Started = inr (λ z. z)

-- whether a bag has this head
is_headed : ℕ → Option ℕ → Bool
is_headed head None = false
is_headed head (Some k) = eqb (head_number k) head

-- of the numbers below n those that were linked in a bag with this head
pub linked_numbers : ℕ → LinkOrder → ℕ → List ℕ
linked_numbers zero o head = []
linked_numbers (suc n) o head = if is_headed head (o.bag n) then n ∷ linked_numbers n o head else linked_numbers n o head

-- they are all that were linked there, where no other number is linked
pub were_linked : (n : ℕ) (o : LinkOrder) (head : ℕ) → ((i k : ℕ) → o.bag i ≡ Some k → i < n) → WereLinked o head (linked_numbers n o head)
unfolding is_headed linked_numbers
were_linked n o head low = record { all = λ i k b e. all n i k (low i k b) b e; only = only n }
  where
    all : (n i k : ℕ) → i < n → o.bag i ≡ Some k → head_number k ≡ head → HasNumber i (linked_numbers n o head)
    all zero i k l b e = absurd (omega arith)
    all (suc n) i k l b e = dite (ℕ_discrete i n) (λ same. here same) (λ other. later (all n i k (omega arith) b e) (is_headed head (o.bag n)))
      where
        later : HasNumber i (linked_numbers n o head) → (c : Bool) → HasNumber i (if c then n ∷ linked_numbers n o head else linked_numbers n o head)
        later h true = inr h
        later h false = h

        here : i ≡ n → HasNumber i (if is_headed head (o.bag n) then n ∷ linked_numbers n o head else linked_numbers n o head)
        here same = subst (λ (c : Bool). HasNumber i (if c then n ∷ linked_numbers n o head else linked_numbers n o head)) (sym (ap (is_headed head) (sym (ap o.bag same) ∙ b) ∙ eq-eqb (head_number k) head e)) (inl same)

    only : (n i : ℕ) → HasNumber i (linked_numbers n o head) → (k : ℕ) × (o.bag i ≡ Some k) × (head_number k ≡ head)
    only zero i h = absurd h
    only (suc n) i h = cases (λ k. only n i k) (o.bag n) refl h
      where
        cases : (HasNumber i (linked_numbers n o head) → (k : ℕ) × (o.bag i ≡ Some k) × (head_number k ≡ head)) → (b : Option ℕ) → o.bag n ≡ b → HasNumber i (if is_headed head b then n ∷ linked_numbers n o head else linked_numbers n o head) → (k : ℕ) × (o.bag i ≡ Some k) × (head_number k ≡ head)
        cases later None e h = later h
        cases later (Some k) e h = found (eqb (head_number k) head) refl h
          where
            found : (c : Bool) → eqb (head_number k) head ≡ c → HasNumber i (if c then n ∷ linked_numbers n o head else linked_numbers n o head) → (k : ℕ) × (o.bag i ≡ Some k) × (head_number k ≡ head)
            found true is (inl same) = (k, ap o.bag same ∙ e, eqb-true (head_number k) head is)
            found true is (inr h) = later h
            found false is h = later h

module _ (IsKey : ℕ → Type 0) (n : ℕ) (cells : ℕ → Word) (heads : ℕ → Option ℕ) (o : LinkOrder) (bags : BagLaw IsKey cells heads o) (low : (i k : ℕ) → o.bag i ≡ Some k → i < n) where
  -- a look at a head
  pub begun_law : HeadLaw IsKey heads → (k : ℕ) (linked : List ℕ) → WereLinked o (head_number k) linked → WayLaw n cells o (way_begun k linked (heads (head_number k)))
  begun_law keyed k linked are = cases (heads (head_number k)) refl
    where
      -- a linked message is consumed, or the head leads to one that was not linked before it
      led : (i : ℕ) → HasNumber i linked → IsConsumed (cell_of cells i) ⊎ ((y l : ℕ) × (heads (head_number k) ≡ Some y) × (o.bag i ≡ Some l) × (o.bag y ≡ Some l) × (o.rank i ≤ o.rank y))
      led i h = let b = are.only i h in ⊎_elim inl
          (λ ne. let lead = bags.heads_lead b.0 (bags.keyed i b.0 b.1) in let on = lead.passes i b.1 ne (bags.ranked i b.0 b.1) in
          inr (on.0, b.0, ap heads (sym b.2) ∙ on.1, b.1, (lead.inside on.0 on.1).0, on.2)) (consumed_or_not (cell_of cells i))

      in_bags : (i : ℕ) → HasNumber i linked → (l : ℕ) × (o.bag i ≡ Some l)
      in_bags i h = let b = are.only i h in (b.0, b.1)

      cases : (x : Option ℕ) → heads (head_number k) ≡ x → WayLaw n cells o (way_begun k linked (heads (head_number k)))
      cases None e = record {
        along = k;
        headed = refl;
        falls = tt;
        place = λ x q. absurd (let z : Path (Option ℕ) None (Some x) = sym e ∙ q in cc);
        misses_none = λ i h. ⊎_elim inl (λ t. absurd (let z : Path (Option ℕ) None (Some t.0) = sym e ∙ t.2 in cc)) (led i h);
        meets = λ i t. ⊎_elim (λ r. absurd r) (λ q. absurd (let z : Path (Option ℕ) None (Some i) = sym e ∙ q in cc)) t;
        in_bags = in_bags;
        closed = λ i j h b le. are.all i k b refl;
        down = tt;
      }
      cases (Some y) e = let l = keyed.keyed (head_number k) y e in record {
        along = l.0;
        headed = l.2;
        falls = tt;
        place = λ x q. let i = (bags.heads_lead l.0 l.1).inside x (ap heads l.2 ∙ q) in (i.0, low x l.0 i.0, tt);
        misses_none = λ i h. ⊎_elim inl (λ t. let there = ((bags.heads_lead l.0 l.1).inside t.0 (ap heads l.2 ∙ t.2)).0 in inr (inr (inr (t.0, t.2, t.3 ∙ sym t.4 ∙ there, t.5)))) (led i h);
        meets = λ i t. ⊎_elim (λ r. absurd r) (λ q. are.all i l.0 ((bags.heads_lead l.0 l.1).inside i (ap heads l.2 ∙ q)).0 l.2) t;
        in_bags = in_bags;
        closed = λ i j h b le. are.all i l.0 b l.2;
        down = tt;
      }

  -- a look at the message to which the way had come
  gone_law : (w : Way) (i : ℕ) → WayLaw n cells o w → w.place ≡ Some i → IsLinkedCell (cells i).cell → WayLaw n cells o (gone_on w i (cells i))
  gone_law w i law e linked =
      let p = law.place i e in
      record {
        along = law.along;
        headed = law.headed;
        falls = (p.0, p.1, p.2, law.falls);
        place = λ x q. let f = (bags.nexts_lead i law.along p.0).inside x (next (cells i).cell refl linked x q) in (f.0, low x law.along f.0, (f.1, lower o (o.rank x) (o.rank i) w.looks f.1 p.2));
        misses_none = λ j h. met j (law.misses_none j h);
        meets = λ j t. ⊎_elim (λ r. ⊎_elim (λ q. law.meets j (inr (e ∙ ap (λ (z : ℕ). Some z) (sym q)))) (λ s. law.meets j (inl s)) r)
            (λ q. let f = (bags.nexts_lead i law.along p.0).inside j (next (cells i).cell refl linked j q) in law.closed j i (law.meets i (inr e)) f.0 (let less = f.1 in omega (arith, less))) t;
        in_bags = law.in_bags;
        closed = law.closed;
        down = ((λ s. subst IsConsumed (sym s) tt), law.down);
      }
    where
      -- behind the message i a message that is not consumed comes next, or one above it, or nothing can be read there
      onward : (j y : ℕ) → o.bag j ≡ Some law.along → o.rank j ≤ o.rank y → o.next i ≡ Some y → (c : Cell) → (cells i).cell ≡ c → IsLinkedCell c → IsMetOn cells o law.along (gone_on w i (cells i)) j
      onward j y b le on Empty s l = inr (inr (inl (ap (λ (c : Cell). way_onward c (cells i).next) s, s)))
      onward j y b le on Pending s l = inr (inr (inr (y, ap (λ (c : Cell). way_onward c (cells i).next) s ∙ goes (subst IsArmed (sym s) tt) ∙ on, b, le)))
        where
          goes : IsArmed (cells i).cell → (cells i).next ≡ o.next i
          goes a = (bags.armed i a).1
      onward j y b le on Claimed s l = inr (inr (inr (y, ap (λ (c : Cell). way_onward c (cells i).next) s ∙ (bags.armed i (subst IsArmed (sym s) tt)).1 ∙ on, b, le)))
      onward j y b le on Consumed s l = inr (inr (inr (y, ap (λ (c : Cell). way_onward c (cells i).next) s ∙ (bags.armed i (subst IsArmed (sym s) tt)).1 ∙ on, b, le)))
      onward j y b le on (Woken m) s l = inr (inr (inr (y, ap (λ (c : Cell). way_onward c (cells i).next) s ∙ (bags.armed i (subst IsArmed (sym s) tt)).1 ∙ on, b, le)))
      onward j y b le on Ready s l = absurd l
      onward j y b le on Started s l = absurd l

      -- what was below the message i is below the next one, or is i, or is consumed
      below : (j x : ℕ) → w.place ≡ Some x → o.bag j ≡ Some law.along → o.rank j ≤ o.rank x → IsMetOn cells o law.along (gone_on w i (cells i)) j
      below j x at b le = dite (ℕ_discrete j i) (λ same. inr (inl (inl same)))
          (λ other. ⊎_elim inl
          (λ ne. let here = law.place i e in
          let here_is : x ≡ i = some_is x i (sym at ∙ e) in
          let rank_is : o.rank x ≡ o.rank i = ap o.rank here_is in
          let less : o.rank j < o.rank i = lesser (ℕ_discrete (o.rank j) (o.rank i)) other b here.0 (omega (arith, le, rank_is)) in
          let lead = bags.nexts_lead i law.along here.0 in let on = lead.passes j b ne less in
          onward j on.0 b on.2 on.1 (cells i).cell refl linked) (consumed_or_not (cell_of cells j)))
        where
          lesser : Dec (o.rank j ≡ o.rank i) → (j ≡ i → ⊥) → o.bag j ≡ Some law.along → o.bag i ≡ Some law.along → o.rank j ≤ o.rank i → o.rank j < o.rank i
          lesser (yes same) other b here le = absurd (other (bags.apart j i law.along law.along b here same))
          lesser (no differ) other b here le = omega (arith, differ, le)

      met : (j : ℕ) → IsMetOn cells o law.along w j → IsMetOn cells o law.along (gone_on w i (cells i)) j
      met j (inl c) = inl c
      met j (inr (inl r)) = inr (inl (inr r))
      met j (inr (inr (inl t))) = absurd (let z : Path (Option ℕ) None (Some i) = sym t.0 ∙ e in cc)
      met j (inr (inr (inr t))) = below j t.0 t.1 t.2 t.3

      armed : (x : ℕ) → IsArmed (cells i).cell → (cells i).next ≡ Some x → o.next i ≡ Some x
      armed x a q = sym (bags.armed i a).1 ∙ q

      next : (c : Cell) → (cells i).cell ≡ c → IsLinkedCell c → (x : ℕ) → way_onward (cells i).cell (cells i).next ≡ Some x → o.next i ≡ Some x
      next Empty s l x q = let z : Path (Option ℕ) None (Some x) = ap (λ (c : Cell). way_onward c (cells i).next) (sym s) ∙ q in absurd (cc)
      next Pending s l x q = armed x (subst IsArmed (sym s) tt) (ap (λ (c : Cell). way_onward c (cells i).next) (sym s) ∙ q)
      next Claimed s l x q = armed x (subst IsArmed (sym s) tt) (ap (λ (c : Cell). way_onward c (cells i).next) (sym s) ∙ q)
      next Consumed s l x q = armed x (subst IsArmed (sym s) tt) (ap (λ (c : Cell). way_onward c (cells i).next) (sym s) ∙ q)
      next (Woken m) s l x q = armed x (subst IsArmed (sym s) tt) (ap (λ (c : Cell). way_onward c (cells i).next) (sym s) ∙ q)
      next Ready s l x q = absurd l
      next Started s l x q = absurd l

  -- a look at any cell
  pub on_law : (ws : List Way) (i : ℕ) → ((k : ℕ) → o.bag i ≡ Some k → IsLinkedCell (cells i).cell) → ((w : Way) → HasWay w ws → WayLaw n cells o w) → (w : Way) → HasWay w (on_way i (cells i) ws) → WayLaw n cells o w
  on_law [] i linked law w h = absurd h
  on_law (x ∷ xs) i linked law w (inr h) = law w (inr h)
  on_law (x ∷ xs) i linked law w (inl e) = cases x.place refl e
    where
      here : WayLaw n cells o x
      here = law x (inl refl)

      moved : (y : ℕ) → x.place ≡ Some y → (b : Bool) → eqb y i ≡ b → WayLaw n cells o (if b then gone_on x i (cells i) else x)
      moved y p true is = let at : x.place ≡ Some i = p ∙ ap (λ (z : ℕ). Some z) (eqb-true y i is) in gone_law x i here at (linked here.along (here.place i at).0)
      moved y p false is = here

      cases : (p : Option ℕ) → x.place ≡ p → w ≡ (if has_come_to i x.place then gone_on x i (cells i) else x) → WayLaw n cells o w
      cases None p e = subst (WayLaw n cells o) (sym (e ∙ ap (λ (q : Option ℕ). if has_come_to i q then gone_on x i (cells i) else x) p)) here
      cases (Some y) p e = subst (WayLaw n cells o) (sym (e ∙ ap (λ (q : Option ℕ). if has_come_to i q then gone_on x i (cells i) else x) p)) (moved y p (eqb y i) refl)

-- the law stays where messages are linked and consumed, since what a linked message has of the order stays
pub way_stays : (n : ℕ) (cells cells' : ℕ → Word) (o o' : LinkOrder) (w : Way) → ((i k : ℕ) → o.bag i ≡ Some k → (o'.bag i ≡ Some k) × (o'.rank i ≡ o.rank i)) → ((i k : ℕ) → o'.bag i ≡ Some k → (o.bag i ≡ Some k) ⊎ ((x l : ℕ) → o.bag x ≡ Some l → o.rank x < o'.rank i))
    → ((i : ℕ) → IsConsumed (cell_of cells i) → IsConsumed (cell_of cells' i)) → WayLaw n cells o w → WayLaw n cells' o' w
way_stays n cells cells' o o' w same newer consumed law = record {
  along = law.along;
  headed = law.headed;
  falls = falls w.looks law.falls;
  place = λ x e. let p = law.place x e in let s = same x law.along p.0 in (s.0, p.1, above (o.rank x) (o'.rank x) s.1 w.looks law.falls p.2);
  misses_none = λ i h. met i (law.misses_none i h);
  meets = law.meets;
  in_bags = λ i h. let b = law.in_bags i h in (b.0, (same i b.0 b.1).0);
  closed = closed;
  down = down w.looks law.down;
}
  where
    down : (ls : List Look) → AreDown cells ls → AreDown cells' ls
    down [] d = tt
    down (l ∷ ls) d = ((λ s. consumed l.number (d.0 s)), down ls d.1)

    closed : (i j : ℕ) → HasNumber j w.linked → o'.bag i ≡ Some law.along → o'.rank i ≤ o'.rank j → HasNumber i w.linked
    closed i j h b le = let there = law.in_bags j h in let a = (same j there.0 there.1).1 in ⊎_elim (λ was. let c = (same i law.along was).1 in law.closed i j h was (omega (arith, le, a, c))) (λ f. let less = f j there.0 there.1 in absurd (omega (arith, less, le, a))) (newer i law.along b)

    met : (i : ℕ) → IsMetOn cells o law.along w i → IsMetOn cells' o' law.along w i
    met i (inl c) = inl (consumed i c)
    met i (inr (inl r)) = inr (inl r)
    met i (inr (inr (inl t))) = inr (inr (inl t))
    met i (inr (inr (inr t))) = let here = same t.0 law.along (law.place t.0 t.1).0 in let there = same i law.along t.2 in let was = t.3 in let a = here.1 in let b = there.1 in inr (inr (inr (t.0, t.1, there.0, omega (arith, a, b, was))))

    above : (r r' : ℕ) → r' ≡ r → (ls : List Look) → LeadsDown n law.along o ls → AllAbove o r ls → AllAbove o' r' ls
    above r r' e [] f a = tt
    above r r' e (l ∷ ls) f a = (let s = (same l.number law.along f.0).1 in let up = a.0 in omega (arith, s, e, up), above r r' e ls f.3 a.1)

    falls : (ls : List Look) → LeadsDown n law.along o ls → LeadsDown n law.along o' ls
    falls [] f = tt
    falls (l ∷ ls) f = let s = same l.number law.along f.0 in (s.0, f.1, above (o.rank l.number) (o'.rank l.number) s.1 ls f.3 f.2, falls ls f.3)

-- what was looked at is above what all of it is above
above_read : (o : LinkOrder) (r j : ℕ) (ls : List Look) → AllAbove o r ls → WasRead j ls → r < o.rank j
above_read o r j [] a read = absurd read
above_read o r j (l ∷ ls) a (inl e) = let up = a.0 in let same = ap o.rank e in omega (arith, up, same)
above_read o r j (l ∷ ls) a (inr read) = above_read o r j ls a.1 read

-- what was read as consumed was looked at
pub past_read : (i : ℕ) (ls : List Look) → ReadsPast i ls → WasRead i ls
past_read i [] p = absurd p
past_read i (l ∷ ls) (c, inl e) = inl (sym e)
past_read i (l ∷ ls) (c, inr p) = inr (past_read i ls p)

module _ (n : ℕ) (cells : ℕ → Word) (o : LinkOrder) (w : Way) (law : WayLaw n cells o w) (i : ℕ) (past : ReadsPast i w.looks) where
  -- what was looked at on the way is consumed, or was linked after i
  read_after : (j : ℕ) (ls : List Look) → LeadsDown n law.along o ls → AreDown cells ls → ReadsPast i ls → WasRead j ls → IsConsumed (cell_of cells j) ⊎ (o.rank i < o.rank j)
  read_after j [] f d p r = absurd r
  read_after j (l ∷ ls) f d p (inl e) = inl (subst (λ (z : ℕ). IsConsumed (cell_of cells z)) (sym e) (d.0 p.0))
  read_after j (l ∷ ls) f d (c, inl e) (inr r) = inr (let up = above_read o (o.rank l.number) j ls f.2 r in let same = ap o.rank e in omega (arith, up, same))
  read_after j (l ∷ ls) f d (c, inr p) (inr r) = read_after j ls f.3 d.1 p r

  -- the way was not cut short
  not_cut : (ls : List Look) → ReadsPast i ls → IsCutShort ls → ⊥
  not_cut [] p s = absurd p
  not_cut (l ∷ ls) p s = let z : Consumed ≡ Empty = sym p.0 ∙ s in absurd (cc)

  -- the message i is in the bag of the way
  pub past_bag : o.bag i ≡ Some law.along
  past_bag = read_bag n law.along o i w.looks law.falls (past_read i w.looks past)

  -- of the messages that were not linked after i, each that is not consumed lies at or below the place to which the way has come
  pub left_below : (j : ℕ) → o.bag j ≡ Some law.along → o.rank j ≤ o.rank i → (IsConsumed (cell_of cells j) → ⊥) → (x : ℕ) × (w.place ≡ Some x) × (o.rank j ≤ o.rank x)
  left_below j b le up = met (law.misses_none j (law.closed j i (law.meets i (inl (past_read i w.looks past))) b le))
    where
      met : IsMetOn cells o law.along w j → (x : ℕ) × (w.place ≡ Some x) × (o.rank j ≤ o.rank x)
      met (inl c) = absurd (up c)
      met (inr (inl r)) = ⊎_elim (λ c. absurd (up c)) (λ less. absurd (omega (arith, less, le))) (read_after j w.looks law.falls law.down past r)
      met (inr (inr (inl t))) = absurd (not_cut w.looks past t.1)
      met (inr (inr (inr t))) = (t.0, t.1, t.3)

  -- and so the place leads past consumed messages alone, from the message i, where it was not linked after the r-th
  pub past_leads : (r : ℕ) → o.rank i ≤ r → ((j : ℕ) → o.bag j ≡ Some law.along → (IsConsumed (cell_of cells j) → ⊥) → o.rank j < r → o.rank j ≤ o.rank i) → Leads cells o law.along r w.place
  past_leads r low before = record {
    inside = λ y e. let p = law.place y e in (p.0, (let up = above_read o (o.rank y) i w.looks p.2 (past_read i w.looks past) in omega (arith, up, low)));
    passes = λ j b ne less. let t = left_below j b (before j b ne less) ne in (t.0, t.1, t.2);
  }
