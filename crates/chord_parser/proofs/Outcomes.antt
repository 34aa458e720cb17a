-- The verdict of a run is exact.
use Rattle.std.proofs.Common.{◌≡◌, ℕ, suc, ◌<◌, ◌≤◌, true, List, [], ◌∷◌, ◌++◌, length, refl, sym, ap, subst, ◌∙◌, arith, append-nil}
use Rattle.std.specs.Prelude.{nat_lt}
use Rattle.std.proofs.lemmas.Bool.{ltb-true}
use Rattle.chord_lexer.specs.declared.token.Kind.{Kind}
use Rattle.chord_tree.specs.Symbol.{Terminal, Nonterminal}
use Rattle.chord_tree.specs.Grammar.{rule_count, nonterminal_count, terminal_count}
use Rattle.chord_tree.specs.Terminals.{terminal_of}
use Rattle.chord_tree.specs.Derivation.{Spelled, Want, kinds_of, next, head_of, parts_of, inside, at_depth, allowed, Derives, done, token, rule, NotTall}
use Rattle.chord_parser.specs.Runs.{Verdict, Fine, Wrong, Tall, Runs, fine, extra, take, tall, other, expand, stuck}
use Rattle.chord_parser.specs.Exact.{BeginsThrough, IsWrong, IsTall}
use Rattle.chord_tree.specs.OneAhead.{choice}
use Rattle.chord_tree.proofs.Ahead.{both_left, both_right, small, next_small, choice_fits}
use Rattle.chord_tree.proofs.LookAhead.{starts, Legal, legal_rule, chosen}
use Rattle.chord_parser.proofs.Finish.{else_first, listed, not_else_else_first, else_first_at_depth, rule_else_first, finished}

-- the tokens begin with those of the prefix, and then stands terminal c, or nothing where c is terminal_count
abbrev pub BeginsBefore : List Kind → List Kind → ℕ → Type 0
BeginsBefore ks [] c = next ks ≡ c
BeginsBefore [] (f ∷ fs) c = ⊥
BeginsBefore (k ∷ ks) (f ∷ fs) c = (k ≡ f) × BeginsBefore ks fs c

-- the tokens are derived, none of them too deep
pub record IsDerivedList (s : List Want) (ks : List Kind) : Type 0 where
  pub text : List Spelled
  pub same : kinds_of text ≡ ks
  pub not_tall : NotTall text
  pub derived : Derives s text

-- the first token that does not fit, and no token of its terminal does
pub record IsRefused (s : List Want) (ks : List Kind) (left : ℕ) : Type 0 where
  pub prefix : List Spelled
  pub rest : List Spelled
  pub suffix : List Kind
  pub cut : ks ≡ kinds_of prefix ++ suffix
  pub count : length suffix ≡ left
  pub not_tall : NotTall prefix
  pub opens : Derives s (prefix ++ rest)
  pub refuses : (w : List Spelled) → BeginsBefore (kinds_of w) (kinds_of prefix) (next suffix) → Derives s w → ⊥

-- what a verdict says of the tokens
abbrev pub Outcome : List Want → List Kind → Verdict → Type 0
Outcome s ks Fine = IsDerivedList s ks
Outcome s ks (Wrong n) = IsRefused s ks n
Outcome s ks (Tall n) = IsTall s ks n

-- a prefix and a suffix begin with the prefix, and then stands the next terminal of the suffix
begins_before : (fs suffix : List Kind) → BeginsBefore (fs ++ suffix) fs (next suffix)
begins_before [] suffix = refl
begins_before (f ∷ fs) suffix = (refl, begins_before fs suffix)

-- what begins with a prefix and the first token of a suffix begins with the prefix, and then stands that token's terminal
same_class : (ks fs suffix : List Kind) → BeginsThrough ks fs suffix → BeginsBefore ks fs (next suffix)
same_class ks fs [] e = subst (λ z. BeginsBefore z fs (next [])) (append-nil fs ∙ sym e) (begins_before fs [])
same_class ks fs (k ∷ suffix) (rest, e) = subst (λ z. BeginsBefore z fs (terminal_of k)) (sym e) (begins_before fs (k ∷ rest))

-- no token of the terminal fits, so that one does not
pub by_kinds : (s : List Want) (ks : List Kind) (n : ℕ) → IsRefused s ks n → IsWrong s ks n
by_kinds s ks n o = record {
  prefix = o.prefix;
  rest = o.rest;
  suffix = o.suffix;
  cut = o.cut;
  count = o.count;
  not_tall = o.not_tall;
  opens = o.opens;
  refuses = λ w b r. o.refuses w (same_class (kinds_of w) (kinds_of o.prefix) o.suffix b) r;
}

-- where nothing is wanted, no token is derived
at_end : (k : Kind) {w : List Spelled} → Derives [] w → next (kinds_of w) ≡ terminal_of k → ⊥
at_end k done e = let h = small k in omega arith

-- where a terminal and more is wanted, the more that is wanted derives the tokens after the first
after_terminal : {c d e : ℕ} {j : Kind} {s : List Want} {w : List Spelled} → Derives ((Terminal c, d) ∷ s) ((j, e) ∷ w) → Derives s w
after_terminal (token q r) = r

-- where no list that begins so is derived from the further wants, none with a token more is derived with a terminal wanted first
refused : (c d : ℕ) (k : Kind) (s : List Want) (fs : List Kind) (n : ℕ) → ((w : List Spelled) → BeginsBefore (kinds_of w) fs n → Derives s w → ⊥)
    → (w : List Spelled) → BeginsBefore (kinds_of w) (k ∷ fs) n → Derives ((Terminal c, d) ∷ s) w → ⊥
refused c d k s fs n f [] b r = elim b [ ]
refused c d k s fs n f ((j, e) ∷ w) b r = f w b.1 (after_terminal r)

-- one more token, which is the one that is wanted
after_token : (c d : ℕ) (k : Kind) (s : List Want) (ks : List Kind) (v : Verdict) → terminal_of k ≡ c → d ≤ 200 → Outcome s ks v → Outcome ((Terminal c, d) ∷ s) (k ∷ ks) v
after_token c d k s ks Fine e l o = record { text = (k, d) ∷ o.text; same = ap (λ x. k ∷ x) o.same; not_tall = (l, o.not_tall); derived = token e o.derived }
after_token c d k s ks (Wrong n) e l o = record {
  prefix = (k, d) ∷ o.prefix;
  rest = o.rest;
  suffix = o.suffix;
  cut = ap (λ x. k ∷ x) o.cut;
  count = o.count;
  not_tall = (l, o.not_tall);
  opens = token e o.opens;
  refuses = refused c d k s (kinds_of o.prefix) (next o.suffix) o.refuses;
}
after_token c d k s ks (Tall n) e l o = record {
  prefix = (k, d) ∷ o.prefix;
  kind = o.kind;
  depth = o.depth;
  rest = o.rest;
  suffix = o.suffix;
  cut = ap (λ x. k ∷ x) o.cut;
  count = o.count;
  not_tall = (l, o.not_tall);
  tall = o.tall;
  opens = token e o.opens;
}

-- the want is a symbol, and its rule is the choice
low_choice : (x c : ℕ) (d : ℕ) (s : List Want) → else_first ((Nonterminal x, d) ∷ s) ≡ true → c < suc terminal_count → choice x c < rule_count → (head_of (choice x c) ≡ x) × (allowed (choice x c) c ≡ true)
low_choice x c d s t n l = choice_fits x c (ltb-true _ _ (both_left _ _ t)) n l

module _ (x d : ℕ) (s : List Want) (t : else_first ((Nonterminal x, d) ∷ s) ≡ true) (legal : Legal ((Nonterminal x, d) ∷ s)) where
  -- a derivation of the nonterminal before terminal c goes on with the choice
  chose : (w : List Spelled) → Derives ((Nonterminal x, d) ∷ s) w → (choice x (next (kinds_of w)) < rule_count) × Derives (at_depth (inside x d) (parts_of (choice x (next (kinds_of w)))) ++ s) w
  chose w (rule i l e a r) =
      let same = chosen x d i (next (kinds_of w)) s legal l e (next_small (kinds_of w)) a (starts r) in
      (subst (λ j. j < rule_count) (sym same) l, subst (λ j. Derives (at_depth (inside x d) (parts_of j) ++ s) w) (sym same) r)

  -- something is derived that begins with the prefix, before terminal c
  reopened : (c : ℕ) → c < suc terminal_count → choice x c < rule_count → (prefix rest : List Spelled) → (prefix ≡ [] → ⊥) → next (kinds_of prefix) ≡ c → Derives (at_depth (inside x d) (parts_of (choice x c)) ++ s) (prefix ++ rest) → Derives ((Nonterminal x, d) ∷ s) (prefix ++ rest)
  reopened c n l [] rest f e r = absurd (f refl)
  reopened c n l ((k, g) ∷ prefix) rest f e r =
      let h = low_choice x c d s t n l in
      rule (choice x c) l h.0 (subst (λ y. allowed (choice x c) y ≡ true) (sym e) h.1) r

-- tokens that begin with a prefix before the next terminal of a suffix have the next terminal of the two
next_same : (w fs suffix : List Kind) → BeginsBefore w fs (next suffix) → next w ≡ next (fs ++ suffix)
next_same w [] suffix b = b
next_same [] (f ∷ fs) suffix b = elim b [ ]
next_same (k ∷ w) (f ∷ fs) suffix b = ap terminal_of b.0

-- a prefix and then a kind have the same next terminal, whatever follows and whatever the depths
first_same : (prefix : List Spelled) (k : Kind) (d : ℕ) (rest : List Spelled) (suffix : List Kind) → next (kinds_of (prefix ++ ((k, d) ∷ rest))) ≡ next (kinds_of prefix ++ (k ∷ suffix))
first_same [] k d rest suffix = refl
first_same ((j, e) ∷ prefix) k d rest suffix = refl

module _ (x d : ℕ) (s : List Want) (t : else_first ((Nonterminal x, d) ∷ s) ≡ true) (legal : Legal ((Nonterminal x, d) ∷ s)) where
  -- where the right side of the choice and what is wanted after it derive no list that begins so, neither does the nonterminal
  refuses_too : (ks fs suffix : List Kind) → ks ≡ fs ++ suffix
      → ((w : List Spelled) → BeginsBefore (kinds_of w) fs (next suffix) → Derives (at_depth (inside x d) (parts_of (choice x (next ks))) ++ s) w → ⊥)
      → (w : List Spelled) → BeginsBefore (kinds_of w) fs (next suffix) → Derives ((Nonterminal x, d) ∷ s) w → ⊥
  refuses_too ks fs suffix cut f w b r =
      let same : next (kinds_of w) ≡ next ks = next_same (kinds_of w) fs suffix b ∙ sym (ap next cut) in
      f w b (subst (λ c. Derives (at_depth (inside x d) (parts_of (choice x c)) ++ s) w) same (chose x d s t legal w r).1)

  -- tokens that the right side of the choice refuses at a place are refused there by the nonterminal
  wrong_too : (ks : List Kind) (n : ℕ) → choice x (next ks) < rule_count → (prefix rest : List Spelled) (suffix : List Kind)
      → ks ≡ kinds_of prefix ++ suffix → length suffix ≡ n → NotTall prefix → Derives (at_depth (inside x d) (parts_of (choice x (next ks))) ++ s) (prefix ++ rest)
      → ((w : List Spelled) → BeginsBefore (kinds_of w) (kinds_of prefix) (next suffix) → Derives (at_depth (inside x d) (parts_of (choice x (next ks))) ++ s) w → ⊥)
      → IsRefused ((Nonterminal x, d) ∷ s) ks n
  wrong_too ks n l [] rest suffix cut count not_tall opens f =
      let whole = finished ((Nonterminal x, d) ∷ s) t in
      record { prefix = []; rest = whole.0; suffix = suffix; cut = cut; count = count; not_tall = not_tall; opens = whole.1; refuses = refuses_too ks [] suffix cut f }
  wrong_too ks n l ((k, g) ∷ prefix) rest suffix cut count not_tall opens f =
      record {
        prefix = (k, g) ∷ prefix;
        rest = rest;
        suffix = suffix;
        cut = cut;
        count = count;
        not_tall = not_tall;
        opens = reopened x d s t legal (next ks) (next_small ks) l ((k, g) ∷ prefix) rest (λ e. cc) (sym (ap next cut)) opens;
        refuses = refuses_too ks (k ∷ kinds_of prefix) suffix cut f;
      }

  -- what a verdict says of the tokens for the right side of the choice, it says of them for the nonterminal
  expanded : (ks : List Kind) (v : Verdict) → choice x (next ks) < rule_count → Outcome (at_depth (inside x d) (parts_of (choice x (next ks))) ++ s) ks v → Outcome ((Nonterminal x, d) ∷ s) ks v
  expanded ks Fine l o =
      let h = low_choice x (next ks) d s t (next_small ks) l in
      record {
        text = o.text;
        same = o.same;
        not_tall = o.not_tall;
        derived = rule (choice x (next ks)) l h.0 (subst (λ y. allowed (choice x (next ks)) y ≡ true) (sym (ap next o.same)) h.1) o.derived;
      }
  expanded ks (Wrong n) l o = wrong_too ks n l o.prefix o.rest o.suffix o.cut o.count o.not_tall o.opens o.refuses
  expanded ks (Tall n) l o =
      let h = low_choice x (next ks) d s t (next_small ks) l in
      let same : next (kinds_of (o.prefix ++ ((o.kind, o.depth) ∷ o.rest))) ≡ next ks = first_same o.prefix o.kind o.depth o.rest o.suffix ∙ sym (ap next o.cut) in
      record {
        prefix = o.prefix;
        kind = o.kind;
        depth = o.depth;
        rest = o.rest;
        suffix = o.suffix;
        cut = o.cut;
        count = o.count;
        not_tall = o.not_tall;
        tall = o.tall;
        opens = rule (choice x (next ks)) l h.0 (subst (λ y. allowed (choice x (next ks)) y ≡ true) (sym same) h.1) o.opens;
      }

-- where a terminal is wanted first, the first token that is derived has it
word_first : {c d : ℕ} {s : List Want} {w : List Spelled} → Derives ((Terminal c, d) ∷ s) w → next (kinds_of w) ≡ c
word_first (token e r) = e

-- every run is exact
pub outcome : {s : List Want} {ks : List Kind} {v : Verdict} → Runs s ks v → else_first s ≡ true → Legal s → Outcome s ks v
outcome fine t l = record { text = []; same = refl; not_tall = tt; derived = done }
outcome (extra {k} {ks}) t l = record { prefix = []; rest = []; suffix = k ∷ ks; cut = refl; count = refl; not_tall = tt; opens = done; refuses = λ w b r. at_end k r b }
outcome (take {c} {d} {k} {s} {ks} {v} e h r) t l = after_token c d k s ks v e h (outcome r (not_else_else_first s (both_right (listed (Terminal c)) _ t)) l.1)
outcome (tall {c} {d} {k} {s} {ks} e h) t l =
    let f = finished s (not_else_else_first s (both_right (listed (Terminal c)) _ t)) in
    record { prefix = []; kind = k; depth = d; rest = f.0; suffix = ks; cut = refl; count = refl; not_tall = tt; tall = h; opens = token e f.1 }
outcome (other {c} {d} {s} {ks} n) t l =
    let f = finished ((Terminal c, d) ∷ s) t in
    record { prefix = []; rest = f.0; suffix = ks; cut = refl; count = refl; not_tall = tt; opens = f.1; refuses = λ w b r. n (sym b ∙ word_first r) }
outcome (expand {x} {d} {s} {ks} {v} h r) t l =
    let c = low_choice x (next ks) d s t (next_small ks) h in
    expanded x d s t l ks v h (outcome r (else_first_at_depth (inside x d) (parts_of (choice x (next ks))) s (rule_else_first (choice x (next ks)) h) (both_right (nat_lt x nonterminal_count) _ t)) (legal_rule x d (choice x (next ks)) s l h c.0))
outcome (stuck {x} {d} {s} {ks} h) t l =
    let f = finished ((Nonterminal x, d) ∷ s) t in
    record {
      prefix = [];
      rest = f.0;
      suffix = ks;
      cut = refl;
      count = refl;
      not_tall = tt;
      opens = f.1;
      refuses = λ w b r. let g = (chose x d s t l w r).0 in let m : choice x (next ks) < rule_count = subst (λ y. choice x y < rule_count) b g in omega arith;
    }
