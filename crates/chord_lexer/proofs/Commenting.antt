-- Comments: where one begins there is one extent, and it is a comment if its bytes are UTF-8.
use Rattle.std.proofs.Common.{◌≡◌, ℕ, suc, ◌+◌, ◌-◌, ◌<◌, ◌≤◌, true, List, [], ◌∷◌, ◌++◌, length, take, drop, get_or, refl, sym, ap, subst, ◌∙◌, arith, eqb-true, append_assoc, length-append, ◌⊎◌, inl, inr}
use Rattle.std.proofs.lemmas.List.{take-append-drop, length-take-le, get_or-take, get_or-append-add}
use Rattle.std.proofs.lemmas.Bool.{cases_lt}
use Rattle.std.specs.Prelude.{IsUtf8}
use Rattle.chord_lexer.specs.declared.piece.Piece.{Piece}
use Rattle.chord_lexer.specs.declared.piece.Piece.TheVariants as pieces
use Rattle.chord_lexer.specs.declared.scan.Lead.TheVariants as leads
use Rattle.chord_lexer.specs.Letters.{IsMaximalRun}
use Rattle.chord_lexer.specs.Comments.{begins_comment, is_in_line, IsUnclosed, IsDelimited}
use Rattle.chord_lexer.specs.Pieces.{IsPiece, IsNone}
use Rattle.chord_lexer.specs.Scanning.{lead_of, Begins, IsClosedAt, IsExtent, IsUndelimited}
use Rattle.chord_lexer.proofs.Runs.{run_same, and_left, and_right, or_cases, take_plus, drop_first}
use Rattle.chord_lexer.proofs.Leads.{leads_to, only_comment, told}

-- `*/` does not stand in what follows the first byte either
unclosed_tail : (b : ℕ) (body : List ℕ) → IsUnclosed (b ∷ body) → IsUnclosed body
unclosed_tail b body h front back e = h (b ∷ front) back (ap (λ z. b ∷ z) e)

-- two bodies with `*/` after them and not in them are one
closed_same : (u v x y : List ℕ) → IsUnclosed u → IsUnclosed v → v ++ 42 ∷ 47 ∷ y ≡ u ++ 42 ∷ 47 ∷ x → v ≡ u
closed_same [] [] x y h k e = refl
closed_same (a ∷ []) [] x y h k e = let i : ◌≡◌ {A = ℕ} 47 42 = cc in absurd (omega arith)
closed_same (a ∷ b ∷ u) [] x y h k e = let i : 42 ≡ a = cc in let j : 47 ≡ b = cc in absurd (h [] u (let l : a ∷ b ∷ u ≡ 42 ∷ 47 ∷ u = cc in l))
closed_same [] (a ∷ []) x y h k e = let i : ◌≡◌ {A = ℕ} 42 47 = cc in absurd (omega arith)
closed_same [] (a ∷ b ∷ v) x y h k e = let i : a ≡ 42 = cc in let j : b ≡ 47 = cc in absurd (k [] v (let l : a ∷ b ∷ v ≡ 42 ∷ 47 ∷ v = cc in l))
closed_same (a ∷ u) (b ∷ v) x y h k e =
    let t : v ++ 42 ∷ 47 ∷ y ≡ u ++ 42 ∷ 47 ∷ x = cc in
    let i : b ≡ a = cc in
    let r = closed_same u v x y (unclosed_tail a u h) (unclosed_tail b v k) t in cc

-- a block comment and what follows it
block_text : (body more : List ℕ) → (47 ∷ 42 ∷ (body ++ 42 ∷ 47 ∷ [])) ++ more ≡ 47 ∷ 42 ∷ (body ++ 42 ∷ 47 ∷ more)
block_text body more = ap (λ z. 47 ∷ 42 ∷ z) (append_assoc body (42 ∷ 47 ∷ []) more)

-- A text is delimited as a comment in one way.
delimited_same : (u x v y : List ℕ) → IsDelimited u x → IsDelimited v y → v ++ y ≡ u ++ x → v ≡ u
delimited_same u x v y (inl h) (inl k) e =
    let f : 47 ∷ 47 ∷ (k.body ++ y) ≡ 47 ∷ 47 ∷ (h.body ++ x) = ap (λ z. z ++ y) (sym k.begins) ∙ e ∙ ap (λ z. z ++ x) h.begins in
    let g : k.body ++ y ≡ h.body ++ x = cc in
    k.begins ∙ ap (λ z. 47 ∷ 47 ∷ z) (run_same is_in_line h.body x k.body y h.line k.line g).0 ∙ sym h.begins
delimited_same u x v y (inl h) (inr k) e =
    let f : 47 ∷ 42 ∷ (k.body ++ 42 ∷ 47 ∷ y) ≡ 47 ∷ 47 ∷ (h.body ++ x) = sym (block_text k.body y) ∙ ap (λ z. z ++ y) (sym k.begins) ∙ e ∙ ap (λ z. z ++ x) h.begins in
    let g : ◌≡◌ {A = ℕ} 42 47 = cc in absurd (omega arith)
delimited_same u x v y (inr h) (inl k) e =
    let f : 47 ∷ 47 ∷ (k.body ++ y) ≡ 47 ∷ 42 ∷ (h.body ++ 42 ∷ 47 ∷ x) = ap (λ z. z ++ y) (sym k.begins) ∙ e ∙ ap (λ z. z ++ x) h.begins ∙ block_text h.body x in
    let g : ◌≡◌ {A = ℕ} 47 42 = cc in absurd (omega arith)
delimited_same u x v y (inr h) (inr k) e =
    let f : 47 ∷ 42 ∷ (k.body ++ 42 ∷ 47 ∷ y) ≡ 47 ∷ 42 ∷ (h.body ++ 42 ∷ 47 ∷ x) = sym (block_text k.body y) ∙ ap (λ z. z ++ y) (sym k.begins) ∙ e ∙ ap (λ z. z ++ x) h.begins ∙ block_text h.body x in
    let g : k.body ++ 42 ∷ 47 ∷ y ≡ h.body ++ 42 ∷ 47 ∷ x = cc in
    k.begins ∙ ap (λ z. 47 ∷ 42 ∷ (z ++ 42 ∷ 47 ∷ [])) (closed_same h.body k.body x y h.next k.next g) ∙ sym h.begins

-- a comment at the front has the one extent
at_extent : (text : List ℕ) (n : ℕ) → lead_of text ≡ leads.Comment → IsExtent text n → (q : Piece) (v more : List ℕ) → v ++ more ≡ text → IsPiece q v more → (v ≡ take n text) × IsUtf8 v
at_extent text n h x q v more e k =
    let w = only_comment q v more (leads_to text leads.Comment h q v more e k) k in
    (delimited_same (take n text) (drop n text) v more x.is w.0 (e ∙ sym (take-append-drop n text)), w.1)

-- a delimited comment in UTF-8 begins the text
pub comment_begins : (text : List ℕ) (n : ℕ) → lead_of text ≡ leads.Comment → IsExtent text n → IsUtf8 (take n text) → Begins text pieces.Comment n
comment_begins text n h x u = record {
  within = x.within;
  longest = record {
    is = (x.is, u);
    most = λ q v more e k. let f = ap length (at_extent text n h x q v more (e ∙ take-append-drop n text) k).0 in omega arith;
  };
}

-- where what is delimited is not UTF-8, nothing begins the text
pub not_utf8 : (text : List ℕ) (n : ℕ) → lead_of text ≡ leads.Comment → IsExtent text n → (IsUtf8 (take n text) → ⊥) → IsNone text
not_utf8 text n h x u q v more e k = let f = at_extent text n h x q v more e k in u (subst (λ z. IsUtf8 z) f.0 f.1)

-- where nothing is delimited as a comment, nothing begins the text
pub not_delimited : (text : List ℕ) → lead_of text ≡ leads.Comment → IsUndelimited text → IsNone text
not_delimited text h u q v more e k = u v more e (only_comment q v more (leads_to text leads.Comment h q v more e k) k).0

-- what a text begins with where a comment begins
pub record IsOpened (text : List ℕ) : Type 0 where
  pub second : ℕ
  pub body : List ℕ
  pub is : text ≡ 47 ∷ second ∷ body
  pub either : (second ≡ 47) ⊎ (second ≡ 42)

-- a text that begins a comment begins with `//` or `/*`
opened_by : (text : List ℕ) → begins_comment text ≡ true → IsOpened text
opened_by [] h = cc
opened_by (a ∷ []) h = cc
opened_by (a ∷ b ∷ body) h = record {
  second = b;
  body = body;
  is = ap (λ z. z ∷ b ∷ body) (eqb-true a 47 (and_left _ _ h));
  either = elim (or_cases _ _ (and_right _ _ h)) [ inl e ↦ inl (eqb-true b 47 e) | inr e ↦ inr (eqb-true b 42 e) ];
}

-- a text that may begin with a comment opens one
pub opened : (text : List ℕ) → lead_of text ≡ leads.Comment → IsOpened text
opened [] h = cc
opened (b ∷ bs) h = opened_by (b ∷ bs) (told leads.Comment b bs h)

-- the extents of the two kinds
line_of : (text : List ℕ) (n : ℕ) → lead_of text ≡ leads.Comment → get_or text 1 0 ≡ 47 → n ≤ length (drop 2 text) → IsMaximalRun is_in_line (take n (drop 2 text)) (drop n (drop 2 text)) → IsExtent text (n + 2)
line_of [] n h i l r = cc
line_of (a ∷ []) n h i l r = absurd (omega arith)
line_of (a ∷ b ∷ body) n h i l r =
    let o = opened (a ∷ b ∷ body) h in
    let e : n + 2 ≡ suc (suc n) = omega arith in
    let f : a ≡ 47 = cc (o.is) in
    rw e (record {
      within = omega arith;
      is = inl (record { body = take n body; begins = let g : a ∷ b ∷ take n body ≡ 47 ∷ 47 ∷ take n body = cc in g; line = r });
    })

-- a line comment goes to the end of its line
pub line_extent : (text body : List ℕ) (n : ℕ) → lead_of text ≡ leads.Comment → get_or text 1 0 ≡ 47 → body ≡ drop 2 text → n ≤ length body → IsMaximalRun is_in_line (take n body) (drop n body) → IsExtent text (n + 2)
line_extent text body n h i e l r = line_of text n h i (subst (λ z. n ≤ length z) e l) (subst (λ z. IsMaximalRun is_in_line (take n z) (drop n z)) e r)

-- a text that may begin with a comment but not with `//`, and has the next `*/` n bytes after its first two, has an extent of n + 4 bytes
block_of : (text : List ℕ) (n : ℕ) → lead_of text ≡ leads.Comment → (get_or text 1 0 ≡ 47 → ⊥) → n + 2 ≤ length (drop 2 text) → IsClosedAt (drop 2 text) n → IsExtent text (n + 4)
block_of [] n h i l c = cc
block_of (a ∷ []) n h i l c = absurd (let l : n + 2 ≤ 0 = l in omega arith)
block_of (a ∷ b ∷ body) n h i l c =
    let o = opened (a ∷ b ∷ body) h in
    let e : n + 4 ≡ suc (suc (n + 2)) = omega arith in
    let f : a ≡ 47 = cc (o.is) in
    let second : b ≡ o.second = cc (o.is) in
    let g : b ≡ 42 = elim o.either [ inl k ↦ absurd (i (second ∙ k)) | inr k ↦ second ∙ k ] in
    let cut : take (n + 2) body ≡ take n body ++ 42 ∷ 47 ∷ [] = take_plus n 2 body (omega arith) ∙ ap (λ z. take n body ++ take 2 z) c.close in
    rw e (record {
      within = omega arith;
      is = inr (record { body = take n body; begins = let k : a ∷ b ∷ take (n + 2) body ≡ 47 ∷ 42 ∷ (take n body ++ 42 ∷ 47 ∷ []) = cc in k; next = c.next });
    })

-- a block comment goes through the first `*/`
pub block_extent : (text body : List ℕ) (n : ℕ) → lead_of text ≡ leads.Comment → (get_or text 1 0 ≡ 47 → ⊥) → body ≡ drop 2 text → n + 2 ≤ length body → IsClosedAt body n → IsExtent text (n + 4)
block_extent text body n h i e l c = block_of text n h i (subst (λ z. n + 2 ≤ length z) e l) (subst (λ z. IsClosedAt z n) e c)

-- where `*/` stands nowhere after `/*`, nothing is delimited
pub never_closed : (text : List ℕ) → lead_of text ≡ leads.Comment → (get_or text 1 0 ≡ 47 → ⊥) → (body : List ℕ) → body ≡ drop 2 text → IsUnclosed body → IsUndelimited text
never_closed text h i body d u comment rest e (inl line) =
    let f : text ≡ 47 ∷ 47 ∷ (line.body ++ rest) = sym e ∙ ap (λ z. z ++ rest) line.begins in
    i (ap (λ z. get_or z 1 0) f)
never_closed text h i body d u comment rest e (inr block) =
    let f : text ≡ 47 ∷ 42 ∷ (block.body ++ 42 ∷ 47 ∷ rest) = sym e ∙ ap (λ z. z ++ rest) block.begins ∙ block_text block.body rest in
    u block.body rest (d ∙ ap (drop 2) f)

-- a number below one more than another is below the other or equal to it
split_lt : (a b : ℕ) → a < b + 1 → (a < b) ⊎ (a ≡ b)
split_lt a b h = elim (cases_lt a b) [ inl l ↦ inl l | inr l ↦ inr (omega arith) ]

-- `*/` by its place
pub unclosed_by_place : (body : List ℕ) → ((k : ℕ) → k + 1 < length body → get_or body k 0 ≡ 42 → get_or body (k + 1) 0 ≡ 47 → ⊥) → IsUnclosed body
unclosed_by_place body h front back e =
    let l = ap length e ∙ length-append front (42 ∷ 47 ∷ back) in
    h (length front) (omega arith)
    (ap (λ z. get_or z (length front) 0) e ∙ ap (λ z. get_or (front ++ 42 ∷ 47 ∷ back) z 0) (let x : length front ≡ length front + 0 = omega arith in x) ∙ get_or-append-add front (42 ∷ 47 ∷ back) 0 0)
    (ap (λ z. get_or z (length front + 1) 0) e ∙ get_or-append-add front (42 ∷ 47 ∷ back) 1 0)

-- no `*/` ends before the place
abbrev pub IsPassed : List ℕ → ℕ → Type 0
IsPassed text at = (k : ℕ) → k + 1 < at → get_or text k 0 ≡ 42 → get_or text (k + 1) 0 ≡ 47 → ⊥

-- no `*/` ends at the first byte
pub passed_none : (text : List ℕ) → IsPassed text 1
passed_none text k l a b = absurd (omega arith)

-- no `*/` ends at the next byte either
pub passed_more : (text : List ℕ) (at : ℕ) → 1 ≤ at → IsPassed text at → (get_or text (at - 1) 0 ≡ 42 → get_or text at 0 ≡ 47 → ⊥) → IsPassed text (at + 1)
passed_more text at m h here k l a b = elim (split_lt (k + 1) at (omega arith)) [
  | inl i ↦ h k i a b
  | inr i ↦ let j : k ≡ at - 1 = omega arith in here (ap (λ z. get_or text z 0) (sym j) ∙ a) (ap (λ z. get_or text z 0) (sym i) ∙ b)
]

-- where no `*/` ended up to the end, the comment is not closed
pub passed_all : (text : List ℕ) (at : ℕ) → length text ≤ at → IsPassed text at → IsUnclosed text
passed_all text at l h = unclosed_by_place text (λ k m a b. h k (omega arith) a b)

-- the first `*/` ends here
pub closed_here : (text : List ℕ) (at : ℕ) → 1 ≤ at → at < length text → get_or text (at - 1) 0 ≡ 42 → get_or text at 0 ≡ 47 → IsPassed text at → IsClosedAt text (at - 1)
closed_here text at m l a b h =
    let n : ℕ = at - 1 in
    let e : n + 1 ≡ at = omega arith in
    let t = length-take-le n text (omega arith) in
    record {
      next = unclosed_by_place (take n text) (λ k i x y.
          let i' : k + 1 < n = omega arith in
          h k (omega arith) (sym (get_or-take n text k 0 (omega arith)) ∙ x) (sym (get_or-take n text (k + 1) 0 i') ∙ y));
      rest = drop (at + 1) text;
      close = drop_first n text (omega arith) ∙ ap (λ z. z ∷ drop (n + 1) text) a ∙ ap (λ z. 42 ∷ drop z text) e ∙ ap (λ z. 42 ∷ z) (drop_first at text l ∙ ap (λ z. z ∷ drop (at + 1) text) b);
    }
