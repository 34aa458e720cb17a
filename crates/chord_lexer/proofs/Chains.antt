-- Chains: they grow at their end, and a text has one that ends where nothing begins.
use Rattle.std.proofs.Common.{◌≡◌, ℕ, zero, suc, ◌+◌, ◌-◌, ◌<◌, ◌≤◌, true, false, cond, List, [], ◌∷◌, ◌++◌, length, take, drop, refl, sym, ap, subst, ◌∙◌, arith, append_assoc, append-nil, length-append, length-drop, drop-drop, get_or, inl, inr, ◌⊎◌, Some, Result, Ok, Err, IfOk, IfErr, MatchResult, Vec, Global}
use Rattle.std.proofs.lemmas.List.{take-append-drop, length-take-le}
use Rattle.std.specs.Prelude.{bytes_eq}
use Rattle.chord_lexer.specs.declared.token.Token.{Token}
use Rattle.chord_lexer.specs.declared.token.Kind.TheVariants as kinds
use Rattle.chord_lexer.specs.declared.token.Mark.{Mark}
use Rattle.chord_lexer.specs.declared.piece.Piece.{Piece}
use Rattle.chord_lexer.specs.declared.piece.Piece.TheVariants as pieces
use Rattle.chord_lexer.specs.declared.lexer.LexFault.{LexFault}
use Rattle.chord_lexer.specs.declared.lexer.LexFault.TheVariants as faults
use Rattle.chord_lexer.specs.Marks.{mark_bytes}
use Rattle.chord_lexer.specs.Pieces.{IsPiece, IsLongest, IsNone}
use Rattle.chord_lexer.specs.Reading.{byte_order_mark, after_byte_order_mark, tokens_of, Chain, none, more, IsRead, IsRefused, IsFault}
use Rattle.chord_lexer.specs.Letters.{is_blank}
use Rattle.chord_lexer.specs.Scanning.{lead_of, single_mark, pair_mark, Begins, IsAdded}
use Rattle.chord_lexer.proofs.Runs.{drop_first}
use Rattle.chord_lexer.proofs.Leads.{lead_for, lead_is, blank_led}
use Rattle.chord_lexer.proofs.Adding.{blank_added}
use Rattle.chord_lexer.proofs.Marking.{sized, one, two}
use Rattle.chord_lexer.proofs.Quoting.{body_same, bytewise_of, one_meaning}

-- A piece has a byte.
pub some_piece : (p : Piece) (v after : List ℕ) → IsPiece p v after → v ≡ [] → ⊥
some_piece pieces.Blank v after h e = let f = sym h.1 ∙ e in cc
some_piece pieces.Comment v after (inl line, u) e = let f = sym line.begins ∙ e in cc
some_piece pieces.Comment v after (inr block, u) e = let f = sym block.begins ∙ e in cc
some_piece (pieces.Token (kinds.Word keyword)) v after h e = let f = sym h.0.begins ∙ e in cc
some_piece (pieces.Token (kinds.Name name)) v after h e = let f = sym h.0.begins ∙ e in cc
some_piece (pieces.Token (kinds.Number n)) v after h e = let f = ap length e in let g = h.some in omega arith
some_piece (pieces.Token (kinds.Literal bytes)) v after h e = let f = sym h.quoted ∙ e in cc
some_piece (pieces.Token (kinds.Mark mark)) v after h e = elim (sized mark) [ one a s t ↦ let f = sym s ∙ sym h.0 ∙ e in cc | two a b s t ↦ let f = sym s ∙ sym h.0 ∙ e in cc ]

-- nothing begins an empty text
pub nothing_left : IsNone []
nothing_left q [] after e h = some_piece q [] after h refl
nothing_left q (b ∷ v) after e h = cc

-- marks that have the same bytes are the same
mark_same : (m n : Mark) → mark_bytes m ≡ mark_bytes n → m ≡ n
mark_same m n e = elim (sized m) [
  | one a s t ↦ elim (sized n) [
    | one b r u ↦ let i : a ≡ b = let f = sym s ∙ e ∙ r in cc in let g : Some m ≡ Some n = sym t ∙ ap single_mark i ∙ u in cc
    | two b c r u ↦ let f = sym s ∙ e ∙ r in cc
  ]
  | two a d s t ↦ elim (sized n) [
    | one b r u ↦ let f = sym s ∙ e ∙ r in cc
    | two b c r u ↦ let f = sym s ∙ e ∙ r in let i : a ≡ b = cc in let j : d ≡ c = cc in let g : Some m ≡ Some n = sym t ∙ ap (λ z. pair_mark z d) i ∙ ap (λ z. pair_mark b z) j ∙ u in cc
  ]
]

-- the same bytes are one piece
pub piece_same : (p q : Piece) → lead_for p ≡ lead_for q → (v after : List ℕ) → IsPiece p v after → IsPiece q v after → p ≡ q
piece_same pieces.Blank pieces.Blank l v after h k = refl
piece_same pieces.Comment pieces.Comment l v after h k = refl
piece_same (pieces.Token (kinds.Word a)) (pieces.Token (kinds.Word b)) l v after h k = let e : Some a ≡ Some b = sym h.1 ∙ k.1 in let f : a ≡ b = cc in ap (λ z. pieces.Token (kinds.Word z)) f
piece_same (pieces.Token (kinds.Word a)) (pieces.Token (kinds.Name b)) l v after h k = let e = sym h.1 ∙ k.1 in cc
piece_same (pieces.Token (kinds.Name a)) (pieces.Token (kinds.Word b)) l v after h k = let e = sym h.1 ∙ k.1 in cc
piece_same (pieces.Token (kinds.Name a)) (pieces.Token (kinds.Name b)) l v after h k = let f : a ≡ b = h.2 ∙ sym k.2 in ap (λ z. pieces.Token (kinds.Name z)) f
piece_same (pieces.Token (kinds.Number a)) (pieces.Token (kinds.Number b)) l v after h k = let f : a ≡ b = sym h.value ∙ k.value in ap (λ z. pieces.Token (kinds.Number z)) f
piece_same (pieces.Token (kinds.Literal a)) (pieces.Token (kinds.Literal b)) l v after h k =
    let e : h.body ++ 34 ∷ [] ≡ k.body ++ 34 ∷ [] = let g = sym h.quoted ∙ k.quoted in cc in
    let i : k.body ≡ h.body = body_same (bytewise_of h.meaning) (bytewise_of k.meaning) [] [] e in
    ap (λ z. pieces.Token (kinds.Literal z)) (one_meaning (bytewise_of h.meaning) (sym i) (bytewise_of k.meaning))
piece_same (pieces.Token (kinds.Mark a)) (pieces.Token (kinds.Mark b)) l v after h k = ap (λ z. pieces.Token (kinds.Mark z)) (mark_same a b (sym h.0 ∙ k.0))
piece_same pieces.Blank pieces.Comment l v after h k = cc
piece_same pieces.Blank (pieces.Token (kinds.Word b)) l v after h k = cc
piece_same pieces.Blank (pieces.Token (kinds.Name b)) l v after h k = cc
piece_same pieces.Blank (pieces.Token (kinds.Number b)) l v after h k = cc
piece_same pieces.Blank (pieces.Token (kinds.Literal b)) l v after h k = cc
piece_same pieces.Blank (pieces.Token (kinds.Mark b)) l v after h k = cc
piece_same pieces.Comment pieces.Blank l v after h k = cc
piece_same pieces.Comment (pieces.Token (kinds.Word b)) l v after h k = cc
piece_same pieces.Comment (pieces.Token (kinds.Name b)) l v after h k = cc
piece_same pieces.Comment (pieces.Token (kinds.Number b)) l v after h k = cc
piece_same pieces.Comment (pieces.Token (kinds.Literal b)) l v after h k = cc
piece_same pieces.Comment (pieces.Token (kinds.Mark b)) l v after h k = cc
piece_same (pieces.Token (kinds.Word a)) pieces.Blank l v after h k = cc
piece_same (pieces.Token (kinds.Word a)) pieces.Comment l v after h k = cc
piece_same (pieces.Token (kinds.Word a)) (pieces.Token (kinds.Number b)) l v after h k = cc
piece_same (pieces.Token (kinds.Word a)) (pieces.Token (kinds.Literal b)) l v after h k = cc
piece_same (pieces.Token (kinds.Word a)) (pieces.Token (kinds.Mark b)) l v after h k = cc
piece_same (pieces.Token (kinds.Name a)) pieces.Blank l v after h k = cc
piece_same (pieces.Token (kinds.Name a)) pieces.Comment l v after h k = cc
piece_same (pieces.Token (kinds.Name a)) (pieces.Token (kinds.Number b)) l v after h k = cc
piece_same (pieces.Token (kinds.Name a)) (pieces.Token (kinds.Literal b)) l v after h k = cc
piece_same (pieces.Token (kinds.Name a)) (pieces.Token (kinds.Mark b)) l v after h k = cc
piece_same (pieces.Token (kinds.Number a)) pieces.Blank l v after h k = cc
piece_same (pieces.Token (kinds.Number a)) pieces.Comment l v after h k = cc
piece_same (pieces.Token (kinds.Number a)) (pieces.Token (kinds.Word b)) l v after h k = cc
piece_same (pieces.Token (kinds.Number a)) (pieces.Token (kinds.Name b)) l v after h k = cc
piece_same (pieces.Token (kinds.Number a)) (pieces.Token (kinds.Literal b)) l v after h k = cc
piece_same (pieces.Token (kinds.Number a)) (pieces.Token (kinds.Mark b)) l v after h k = cc
piece_same (pieces.Token (kinds.Literal a)) pieces.Blank l v after h k = cc
piece_same (pieces.Token (kinds.Literal a)) pieces.Comment l v after h k = cc
piece_same (pieces.Token (kinds.Literal a)) (pieces.Token (kinds.Word b)) l v after h k = cc
piece_same (pieces.Token (kinds.Literal a)) (pieces.Token (kinds.Name b)) l v after h k = cc
piece_same (pieces.Token (kinds.Literal a)) (pieces.Token (kinds.Number b)) l v after h k = cc
piece_same (pieces.Token (kinds.Literal a)) (pieces.Token (kinds.Mark b)) l v after h k = cc
piece_same (pieces.Token (kinds.Mark a)) pieces.Blank l v after h k = cc
piece_same (pieces.Token (kinds.Mark a)) pieces.Comment l v after h k = cc
piece_same (pieces.Token (kinds.Mark a)) (pieces.Token (kinds.Word b)) l v after h k = cc
piece_same (pieces.Token (kinds.Mark a)) (pieces.Token (kinds.Name b)) l v after h k = cc
piece_same (pieces.Token (kinds.Mark a)) (pieces.Token (kinds.Number b)) l v after h k = cc
piece_same (pieces.Token (kinds.Mark a)) (pieces.Token (kinds.Literal b)) l v after h k = cc

-- equal fronts of one text, of one length
front_same : (u x v y : List ℕ) → length u ≡ length v → u ++ x ≡ v ++ y → (u ≡ v) × (x ≡ y)
front_same [] x [] y l e = (refl, e)
front_same [] x (b ∷ v) y l e = absurd (omega arith)
front_same (a ∷ u) x [] y l e = absurd (omega arith)
front_same (a ∷ u) x (b ∷ v) y l e =
    let i : a ≡ b = cc in
    let t : u ++ x ≡ v ++ y = cc in
    let r = front_same u x v y (omega arith) t in
    (let f = r.0 in cc, r.1)

-- The longest piece at the front of a text is one.
pub longest_same : (p : Piece) (u x : List ℕ) (q : Piece) (v y : List ℕ) → IsLongest p u x → IsLongest q v y → u ++ x ≡ v ++ y → (p ≡ q) × (u ≡ v) × (x ≡ y)
longest_same p u x q v y h k e =
    let a = h.most q v y (sym e) k.is in
    let b = k.most p u x e h.is in
    let s = front_same u x v y (omega arith) e in
    let k2 : IsPiece q u x = subst (λ z. IsPiece q u z) (sym s.1) (subst (λ z. IsPiece q z y) (sym s.0) k.is) in
    (piece_same p q (sym (lead_is p u x h.is) ∙ lead_is q u x k2) u x h.is k2, s.0, s.1)

-- One text has one chain that ends where nothing begins.
pub chain_same : {a : ℕ} {w : List ℕ} {ts : List Token} {rest : List ℕ} → Chain a w ts rest → IsNone rest
    → {b : ℕ} {v : List ℕ} {us : List Token} {back : List ℕ} → Chain b v us back → IsNone back → a ≡ b → w ≡ v → (ts ≡ us) × (rest ≡ back)
chain_same none n none m i e = (refl, e)
chain_same none n (more {p = q} {piece = v} {text = y} k d) m i e = absurd (n q v y (sym e) k.is)
chain_same (more {p} {piece = u} {text = x} h c) n none m i e = absurd (m p u x e h.is)
chain_same (more {at = a} {p} {piece = u} {text = x} {tokens = ts} h c) n (more {at = b} {p = q} {piece = v} {text = y} {tokens = us} k d) m i e =
    let s = longest_same p u x q v y h k e in
    let l = ap length s.1 in
    let r = chain_same c n d m (omega arith) s.2 in
    (ap (λ z. tokens_of z a (a + length u) ++ ts) s.0 ∙ ap (λ z. tokens_of q z (z + length u) ++ ts) i ∙ ap (λ z. tokens_of q b (b + z) ++ ts) l ∙ ap (λ z. tokens_of q b (b + length v) ++ z) r.0, r.1)

-- a chain with one more piece
pub grown : {a : ℕ} {w : List ℕ} {ts : List Token} {back : List ℕ} → Chain a w ts back → (p : Piece) (u rest : List ℕ) (s : ℕ) → back ≡ u ++ rest → s + length back ≡ a + length w → IsLongest p u rest
    → Chain a w (ts ++ tokens_of p s (s + length u)) rest
grown {a} {w} none p u rest s e l h =
    let i : a ≡ s = omega arith in
    let c : Chain a (u ++ rest) (tokens_of p a (a + length u) ++ []) rest = more h none in
    let d : Chain a w (tokens_of p a (a + length u) ++ []) rest = subst (λ z. Chain a z (tokens_of p a (a + length u) ++ []) rest) (sym e) c in
    subst (λ z. Chain a w z rest) (append-nil (tokens_of p a (a + length u)) ∙ ap (λ z. tokens_of p z (z + length u)) i) d
grown {a} (more {p = q} {piece = v} {text = x} {tokens = ts} k c) p u rest s e l h =
    let n = length-append v x in
    let r = grown c p u rest s e (omega arith) h in
    subst (λ z. Chain a (v ++ x) z rest) (sym (append_assoc (tokens_of q a (a + length v)) ts (tokens_of p s (s + length u)))) (more k r)

-- a piece gives no more tokens than it has bytes
few : (p : Piece) (u x : List ℕ) (start stop : ℕ) → IsPiece p u x → length (tokens_of p start stop) ≤ length u
few pieces.Blank u x start stop h = omega arith
few pieces.Comment u x start stop h = omega arith
few (pieces.Token kind) [] x start stop h = absurd (some_piece (pieces.Token kind) [] x h refl)
few (pieces.Token kind) (b ∷ u) x start stop h = omega arith

-- what is left is no longer than the text, and each token takes a byte
pub spanned : {a : ℕ} {w : List ℕ} {ts : List Token} {back : List ℕ} → Chain a w ts back → length ts + length back ≤ length w
spanned none = omega arith
spanned (more {at = a} {p} {piece = u} {text = x} {tokens = ts} h c) =
    let r = spanned c in
    let l = length-append u x in
    let m = length-append (tokens_of p a (a + length u)) ts in
    let t : length (tokens_of p a (a + length u)) ≤ length u = few p u x a (a + length u) h.is in
    omega arith

-- the mark takes no byte that is counted
pub after_mark_short : (source : List ℕ) → length (after_byte_order_mark source) ≤ length source
after_mark_short source = elim (bytes_eq byte_order_mark (take 3 source)) as (λ t. length (cond t (drop 3 source) source) ≤ length source) [
  | true ↦ let e = length-drop 3 source in omega arith
  | false ↦ omega arith
]

-- a chain that leaves nothing is a chain of the whole text
pub all_read : (text : List ℕ) (ts : List Token) (left : List ℕ) → Chain 0 text ts left → length left ≡ 0 → Chain 0 text ts []
all_read text ts [] c l = c
all_read text ts (b ∷ left) c l = absurd (omega arith)

-- one more piece of the front of what is left
pub grown_by : (text : List ℕ) (ts new : List Token) (left : List ℕ) (p : Piece) (n : ℕ) → Chain 0 text ts left → Begins left p n → new ≡ ts ++ tokens_of p (length text - length left) (length text - length left + n) → Chain 0 text new (drop n left)
grown_by text ts new left p n c b e =
    let l = spanned c in
    let m = length-take-le n left b.within in
    let s : ℕ = length text - length left in
    let g = grown c p (take n left) (drop n left) s (sym (take-append-drop n left)) (omega arith) b.longest in
    subst (λ z. Chain 0 text z (drop n left)) (ap (λ z. ts ++ tokens_of p s (s + z)) m ∙ sym e) g

-- where nothing begins the text is refused
pub refused_at : (source text : List ℕ) (ts : List Token) (left : List ℕ) → text ≡ after_byte_order_mark source → Chain 0 text ts left → 0 < length left → IsNone left → IsRefused source (length text - length left)
refused_at source text ts left e c l n =
    let s = spanned c in
    record {
      tokens = ts;
      rest = left;
      chain = subst (λ z. Chain 0 z ts left) e c;
      place = let f = ap length e in omega arith;
      there = l;
      nothing = n;
    }

-- a longest piece has a byte
pub some_byte : (text : List ℕ) (p : Piece) (n : ℕ) → Begins text p n → 0 < n
some_byte text p zero b = absurd (some_piece p (take 0 text) (drop 0 text) b.longest.is refl)
some_byte text p (suc n) b = omega arith

-- one more piece at the place up to which the text is a chain
pub grown_at : (text : List ℕ) (ts new : List Token) (at n : ℕ) → at ≤ length text → Chain 0 text ts (drop at text) → IsAdded (drop at text) at ts new n → (at + n ≤ length text) × Chain 0 text new (drop (at + n) text)
grown_at text ts new at n l c a =
    let d = length-drop at text in
    let w = a.begins.within in
    let s : length text - length (drop at text) ≡ at = omega arith in
    let g = grown_by text ts new (drop at text) a.piece n c a.begins (a.tokens ∙ ap (λ z. ts ++ tokens_of a.piece z (z + n)) (sym s)) in
    (omega arith, subst (λ z. Chain 0 text new z) (drop-drop n at text) g)

-- what was added to the list, or was none, has a byte
pub added_byte : (text : List ℕ) (start n : ℕ) (before now : List Token) → IsAdded text start before now n → 0 < n
added_byte text start n before now a = some_byte text a.piece n a.begins

-- a blank at that place adds no token
pub blank_at : (text : List ℕ) (ts : List Token) (at : ℕ) → at < length text → is_blank (get_or text at 0) ≡ true → IsAdded (drop at text) at ts ts 1
blank_at text ts at l h =
    let d = length-drop at text in
    blank_added (drop at text) at ts (omega arith) (ap lead_of (drop_first at text l) ∙ blank_led (get_or text at 0) (drop (at + 1) text) h)

-- where nothing begins at that place, the source is refused there
pub refused_there : (source text : List ℕ) (ts : List Token) (at : ℕ) → text ≡ after_byte_order_mark source → at < length text → Chain 0 text ts (drop at text) → IsNone (drop at text) → IsRefused source at
refused_there source text ts at e l c n =
    let d = length-drop at text in
    let s : length text - length (drop at text) ≡ at = omega arith in
    subst (λ z. IsRefused source z) s (refused_at source text ts (drop at text) e c (omega arith) n)

-- a chain up to the end reads the source
pub whole_read : (source text : List ℕ) (ts : List Token) (at : ℕ) → text ≡ after_byte_order_mark source → length text ≤ at → Chain 0 text ts (drop at text) → IsRead source ts
whole_read source text ts at e l c =
    let d = length-drop at text in
    subst (λ z. Chain 0 z ts []) e (all_read text ts (drop at text) c (omega arith))

-- One source reads as one list, is refused at one byte, and is not both read and refused.
pub one_list : (source : List ℕ) (ts us : List Token) → IsRead source ts → IsRead source us → ts ≡ us
one_list source ts us h k = (chain_same h nothing_left k nothing_left refl refl).0

-- a source that is read is not refused
pub not_both : (source : List ℕ) (ts : List Token) (k : ℕ) → IsRead source ts → IsRefused source k → ⊥
not_both source ts k h r = let f = ap length (chain_same h nothing_left r.chain r.nothing refl refl).1 in let l = r.there in omega arith

-- a source is refused at one byte at most
pub one_place : (source : List ℕ) (j k : ℕ) → IsRefused source j → IsRefused source k → j ≡ k
one_place source j k h r = let f = ap length (chain_same h.chain h.nothing r.chain r.nothing refl refl).1 in let a = h.place in let b = r.place in omega arith

-- what an answer says of the readings that there are
pub only_list : (source : List ℕ) (r : Result (Vec Token Global) LexFault) → IfOk r (λ found. IsRead source found.items) → IfErr r (IsFault source) → (ts : List Token) → IsRead source ts → MatchResult r (λ found. found.items ≡ ts) (λ fault. fault ≡ faults.Memory)
only_list source (Ok found) h k ts t = one_list source found.items ts h t
only_list source (Err faults.Memory) h k ts t = refl
only_list source (Err (faults.Bad j)) h k ts t = absurd (not_both source ts j t k)

-- where the source is refused, the answer names that byte or lacks memory
pub only_place : (source : List ℕ) (r : Result (Vec Token Global) LexFault) → IfOk r (λ found. IsRead source found.items) → IfErr r (IsFault source) → (k : ℕ) → IsRefused source k → MatchResult r (λ found. ⊥) (λ fault. (fault ≡ faults.Memory) ⊎ (fault ≡ faults.Bad k))
only_place source (Ok found) h k j t = not_both source found.items j h t
only_place source (Err faults.Memory) h k j t = inl refl
only_place source (Err (faults.Bad i)) h k j t = inr (ap faults.Bad (one_place source i j k t))

-- a source has no more tokens than bytes
pub no_more : (source : List ℕ) (r : Result (Vec Token Global) LexFault) → IfOk r (λ found. IsRead source found.items) → IfOk r (λ found. length found.items ≤ length source)
no_more source (Ok found) h = let s = spanned h in let m = after_mark_short source in omega arith
no_more source (Err fault) h = tt

-- places are within the limit on a source
pub text_short : (source text : List ℕ) → length source ≤ 1048576 → text ≡ after_byte_order_mark source → length text ≤ 1048576
text_short source text l e = let s = after_mark_short source in let f = ap length e in omega arith

-- what a chain leaves is no longer than the text
pub left_short : (text : List ℕ) (ts : List Token) (left : List ℕ) → Chain 0 text ts left → length left ≤ length text
left_short text ts left c = let s = spanned c in omega arith
