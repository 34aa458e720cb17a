-- A chord that the grammar derives has a header.
use Rattle.std.proofs.Common.{◌≡◌, ℕ, zero, suc, ◌<◌, List, [], ◌∷◌, Bool, true, false, not, ◌&&◌, ◌||◌, nat_eq, length, refl, sym, ap, subst, ◌∙◌, Some, slice_get, arith}
use Rattle.std.proofs.lemmas.Bool.{false≢true, eqb-true, eq-eqb}
use Rattle.chord_tree.specs.Symbol.{Symbol, number_of}
use Rattle.chord_tree.specs.Grammar.{rule_count, productions}
use Rattle.chord_tree.specs.Symbols as grammar
use Rattle.chord_tree.specs.Derivation.{Spelled, head_of, parts_of}
use Rattle.chord_tree.specs.Node.{Node, Nodes, End, ◌▸◌, Leaf, Made, Fits, FitAll, leaf, made, none, more}
use Rattle.chord_tree.specs.Tree.{MemberTree, ConstructorMember, ChordMember, ClassTree, UsingTree, ProgramTree}
use Rattle.chord_tree.specs.ClassNodes.{node_members, node_member, node_class, node_classes, node_all_classes}
use Rattle.chord_tree.specs.Program.{IsProgram}
use Rattle.chord_classes.proofs.Facts.{none_some, same_some}

-- a chord has a header
abbrev pub HasHeader : MemberTree → Type 0
HasHeader (ConstructorMember modifiers name formals body) = Unit {0}
HasHeader (ChordMember headers body) = 0 < length headers

-- each chord of a program has a header
abbrev pub HaveHeaders : ProgramTree → Type 0
HaveHeaders p = (n k : ℕ) (class : ClassTree) (member : MemberTree) → slice_get p.classes n ≡ Some class → slice_get class.members k ≡ Some member → HasHeader member

-- f holds of each number below n
abbrev all_below : ℕ → (ℕ → Bool) → Bool
all_below zero f = true
all_below (suc n) f = f n && all_below n f

-- what holds of all numbers below n holds of each
all_at : (n i : ℕ) (f : ℕ → Bool) → all_below n f ≡ true → i < n → f i ≡ true
all_at zero i f h k = absurd (nowhere k)
  where
    nowhere : i < 0 → ⊥
    nowhere k = omega arith
all_at (suc n) i f h k = by_last (nat_eq i n) refl (λ l. all_at n i f (second (f n) (all_below n f) h) l)
  where
    second : (a b : Bool) → (a && b) ≡ true → b ≡ true
    second true b h = h
    second false b h = absurd (false≢true h)

    first : (a b : Bool) → (a && b) ≡ true → a ≡ true
    first true b h = refl
    first false b h = absurd (false≢true h)

    by_last : (b : Bool) → nat_eq i n ≡ b → (i < n → f i ≡ true) → f i ≡ true
    by_last true e g = ap f (eqb-true i n e) ∙ first (f n) (all_below n f) h
    by_last false e g = g (below (λ same. false≢true (sym e ∙ eq-eqb i n same)))
      where
        below : (i ≡ n → ⊥) → i < n
        below d = let l : i < suc n = k in omega (arith, l, d)

-- each production of a member has two parts
two_parts : all_below rule_count (λ i. not (nat_eq (head_of i) (number_of grammar.Member)) || nat_eq (length (parts_of i)) 2) ≡ true
unfolding rule_count head_of parts_of productions
two_parts = refl

-- a production of a member has two parts on its right side
member_two : (i : ℕ) → i < rule_count → head_of i ≡ number_of grammar.Member → length (parts_of i) ≡ 2
member_two i below head = eqb-true (length (parts_of i)) 2 (second (nat_eq (head_of i) (number_of grammar.Member)) (nat_eq (length (parts_of i)) 2) (eq-eqb (head_of i) (number_of grammar.Member) head)
    (all_at rule_count i (λ j. not (nat_eq (head_of j) (number_of grammar.Member)) || nat_eq (length (parts_of j)) 2) two_parts below))
  where
    second : (a b : Bool) → a ≡ true → (not a || b) ≡ true → b ≡ true
    second true b h k = k
    second false b h k = absurd (false≢true h)

-- how many nodes stand side by side
abbrev count : Nodes → ℕ
count End = 0
count (n ▸ ns) = suc (count ns)

abbrev mutual
  -- each member has two parts
  Good : Node → Type 0
  Good (Leaf kind at) = Unit {0}
  Good (Made part inner) = (number_of part ≡ number_of grammar.Member → count inner ≡ 2) × AllGood inner

  -- in each of these nodes each member has two parts
  AllGood : Nodes → Type 0
  AllGood End = Unit {0}
  AllGood (n ▸ ns) = Good n × AllGood ns

-- the nodes that fit a right side are as many as its symbols
fit_count : {ps : List Symbol} {d : ℕ} {ns : Nodes} {w : List Spelled} → FitAll ps d ns w → count ns ≡ length ps
fit_count none = refl
fit_count (more f fs) = ap suc (fit_count fs)

mutual
  -- in a node that fits a symbol each member has two parts
  good_of : {p : Symbol} {d : ℕ} {n : Node} {w : List Spelled} → Fits p d n w → Good n
  good_of (leaf e) = tt
  good_of (made i below head allow all) = (λ e. fit_count all ∙ member_two i below (head ∙ e), all_good_of all)

  -- in each of the nodes that fit a right side each member has two parts
  all_good_of : {ps : List Symbol} {d : ℕ} {ns : Nodes} {w : List Spelled} → FitAll ps d ns w → AllGood ns
  all_good_of none = tt
  all_good_of (more f fs) = (good_of f, all_good_of fs)

-- one is not two
one_is_not_two : ◌≡◌ {A = ℕ} 1 2 → ⊥
one_is_not_two e = omega arith

-- a member whose node has two parts has a header, if it is a chord
member_head : (m : MemberTree) → Good (node_member m) → HasHeader m
member_head (ConstructorMember modifiers name formals body) g = tt
member_head (ChordMember [] body) g = absurd (one_is_not_two (g.0 refl))
member_head (ChordMember (h ∷ hs) body) g = omega arith

-- each of members whose nodes have two parts has a header, if it is a chord
members_heads : (ms : List MemberTree) (k : ℕ) (m : MemberTree) → Good (node_members ms) → slice_get ms k ≡ Some m → HasHeader m
members_heads [] k m g e = absurd (none_some e)
members_heads (x ∷ xs) zero m g e = subst HasHeader (same_some e) (member_head x g.1.0)
members_heads (x ∷ xs) (suc k) m g e = members_heads xs k m g.1.1.0 e

-- where each member in the node of a class has two parts, so has each in the node of its members
class_members : (c : ClassTree) → Good (node_class c) → Good (node_members c.members)
class_members c g = g.1.1.1.1.1.1.0

-- where each member in the node of classes has two parts, so has each in that of the members of one of them
classes_heads : (cs : List ClassTree) (n : ℕ) (c : ClassTree) → Good (node_classes cs) → slice_get cs n ≡ Some c → Good (node_members c.members)
classes_heads [] n c g e = absurd (none_some e)
classes_heads (x ∷ xs) zero c g e = subst (λ (z : ClassTree). Good (node_members z.members)) (same_some e) (class_members x g.1.0)
classes_heads (x ∷ xs) (suc n) c g e = classes_heads xs n c g.1.1.0 e

-- where each member in the node of a program's classes has two parts, so has each in that of the members of one of them
all_classes_heads : (us : List UsingTree) (cs : List ClassTree) (n : ℕ) (c : ClassTree) → Good (node_all_classes us cs) → slice_get cs n ≡ Some c → Good (node_members c.members)
all_classes_heads us [] n c g e = absurd (none_some e)
all_classes_heads us (x ∷ xs) zero c g e = subst (λ (z : ClassTree). Good (node_members z.members)) (same_some e) (class_members x g.1.1.0)
all_classes_heads us (x ∷ xs) (suc n) c g e = classes_heads xs n c g.1.1.1.0 e

-- each chord of a program has a header
pub have_headers : (p : ProgramTree) → IsProgram p → HaveHeaders p
have_headers p program n k class member class_there member_there =
    members_heads class.members k member (all_classes_heads p.usings p.classes n class (good_of program.derived) class_there) member_there
