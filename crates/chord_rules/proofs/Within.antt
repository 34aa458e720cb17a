-- Where the tokens of a class stand, and that it breaks the rules there: between its first token and the one after its last.
use Rattle.std.proofs.Common.{◌≡◌, nat_eq, ℕ, zero, suc, ◌+◌, ◌<◌, ◌≤◌, List, [], ◌∷◌, ◌++◌, Bool, true, false, cond, drop, arith, subst, inl, inr, not, ◌&&◌, ◌||◌, flat_map, length, Option, Some, None, bytes_eq, is_some}
use Rattle.chord_tree.specs.declared.names.Name.{Name}
use Rattle.chord_tree.specs.declared.classes.ModifierKeyword.{ModifierKeyword}
use Rattle.chord_tree.specs.declared.classes.Modifier.{Modifier}
use Rattle.chord_tree.specs.declared.classes.Formal.{Formal}
use Rattle.chord_tree.specs.declared.classes.ReturnType.{ReturnType}
use Rattle.chord_tree.specs.Tree.{StmtTree, BlockTree, ItemTrees, AssignStmt, CallStmt, MethodCallStmt, ThisCallStmt, NewStmt, BlockStmt, EmptyStmt, IfStmt, IfElseStmt, WhileStmt, ReturnStmt, ReturnValueStmt, MakeBlock, NoItems, MoreItems, LocalItem, StmtItem, FormalsTree, HeaderTree, MemberTree, ConstructorMember, ChordMember, ClassTree}
use Rattle.chord_tree.specs.Node.{End, ◌▸◌, size, size_all, IsNumbered, AllNumbered}
use Rattle.chord_tree.specs.ExprNodes.{name}
use Rattle.chord_tree.specs.StmtNodes.{node_block, node_items, node_other, as_stmt, as_item}
use Rattle.chord_tree.specs.ClassNodes.{node_modifier, node_modifiers, node_formal, node_more_formals, node_formal_list, node_formals, node_header, node_headers, node_rest, node_member, node_members}
use Rattle.chord_classes.specs.ChordRules.{stmt_names, block_names, items_names, named_in, repeated, counts_sync, second_sync, formal_tokens, header_tokens, new_headers, chord_tokens, base_token, builder_token, misnamed_constructors}
use Rattle.chord_classes.proofs.Leasts.{IsIn, in_either, of_key}
use Rattle.std.specs.Prelude.{◌*◌}
use Rattle.chord_tree.specs.Walk.{member_headers, headers_of}
use Rattle.chord_bodies.specs.Resolved.{ChordOf, ClassOf}
use Rattle.chord_classes.specs.Table.{Method, Shape, is_main, method_of, method_named, base_of, inherited}
use Rattle.chord_classes.specs.NameRules.{when}
use Rattle.chord_classes.specs.Site.{has_main}
use Rattle.chord_classes.specs.Plan.{base_chords, overridden}
use Rattle.chord_classes.specs.OverrideRules.{overrides, first_named, differs_from, unless_main, agree}
use Rattle.chord_classes.specs.DeclarationRules.{Bearer, OnConstructor, InHeader, is_barred, barred_among, repeated_formals, overriding}
use Rattle.chord_classes.specs.Least.{keys}
use Rattle.chord_rules.specs.FormalNames.{formals_of_header}
use Rattle.chord_rules.specs.Bearers.{header_barred}
use Rattle.chord_rules.specs.Limits.{crowded_formals}
use Rattle.chord_rules.specs.Splits.{split_from}
use Rattle.chord_rules.specs.ClassKeys.{header_keys, keys_of_member, class_keys}
use Rattle.chord_tree.specs.declared.classes.ModifierKeyword.TheVariants as modifiers
use Rattle.chord_tree.specs.declared.classes.ReturnType.TheVariants as results
use Rattle.chord_tree.specs.declared.names.ValueType.TheVariants as types

-- each token of a list lies from one place on and before another
pub record AreWithin (lo hi : ℕ) (xs : List ℕ) : Type 0 where
  pub each : (x : ℕ) → IsIn xs x → (lo ≤ x) × (x < hi)

-- modifiers lie there
abbrev pub ModifiersWithin : ℕ → ℕ → List Modifier → Type 0
ModifiersWithin lo hi [] = Unit {0}
ModifiersWithin lo hi (m ∷ ms) = ((lo ≤ m.at) × (m.at < hi)) × ModifiersWithin lo hi ms

-- the names of parameters lie there
abbrev pub FormalsWithin : ℕ → ℕ → List Formal → Type 0
FormalsWithin lo hi [] = Unit {0}
FormalsWithin lo hi (f ∷ fs) = ((lo ≤ f.name.at) × (f.name.at < hi)) × FormalsWithin lo hi fs

-- the parts of a header lie there
pub record HeaderWithin (lo hi : ℕ) (h : HeaderTree) : Type 0 where
  pub modifiers : ModifiersWithin lo hi h.modifiers
  pub named : (lo ≤ h.name.at) × (h.name.at < hi)
  pub formals : FormalsWithin lo hi h.formals.parameters

-- headers lie there
abbrev pub HeadersWithin : ℕ → ℕ → List HeaderTree → Type 0
HeadersWithin lo hi [] = Unit {0}
HeadersWithin lo hi (h ∷ hs) = HeaderWithin lo hi h × HeadersWithin lo hi hs

-- the parts of a member lie there
abbrev pub MemberWithin : ℕ → ℕ → MemberTree → Type 0
MemberWithin lo hi (ConstructorMember modifiers x formals body) = ModifiersWithin lo hi modifiers × ((lo ≤ x.at) × (x.at < hi)) × FormalsWithin lo hi formals.parameters × AreWithin lo hi (block_names body)
MemberWithin lo hi (ChordMember headers body) = HeadersWithin lo hi headers × AreWithin lo hi (block_names body)

-- members lie there
abbrev pub MembersWithin : ℕ → ℕ → List MemberTree → Type 0
MembersWithin lo hi [] = Unit {0}
MembersWithin lo hi (m ∷ ms) = MemberWithin lo hi m × MembersWithin lo hi ms

-- what stands behind the modifiers and the result of a chord's first header lies there
record AfterWithin (lo hi : ℕ) (x : Name) (formals : FormalsTree) (more : List HeaderTree) (body : BlockTree) : Type 0 where
  named : (lo ≤ x.at) × (x.at < hi)
  formals_are : FormalsWithin lo hi formals.parameters
  headers : HeadersWithin lo hi more
  block : AreWithin lo hi (block_names body)

-- a modifier that is numbered from a token on stands at that token
word_at : (k : ModifierKeyword) (n at : ℕ) → IsNumbered (node_modifier (record { keyword = k; at = n })) at → n ≡ at
word_at modifiers.Public n at e = e.0
word_at modifiers.Private n at e = e.0
word_at modifiers.Protected n at e = e.0
word_at modifiers.Virtual n at e = e.0
word_at modifiers.Override n at e = e.0
word_at modifiers.Static n at e = e.0

-- the numbers of breaks are those of tokens that lie there
pub record AreKeys (lo hi : ℕ) (ks : List ℕ) : Type 0 where
  pub each : (k : ℕ) → IsIn ks k → (32 * lo ≤ k) × (k < 32 * hi)

-- the name of a base lies there
abbrev pub BaseWithin : ℕ → ℕ → Option Name → Type 0
BaseWithin lo hi None = Unit {0}
BaseWithin lo hi (Some x) = (lo ≤ x.at) × (x.at < hi)

module _ (lo hi : ℕ) where
  -- no tokens
  pub none_within : AreWithin lo hi []
  none_within = record { each = λ x h. absurd h }

  -- the tokens of two lists joined
  pub both_within : {xs ys : List ℕ} → AreWithin lo hi xs → AreWithin lo hi ys → AreWithin lo hi (xs ++ ys)
  both_within {xs} {ys} a b = record { each = λ x h. elim (in_either xs ys x h) [ inl i ↦ a.each x i | inr i ↦ b.each x i ] }

  -- a token, and others
  pub one_within : (at : ℕ) {xs : List ℕ} → lo ≤ at → at < hi → AreWithin lo hi xs → AreWithin lo hi (at ∷ xs)
  one_within at {xs} l u a = record { each = either }
    where
      either : (x : ℕ) → IsIn (at ∷ xs) x → (lo ≤ x) × (x < hi)
      either x (inl e) = subst (λ z. (lo ≤ z) × (z < hi)) e (l, u)
      either x (inr h) = a.each x h

  -- Where nodes are numbered.

  -- modifiers lie there where their node does
  modifiers_within : (ms : List Modifier) (at : ℕ) → lo ≤ at → at + size (node_modifiers ms) ≤ hi → IsNumbered (node_modifiers ms) at → ModifiersWithin lo hi ms
  modifiers_within [] at l u h = tt
  modifiers_within (m ∷ ms) at l u h = let e = word_at m.keyword m.at at h.0 in ((omega (arith, e), omega (arith, e)), modifiers_within ms (at + size (node_modifier m)) (omega arith) (omega arith) h.1.0)

  -- the name of a parameter lies there where the parameter's node does
  formal_within : (f : Formal) (at : ℕ) → lo ≤ at → at + size (node_formal f) ≤ hi → IsNumbered (node_formal f) at → (lo ≤ f.name.at) × (f.name.at < hi)
  formal_within f at l u h = let e = h.1.0 in (omega (arith, e), omega (arith, e))

  -- the names of the parameters behind the first lie there where their node does
  more_within : (fs : List Formal) (at : ℕ) → lo ≤ at → at + size (node_more_formals fs) ≤ hi → IsNumbered (node_more_formals fs) at → FormalsWithin lo hi fs
  more_within [] at l u h = tt
  more_within (f ∷ fs) at l u h = (formal_within f (at + 1) (omega arith) (omega arith) h.1.0, more_within fs (at + 1 + size (node_formal f)) (omega arith) (omega arith) h.1.1.0)

  -- the names of a list of parameters lie there where its node does
  list_within : (fs : List Formal) (at : ℕ) → lo ≤ at → at + size (node_formal_list fs) ≤ hi → IsNumbered (node_formal_list fs) at → FormalsWithin lo hi fs
  list_within [] at l u h = tt
  list_within (f ∷ fs) at l u h = (formal_within f at l (omega arith) h.0, more_within fs (at + size (node_formal f)) (omega arith) (omega arith) h.1.0)

  -- the names of parameters in brackets lie there where their node does
  formals_within : (fs : FormalsTree) (at : ℕ) → lo ≤ at → at + size (node_formals fs) ≤ hi → IsNumbered (node_formals fs) at → FormalsWithin lo hi fs.parameters
  formals_within fs at l u h = list_within fs.parameters (at + 1) (omega arith) (omega arith) h.1.0

  -- the parts of a header lie there where its node does
  header_within : (x : HeaderTree) (at : ℕ) → lo ≤ at → at + size (node_header x) ≤ hi → IsNumbered (node_header x) at → HeaderWithin lo hi x
  header_within x at l u h = let e = h.1.1.0 in record {
    modifiers = modifiers_within x.modifiers at l (omega arith) h.0;
    named = (omega (arith, e), omega (arith, e));
    formals = formals_within x.formals _ (omega arith) (omega arith) h.1.1.1.0;
  }

  -- the parts of the headers behind the first lie there where their node does
  headers_within : (xs : List HeaderTree) (at : ℕ) → lo ≤ at → at + size (node_headers xs) ≤ hi → IsNumbered (node_headers xs) at → HeadersWithin lo hi xs
  headers_within [] at l u h = tt
  headers_within (x ∷ xs) at l u h = (header_within x (at + 1) (omega arith) (omega arith) h.1.0, headers_within xs (at + 1 + size (node_header x)) (omega arith) (omega arith) h.1.1.0)

  -- the names of a statement's locals lie there where its node as a Stmt does, if they do where its node as an Other does
  stmt_as : (s : StmtTree) → ((at : ℕ) → lo ≤ at → at + size (node_other s) ≤ hi → IsNumbered (node_other s) at → AreWithin lo hi (stmt_names s)) → (at : ℕ) → lo ≤ at → at + size (as_stmt s (node_other s)) ≤ hi → IsNumbered (as_stmt s (node_other s)) at → AreWithin lo hi (stmt_names s)
  stmt_as (AssignStmt x assign value) f at l u h = none_within
  stmt_as (CallStmt x actuals calls) f at l u h = none_within
  stmt_as (MethodCallStmt x first calls) f at l u h = none_within
  stmt_as (ThisCallStmt a first calls) f at l u h = none_within
  stmt_as (NewStmt a x actuals calls) f at l u h = none_within
  stmt_as (BlockStmt block) f at l u h = f at l (omega arith) h.0
  stmt_as EmptyStmt f at l u h = none_within
  stmt_as (IfStmt a bracket test first) f at l u h = f at l (omega arith) h.0
  stmt_as (IfElseStmt a bracket test first second) f at l u h = f at l (omega arith) h.0
  stmt_as (WhileStmt a bracket test body) f at l u h = f at l (omega arith) h.0
  stmt_as (ReturnStmt a) f at l u h = none_within
  stmt_as (ReturnValueStmt a value) f at l u h = none_within

  -- the names of a statement's locals lie there where its node as an Item does, if they do where its node as an Other does
  item_as : (s : StmtTree) → ((at : ℕ) → lo ≤ at → at + size (node_other s) ≤ hi → IsNumbered (node_other s) at → AreWithin lo hi (stmt_names s)) → (at : ℕ) → lo ≤ at → at + size (as_item s (node_other s)) ≤ hi → IsNumbered (as_item s (node_other s)) at → AreWithin lo hi (stmt_names s)
  item_as (AssignStmt x assign value) f at l u h = none_within
  item_as (CallStmt x actuals calls) f at l u h = none_within
  item_as (MethodCallStmt x first calls) f at l u h = none_within
  item_as (ThisCallStmt a first calls) f at l u h = none_within
  item_as (NewStmt a x actuals calls) f at l u h = none_within
  item_as (BlockStmt block) f at l u h = f at l (omega arith) h.0
  item_as EmptyStmt f at l u h = none_within
  item_as (IfStmt a bracket test first) f at l u h = f at l (omega arith) h.0
  item_as (IfElseStmt a bracket test first second) f at l u h = f at l (omega arith) h.0
  item_as (WhileStmt a bracket test body) f at l u h = f at l (omega arith) h.0
  item_as (ReturnStmt a) f at l u h = none_within
  item_as (ReturnValueStmt a value) f at l u h = none_within

  mutual
    -- the names of the locals of a statement lie there where its node as an Other does
    other_within : (s : StmtTree) (at : ℕ) → lo ≤ at → at + size (node_other s) ≤ hi → IsNumbered (node_other s) at → AreWithin lo hi (stmt_names s)
    other_within (AssignStmt x assign value) at l u h = none_within
    other_within (CallStmt x actuals calls) at l u h = none_within
    other_within (MethodCallStmt x first calls) at l u h = none_within
    other_within (ThisCallStmt a first calls) at l u h = none_within
    other_within (NewStmt a x actuals calls) at l u h = none_within
    other_within (BlockStmt block) at l u h = block_within block at l (omega arith) h.0
    other_within EmptyStmt at l u h = none_within
    other_within (IfStmt a bracket test first) at l u h = stmt_as first (other_within first) _ (omega arith) (omega arith) h.1.1.1.1.0
    other_within (IfElseStmt a bracket test first second) at l u h =
        both_within (stmt_as first (other_within first) _ (omega arith) (omega arith) h.1.1.1.1.0) (stmt_as second (other_within second) _ (omega arith) (omega arith) h.1.1.1.1.1.0.1.0)
    other_within (WhileStmt a bracket test body) at l u h = stmt_as body (other_within body) _ (omega arith) (omega arith) h.1.1.1.1.0
    other_within (ReturnStmt a) at l u h = none_within
    other_within (ReturnValueStmt a value) at l u h = none_within

    -- the names of the locals of a block lie there where its node does
    pub block_within : (b : BlockTree) (at : ℕ) → lo ≤ at → at + size (node_block b) ≤ hi → IsNumbered (node_block b) at → AreWithin lo hi (block_names b)
    block_within (MakeBlock items end) at l u h = items_within items (at + 1) (omega arith) (omega arith) h.1.0

    -- the names of the locals of items lie there where their node does
    items_within : (is : ItemTrees) (at : ℕ) → lo ≤ at → at + size (node_items is) ≤ hi → IsNumbered (node_items is) at → AreWithin lo hi (items_names is)
    items_within NoItems at l u h = none_within
    items_within (MoreItems (LocalItem (types.Basic basic a) x assign value) more) at l u h =
        let e = h.0.1.0 in one_within x.at (omega (arith, e)) (omega (arith, e)) (items_within more _ (omega arith) (omega arith) h.1.0)
    items_within (MoreItems (LocalItem (types.Class class) x assign value) more) at l u h =
        let e = h.0.1.0.0 in one_within x.at (omega (arith, e)) (omega (arith, e)) (items_within more _ (omega arith) (omega arith) h.1.0)
    items_within (MoreItems (StmtItem stmt) more) at l u h =
        both_within (item_as stmt (other_within stmt) at l (omega arith) h.0) (items_within more _ (omega arith) (omega arith) h.1.0)

  -- a chord behind the result of its first header lies there where the nodes of its parts do
  after_within : (x : Name) (formals : FormalsTree) (more : List HeaderTree) (body : BlockTree) (at : ℕ) → lo ≤ at → at + size_all (name x ▸ node_formals formals ▸ node_headers more ▸ node_block body ▸ End) ≤ hi
      → AllNumbered (name x ▸ node_formals formals ▸ node_headers more ▸ node_block body ▸ End) at → AfterWithin lo hi x formals more body
  after_within x formals more body at l u h = let e = h.0 in record {
    named = (omega (arith, e), omega (arith, e));
    formals_are = formals_within formals (at + 1) (omega arith) (omega arith) h.1.0;
    headers = headers_within more (at + 1 + size (node_formals formals)) (omega arith) (omega arith) h.1.1.0;
    block = block_within body (at + 1 + size (node_formals formals) + size (node_headers more)) (omega arith) (omega arith) h.1.1.1.0;
  }

  -- a chord behind the modifiers of its first header lies there where its node does
  rest_within : (r : ReturnType) (x : Name) (formals : FormalsTree) (more : List HeaderTree) (body : BlockTree) (at : ℕ) → lo ≤ at → at + size (node_rest r x formals more body) ≤ hi → IsNumbered (node_rest r x formals more body) at → AfterWithin lo hi x formals more body
  rest_within (results.Async a) x formals more body at l u h = after_within x formals more body (at + 1) (omega arith) (omega arith) h.1
  rest_within (results.Void a) x formals more body at l u h = after_within x formals more body (at + 1) (omega arith) (omega arith) h.1
  rest_within (results.Value (types.Basic basic a)) x formals more body at l u h = after_within x formals more body (at + 1) (omega arith) (omega arith) h.1
  rest_within (results.Value (types.Class class)) x formals more body at l u h = after_within x formals more body (at + 1) (omega arith) (omega arith) h.1.0

  -- the parts of a member lie there where its node does
  member_within : (m : MemberTree) (at : ℕ) → lo ≤ at → at + size (node_member m) ≤ hi → IsNumbered (node_member m) at → MemberWithin lo hi m
  member_within (ConstructorMember modifiers x formals body) at l u h =
      let e = h.1.0.0 in
      (modifiers_within modifiers at l (omega arith) h.0, (omega (arith, e), omega (arith, e)), formals_within formals _ (omega arith) (omega arith) h.1.0.1.0.0, block_within body _ (omega arith) (omega arith) h.1.0.1.0.1.0)
  member_within (ChordMember [] body) at l u h = (tt, block_within body at l (omega arith) h.0)
  member_within (ChordMember (x ∷ xs) body) at l u h =
      let a = rest_within x.result_type x.name x.formals xs body (at + size (node_modifiers x.modifiers)) (omega arith) (omega arith) h.1.0 in
      ((record { modifiers = modifiers_within x.modifiers at l (omega arith) h.0; named = a.named; formals = a.formals_are }, a.headers), a.block)

  -- the members of a class lie there
  pub noted_within_members : (ms : List MemberTree) (at : ℕ) → lo ≤ at → at + size (node_members ms) ≤ hi → IsNumbered (node_members ms) at → MembersWithin lo hi ms
  noted_within_members [] at l u h = tt
  noted_within_members (m ∷ ms) at l u h = (member_within m at l (omega arith) h.0, noted_within_members ms (at + size (node_member m)) (omega arith) (omega arith) h.1.0)

  -- a token on a condition lies there if the token does
  when_within : (b : Bool) (at : ℕ) → (lo ≤ at) × (at < hi) → AreWithin lo hi (when b at)
  when_within true at r = one_within at r.0 r.1 none_within
  when_within false at r = none_within

  -- the tokens behind the first n lie there if all do
  drop_within : (n : ℕ) (xs : List ℕ) → AreWithin lo hi xs → AreWithin lo hi (drop n xs)
  drop_within zero xs w = w
  drop_within (suc n) [] w = w
  drop_within (suc n) (x ∷ xs) w = drop_within n xs (record { each = λ y h. w.each y (inr h) })

  -- the tokens of parameters lie there if the names of the parameters do
  formals_tokens : (fs : List Formal) → FormalsWithin lo hi fs → AreWithin lo hi (formal_tokens fs)
  formals_tokens [] w = none_within
  formals_tokens (f ∷ fs) w = one_within f.name.at w.0.0 w.0.1 (formals_tokens fs w.1)

  -- the tokens of headers lie there if the headers do
  headers_tokens : (hs : List HeaderTree) → HeadersWithin lo hi hs → AreWithin lo hi (header_tokens hs)
  headers_tokens [] w = none_within
  headers_tokens (h ∷ hs) w = one_within h.name.at w.0.named.0 w.0.named.1 (headers_tokens hs w.1)

  -- the modifiers that are not allowed lie there if all modifiers do
  barred_within : (bearer : Bearer) (all before ms : List Modifier) → ModifiersWithin lo hi ms → AreWithin lo hi (barred_among bearer all before ms)
  barred_within bearer all before [] w = none_within
  barred_within bearer all before (m ∷ ms) w = both_within (when_within (is_barred bearer before all m.keyword) m.at w.0) (barred_within bearer all (before ++ (m ∷ [])) ms w.1)

  -- the parameters whose name stands before them lie there if all parameters do
  repeated_within : (before : List (List ℕ)) (fs : List Formal) → FormalsWithin lo hi fs → AreWithin lo hi (repeated_formals before fs)
  repeated_within before [] w = none_within
  repeated_within before (f ∷ fs) w = both_within (when_within (named_in f.name.text before) f.name.at w.0) (repeated_within (f.name.text ∷ before) fs w.1)

  -- the headers whose name stands before them lie there if all headers do
  methods_within : (before : List (List ℕ)) (hs : List HeaderTree) → HeadersWithin lo hi hs → AreWithin lo hi (repeated before hs)
  methods_within before [] w = none_within
  methods_within before (h ∷ hs) w = both_within (when_within (not (is_main h) && named_in h.name.text before) h.name.at w.0.named) (methods_within (h.name.text ∷ before) hs w.1)

  -- the synchronous headers that stand behind a synchronous one lie there if all headers do
  sync_within : (seen : Bool) (hs : List HeaderTree) → HeadersWithin lo hi hs → AreWithin lo hi (second_sync seen hs)
  sync_within seen [] w = none_within
  sync_within seen (h ∷ hs) w = both_within (when_within (seen && counts_sync h) h.name.at w.0.named) (sync_within (seen || counts_sync h) hs w.1)

  -- two lists of parameters joined lie there if both do
  joined_formals : (fs gs : List Formal) → FormalsWithin lo hi fs → FormalsWithin lo hi gs → FormalsWithin lo hi (fs ++ gs)
  joined_formals [] gs v w = w
  joined_formals (f ∷ fs) gs v w = (v.0, joined_formals fs gs v.1 w)

  -- the parameters of headers lie there if the headers do
  all_formals : (hs : List HeaderTree) → HeadersWithin lo hi hs → FormalsWithin lo hi (flat_map formals_of_header hs)
  all_formals [] w = tt
  all_formals (h ∷ hs) w = joined_formals h.formals.parameters (flat_map formals_of_header hs) w.0.formals (all_formals hs w.1)

  -- the parameters past the eighth of their header lie there if the headers do
  crowded_within : (hs : List HeaderTree) → HeadersWithin lo hi hs → AreWithin lo hi (flat_map crowded_formals hs)
  crowded_within [] w = none_within
  crowded_within (h ∷ hs) w = both_within (drop_within 8 (formal_tokens h.formals.parameters) (formals_tokens h.formals.parameters w.0.formals)) (crowded_within hs w.1)

  -- the modifiers of headers that are not allowed lie there if the headers do
  headers_barred_within : (count : ℕ) (hs : List HeaderTree) → HeadersWithin lo hi hs → AreWithin lo hi (flat_map (header_barred count) hs)
  headers_barred_within count [] w = none_within
  headers_barred_within count (h ∷ hs) w = both_within (barred_within (InHeader (is_main h && nat_eq count 1)) h.modifiers [] h.modifiers w.0.modifiers) (headers_barred_within count hs w.1)

  -- the headers that make new methods lie there if all headers do
  new_within : (owner : ℕ) (methods : List Method) (hs : List HeaderTree) → HeadersWithin lo hi hs → HeadersWithin lo hi (new_headers owner methods hs)
  new_within owner methods [] w = tt
  new_within owner methods (h ∷ hs) w = by_known (is_main h || is_some (method_named methods h.name.text)) (new_headers owner methods hs) (new_headers owner (methods ++ (method_of owner h ∷ [])) hs) (new_within owner methods hs w.1) (new_within owner (methods ++ (method_of owner h ∷ [])) hs w.1)
    where
      by_known : (b : Bool) (us vs : List HeaderTree) → HeadersWithin lo hi us → HeadersWithin lo hi vs → HeadersWithin lo hi (cond b us (h ∷ vs))
      by_known true us vs u v = u
      by_known false us vs u v = (w.0, v)

  -- the headers with `override` that name an inherited method lie there if all headers do
  over_within : (methods : List Method) (hs : List HeaderTree) → HeadersWithin lo hi hs → HeadersWithin lo hi (overriding methods hs)
  over_within methods [] w = tt
  over_within methods (h ∷ hs) w = by_known (overrides h && is_some (method_named methods h.name.text)) (overriding methods hs) (over_within methods hs w.1)
    where
      by_known : (b : Bool) (us : List HeaderTree) → HeadersWithin lo hi us → HeadersWithin lo hi (cond b (h ∷ us) us)
      by_known true us u = (w.0, u)
      by_known false us u = u

  -- the first headers of groups that are not overridden whole lie there if all headers do
  split_within : (chords : List ChordOf) (taken : List ℕ) (methods : List Method) (before hs : List HeaderTree) → HeadersWithin lo hi hs → AreWithin lo hi (split_from chords taken methods before hs)
  split_within chords taken methods before [] w = none_within
  split_within chords taken methods before (h ∷ hs) w = both_within (when_within _ h.name.at w.0.named) (split_within chords taken methods (before ++ (h ∷ [])) hs w.1)

  -- the names of constructors lie there if the members do
  builders_within : (ms : List MemberTree) → MembersWithin lo hi ms → AreWithin lo hi (flat_map builder_token ms)
  builders_within [] w = none_within
  builders_within (ConstructorMember modifiers x formals body ∷ ms) w = one_within x.at w.0.1.0 w.0.1.1 (builders_within ms w.1)
  builders_within (ChordMember headers body ∷ ms) w = builders_within ms w.1

  -- the constructors that have another name than their class or stand behind one lie there if the members do
  misnamed_within : (class : List ℕ) (ms : List MemberTree) → MembersWithin lo hi ms → AreWithin lo hi (misnamed_constructors class ms)
  misnamed_within class [] w = none_within
  misnamed_within class (ConstructorMember modifiers x formals body ∷ ms) w = both_within (when_within (not (bytes_eq x.text class)) x.at w.0.1) (builders_within ms w.1)
  misnamed_within class (ChordMember headers body ∷ ms) w = misnamed_within class ms w.1

  -- the first names of chords lie there if the members do
  chords_within : (ms : List MemberTree) → MembersWithin lo hi ms → AreWithin lo hi (chord_tokens ms)
  chords_within [] w = none_within
  chords_within (ConstructorMember modifiers x formals body ∷ ms) w = chords_within ms w.1
  chords_within (ChordMember [] body ∷ ms) w = chords_within ms w.1
  chords_within (ChordMember (h ∷ hs) body ∷ ms) w = both_within (by_main (has_main (h ∷ hs))) (chords_within ms w.1)
    where
      by_main : (b : Bool) → AreWithin lo hi (cond b [] (h.name.at ∷ []))
      by_main true = none_within
      by_main false = one_within h.name.at w.0.0.0.named.0 w.0.0.0.named.1 none_within

  -- two lists of headers joined lie there if both do
  joined_headers : (hs ks : List HeaderTree) → HeadersWithin lo hi hs → HeadersWithin lo hi ks → HeadersWithin lo hi (hs ++ ks)
  joined_headers [] ks v w = w
  joined_headers (h ∷ hs) ks v w = (v.0, joined_headers hs ks v.1 w)

  -- the headers of members lie there if the members do
  all_headers : (ms : List MemberTree) → MembersWithin lo hi ms → HeadersWithin lo hi (flat_map member_headers ms)
  all_headers [] w = tt
  all_headers (ConstructorMember modifiers x formals body ∷ ms) w = all_headers ms w.1
  all_headers (ChordMember headers body ∷ ms) w = joined_headers headers (flat_map member_headers ms) w.0.0 (all_headers ms w.1)

  -- The same of the numbers of breaks.

  -- the keys of a rule at tokens that lie there are those of tokens that lie there
  keys_within : (r : ℕ) {xs : List ℕ} → r < 32 → AreWithin lo hi xs → AreKeys lo hi (keys r xs)
  keys_within r {xs} l w = record { each = λ k h. bound k (of_key r xs k h) }
    where
      bound : (k : ℕ) → (at : ℕ) × (k ≡ 32 * at + r) × IsIn xs at → (32 * lo ≤ k) × (k < 32 * hi)
      bound k s = let e = s.1 in let a = (w.each s.0 s.2).0 in let b = (w.each s.0 s.2).1 in (omega (arith, e, a), omega (arith, e, b, l))

  -- no keys are those of tokens that lie there
  no_keys : AreKeys lo hi []
  no_keys = record { each = λ k h. absurd h }

  -- two lists of keys joined are of tokens that lie there if both are
  both_keys : {xs ys : List ℕ} → AreKeys lo hi xs → AreKeys lo hi ys → AreKeys lo hi (xs ++ ys)
  both_keys {xs} {ys} a b = record { each = λ k h. elim (in_either xs ys k h) [ inl i ↦ a.each k i | inr i ↦ b.each k i ] }

  -- tokens that are noted of a header unless it is that of `Main` lie there if all do
  unless_within : (h : HeaderTree) (xs : List ℕ) → AreWithin lo hi xs → AreWithin lo hi (unless_main h xs)
  unless_within h xs w = by_main (is_main h)
    where
      by_main : (b : Bool) → AreWithin lo hi (cond b [] xs)
      by_main true = none_within
      by_main false = w

  -- the token of a header that differs from the first of its name lies there if the header does
  differs_within : (first : Option HeaderTree) (h : HeaderTree) → HeaderWithin lo hi h → AreWithin lo hi (differs_from first h)
  differs_within None h w = none_within
  differs_within (Some first) h w = when_within (not (agree first h)) h.name.at w.named

  -- what headers break lies there if the headers do
  headers_keys : (headers : List HeaderTree) (methods : List Method) (hs : List HeaderTree) → HeadersWithin lo hi hs → AreKeys lo hi (flat_map (header_keys headers methods) hs)
  headers_keys headers methods [] w = no_keys
  headers_keys headers methods (h ∷ hs) w =
      both_keys (both_keys (keys_within 5 (omega arith) (unless_within h (differs_from (first_named headers h.name.text) h) (differs_within (first_named headers h.name.text) h w.0)))
      (both_keys (keys_within 9 (omega arith) (unless_within h (when (not (overrides h) && is_some (method_named methods h.name.text)) h.name.at) (when_within _ h.name.at w.0.named)))
      (keys_within 10 (omega arith) (when_within _ h.name.at w.0.named))))
      (headers_keys headers methods hs w.1)

  -- what a member breaks lies there if the member does
  member_keys_within : (m : MemberTree) → MemberWithin lo hi m → AreKeys lo hi (keys_of_member m)
  member_keys_within (ConstructorMember modifiers x formals body) w =
      both_keys (keys_within 21 (omega arith) (barred_within OnConstructor modifiers [] modifiers w.0)) (both_keys (keys_within 8 (omega arith) (repeated_within [] formals.parameters w.2))
      (both_keys (keys_within 4 (omega arith) (drop_within 8 (formal_tokens formals.parameters) (formals_tokens formals.parameters w.2))) (keys_within 4 (omega arith) (drop_within 256 (block_names body) w.3))))
  member_keys_within (ChordMember hs body) w =
      both_keys (both_keys (keys_within 21 (omega arith) (headers_barred_within (length hs) hs w.0)) (both_keys (keys_within 7 (omega arith) (methods_within [] hs w.0))
      (both_keys (keys_within 6 (omega arith) (sync_within false hs w.0)) (keys_within 8 (omega arith) (repeated_within [] (flat_map formals_of_header hs) (all_formals hs w.0))))))
      (both_keys (keys_within 4 (omega arith) (drop_within 8 (header_tokens hs) (headers_tokens hs w.0))) (both_keys (keys_within 4 (omega arith) (crowded_within hs w.0)) (keys_within 4 (omega arith) (drop_within 256 (block_names body) w.1))))

  -- what members break lies there if the members do
  members_keys : (ms : List MemberTree) → MembersWithin lo hi ms → AreKeys lo hi (flat_map keys_of_member ms)
  members_keys [] w = no_keys
  members_keys (m ∷ ms) w = both_keys (member_keys_within m w.0) (members_keys ms w.1)

  -- a rule that is broken at the name of a base is broken there if that name lies there
  base_within_keys : (r : ℕ) (base : Option Name) (b : Bool) → r < 32 → BaseWithin lo hi base → AreKeys lo hi (keys r (base_token base b))
  base_within_keys r None b l w = no_keys
  base_within_keys r (Some x) b l w = keys_within r l (when_within b x.at w)

  -- what a class breaks, where its name, its base and its members lie there
  pub class_within_keys : (classes : List ClassTree) (done : List Shape) (plans : List ClassOf) (c : ClassTree) → (lo ≤ c.name.at) × (c.name.at < hi) → BaseWithin lo hi c.base → MembersWithin lo hi c.members → AreKeys lo hi (class_keys classes done plans c)
  class_within_keys classes done plans c n b w =
      let hs = all_headers c.members w in
      let methods = inherited done (base_of done c) in
      both_keys (both_keys (keys_within 1 (omega arith) (when_within _ c.name.at n)) (both_keys (base_within_keys 3 c.base _ (omega arith) b)
      (both_keys (keys_within 12 (omega arith) (misnamed_within c.name.text c.members w)) (base_within_keys 12 c.base _ (omega arith) b))))
      (both_keys (both_keys (keys_within 4 (omega arith) (when_within _ c.name.at n)) (base_within_keys 4 c.base _ (omega arith) b))
      (both_keys (keys_within 4 (omega arith) (drop_within _ (header_tokens (new_headers (length done) methods (headers_of c))) (headers_tokens _ (new_within (length done) methods (headers_of c) hs))))
      (both_keys (members_keys c.members w)
      (both_keys (keys_within 4 (omega arith) (drop_within _ (chord_tokens c.members) (chords_within c.members w)))
      (both_keys (headers_keys (headers_of c) methods (headers_of c) hs)
      (keys_within 11 (omega arith) (split_within (base_chords plans (base_of done c)) (overridden methods (headers_of c)) methods [] (overriding methods (headers_of c)) (over_within methods (headers_of c) hs))))))))
