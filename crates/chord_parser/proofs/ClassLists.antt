-- Lists of classes, members, headers and formals, as the parser's loops read them.
use Rattle.std.proofs.Common.{◌≡◌, ℕ, ◌<◌, ◌≢◌, List, [], ◌∷◌, ◌++◌, length, map, refl, sym, ap, subst, ◌∙◌, arith}
use Rattle.std.proofs.lemmas.List.{map-append}
use Rattle.chord_lexer.specs.declared.token.Kind.{Kind}
use Rattle.chord_lexer.specs.declared.token.Token.{Token}
use Rattle.chord_lexer.specs.declared.token.Mark.TheVariants as marks
use Rattle.chord_tree.specs.declared.names.Name.{Name}
use Rattle.chord_tree.specs.declared.names.ValueType.TheVariants as types
use Rattle.chord_tree.specs.declared.classes.ModifierKeyword.{ModifierKeyword}
use Rattle.chord_tree.specs.declared.classes.ModifierKeyword.TheVariants as modifiers
use Rattle.chord_tree.specs.declared.classes.Modifier.{Modifier}
use Rattle.chord_tree.specs.declared.classes.ReturnType.{ReturnType}
use Rattle.chord_tree.specs.declared.classes.ReturnType.TheVariants as results
use Rattle.chord_tree.specs.declared.classes.Formal.{Formal}
use Rattle.chord_tree.specs.declared.classes.NamePart.{NamePart}
use Rattle.chord_tree.specs.Symbol.{Symbol, Terminal, number_of}
use Rattle.chord_tree.specs.Grammar.{terminal_count}
use Rattle.chord_tree.specs.Symbols as grammar
use Rattle.chord_tree.specs.Derivation.{next}
use Rattle.chord_tree.specs.Node.{Node, End, ◌▸◌, Leaf, Made, size}
use Rattle.chord_tree.specs.Program.{token_kinds}
use Rattle.chord_tree.specs.ExprNodes.{keyword_leaf, mark_leaf, name}
use Rattle.chord_tree.specs.StmtNodes.{node_block}
use Rattle.chord_tree.specs.Tree.{FormalsTree, HeaderTree, MemberTree, ConstructorMember, ChordMember, ClassTree, UsingTree, BlockTree, MakeBlock}
use Rattle.chord_tree.specs.ClassNodes.{modifier_keyword, node_modifier, node_modifiers, node_formal, node_more_formals, node_formal_list, node_formals, node_plain, node_result, node_header, node_headers, node_rest, node_member, node_members, node_class, node_classes, node_name_parts, node_using, node_usings, node_all_classes}
use Rattle.chord_tree.specs.OneAhead.{choices, choice}
use Rattle.chord_tree.proofs.Ahead.{small}
use Rattle.chord_parser.specs.declared.plain.ResultKeyword.{ResultKeyword}
use Rattle.chord_parser.specs.declared.plain.ResultKeyword.TheVariants as plains
use Rattle.chord_parser.specs.Lists.{modifier_terminal, plain_terminal, plain_keyword, IsPlain, node_rest_of, chord_parts, IsHeaded, IsChordOf, IsFirst, headers_after, classes_after, wrapped, wrapped_after, before_formals}
use Rattle.chord_parser.specs.Runs.{Reads, Onward}
use Rattle.chord_parser.specs.Samples.{sample}
use Rattle.chord_parser.proofs.Single.{bare_word}
use Rattle.chord_parser.proofs.Reading.{measured}
use Rattle.chord_parser.proofs.Chains.{told_size}
use Rattle.chord_parser.proofs.made.MemberSteps.{modifiers_modifier, modifiers_modifier_at_public, modifiers_modifier_at_private, modifiers_modifier_at_protected, modifiers_modifier_at_virtual, modifiers_modifier_at_override, modifiers_modifier_at_static, modifier_public, modifier_public_at, modifier_private, modifier_private_at, modifier_protected, modifier_protected_at, modifier_virtual, modifier_virtual_at, modifier_override, modifier_override_at, modifier_static, modifier_static_at, plain_async, plain_async_at, plain_void, plain_void_at, plain_int, plain_int_at, plain_bool, plain_bool_at, plain_string, plain_string_at, result_plain, result_plain_at_async, result_plain_at_void, result_plain_at_int, result_plain_at_bool, result_plain_at_string, rest_plain, rest_plain_at_async, rest_plain_at_void, rest_plain_at_int, rest_plain_at_bool, rest_plain_at_string}

-- a list that grows at its end
module _ {A : Type 0} (f : A → Node → Node) where
  -- things and one more before a node are the things before that one and the node
  pub wrapped_grown : (xs : List A) (x : A) (n : Node) → wrapped f (xs ++ (x ∷ [])) n ≡ wrapped f xs (f x n)
  wrapped_grown [] x n = refl
  wrapped_grown (y ∷ xs) x n = ap (f y) (wrapped_grown xs x n)

  -- things before one more and a node are the grown list before the node
  pub push : (xs ys : List A) (x : A) (n : Node) → ys ≡ xs ++ (x ∷ []) → wrapped f xs (f x n) ≡ wrapped f ys n
  push xs ys x n e = sym (wrapped_grown xs x n) ∙ ap (λ z. wrapped f z n) (sym e)

  -- of a list that grew, the things after the first before one more and a node are the grown list, but its first, before the node
  after_first : (y : A) (xs ys : List A) (x : A) (n : Node) → ys ≡ (y ∷ xs) ++ (x ∷ []) → wrapped f xs (f x n) ≡ wrapped_after f ys n
  after_first y xs ys x n e = sym (wrapped_grown xs x n) ∙ ap (λ z. wrapped_after f z n) (sym e)

  -- all things but the first, before one more and a node, are the grown list, but its first, before the node
  pub push_after : (xs ys : List A) (x first : A) (n : Node) → IsFirst first xs → ys ≡ xs ++ (x ∷ []) → wrapped_after f xs (f x n) ≡ wrapped_after f ys n
  push_after [] ys x first n h e = elim h [ ]
  push_after (y ∷ xs) ys x first n h e = after_first y xs ys x n e

-- the first of a list stays when it grows
pub first_stays : {A : Type 0} (xs ys : List A) (x first : A) → IsFirst first xs → ys ≡ xs ++ (x ∷ []) → IsFirst first ys
first_stays [] ys x first h e = elim h [ ]
first_stays (y ∷ xs) ys x first h e = subst (λ z. IsFirst first z) (sym e) h

-- the same through a view
module _ {A B : Type 0} (see : A → B) (f : B → Node → Node) where
  -- things as trees before one more and a node are the grown list as trees before the node
  pub push_seen : (xs ys : List A) (x : A) (n : Node) → ys ≡ xs ++ (x ∷ []) → wrapped f (map see xs) (f (see x) n) ≡ wrapped f (map see ys) n
  push_seen xs ys x n e = push f (map see xs) (map see ys) (see x) n (ap (map see) e ∙ map-append see xs (x ∷ []))

  -- all things but the first, as trees, before one more and a node, are the grown list, but its first, before the node
  pub push_seen_after : (xs ys : List A) (x : A) (first : B) (n : Node) → IsFirst first (map see xs) → ys ≡ xs ++ (x ∷ []) → wrapped_after f (map see xs) (f (see x) n) ≡ wrapped_after f (map see ys) n
  push_seen_after xs ys x first n h e = push_after f (map see xs) (map see ys) (see x) first n h (ap (map see) e ∙ map-append see xs (x ∷ []))

  -- the first of things as trees stays the first when the list grows
  pub first_seen : (xs ys : List A) (x : A) (first : B) → IsFirst first (map see xs) → ys ≡ xs ++ (x ∷ []) → IsFirst first (map see ys)
  first_seen xs ys x first h e = first_stays (map see xs) (map see ys) (see x) first h (ap (map see) e ∙ map-append see xs (x ∷ []))

  -- a list of one thing begins with that thing as a tree
  pub one_seen : (ys : List A) (x : A) → ys ≡ x ∷ [] → IsFirst (see x) (map see ys)
  one_seen ys x e = subst (λ z. IsFirst (see x) (map see z)) (sym e) refl

  -- a list of one thing has nothing after its first to stand before a node
  pub one_after : (ys : List A) (x : A) (n : Node) → ys ≡ x ∷ [] → n ≡ wrapped_after f (map see ys) n
  one_after ys x n e = ap (λ z. wrapped_after f (map see z) n) (sym e)

-- the ways of each list
abbrev pub modifier_way : Modifier → Node → Node
modifier_way x n = Made grammar.Modifiers (node_modifier x ▸ n ▸ End)

-- a part of a name before other parts
abbrev pub part_way : NamePart → Node → Node
part_way x n = Made grammar.Name_parts (mark_leaf marks.Dot x.at ▸ name x.name ▸ n ▸ End)

-- a further parameter before others
abbrev pub formal_way : Formal → Node → Node
formal_way y m = Made grammar.More_formals (mark_leaf marks.Comma 0 ▸ node_formal y ▸ m ▸ End)

-- a further header before others
abbrev pub header_way : HeaderTree → Node → Node
header_way x n = Made grammar.Headers (mark_leaf marks.Ampersand 0 ▸ node_header x ▸ n ▸ End)

-- a member before others
abbrev pub member_way : MemberTree → Node → Node
member_way x n = Made grammar.Members (node_member x ▸ n ▸ End)

-- a class before others
abbrev pub class_way : ClassTree → Node → Node
class_way x n = Made grammar.Classes (node_class x ▸ n ▸ End)

-- a `using` line before others
abbrev pub using_way : UsingTree → Node → Node
using_way x n = Made grammar.Usings (node_using x ▸ n ▸ End)

-- modifiers before no others are the modifiers
pub all_modifiers : (xs : List Modifier) → wrapped modifier_way xs (Made grammar.Modifiers End) ≡ node_modifiers xs
all_modifiers [] = refl
all_modifiers (x ∷ xs) = ap (modifier_way x) (all_modifiers xs)

-- parts of a name before no others are the parts
pub all_parts : (xs : List NamePart) → wrapped part_way xs (Made grammar.Name_parts End) ≡ node_name_parts xs
all_parts [] = refl
all_parts (x ∷ xs) = ap (part_way x) (all_parts xs)

-- further parameters before no others are those parameters
all_formals : (xs : List Formal) → wrapped formal_way xs (Made grammar.More_formals End) ≡ node_more_formals xs
all_formals [] = refl
all_formals (x ∷ xs) = ap (formal_way x) (all_formals xs)

-- parameters before no others are the parameters
pub formal_list : (xs : List Formal) → 0 < length xs → before_formals xs (Made grammar.More_formals End) ≡ node_formal_list xs
formal_list [] h = absurd (omega arith)
formal_list (x ∷ xs) h = ap (λ z. Made grammar.Optional_formals (node_formal x ▸ z ▸ End)) (all_formals xs)

-- the first parameter
pub formals_first : (ys : List Formal) (x : Formal) (n : Node) → ys ≡ x ∷ [] → Made grammar.Optional_formals (node_formal x ▸ n ▸ End) ≡ before_formals ys n
formals_first ys x n e = ap (λ z. before_formals z n) (sym e)

-- a parameter more in memory
pub formals_push : (xs ys : List Formal) (x : Formal) (n : Node) → 0 < length xs → ys ≡ xs ++ (x ∷ []) → before_formals xs (formal_way x n) ≡ before_formals ys n
formals_push [] ys x n h e = absurd (omega arith)
formals_push (y ∷ xs) ys x n h e = ap (λ z. Made grammar.Optional_formals (node_formal y ▸ z ▸ End)) (sym (wrapped_grown formal_way xs x n)) ∙ ap (λ z. before_formals z n) (sym e)

-- further headers before no others are those headers
all_headers : (xs : List HeaderTree) → wrapped header_way xs (Made grammar.Headers End) ≡ node_headers xs
all_headers [] = refl
all_headers (x ∷ xs) = ap (header_way x) (all_headers xs)

-- headers before no others are the headers
pub headers_all : (xs : List HeaderTree) → wrapped_after header_way xs (Made grammar.Headers End) ≡ headers_after xs
headers_all [] = refl
headers_all (x ∷ xs) = all_headers xs

-- members before no others are the members
pub all_members : (xs : List MemberTree) → wrapped member_way xs (Made grammar.Members End) ≡ node_members xs
all_members [] = refl
all_members (x ∷ xs) = ap (member_way x) (all_members xs)

-- further classes before no others are those classes
all_classes : (xs : List ClassTree) → wrapped class_way xs (Made grammar.Classes End) ≡ node_classes xs
all_classes [] = refl
all_classes (x ∷ xs) = ap (class_way x) (all_classes xs)

-- classes before no others are the classes
pub classes_all : (xs : List ClassTree) → wrapped_after class_way xs (Made grammar.Classes End) ≡ classes_after xs
classes_all [] = refl
classes_all (x ∷ xs) = all_classes xs

-- `using` lines before no others are the lines
pub all_usings : (xs : List UsingTree) → wrapped using_way xs (Made grammar.Usings End) ≡ node_usings xs
all_usings [] = refl
all_usings (x ∷ xs) = ap (using_way x) (all_usings xs)

-- modifiers
pub modifiers_begun : {count d : ℕ} {ks : List Kind} (w : ModifierKeyword) → next ks ≡ modifier_terminal w → Onward count grammar.Modifiers d ks (grammar.Modifier ∷ grammar.Modifiers ∷ []) d ks (Made grammar.Modifiers)
modifiers_begun modifiers.Public e = modifiers_modifier (modifiers_modifier_at_public _ e)
modifiers_begun modifiers.Private e = modifiers_modifier (modifiers_modifier_at_private _ e)
modifiers_begun modifiers.Protected e = modifiers_modifier (modifiers_modifier_at_protected _ e)
modifiers_begun modifiers.Virtual e = modifiers_modifier (modifiers_modifier_at_virtual _ e)
modifiers_begun modifiers.Override e = modifiers_modifier (modifiers_modifier_at_override _ e)
modifiers_begun modifiers.Static e = modifiers_modifier (modifiers_modifier_at_static _ e)

-- a modifier begins with its keyword
pub modifier_begun : {count d : ℕ} {ks : List Kind} (w : ModifierKeyword) → next ks ≡ modifier_terminal w → Onward count grammar.Modifier d ks (Terminal (modifier_terminal w) ∷ []) d ks (Made grammar.Modifier)
modifier_begun modifiers.Public e = modifier_public (modifier_public_at _ e)
modifier_begun modifiers.Private e = modifier_private (modifier_private_at _ e)
modifier_begun modifiers.Protected e = modifier_protected (modifier_protected_at _ e)
modifier_begun modifiers.Virtual e = modifier_virtual (modifier_virtual_at _ e)
modifier_begun modifiers.Override e = modifier_override (modifier_override_at _ e)
modifier_begun modifiers.Static e = modifier_static (modifier_static_at _ e)

-- the keyword of a modifier is read
pub modifier_read : {count d at : ℕ} {ks rest : List Kind} (c : ℕ) (w : ModifierKeyword) → c ≡ modifier_terminal w → Reads count (Terminal c) d ks rest (Leaf (sample c) at) → Reads count (Terminal (modifier_terminal w)) d ks rest (keyword_leaf (modifier_keyword w) at)
modifier_read {count} {d} {at} {ks} {rest} c w e r = subst (λ z. Reads count (Terminal (modifier_terminal w)) d ks rest (Leaf z at)) (bare_word (modifier_keyword w)) (subst (λ z. Reads count (Terminal z) d ks rest (Leaf (sample z) at)) e r)

-- a terminal that is none of the six is no modifier
pub no_modifier : (c : ℕ) → c ≢ modifier_terminal modifiers.Public → c ≢ modifier_terminal modifiers.Private → c ≢ modifier_terminal modifiers.Protected → c ≢ modifier_terminal modifiers.Virtual → c ≢ modifier_terminal modifiers.Override → c ≢ modifier_terminal modifiers.Static → (w : ModifierKeyword) → c ≢ modifier_terminal w
no_modifier c h1 h2 h3 h4 h5 h6 modifiers.Public = h1
no_modifier c h1 h2 h3 h4 h5 h6 modifiers.Private = h2
no_modifier c h1 h2 h3 h4 h5 h6 modifiers.Protected = h3
no_modifier c h1 h2 h3 h4 h5 h6 modifiers.Virtual = h4
no_modifier c h1 h2 h3 h4 h5 h6 modifiers.Override = h5
no_modifier c h1 h2 h3 h4 h5 h6 modifiers.Static = h6

-- words of results
pub plain_begun : {count d : ℕ} {ks : List Kind} (w : ResultKeyword) → next ks ≡ plain_terminal w → Onward count grammar.Plain d ks (Terminal (plain_terminal w) ∷ []) d ks (Made grammar.Plain)
plain_begun plains.Async e = plain_async (plain_async_at _ e)
plain_begun plains.Void e = plain_void (plain_void_at _ e)
plain_begun plains.Int e = plain_int (plain_int_at _ e)
plain_begun plains.Bool e = plain_bool (plain_bool_at _ e)
plain_begun plains.String e = plain_string (plain_string_at _ e)

-- a result that is a keyword begins
pub result_begun : {count d : ℕ} {ks : List Kind} (w : ResultKeyword) → next ks ≡ plain_terminal w → Onward count grammar.Result d ks (grammar.Plain ∷ []) d ks (Made grammar.Result)
result_begun plains.Async e = result_plain (result_plain_at_async _ e)
result_begun plains.Void e = result_plain (result_plain_at_void _ e)
result_begun plains.Int e = result_plain (result_plain_at_int _ e)
result_begun plains.Bool e = result_plain (result_plain_at_bool _ e)
result_begun plains.String e = result_plain (result_plain_at_string _ e)

-- a chord whose result is a keyword begins
pub rest_begun : {count d : ℕ} {ks : List Kind} (w : ResultKeyword) → next ks ≡ plain_terminal w → Onward count grammar.Rest d ks (grammar.Plain ∷ grammar.NAME ∷ grammar.Formals ∷ grammar.Headers ∷ grammar.Block ∷ []) d ks (Made grammar.Rest)
rest_begun plains.Async e = rest_plain (rest_plain_at_async _ e)
rest_begun plains.Void e = rest_plain (rest_plain_at_void _ e)
rest_begun plains.Int e = rest_plain (rest_plain_at_int _ e)
rest_begun plains.Bool e = rest_plain (rest_plain_at_bool _ e)
rest_begun plains.String e = rest_plain (rest_plain_at_string _ e)

-- the keyword of a result is read
pub plain_read : {count d at : ℕ} {ks rest : List Kind} (c : ℕ) (w : ResultKeyword) → c ≡ plain_terminal w → Reads count (Terminal c) d ks rest (Leaf (sample c) at) → Reads count (Terminal (plain_terminal w)) d ks rest (keyword_leaf (plain_keyword w) at)
plain_read {count} {d} {at} {ks} {rest} c w e r = subst (λ z. Reads count (Terminal (plain_terminal w)) d ks rest (Leaf z at)) (bare_word (plain_keyword w)) (subst (λ z. Reads count (Terminal z) d ks rest (Leaf (sample z) at)) e r)

-- a terminal that is none of the five is no result
pub no_plain : (c : ℕ) → c ≢ plain_terminal plains.Async → c ≢ plain_terminal plains.Void → c ≢ plain_terminal plains.Int → c ≢ plain_terminal plains.Bool → c ≢ plain_terminal plains.String → (w : ResultKeyword) → c ≢ plain_terminal w
no_plain c h1 h2 h3 h4 h5 plains.Async = h1
no_plain c h1 h2 h3 h4 h5 plains.Void = h2
no_plain c h1 h2 h3 h4 h5 plains.Int = h3
no_plain c h1 h2 h3 h4 h5 plains.Bool = h4
no_plain c h1 h2 h3 h4 h5 plains.String = h5

-- a result that is a keyword, as a Result
pub plain_result : (r : ReturnType) → IsPlain r → Made grammar.Result (node_plain r ▸ End) ≡ node_result r
plain_result (results.Async at) h = refl
plain_result (results.Void at) h = refl
plain_result (results.Value (types.Basic basic at)) h = refl
plain_result (results.Value (types.Class class)) h = elim h [ ]

-- what follows a chord's modifiers begins with the word of the result, where that is a word
plain_rest : (r : ReturnType) (x : Name) (f : FormalsTree) (hs : List HeaderTree) (b : BlockTree) → IsPlain r → Made grammar.Rest (node_plain r ▸ name x ▸ node_formals f ▸ node_headers hs ▸ node_block b ▸ End) ≡ node_rest r x f hs b
plain_rest (results.Async at) x f hs b h = refl
plain_rest (results.Void at) x f hs b h = refl
plain_rest (results.Value (types.Basic basic at)) x f hs b h = refl
plain_rest (results.Value (types.Class class)) x f hs b h = elim h [ ]

-- a chord by its headers
pub chord_named : (first : HeaderTree) (hs : List HeaderTree) (b : BlockTree) → IsFirst first hs → (name first.name ▸ node_formals first.formals ▸ headers_after hs ▸ node_block b ▸ End) ≡ chord_parts (ChordMember hs b)
chord_named first [] b h = elim h [ ]
chord_named first (x ∷ hs) b h = ap (λ z. name z.name ▸ node_formals z.formals ▸ node_headers hs ▸ node_block b ▸ End) (sym h)

-- a chord has the result of its first header
pub chord_gives : (first : HeaderTree) (hs : List HeaderTree) (b : BlockTree) → IsFirst first hs → IsChordOf (ChordMember hs b) first.result_type
chord_gives first [] b h = elim h [ ]
chord_gives first (x ∷ hs) b h = ap (λ z. z.result_type) h

-- a chord whose first header has a word as its result
pub plain_chord : (m : MemberTree) (r : ReturnType) → IsPlain r → IsChordOf m r → Made grammar.Rest (node_plain r ▸ chord_parts m) ≡ node_rest_of m
plain_chord (ConstructorMember ms x f b) r p h = elim h [ ]
plain_chord (ChordMember [] b) r p h = elim h [ ]
plain_chord (ChordMember (x ∷ hs) b) r p h = plain_rest r x.name x.formals hs b p ∙ ap (λ z. node_rest z x.name x.formals hs b) (sym h)

-- and one whose first header has a class
pub class_chord : (m : MemberTree) (class : Name) → IsChordOf m (results.Value (types.Class class)) → Made grammar.Rest (name class ▸ Made grammar.After (chord_parts m) ▸ End) ≡ node_rest_of m
class_chord (ConstructorMember ms x f b) class h = elim h [ ]
class_chord (ChordMember [] b) class h = elim h [ ]
class_chord (ChordMember (x ∷ hs) b) class h = ap (λ z. node_rest z x.name x.formals hs b) (sym h)

-- a chord has the modifiers of its first header
pub chord_headed : (first : HeaderTree) (hs : List HeaderTree) (b : BlockTree) (ms : List Modifier) → first.modifiers ≡ ms → IsFirst first hs → IsHeaded (ChordMember hs b) ms
chord_headed first [] b ms e h = elim h [ ]
chord_headed first (x ∷ hs) b ms e h = ap (λ z. z.modifiers) h ∙ e

-- a member is its modifiers and what follows them
pub member_of : (m : MemberTree) (ms : List Modifier) → IsHeaded m ms → Made grammar.Member (node_modifiers ms ▸ node_rest_of m ▸ End) ≡ node_member m
member_of (ConstructorMember k x f b) ms h = ap (λ z. Made grammar.Member (node_modifiers z ▸ node_rest_of (ConstructorMember k x f b) ▸ End)) (sym h)
member_of (ChordMember [] b) ms h = elim h [ ]
member_of (ChordMember (x ∷ hs) b) ms h = ap (λ z. Made grammar.Member (node_modifiers z ▸ node_rest_of (ChordMember (x ∷ hs) b) ▸ End)) (sym h)

-- a program
pub program_of : (us : List UsingTree) (first : ClassTree) (cs : List ClassTree) → IsFirst first cs → Made grammar.Whole_program (node_usings us ▸ node_class first ▸ classes_after cs ▸ End) ≡ node_all_classes us cs
program_of us first [] h = elim h [ ]
program_of us first (c ∷ cs) h = ap (λ z. Made grammar.Whole_program (node_usings us ▸ node_class z ▸ node_classes cs ▸ End)) (sym h)

-- each of these has a token
pub shorter_by : {count d : ℕ} {q : Symbol} {n : Node} (left rest : List Token) → Reads count q d (token_kinds left) (token_kinds rest) n → 0 < size n → length rest < length left
shorter_by left rest h l = let a = measured h in let y = told_size left in let z = told_size rest in omega arith

-- what follows a chord's modifiers has a token
sized_rest : (r : ReturnType) (x : Name) (f : FormalsTree) (hs : List HeaderTree) (b : BlockTree) → 0 < size (node_rest r x f hs b)
sized_rest (results.Async at) x f hs b = omega arith
sized_rest (results.Void at) x f hs b = omega arith
sized_rest (results.Value (types.Basic basic at)) x f hs b = omega arith
sized_rest (results.Value (types.Class class)) x f hs b = omega arith

-- a member has a token
pub sized_member : (m : MemberTree) → 0 < size (node_member m)
sized_member (ConstructorMember ms x f b) = omega arith
sized_member (ChordMember [] (MakeBlock is end)) = omega arith
sized_member (ChordMember (h ∷ hs) b) = let k = sized_rest h.result_type h.name h.formals hs b in omega arith

-- a class has a token
pub sized_class : (c : ClassTree) → 0 < size (node_class c)
sized_class c = omega arith

-- a `using` line has a token
pub sized_using : (u : UsingTree) → 0 < size (node_using u)
sized_using u = omega arith

-- at the end of the tokens
pub classes_end : (c : ℕ) → c ≡ 52 → choice (number_of grammar.Classes) c ≡ 3
unfolding choice choices
classes_end c e = ap (choice (number_of grammar.Classes)) e

-- nothing is left at the end
pub at_end_of : (ks : List Kind) → next ks ≡ 52 → ks ≡ []
unfolding terminal_count
at_end_of [] e = refl
at_end_of (k ∷ ks) e = let h = small k in absurd (omega arith)
