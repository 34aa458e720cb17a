-- A tree is given back by the tree of the grammar that it stands for: classes and programs.
use Rattle.std.proofs.Common.{◌≡◌, ℕ, List, [], ◌∷◌, refl, sym, ap, ◌∙◌, Option, Some, None}
use Rattle.chord_lexer.specs.declared.token.Kind.{Kind}
use Rattle.chord_lexer.specs.declared.token.Kind.TheVariants as kinds
use Rattle.chord_lexer.specs.declared.token.Keyword.TheVariants as keywords
use Rattle.chord_tree.specs.declared.names.Name.{Name}
use Rattle.chord_tree.specs.declared.names.BasicType.{BasicType}
use Rattle.chord_tree.specs.declared.names.BasicType.TheVariants as basics
use Rattle.chord_tree.specs.declared.names.ValueType.{ValueType}
use Rattle.chord_tree.specs.declared.names.ValueType.TheVariants as types
use Rattle.chord_tree.specs.declared.classes.ModifierKeyword.{ModifierKeyword}
use Rattle.chord_tree.specs.declared.classes.ModifierKeyword.TheVariants as modifiers
use Rattle.chord_tree.specs.declared.classes.Modifier.{Modifier}
use Rattle.chord_tree.specs.declared.classes.ReturnType.{ReturnType}
use Rattle.chord_tree.specs.declared.classes.ReturnType.TheVariants as results
use Rattle.chord_tree.specs.declared.classes.Formal.{Formal}
use Rattle.chord_tree.specs.declared.classes.NamePart.{NamePart}
use Rattle.chord_tree.specs.Node.{Node, End, ◌▸◌, Leaf, Made}
use Rattle.chord_tree.specs.Tree.{FormalsTree, HeaderTree, MemberTree, ConstructorMember, ChordMember, ClassTree, UsingTree, ProgramTree, BlockTree}
use Rattle.chord_tree.specs.StmtNodes.{node_block, basic_keyword}
use Rattle.chord_tree.specs.ClassNodes.{modifier_keyword, node_modifier, node_modifiers, node_type, node_formal, node_more_formals, node_formal_list, node_formals, node_result, node_header, node_headers, node_rest, node_member, node_members, node_public, node_base, node_class, node_classes, node_name_parts, node_using, node_usings, node_all_classes, node_program}
use Rattle.chord_tree.specs.Program.{spelling, IsProgram}
use Rattle.chord_tree.proofs.OneTree.{one_node}
use Rattle.chord_tree.proofs.Back.{back, back_block, basic_of, basic_back, bytes_of, two, three}

-- the kind of the token that a node is
abbrev token_of : Node → Kind
token_of (Leaf kind at) = kind
token_of _ = kinds.Number 0

-- the number of the token that a node is
abbrev at_of : Node → ℕ
at_of (Leaf kind at) = at
at_of _ = 0

-- the name that a node is
abbrev name_of : Node → Name
name_of n = record { text = bytes_of (token_of n); at = at_of n }

-- the modifier of a reserved word
abbrev modifier_of : Kind → ModifierKeyword
modifier_of (kinds.Word keywords.Public) = modifiers.Public
modifier_of (kinds.Word keywords.Private) = modifiers.Private
modifier_of (kinds.Word keywords.Protected) = modifiers.Protected
modifier_of (kinds.Word keywords.Virtual) = modifiers.Virtual
modifier_of (kinds.Word keywords.Override) = modifiers.Override
modifier_of _ = modifiers.Static

-- a modifier is had back from its reserved word
word_back : (w : ModifierKeyword) → modifier_of (kinds.Word (modifier_keyword w)) ≡ w
word_back modifiers.Public = refl
word_back _ = refl

-- the modifier of its node
abbrev to_modifier : Node → Modifier
to_modifier (Made p (w ▸ End)) = record { keyword = modifier_of (token_of w); at = at_of w }
to_modifier _ = record { keyword = modifiers.Static; at = 0 }

-- the modifiers of their node
abbrev to_modifiers : Node → List Modifier
to_modifiers (Made p (m ▸ ms ▸ End)) = to_modifier m ∷ to_modifiers ms
to_modifiers _ = []

-- a type by its token
abbrev type_of : Kind → ℕ → ValueType
type_of (kinds.Name bytes) at = types.Class (record { text = bytes; at = at })
type_of kind at = types.Basic (basic_of kind) at

-- the type of its node
abbrev to_type : Node → ValueType
to_type (Made p (w ▸ End)) = type_of (token_of w) (at_of w)
to_type n = type_of (token_of n) 0

-- the parameter of its node
abbrev to_formal : Node → Formal
to_formal (Made p (t ▸ x ▸ End)) = record { value_type = to_type t; name = name_of x }
to_formal n = record { value_type = to_type n; name = name_of n }

-- the parameters of their node, each behind a comma
abbrev to_more : Node → List Formal
to_more (Made p (c ▸ f ▸ fs ▸ End)) = to_formal f ∷ to_more fs
to_more _ = []

-- the parameters of their node, with commas between them
abbrev to_list : Node → List Formal
to_list (Made p (f ▸ fs ▸ End)) = to_formal f ∷ to_more fs
to_list _ = []

-- the parameters of their node, in brackets
abbrev to_formals : Node → FormalsTree
to_formals (Made p (o ▸ fs ▸ c ▸ End)) = record { at = at_of o; parameters = to_list fs }
to_formals n = record { at = 0; parameters = [] }

-- the result of its reserved word
abbrev plain_of : Kind → ℕ → ReturnType
plain_of (kinds.Word keywords.Async) at = results.Async at
plain_of (kinds.Word keywords.Void) at = results.Void at
plain_of kind at = results.Value (types.Basic (basic_of kind) at)

-- the result of its node, where it is a reserved word
abbrev to_plain : Node → ReturnType
to_plain (Made p (w ▸ End)) = plain_of (token_of w) (at_of w)
to_plain _ = results.Void 0

-- the result of its node
abbrev to_result : Node → ReturnType
to_result (Made p (Made q inner ▸ End)) = to_plain (Made q inner)
to_result (Made p (Leaf kind at ▸ End)) = results.Value (types.Class (record { text = bytes_of kind; at = at }))
to_result _ = results.Void 0

-- the header of its node
abbrev to_header : Node → HeaderTree
to_header (Made p (ms ▸ r ▸ x ▸ f ▸ End)) = record { modifiers = to_modifiers ms; result_type = to_result r; name = name_of x; formals = to_formals f }
to_header n = record { modifiers = []; result_type = results.Void 0; name = name_of n; formals = to_formals n }

-- the headers of their node, each behind `&`
abbrev to_headers : Node → List HeaderTree
to_headers (Made p (a ▸ h ▸ hs ▸ End)) = to_header h ∷ to_headers hs
to_headers _ = []

-- a member by its modifiers and what follows them
abbrev rest_of : List Modifier → Node → MemberTree
rest_of ms (Made p (x ▸ Made q (f ▸ b ▸ End) ▸ End)) = ConstructorMember ms (name_of x) (to_formals f) (back b).block
rest_of ms (Made p (c ▸ Made q (x ▸ f ▸ hs ▸ b ▸ End) ▸ End)) = ChordMember (record { modifiers = ms; result_type = results.Value (types.Class (name_of c)); name = name_of x; formals = to_formals f } ∷ to_headers hs) (back b).block
rest_of ms (Made p (r ▸ x ▸ f ▸ hs ▸ b ▸ End)) = ChordMember (record { modifiers = ms; result_type = to_plain r; name = name_of x; formals = to_formals f } ∷ to_headers hs) (back b).block
rest_of ms n = ChordMember [] (back n).block

-- the member of its node
abbrev to_member : Node → MemberTree
to_member (Made p (b ▸ End)) = ChordMember [] (back b).block
to_member (Made p (ms ▸ r ▸ End)) = rest_of (to_modifiers ms) r
to_member n = ChordMember [] (back n).block

-- the members of their node
abbrev to_members : Node → List MemberTree
to_members (Made p (m ▸ ms ▸ End)) = to_member m ∷ to_members ms
to_members _ = []

-- the number of `public`, if it is there, of its node
abbrev to_public : Node → Option ℕ
to_public (Made p (w ▸ End)) = Some (at_of w)
to_public _ = None

-- the name of the class above, if there is one, of its node
abbrev to_base : Node → Option Name
to_base (Made p (c ▸ x ▸ End)) = Some (name_of x)
to_base _ = None

-- the class of its node
abbrev to_class : Node → ClassTree
to_class (Made p (o ▸ k ▸ x ▸ b ▸ q ▸ ms ▸ c ▸ End)) = record { public_at = to_public o; name = name_of x; base = to_base b; members = to_members ms; end = at_of c }
to_class n = record { public_at = None; name = name_of n; base = None; members = []; end = 0 }

-- the classes of their node
abbrev to_classes : Node → List ClassTree
to_classes (Made p (c ▸ cs ▸ End)) = to_class c ∷ to_classes cs
to_classes _ = []

-- the further parts of a name, of their node
abbrev to_parts : Node → List NamePart
to_parts (Made p (d ▸ x ▸ ps ▸ End)) = record { at = at_of d; name = name_of x } ∷ to_parts ps
to_parts _ = []

-- the `using` line of its node
abbrev to_using : Node → UsingTree
to_using (Made p (u ▸ x ▸ ps ▸ s ▸ End)) = record { first = name_of x; parts = to_parts ps }
to_using n = record { first = name_of n; parts = [] }

-- the `using` lines of their node
abbrev to_usings : Node → List UsingTree
to_usings (Made p (u ▸ us ▸ End)) = to_using u ∷ to_usings us
to_usings _ = []

-- the program of its node
abbrev to_program : Node → ProgramTree
to_program (Made p (us ▸ c ▸ cs ▸ End)) = record { usings = to_usings us; classes = to_class c ∷ to_classes cs }
to_program (Made p (us ▸ End)) = record { usings = to_usings us; classes = [] }
to_program _ = record { usings = []; classes = [] }

-- a modifier is had back from its node
modifier_back : (m : Modifier) → to_modifier (node_modifier m) ≡ m
modifier_back m = ap (λ w. record { keyword = w; at = m.at }) (word_back m.keyword)

-- modifiers are had back from their node
modifiers_back : (ms : List Modifier) → to_modifiers (node_modifiers ms) ≡ ms
modifiers_back [] = refl
modifiers_back (m ∷ ms) = two (λ x xs. x ∷ xs) _ m _ ms (modifier_back m) (modifiers_back ms)

-- a type is had back from its node
type_back : (t : ValueType) → to_type (node_type t) ≡ t
type_back (types.Basic basic at) = ap (λ z. types.Basic z at) (basic_back basic)
type_back (types.Class class) = refl

-- a parameter is had back from its node
formal_back : (f : Formal) → to_formal (node_formal f) ≡ f
formal_back f = ap (λ t. record { value_type = t; name = f.name }) (type_back f.value_type)

-- parameters are had back from their node, each behind a comma
more_back : (fs : List Formal) → to_more (node_more_formals fs) ≡ fs
more_back [] = refl
more_back (f ∷ fs) = two (λ x xs. x ∷ xs) _ f _ fs (formal_back f) (more_back fs)

-- parameters are had back from their node, with commas between them
list_back : (fs : List Formal) → to_list (node_formal_list fs) ≡ fs
list_back [] = refl
list_back (f ∷ fs) = two (λ x xs. x ∷ xs) _ f _ fs (formal_back f) (more_back fs)

-- parameters are had back from their node, in brackets
formals_back : (f : FormalsTree) → to_formals (node_formals f) ≡ f
formals_back f = ap (λ fs. record { at = f.at; parameters = fs }) (list_back f.parameters)

-- a basic type as a result is had back from its reserved word
plain_basic : (basic : BasicType) (at : ℕ) → plain_of (kinds.Word (basic_keyword basic)) at ≡ results.Value (types.Basic basic at)
plain_basic basics.Int at = refl
plain_basic _ at = refl

-- a result is had back from its node
result_back : (r : ReturnType) → to_result (node_result r) ≡ r
result_back (results.Async at) = refl
result_back (results.Void at) = refl
result_back (results.Value (types.Basic basic at)) = plain_basic basic at
result_back (results.Value (types.Class class)) = refl

-- a header of these parts
abbrev header_by : List Modifier → Name → ReturnType → FormalsTree → HeaderTree
header_by ms x r f = record { modifiers = ms; result_type = r; name = x; formals = f }

-- a header is had back from its node
header_back : (h : HeaderTree) → to_header (node_header h) ≡ h
header_back h = three (λ ms r f. header_by ms h.name r f) _ h.modifiers _ h.result_type _ h.formals (modifiers_back h.modifiers) (result_back h.result_type) (formals_back h.formals)

-- headers are had back from their node
headers_back : (hs : List HeaderTree) → to_headers (node_headers hs) ≡ hs
headers_back [] = refl
headers_back (h ∷ hs) = two (λ x xs. x ∷ xs) _ h _ hs (header_back h) (headers_back hs)

-- a chord is had back from its first header's modifiers and the node of what follows them
rest_back : (ms : List Modifier) (r : ReturnType) (x : Name) (f : FormalsTree) (hs : List HeaderTree) (b : BlockTree) → rest_of ms (node_rest r x f hs b) ≡ ChordMember (header_by ms x r f ∷ hs) b
rest_back ms (results.Async at) x f hs b = three (λ g k c. ChordMember (header_by ms x (results.Async at) g ∷ k) c) _ f _ hs _ b (formals_back f) (headers_back hs) (back_block b)
rest_back ms (results.Void at) x f hs b = three (λ g k c. ChordMember (header_by ms x (results.Void at) g ∷ k) c) _ f _ hs _ b (formals_back f) (headers_back hs) (back_block b)
rest_back ms (results.Value (types.Basic basic at)) x f hs b =
    ap (λ r. ChordMember (header_by ms x r (to_formals (node_formals f)) ∷ to_headers (node_headers hs)) (back (node_block b)).block) (plain_basic basic at)
    ∙ three (λ g k c. ChordMember (header_by ms x (results.Value (types.Basic basic at)) g ∷ k) c) _ f _ hs _ b (formals_back f) (headers_back hs) (back_block b)
rest_back ms (results.Value (types.Class class)) x f hs b = three (λ g k c. ChordMember (header_by ms x (results.Value (types.Class class)) g ∷ k) c) _ f _ hs _ b (formals_back f) (headers_back hs) (back_block b)

-- a member is had back from its node
member_back : (m : MemberTree) → to_member (node_member m) ≡ m
member_back (ConstructorMember ms x f b) = three (λ k g c. ConstructorMember k x g c) _ ms _ f _ b (modifiers_back ms) (formals_back f) (back_block b)
member_back (ChordMember [] b) = ap (ChordMember []) (back_block b)
member_back (ChordMember (h ∷ hs) b) =
    rest_back (to_modifiers (node_modifiers h.modifiers)) h.result_type h.name h.formals hs b
    ∙ ap (λ ms. ChordMember (header_by ms h.name h.result_type h.formals ∷ hs) b) (modifiers_back h.modifiers)

-- members are had back from their node
members_back : (ms : List MemberTree) → to_members (node_members ms) ≡ ms
members_back [] = refl
members_back (m ∷ ms) = two (λ x xs. x ∷ xs) _ m _ ms (member_back m) (members_back ms)

-- the number of `public`, if it is there, is had back from its node
public_back : (o : Option ℕ) → to_public (node_public o) ≡ o
public_back None = refl
public_back (Some at) = refl

-- the name of the class above, if there is one, is had back from its node
base_back : (o : Option Name) → to_base (node_base o) ≡ o
base_back None = refl
base_back (Some x) = refl

-- a class is had back from its node
class_back : (c : ClassTree) → to_class (node_class c) ≡ c
class_back c = three (λ o b ms. record { public_at = o; name = c.name; base = b; members = ms; end = c.end }) _ c.public_at _ c.base _ c.members (public_back c.public_at) (base_back c.base) (members_back c.members)

-- classes are had back from their node
classes_back : (cs : List ClassTree) → to_classes (node_classes cs) ≡ cs
classes_back [] = refl
classes_back (c ∷ cs) = two (λ x xs. x ∷ xs) _ c _ cs (class_back c) (classes_back cs)

-- the further parts of a name are had back from their node
parts_back : (ps : List NamePart) → to_parts (node_name_parts ps) ≡ ps
parts_back [] = refl
parts_back (x ∷ xs) = ap (λ z. x ∷ z) (parts_back xs)

-- a `using` line is had back from its node
using_back : (u : UsingTree) → to_using (node_using u) ≡ u
using_back u = ap (λ z. record { first = u.first; parts = z }) (parts_back u.parts)

-- `using` lines are had back from their node
usings_back : (us : List UsingTree) → to_usings (node_usings us) ≡ us
usings_back [] = refl
usings_back (u ∷ us) = two (λ x xs. x ∷ xs) _ u _ us (using_back u) (usings_back us)

-- `using` lines and classes are had back from the node of their program
all_back : (us : List UsingTree) (cs : List ClassTree) → to_program (node_all_classes us cs) ≡ record { usings = us; classes = cs }
all_back us [] = ap (λ z. record { usings = z; classes = [] }) (usings_back us)
all_back us (c ∷ cs) = three (λ z x xs. record { usings = z; classes = x ∷ xs }) _ us _ c _ cs (usings_back us) (class_back c) (classes_back cs)

-- a program is had back from its node
pub program_back : (t : ProgramTree) → to_program (node_program t) ≡ t
program_back t = all_back t.usings t.classes

-- Programs that spell the same kinds are the same.
pub only_one : (t u : ProgramTree) → IsProgram t → IsProgram u → spelling t ≡ spelling u → t ≡ u
only_one t u a b h = sym (program_back t) ∙ ap to_program (one_node a.derived b.derived h a.numbered b.numbered) ∙ program_back u
