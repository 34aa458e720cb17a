-- Where no type name is undeclared, all that the class table writes is declared.
use Rattle.std.proofs.Common.{◌≡◌, ℕ, zero, suc, List, [], ◌∷◌, ◌++◌, Bool, true, false, cond, ◌||◌, length, subst, Option, Some, None, is_some, slice_get}
use Rattle.std.specs.Prelude.{flat_map, option_and_then}
use Rattle.chord_tree.specs.declared.names.ValueType.{ValueType}
use Rattle.chord_tree.specs.declared.classes.ReturnType.{ReturnType}
use Rattle.chord_tree.specs.declared.classes.ReturnType.TheVariants as results
use Rattle.chord_tree.specs.declared.classes.Formal.{Formal}
use Rattle.chord_tree.specs.Tree.{HeaderTree, MemberTree, ConstructorMember, ChordMember, ClassTree, ProgramTree}
use Rattle.chord_tree.specs.Walk.{member_headers, headers_of}
use Rattle.chord_classes.specs.Table.{Method, Shape, is_main, method_of, method_named, with_headers, first_builder, base_of, methods_in, methods_at, inherited, shape_of, shapes_after, table_of}
use Rattle.chord_classes.specs.Types.{value_type, built_from}
use Rattle.chord_classes.specs.Site.{member_formals, due_by, headers_due, member_due}
use Rattle.chord_classes.specs.ItemRules.{undeclared_type, undeclared_formals, undeclared_result, undeclared_header}
use Rattle.chord_classes.proofs.Every.{Every, every_both, every_get, every_of_map}
use Rattle.chord_classes.proofs.Facts.{none_some, same_some, left_nil, right_nil}
use Rattle.chord_classes.proofs.Free.{FreeMember}
use Rattle.chord_classes.proofs.Terms.{Declared, DeclaredMethod, DeclaredTable}
use Rattle.chord_classes.proofs.Stmts.{declared_type}

-- the type of a parameter is declared
abbrev pub DeclaredFormal : List Shape → Formal → Type 0
DeclaredFormal table formal = Declared table formal.value_type

-- what a header writes is declared
pub record DeclaredHeader (table : List Shape) (header : HeaderTree) : Type 0 where
  pub formals : Every (DeclaredFormal table) header.formals.parameters
  pub result : (written : ValueType) → value_type header.result_type ≡ Some written → Declared table written

-- what a class writes is declared
record DeclaredShape (table : List Shape) (shape : Shape) : Type 0 where
  methods : Every (DeclaredMethod table) shape.methods
  builder : Every (Declared table) (built_from shape.builder)

-- the types of parameters are declared
pub declared_formals : (table : List Shape) (formals : List Formal) → undeclared_formals table formals ≡ [] → Every (DeclaredFormal table) formals
declared_formals table [] h = tt
declared_formals table (f ∷ fs) h = (declared_type table f.value_type (left_nil (undeclared_type table f.value_type) (undeclared_formals table fs) h), declared_formals table fs (right_nil (undeclared_type table f.value_type) (undeclared_formals table fs) h))

-- a result of which no type name is undeclared has a declared type, if it has one
declared_result : (table : List Shape) (o : Option ValueType) → undeclared_result table o ≡ [] → (written : ValueType) → o ≡ Some written → Declared table written
declared_result table None h w e = absurd (none_some e)
declared_result table (Some v) h w e = subst (Declared table) (same_some e) (declared_type table v h)

-- a header without undeclared type names writes declared types only
declared_header : (table : List Shape) (header : HeaderTree) → undeclared_header table header ≡ [] → DeclaredHeader table header
declared_header table header h = record {
  formals = declared_formals table header.formals.parameters (right_nil (undeclared_result table (value_type header.result_type)) (undeclared_formals table header.formals.parameters) h);
  result = declared_result table (value_type header.result_type) (left_nil (undeclared_result table (value_type header.result_type)) (undeclared_formals table header.formals.parameters) h);
}

-- the types of headers are declared
pub declared_headers : (table : List Shape) (headers : List HeaderTree) → flat_map (undeclared_header table) headers ≡ [] → Every (DeclaredHeader table) headers
declared_headers table [] h = tt
declared_headers table (x ∷ xs) h = (declared_header table x (left_nil (undeclared_header table x) (flat_map (undeclared_header table) xs) h), declared_headers table xs (right_nil (undeclared_header table x) (flat_map (undeclared_header table) xs) h))

-- the method of a header that writes declared types only does so too
declared_method : (table : List Shape) (owner : ℕ) (header : HeaderTree) → DeclaredHeader table header → DeclaredMethod table (method_of owner header)
declared_method table owner header d = record { formals = every_of_map (Declared table) (λ (f : Formal). f.value_type) header.formals.parameters d.formals; result = d.result }

-- what holds of each element of two lists holds of each element of the one that is chosen
every_choice : {X : Type 0} (P : X → Type 0) (b : Bool) (xs ys : List X) → Every P xs → Every P ys → Every P (cond b xs ys)
every_choice P true xs ys h k = h
every_choice P false xs ys h k = k

-- methods, with those that headers add, write declared types only where the methods and the headers do
with_headers_declared : (table : List Shape) (owner : ℕ) (methods : List Method) (headers : List HeaderTree) → Every (DeclaredMethod table) methods → Every (DeclaredHeader table) headers → Every (DeclaredMethod table) (with_headers owner methods headers)
with_headers_declared table owner methods [] h k = h
with_headers_declared table owner methods (x ∷ xs) h k =
    with_headers_declared table owner (cond (is_main x || is_some (method_named methods x.name.text)) methods (methods ++ (method_of owner x ∷ []))) xs
    (every_choice (DeclaredMethod table) (is_main x || is_some (method_named methods x.name.text)) methods (methods ++ (method_of owner x ∷ [])) h (every_both (DeclaredMethod table) methods (method_of owner x ∷ []) h (declared_method table owner x k.0, tt)))
    k.1

-- the methods of a class write declared types only where all shapes do
every_methods : (table shapes : List Shape) (class : ℕ) → Every (DeclaredShape table) shapes → Every (DeclaredMethod table) (methods_in (slice_get shapes class))
every_methods table [] class h = tt
every_methods table (s ∷ ss) zero h = h.0.methods
every_methods table (s ∷ ss) (suc class) h = every_methods table ss class h.1

-- a class is built from declared types only where all shapes write such
every_builder : (table shapes : List Shape) (class : ℕ) → Every (DeclaredShape table) shapes → Every (Declared table) (built_from (option_and_then (λ (s : Shape). s.builder) (slice_get shapes class)))
every_builder table [] class h = tt
every_builder table (s ∷ ss) zero h = h.0.builder
every_builder table (s ∷ ss) (suc class) h = every_builder table ss class h.1

-- inherited methods write declared types only where all shapes do
every_inherited : (table done : List Shape) (base : Option ℕ) → Every (DeclaredShape table) done → Every (DeclaredMethod table) (inherited done base)
every_inherited table done None h = tt
every_inherited table done (Some base) h = every_methods table done base h

-- the headers of members write declared types only where nothing is broken at the members
members_headers : (table : List Shape) (members : List MemberTree) → Every (FreeMember table) members → Every (DeclaredHeader table) (flat_map member_headers members)
members_headers table [] h = tt
members_headers table (ConstructorMember modifiers name formals body ∷ more) h = members_headers table more h.1
members_headers table (ChordMember headers body ∷ more) h = every_both (DeclaredHeader table) headers (flat_map member_headers more) (declared_headers table headers h.0.undeclared) (members_headers table more h.1)

-- the first constructor among members takes declared types only where nothing is broken at the members
members_builder : (table : List Shape) (members : List MemberTree) → Every (FreeMember table) members → Every (Declared table) (built_from (first_builder members))
members_builder table [] h = tt
members_builder table (ConstructorMember modifiers name formals body ∷ more) h = every_of_map (Declared table) (λ (f : Formal). f.value_type) formals.parameters (declared_formals table formals.parameters h.0.undeclared)
members_builder table (ChordMember headers body ∷ more) h = members_builder table more h.1

-- nothing is broken at the members of a class
abbrev pub FreeMembers : List Shape → ClassTree → Type 0
FreeMembers table class = Every (FreeMember table) class.members

-- the shapes of classes write declared types only where those before them do and nothing is broken at the members
shapes_declared : (table done : List Shape) (classes : List ClassTree) → Every (DeclaredShape table) done → Every (FreeMembers table) classes → Every (DeclaredShape table) (shapes_after done classes)
shapes_declared table done [] h k = h
shapes_declared table done (c ∷ cs) h k =
    shapes_declared table (done ++ (shape_of done c ∷ [])) cs
    (every_both (DeclaredShape table) done (shape_of done c ∷ []) h (
      record {
        methods = with_headers_declared table (length done) (inherited done (base_of done c)) (headers_of c) (every_inherited table done (base_of done c) h) (members_headers table c.members k.0);
        builder = members_builder table c.members k.0;
      },
      tt,
    ))
    k.1

-- All that a program's class table writes is declared, where nothing is broken at its members.
pub table_declared : (p : ProgramTree) → Every (FreeMembers (table_of p)) p.classes → DeclaredTable (table_of p)
table_declared p h =
    let d = shapes_declared (table_of p) [] p.classes tt h in
    record {
      methods = λ class number method e. every_get (DeclaredMethod (table_of p)) (methods_at (table_of p) class) number method (every_methods (table_of p) (table_of p) class d) e;
      builders = λ class. every_builder (table_of p) (table_of p) class d;
    }

-- The parameters and the value of a member.

-- the parameters of headers have declared types where the headers write such only
headers_formals : (table : List Shape) (headers : List HeaderTree) → Every (DeclaredHeader table) headers → Every (DeclaredFormal table) (flat_map (λ (h : HeaderTree). h.formals.parameters) headers)
headers_formals table [] h = tt
headers_formals table (x ∷ xs) h = every_both (DeclaredFormal table) x.formals.parameters (flat_map (λ (h : HeaderTree). h.formals.parameters) xs) h.0.formals (headers_formals table xs h.1)

-- the types of the parameters of a member are declared
pub formals_declared : (table : List Shape) (member : MemberTree) → FreeMember table member → Every (DeclaredFormal table) (member_formals member)
formals_declared table (ConstructorMember modifiers name formals body) f = declared_formals table formals.parameters f.undeclared
formals_declared table (ChordMember headers body) f = headers_formals table headers (declared_headers table headers f.undeclared)

-- the value that a header or else others are to give has a declared type where both have
due_by_declared : (table : List Shape) (result : ReturnType) (others : Option ValueType) → ((w : ValueType) → value_type result ≡ Some w → Declared table w) → ((w : ValueType) → others ≡ Some w → Declared table w) → (w : ValueType) → due_by result others ≡ Some w → Declared table w
due_by_declared table (results.Async at) others f g w e = g w e
due_by_declared table (results.Void at) others f g w e = absurd (none_some e)
due_by_declared table (results.Value v) others f g w e = f w e

-- the value that headers are to give has a declared type where the headers write such only
headers_due_declared : (table : List Shape) (headers : List HeaderTree) → Every (DeclaredHeader table) headers → (w : ValueType) → headers_due headers ≡ Some w → Declared table w
headers_due_declared table [] h w e = absurd (none_some e)
headers_due_declared table (x ∷ xs) h w e = due_by_declared table x.result_type (headers_due xs) h.0.result (λ v k. headers_due_declared table xs h.1 v k) w e

-- the type of the value that is due is declared
pub due_declared : (table : List Shape) (member : MemberTree) → FreeMember table member → (w : ValueType) → member_due member ≡ Some w → Declared table w
due_declared table (ConstructorMember modifiers name formals body) f w e = absurd (none_some e)
due_declared table (ChordMember headers body) f w e = headers_due_declared table headers (declared_headers table headers f.undeclared) w e
