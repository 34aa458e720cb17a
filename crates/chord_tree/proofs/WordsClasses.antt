-- The kinds that classes spell.
use Rattle.std.proofs.Common.{◌≡◌, List, [], ◌∷◌, ◌++◌, map, refl, sym, ap, ◌∙◌, append_assoc, append-nil}
use Rattle.chord_lexer.specs.declared.token.Token.{Token}
use Rattle.chord_tree.specs.declared.names.Name.{Name}
use Rattle.chord_tree.specs.declared.names.ValueType.{ValueType}
use Rattle.chord_tree.specs.declared.names.ValueType.TheVariants as types
use Rattle.chord_tree.specs.declared.classes.ReturnType.{ReturnType}
use Rattle.chord_tree.specs.declared.classes.ReturnType.TheVariants as results
use Rattle.chord_tree.specs.Node.{End, ◌▸◌}
use Rattle.chord_tree.specs.Tree.{FormalsTree, HeaderTree, BlockTree, UsingTree, ClassTree}
use Rattle.chord_tree.specs.ExprNodes.{name}
use Rattle.chord_tree.specs.StmtNodes.{node_block}
use Rattle.chord_tree.specs.ClassNodes.{node_type, node_formals, node_modifiers, node_result, node_headers, node_rest, node_chord, node_usings, node_classes, node_all_classes, node_program}
use Rattle.chord_tree.specs.declared.classes.Using.{Using}
use Rattle.chord_tree.specs.declared.classes.Class.{Class}
use Rattle.chord_tree.specs.View.{Parts, see_using, see_class, tree_of}
use Rattle.chord_tree.specs.Program.{node_kinds, nodes_kinds, Adds, node_header_list, without_span, spelling}
use Rattle.chord_tree.proofs.Words.{cons, nil, same_words, tokens, tokens_append, spell_words}

-- a type as a result
pub result_added : {a b : List Token} (t : ValueType) → Adds a b (node_type t) → Adds a b (node_result (results.Value t))
result_added (types.Basic basic at) h = same_words h refl
result_added (types.Class class) h = same_words h refl

-- what stands behind the modifiers of a chord
words_rest : (r : ReturnType) (x : Name) (f : FormalsTree) (hs : List HeaderTree) (b : BlockTree) → nodes_kinds (node_result r ▸ name x ▸ node_formals f ▸ node_headers hs ▸ node_block b ▸ End) ≡ node_kinds (node_rest r x f hs b)
words_rest (results.Async at) x f hs b = refl
words_rest (results.Void at) x f hs b = refl
words_rest (results.Value (types.Basic basic at)) x f hs b = refl
words_rest (results.Value (types.Class class)) x f hs b = ap (λ z. node_kinds (name class) ++ z) (sym (append-nil (nodes_kinds (name x ▸ node_formals f ▸ node_headers hs ▸ node_block b ▸ End))))

-- six lists one after another are the same list however they are grouped
flat : {A : Type 0} (m r x f k e : List A) → ((m ++ (r ++ (x ++ (f ++ [])))) ++ (k ++ [])) ++ e ≡ m ++ (r ++ (x ++ (f ++ (k ++ e))))
flat m r x f k e = simp (append_assoc, append-nil)

-- the headers of a chord and its body spell the same as the chord
words_chord : (hs : List HeaderTree) (b : BlockTree) → nodes_kinds (node_header_list hs ▸ node_block b ▸ End) ≡ node_kinds (node_chord hs b)
words_chord [] b = refl
words_chord (h ∷ hs) b =
    let m = node_kinds (node_modifiers h.modifiers) in
    let r = node_kinds (node_result h.result_type) in
    let x = node_kinds (name h.name) in
    let f = node_kinds (node_formals h.formals) in
    let k = node_kinds (node_headers hs) in
    let e = node_kinds (node_block b) ++ [] in
    flat m r x f k e ∙ ap (λ z. m ++ z) (words_rest h.result_type h.name h.formals hs b ∙ sym (append-nil _))

-- headers and a body make a chord
pub chord_added : {a b c : List Token} (hs : List HeaderTree) (body : BlockTree) → Adds a b (node_header_list hs) → Adds b c (node_block body) → Adds a c (node_chord hs body)
chord_added {a} hs body h g = record { grown = (cons h (cons g nil)).grown ∙ ap (λ z. a ++ tokens z) (words_chord hs body) }

-- the lines and the classes of a program spell the same as the program
words_all_classes : (us : List UsingTree) (cs : List ClassTree) → node_kinds (node_usings us) ++ node_kinds (node_classes cs) ≡ node_kinds (node_all_classes us cs)
words_all_classes us [] = refl
words_all_classes us (c ∷ cs) = refl

-- lines and classes make a program
pub program_spelled : (a b c : List Token) (usings : List Using) (classes : List Class) (p : Parts) → a ≡ [] → usings ≡ p.usings → classes ≡ p.classes → Adds a b (node_usings (map see_using usings)) → Adds b c (node_classes (map see_class classes)) → c ≡ map without_span (spelling (tree_of p))
program_spelled a b c usings classes p e u k h g =
    let t = tree_of p in
    let start : c ≡ tokens (node_kinds (node_usings t.usings) ++ node_kinds (node_classes t.classes)) =
    g.grown ∙ ap (λ z. z ++ tokens (node_kinds (node_classes (map see_class classes)))) (h.grown ∙ ap (λ z. z ++ tokens (node_kinds (node_usings (map see_using usings)))) e)
    ∙ sym (tokens_append _ _) ∙ ap (λ z. tokens (node_kinds (node_usings (map see_using z)) ++ node_kinds (node_classes (map see_class classes)))) u
    ∙ ap (λ z. tokens (node_kinds (node_usings t.usings) ++ node_kinds (node_classes (map see_class z)))) k in
    start ∙ ap tokens (words_all_classes t.usings t.classes ∙ sym (append-nil _) ∙ sym (spell_words (node_program t) 0 []))
