-- Methods that headers add to those of a class.
use Rattle.std.proofs.Common.{◌≡◌, ℕ, List, [], ◌∷◌, ◌++◌, map, length, Bool, true, false, cond, refl, sym, ap, subst, ◌∙◌, Option, Some, None}
use Rattle.std.proofs.lemmas.Bool.{false≢true}
use Rattle.std.specs.Str.{bytes_eq}
use Rattle.std.specs.Cmp.Lexicographic.{bytes_decides}
use Rattle.std.specs.Prelude.{option_map, is_some, ◌||◌}
use Rattle.chord_tree.specs.Tree.{HeaderTree}
use Rattle.chord_classes.specs.Table.{Method, Found, is_main, method_of, method_named, with_headers}
use Rattle.chord_classes.specs.declared.method.Method as rust_method
use Rattle.chord_classes.specs.declared.method.OwnMethod.{OwnMethod}
use Rattle.chord_classes.specs.MethodViews.{see_method, see_own}
use Rattle.chord_classes.specs.Entries.{AreNew, IsGrown}
use Rattle.chord_classes.specs.Owned.{shift}
use Rattle.chord_classes.proofs.TableLookups.{or_found, method_append}

-- Headers, one after the other.

-- a function over a list with one more element gives what it gives over the list, and one more
pub map_end : {A B : Type 0} (f : A → B) (xs : List A) (x : A) → map f (xs ++ (x ∷ [])) ≡ map f xs ++ (f x ∷ [])
map_end f [] x = refl
map_end f (a ∷ xs) x = ap (λ z. f a ∷ z) (map_end f xs x)

-- what one header adds and what others add after it is what all add
pub grown_on : {inherits : List Method} {owner : ℕ} {header : HeaderTree} {more : List HeaderTree} {before mid after : List rust_method.Method}
    → IsGrown inherits owner (header ∷ []) before mid → IsGrown inherits owner more mid after → IsGrown inherits owner (header ∷ more) before after
grown_on {inherits} {owner} {header} {more} a b = record {
  methods = b.methods ∙ ap (λ z. with_headers owner z more) a.methods;
  new = λ n. b.new (a.new n);
}

-- headers, and then others
pub with_more : (owner : ℕ) (methods : List Method) (headers more : List HeaderTree) → with_headers owner methods (headers ++ more) ≡ with_headers owner (with_headers owner methods headers) more
with_more owner methods [] more = refl
with_more owner methods (h ∷ hs) more = with_more owner (cond (is_main h || is_some (method_named methods h.name.text)) methods (methods ++ (method_of owner h ∷ []))) hs more

-- what headers add and what others add after them is what all add
pub grown_over : {inherits : List Method} {owner : ℕ} {headers more : List HeaderTree} {before mid after : List rust_method.Method}
    → IsGrown inherits owner headers before mid → IsGrown inherits owner more mid after → IsGrown inherits owner (headers ++ more) before after
grown_over {inherits} {owner} {headers} {more} {before} a b = record {
  methods = b.methods ∙ ap (λ z. with_headers owner z more) a.methods ∙ sym (with_more owner (inherits ++ map see_method before) headers more);
  new = λ n. b.new (a.new n);
}

-- a name is that of a method of two lists joined where it is that of a method of one of them
pub named_joined : (xs ys : List Method) (x : List ℕ) → is_some (method_named (xs ++ ys) x) ≡ (is_some (method_named xs x) || is_some (method_named ys x))
named_joined xs ys x = ap is_some (method_append xs ys x) ∙ by_first (method_named xs x) (method_named ys x)
  where
    by_first : (a b : Option Found) → is_some (or_found a (option_map (shift (length xs)) b)) ≡ (is_some a || is_some b)
    by_first None None = refl
    by_first None (Some f) = refl
    by_first (Some f) b = refl

-- a header adds none where one of the class has its name
pub known_own : (main joined inherits own : Bool) → joined ≡ (inherits || own) → own ≡ true → true ≡ (main || joined)
known_own true joined inherits own j o = refl
known_own false joined true own j o = sym j
known_own false joined false own j o = sym o ∙ sym j

-- a header of another name than `Main` and than those of the class adds none where an inherited method has its name
pub known_inherits : (main joined inherits own found : Bool) → main ≡ false → joined ≡ (inherits || own) → own ≡ false → found ≡ inherits → found ≡ (main || joined)
known_inherits true joined inherits own found m j o f = absurd (false≢true (sym m))
known_inherits false joined true own found m j o f = f ∙ sym j
known_inherits false joined false own found m j o f = f ∙ sym o ∙ sym j

-- a method was found where there is one
pub own_is_some : (found : Option OwnMethod) (o : Option Found) → option_map see_own found ≡ o → is_some found ≡ is_some o
own_is_some None o e = ap is_some e
own_is_some (Some own) o e = ap is_some e

-- where methods have a name only with one more behind them, it is that one's name
same_name : (xs : List Method) (m : Method) (x : List ℕ) → is_some (method_named xs x) ≡ false → is_some (method_named (xs ++ (m ∷ [])) x) ≡ true → m.name ≡ x
same_name xs m x lacks has = by_last (bytes_eq m.name x) refl (sym (named_joined xs (m ∷ []) x ∙ ap (λ z. z || is_some (method_named (m ∷ []) x)) lacks) ∙ has)
  where
    by_last : (b : Bool) → bytes_eq m.name x ≡ b → is_some {T = Found} (cond b (Some (record { number = 0; method = m })) None) ≡ true → m.name ≡ x
    by_last true e h = (bytes_decides m.name x).0 e
    by_last false e h = absurd (false≢true h)

-- what is not something is nothing
no_some : (o : Option Found) → is_some o ≡ false → o ≡ None
no_some None h = refl
no_some (Some f) h = absurd (false≢true (sym h))

-- where neither of two truth values holds, the first is false
first_false : (a b : Bool) → (a || b) ≡ false → a ≡ false
first_false true b h = absurd (false≢true (sym h))
first_false false b h = refl

-- where neither of two truth values holds, the second is false
second_false : (a b : Bool) → (a || b) ≡ false → b ≡ false
second_false true b h = absurd (false≢true (sym h))
second_false false b h = h

-- an element behind the second of two lists joined stands behind both
joined_end : (xs ys : List Method) (m : Method) → xs ++ (ys ++ (m ∷ [])) ≡ (xs ++ ys) ++ (m ∷ [])
joined_end [] ys m = refl
joined_end (x ∷ xs) ys m = ap (λ z. x ∷ z) (joined_end xs ys m)

-- a header that adds no method
pub grown_same : (inherits : List Method) (owner : ℕ) (header : HeaderTree) (own : List rust_method.Method) → (is_main header || is_some (method_named (inherits ++ map see_method own) header.name.text)) ≡ true → IsGrown inherits owner (header ∷ []) own own
grown_same inherits owner header own e = record { methods = rw e refl; new = λ n. n }

-- a header that adds a method
pub grown_one : (inherits : List Method) (owner : ℕ) (header : HeaderTree) (own after : List rust_method.Method) (m : rust_method.Method) → (is_main header || is_some (method_named (inherits ++ map see_method own) header.name.text)) ≡ false
    → see_method m ≡ method_of owner header → after ≡ own ++ (m ∷ []) → IsGrown inherits owner (header ∷ []) own after
grown_one inherits owner header own after m e is grown = record {
  methods = ap (λ z. inherits ++ map see_method z) grown ∙ ap (λ z. inherits ++ z) (map_end see_method own m) ∙ joined_end inherits (map see_method own) (see_method m)
      ∙ ap (λ z. (inherits ++ map see_method own) ++ (z ∷ [])) is ∙ sym (rw e refl);
  new = λ n x some. by_own x n some (is_some (method_named (map see_method own) x)) refl;
}
  where
    absent : method_named inherits header.name.text ≡ None
    absent = no_some (method_named inherits header.name.text)
        (first_false _ (is_some (method_named (map see_method own) header.name.text)) (sym (named_joined inherits (map see_method own) header.name.text) ∙ second_false (is_main header) _ e))

    by_own : (x : List ℕ) → AreNew inherits own → is_some (method_named (map see_method after) x) ≡ true → (b : Bool) → is_some (method_named (map see_method own) x) ≡ b → method_named inherits x ≡ None
    by_own x n some true h = n x h
    by_own x n some false h =
        let ends = ap (λ z. is_some (method_named z x)) (sym (ap (map see_method) grown ∙ map_end see_method own m)) ∙ some in
        let name = same_name (map see_method own) (see_method m) x h ends in
        subst (λ z. method_named inherits z ≡ None) (sym (ap (λ (z : Method). z.name) is) ∙ name) absent
