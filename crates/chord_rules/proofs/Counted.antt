-- The methods that are new in a class and the room that they take, one list of headers after the other.
use Rattle.std.proofs.Common.{◌≡◌, ℕ, ◌-◌, List, [], ◌∷◌, ◌++◌, map, drop, Bool, true, false, cond, refl, sym, ap, subst, ◌∙◌, Option}
use Rattle.std.specs.Prelude.{is_some, ◌||◌}
use Rattle.chord_tree.specs.Tree.{HeaderTree}
use Rattle.chord_classes.specs.Table.{Method, is_main, method_of, method_named, with_headers}
use Rattle.chord_classes.specs.ChordRules.{header_tokens, new_headers}
use Rattle.chord_classes.specs.MethodViews.{see_method}
use Rattle.chord_classes.specs.Entries.{IsGrown}
use Rattle.chord_classes.specs.Least.{least, keys}
use Rattle.chord_rules.specs.declared.own_methods.Grown.{Grown}
use Rattle.chord_rules.specs.Limits.{TakesRoom}
use Rattle.chord_rules.specs.Growing.{IsCounted}
use Rattle.chord_rules.proofs.Rooms.{takes_none, rooms_taken, takes_one}

-- headers, and then others
pub headers_joined : (owner : ℕ) (methods : List Method) (headers more : List HeaderTree) → with_headers owner methods (headers ++ more) ≡ with_headers owner (with_headers owner methods headers) more
headers_joined owner methods [] more = refl
headers_joined owner methods (h ∷ hs) more = headers_joined owner (cond (is_main h || is_some (method_named methods h.name.text)) methods (methods ++ (method_of owner h ∷ []))) hs more

-- where the headers of new methods of two lists joined are those of the first and of the second, they are so with one header in front
next_by : (b : Bool) (owner : ℕ) (methods grown : List Method) (h : HeaderTree) (hs more : List HeaderTree)
    → (new_headers owner methods (hs ++ more) ≡ new_headers owner methods hs ++ new_headers owner (with_headers owner methods hs) more)
    → (new_headers owner grown (hs ++ more) ≡ new_headers owner grown hs ++ new_headers owner (with_headers owner grown hs) more)
    → cond b (new_headers owner methods (hs ++ more)) (h ∷ new_headers owner grown (hs ++ more))
    ≡ cond b (new_headers owner methods hs) (h ∷ new_headers owner grown hs) ++ new_headers owner (with_headers owner (cond b methods grown) hs) more
next_by true owner methods grown h hs more e f = e
next_by false owner methods grown h hs more e f = ap (λ z. h ∷ z) f

-- the headers that make new methods, of headers and then others
pub new_more : (owner : ℕ) (methods : List Method) (headers more : List HeaderTree) → new_headers owner methods (headers ++ more) ≡ new_headers owner methods headers ++ new_headers owner (with_headers owner methods headers) more
new_more owner methods [] more = refl
new_more owner methods (h ∷ hs) more =
    next_by (is_main h || is_some (method_named methods h.name.text)) owner methods (methods ++ (method_of owner h ∷ [])) h hs more (new_more owner methods hs more) (new_more owner (methods ++ (method_of owner h ∷ [])) hs more)

-- the tokens of two lists of headers joined
pub tokens_more : (headers more : List HeaderTree) → header_tokens (headers ++ more) ≡ header_tokens headers ++ header_tokens more
tokens_more [] more = refl
tokens_more (h ∷ hs) more = ap (λ z. h.name.at ∷ z) (tokens_more hs more)

-- what headers add and what others add after them is what all add
pub counted_over : {inherits : List Method} {owner : ℕ} {headers more : List HeaderTree} {before mid after : Grown} {o p q : Option ℕ}
    → IsCounted inherits owner headers before mid o p → IsCounted inherits owner more mid after p q → IsCounted inherits owner (headers ++ more) before after o q
counted_over {inherits} {owner} {headers} {more} {before} {mid} {after} {o} {p} {q} a b =
    let start = inherits ++ map see_method before.own.all.items in
    let moved : TakesRoom (header_tokens (new_headers owner (with_headers owner start headers) more)) mid.room after.room p q =
    subst (λ z. TakesRoom (header_tokens (new_headers owner z more)) mid.room after.room p q) a.grown.methods b.room in
    record {
      grown = record {
        methods = b.grown.methods ∙ ap (λ z. with_headers owner z more) a.grown.methods ∙ sym (headers_joined owner start headers more);
        new = λ n. b.grown.new (a.grown.new n);
      };
      room = subst (λ z. TakesRoom z before.room after.room o q) (sym (ap header_tokens (new_more owner start headers more) ∙ tokens_more (new_headers owner start headers) (new_headers owner (with_headers owner start headers) more)))
          (rooms_taken a.room moved);
    }

-- no header adds nothing
pub counted_none : {inherits : List Method} {owner : ℕ} {before : Grown} {o : Option ℕ} → IsCounted inherits owner [] before before o o
counted_none = record { grown = record { methods = refl; new = λ n. n }; room = takes_none }

-- a header that adds no method
pub counted_same : {inherits : List Method} {owner : ℕ} {header : HeaderTree} {before : Grown} {o : Option ℕ} → (is_main header || is_some (method_named (inherits ++ map see_method before.own.all.items) header.name.text)) ≡ true
    → IsCounted inherits owner (header ∷ []) before before o o
counted_same {inherits} {owner} {header} {before} {o} e = record {
  grown = record { methods = rw e refl; new = λ n. n };
  room = subst (λ z. TakesRoom (header_tokens (cond z [] (header ∷ []))) before.room before.room o o) (sym e) takes_none;
}

-- a header that adds a method
pub counted_one : {inherits : List Method} {owner : ℕ} {header : HeaderTree} {before after : Grown} {o p : Option ℕ} → (is_main header || is_some (method_named (inherits ++ map see_method before.own.all.items) header.name.text)) ≡ false
    → IsGrown inherits owner (header ∷ []) before.own.all.items after.own.all.items → after.room ≡ before.room - 1 → p ≡ least o (keys 4 (drop before.room (header.name.at ∷ []))) → IsCounted inherits owner (header ∷ []) before after o p
counted_one {inherits} {owner} {header} {before} {after} {o} {p} e grown room noted = record {
  grown = grown;
  room = subst (λ z. TakesRoom (header_tokens (cond z [] (header ∷ []))) before.room after.room o p) (sym e) (takes_one room noted);
}
