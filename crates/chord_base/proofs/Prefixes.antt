-- How many entries are a run: one more, and where it stops.
use Rattle.std.proofs.Common.{◌≡◌, ℕ, ◌+◌, ◌<◌, ◌≤◌, List, [], ◌∷◌, length, reverse, take, get_or, Option, Some, None, refl, sym, ap, ◌∙◌, subst, arith, add-one}
use Rattle.std.proofs.Math.Seq.{take-suc}
use Rattle.std.proofs.lemmas.List.{reverse-append}
use Rattle.std.proofs.lemmas.Option.{slice_get-get_or, slice_get_past}
use Rattle.chord_base.specs.declared.value.Object.{Object}
use Rattle.chord_base.specs.declared.value.Value as value
use Rattle.chord_base.specs.declared.event.What.{What}
use Rattle.chord_base.specs.declared.event.What.TheVariants.{Begun, Made, Sent, Called, Printed, Fired, Ended}
use Rattle.chord_base.specs.declared.event.Entry.{Entry}
use Rattle.chord_base.specs.declared.body.Body as body
use Rattle.chord_base.specs.Meaning.{Program}
use Rattle.chord_base.specs.Bodies.{asked, Asks}
use Rattle.chord_base.specs.Machine.{Comes, MayFollow, IsPast}
use Rattle.chord_base.specs.BodyTable.{doing_at, IsTable}
use Rattle.chord_base.specs.Prefix.{IsRunLength}

-- the entries before the next one, newest first
pub reverse_more : (xs : List Entry) (i : ℕ) (x : Entry) → i < length xs → x ≡ get_or xs i x → reverse (take (i + 1) xs) ≡ x ∷ reverse (take i xs)
reverse_more xs i x l e =
    ap (λ n. reverse (take n xs)) (add-one i) ∙ ap reverse (take-suc xs i x l) ∙ reverse-append (take i xs) (get_or xs i x ∷ []) ∙ ap (λ z. z ∷ reverse (take i xs)) (sym e)

-- an entry that may not follow ends the run
pub run_stops : (p : Program) (entries : List Entry) (i : ℕ) (x : Entry) → i < length entries → x ≡ get_or entries i x → IsPast p (reverse (take i entries)) → (MayFollow p (reverse (take i entries)) x → ⊥) → IsRunLength p entries i
run_stops p entries i x l e r n =
    record {
      within = omega (arith, l);
      run = r;
      ends = λ y s m. (let k : Some y ≡ Some (get_or entries i x) = sym s ∙ slice_get-get_or entries i x l in let same : y ≡ x = cc in n (subst (λ z. MayFollow p (reverse (take i entries)) z) same m));
    }

-- the whole may be a run
pub run_whole : (p : Program) (entries : List Entry) (i : ℕ) → i ≤ length entries → length entries ≤ i → IsPast p (reverse (take i entries)) → IsRunLength p entries (length entries)
run_whole p entries i l m r =
    let same : i ≡ length entries = omega (arith, l, m) in
    record {
      within = omega arith;
      run = subst (λ n. IsPast p (reverse (take n entries))) same r;
      ends = λ y s f. (let k : ◌≡◌ {A = Option Entry} None (Some y) = sym (slice_get_past entries (length entries) (omega arith)) ∙ s in cc);
    }

-- what the table says of a body's next ask
abbrev pub SaysNext : Program → List body.Body → Entry → Type 0
SaysNext p bodies e = (l : ℕ) × (asked p (doing_at bodies e.body) ≡ Some (record { what = e.what; depth = l }))

-- what is no first entry of a body comes next exactly where it is the body's next ask
asks_follows : (p : Program) (h : List Entry) (n b : ℕ) (w : What) → (w ≡ Begun → ⊥) → ((k : ℕ) (o : Object) (ms : List ℕ) (vs : List value.Value) → w ≡ Fired k o ms vs → ⊥) → (Asks p h b w → Comes p h n b w) × (Comes p h n b w → Asks p h b w)
asks_follows p h n b Begun x y = absurd (x refl)
asks_follows p h n b (Fired k o ms vs) x y = absurd (y k o ms vs refl)
asks_follows p h n b (Made c) x y = (λ a. a, λ a. a)
asks_follows p h n b (Sent o j vs) x y = (λ a. a, λ a. a)
asks_follows p h n b (Called o j vs) x y = (λ a. a, λ a. a)
asks_follows p h n b (Printed t) x y = (λ a. a, λ a. a)
asks_follows p h n b (Ended e) x y = (λ a. a, λ a. a)

-- an entry that is no first entry of a body may follow exactly where the table says that it is the next ask
pub table_follows : (p : Program) (h : List Entry) (bodies : List body.Body) (e : Entry) → IsTable p h bodies → e.number ≡ length h → (e.what ≡ Begun → ⊥) → ((k : ℕ) (o : Object) (ms : List ℕ) (vs : List value.Value) → e.what ≡ Fired k o ms vs → ⊥) → (SaysNext p bodies e → MayFollow p h e) × (MayFollow p h e → SaysNext p bodies e)
table_follows p h bodies e t n x y =
    let same = asks_follows p h e.number e.body e.what x y in (
      λ s. record { numbered = n; comes = same.0 (s.0, ap (asked p) (sym (t.says e.body)) ∙ s.1) },
      λ m. (let a = same.1 m.comes in (a.0, ap (asked p) (t.says e.body) ∙ a.1)),
    )
