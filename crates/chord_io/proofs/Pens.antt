-- Texts that a pen writes one after the other are one text.
use Rattle.std.proofs.Common.{◌≡◌, ℕ, ◌≤◌, ◌<◌, ◌+◌, List, [], ◌∷◌, ◌++◌, length, take, get_or, Option, Some, None, refl, ap, sym, ◌∙◌, append_assoc, append-nil, length-append, arith}
use native.Mathlib.Decide.{dec_le}
use Rattle.std.specs.List.{flat_map}
use Rattle.std.proofs.lemmas.Grind.{flat_map-append}
use Rattle.chord_io.specs.Pieces.{TookProperPrefix}
use Rattle.chord_io.specs.Pen.{HasWritten, HoldsBack, WritesOut, Writes, most_held}
use Rattle.chord_io.proofs.Joined.{Took-nothing, Took-join, TookProperPrefix-first, TookProperPrefix-second, before_next}

-- an empty text is written by doing nothing
pub Writes-nothing : (a : Option (List ℕ)) (f : ℕ) (p : Option (List ℕ)) → Writes a f p [] a f p
Writes-nothing a f None = record { written = (refl, refl, refl); held_back = tt; written_out = tt; never_falls = omega arith }
Writes-nothing a f (Some h) = record {
  written = ([], Took-nothing a, sym (append-nil h), refl);
  held_back = λ fits. (refl, ap (λ (x : List ℕ). Some x) (sym (append-nil h)));
  written_out = λ within long. absurd (omega (arith, within, long));
  never_falls = omega arith;
}

-- two texts, by cases on the pen at the start, between them and at the end
HasWritten-join :
    (a : Option (List ℕ)) (f : ℕ) (p : Option (List ℕ)) (t : List ℕ) (b : Option (List ℕ)) (g : ℕ) (q : Option (List ℕ)) (u : List ℕ)
    (c : Option (List ℕ)) (h : ℕ) (r : Option (List ℕ)) → HasWritten a f p t b g q → HasWritten b g q u c h r →
    HasWritten a f p (t ++ u) c h r
HasWritten-join a f None t b g q u c h r first second =
    elim q as (λ x. q ≡ x → HasWritten b g x u c h r → (c ≡ a) × (r ≡ None) × (h ≡ f)) [
      | None ↦ λ none rest. (rest.0 ∙ first.0, rest.1, rest.2 ∙ first.2)
      | Some held ↦ λ some rest. absurd (let broken = first.1 in cc)
    ] refl second
HasWritten-join a f (Some held) t b g None u c h r first second =
    elim r as (λ x. r ≡ x → HasWritten a f (Some held) (t ++ u) c h x) [
      | None ↦ λ none. (rw (second.0, ← append_assoc held t u) (TookProperPrefix-first a b (held ++ t) u first.0), second.2 ∙ first.1)
      | Some left ↦ λ some. absurd (let broken = second.1 in cc)
    ] refl
HasWritten-join a f (Some held) t b g (Some left) u c h None (out, took, same, still) second =
    let whole : held ++ (t ++ u) ≡ out ++ (left ++ u) = sym (append_assoc held t u) ∙ ap (λ x. x ++ u) (sym same) ∙ append_assoc out left u in
    (rw whole (TookProperPrefix-second a b c out (left ++ u) took second.0), rw still at second.1)
HasWritten-join a f (Some held) t b g (Some left) u c h (Some last) (out, took, same, still) (more, took_more, same_more, still_more) = (
  out ++ more,
  Took-join a b c out more took took_more,
  append_assoc out more last ∙ ap (λ x. out ++ x) same_more ∙ sym (append_assoc out left u) ∙ ap (λ x. x ++ u) same ∙ append_assoc held t u,
  still_more ∙ still,
)

-- two texts that fit what a pen may hold, together
HoldsBack-join :
    (a p : Option (List ℕ)) (t : List ℕ) (b q : Option (List ℕ)) (u : List ℕ) (c r : Option (List ℕ)) → HoldsBack a p t b q →
    HoldsBack b q u c r → HoldsBack a p (t ++ u) c r
HoldsBack-join a None t b q u c r first second = tt
HoldsBack-join a (Some held) t b q u c r first second = λ fits.
    let (kept, now) = first (omega (arith, fits, length-append t u)) in
    let then : length (held ++ t) + length u ≤ most_held → (c ≡ b) × (r ≡ Some ((held ++ t) ++ u)) = rw now at second in
    let (still, last) = then (omega (arith, fits, length-append t u, length-append held t)) in
    (still ∙ kept, last ∙ ap (λ (x : List ℕ). Some x) (append_assoc held t u))

-- what a pen holds is as long as what it is said to hold
same_length : (xs ys : List ℕ) → ◌≡◌ {A = Option (List ℕ)} (Some xs) (Some ys) → length xs ≡ length ys
same_length xs ys same = cc

-- two texts that do not fit together, by whether the first fits and then whether the second does
WritesOut-join :
    (a p : Option (List ℕ)) (t : List ℕ) (b q : Option (List ℕ)) (u : List ℕ) (c r : Option (List ℕ)) → HoldsBack a p t b q → WritesOut p t q →
    HoldsBack b q u c r → WritesOut q u r → (q ≡ None → r ≡ None) → WritesOut p (t ++ u) r
WritesOut-join a None t b q u c r back out then_back then_out broken = tt
WritesOut-join a (Some held) t b q u c None back out then_back then_out broken = λ within long. tt
WritesOut-join a (Some held) t b None u c (Some last) back out then_back then_out broken = absurd (let none = broken refl in cc)
WritesOut-join a (Some held) t b (Some left) u c (Some last) back out then_back then_out broken = λ within long.
    let both : length (t ++ u) ≡ length t + length u = length-append t u in
    elim (dec_le (length held + length t) most_held) [
      | yes fits ↦
          let now : length left ≡ length held + length t = same_length left (held ++ t) (back fits).1 ∙ length-append held t in
          let few = then_out (omega (arith, now, fits)) (omega (arith, now, long, both)) in
          (omega (arith, few.0, both), few.1)
      | no passes ↦
          let few = out within (omega (arith, passes)) in
          elim (dec_le (length left + length u) most_held) [
            | yes fits ↦
                let now : length last ≡ length left + length u = same_length last (left ++ u) (then_back fits).1 ∙ length-append left u in
                (omega (arith, now, few.0, both), omega (arith, now, fits))
            | no over ↦
                let fewer = then_out few.1 (omega (arith, over)) in
                (omega (arith, fewer.0, both), fewer.1)
          ]
    ]

-- a pen that a write broke stays broken
HasWritten-broken :
    (b : Option (List ℕ)) (g : ℕ) (q : Option (List ℕ)) (u : List ℕ) (c : Option (List ℕ)) (h : ℕ) (r : Option (List ℕ)) →
    HasWritten b g q u c h r → q ≡ None → r ≡ None
HasWritten-broken b g None u c h r broken same = broken.1
HasWritten-broken b g (Some left) u c h r written same = absurd (cc)

-- two texts that a pen writes one after the other are one
pub Writes-join :
    {a : Option (List ℕ)} {f : ℕ} {p : Option (List ℕ)} {t : List ℕ} {b : Option (List ℕ)} {g : ℕ} {q : Option (List ℕ)} {u : List ℕ}
    {c : Option (List ℕ)} {h : ℕ} {r : Option (List ℕ)} → Writes a f p t b g q → Writes b g q u c h r → Writes a f p (t ++ u) c h r
Writes-join {a = a} {f = f} {p = p} {t = t} {b = b} {g = g} {q = q} {u = u} {c = c} {h = h} {r = r} first second = record {
  written = HasWritten-join a f p t b g q u c h r first.written second.written;
  held_back = HoldsBack-join a p t b q u c r first.held_back second.held_back;
  written_out =
      WritesOut-join a p t b q u c r first.held_back first.written_out second.held_back second.written_out
      (HasWritten-broken b g q u c h r second.written);
  never_falls = omega arith;
}

-- of texts that a pen writes one by one: those before the next place
pub Writes-next :
    {X : Type 0} {a : Option (List ℕ)} {f : ℕ} {p : Option (List ℕ)} {b : Option (List ℕ)} {g : ℕ} {q : Option (List ℕ)}
    {c : Option (List ℕ)} {h : ℕ} {r : Option (List ℕ)} (text : X → List ℕ) (xs : List X) (i : ℕ) (x d : X) → i < length xs →
    x ≡ get_or xs i d → Writes a f p (flat_map text (take i xs)) b g q → Writes b g q (text x) c h r →
    Writes a f p (flat_map text (take (i + 1) xs)) c h r
Writes-next text xs i x d within at first second =
    rw (before_next xs i x d within at, flat_map-append text (take i xs) (x ∷ []), append-nil (text x)) (Writes-join first second)

-- a front of a text was taken, where a pen wrote the text from the start and then a front of what it held was taken
pub TookProperPrefix-finished :
    (a : Option (List ℕ)) (f : ℕ) (text : List ℕ) (b : Option (List ℕ)) (g : ℕ) (q : Option (List ℕ)) (held : List ℕ) (c : Option (List ℕ)) →
    Writes a f (Some []) text b g q → q ≡ Some held → TookProperPrefix b held c → TookProperPrefix a text c
TookProperPrefix-finished a f text b g None held c first some rest = absurd (cc)
TookProperPrefix-finished a f text b g (Some left) held c first some rest =
    let same : left ≡ held = cc in
    let (out, took, whole, still) = first.written in
    let all : out ++ held ≡ text = ap (λ x. out ++ x) (sym same) ∙ whole in
    rw (← all) (TookProperPrefix-second a b c out held took rest)
