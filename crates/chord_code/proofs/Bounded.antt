-- The entries of a run of valid code are within the bounds of a journal.
use Rattle.std.proofs.Common.{◌≡◌, ℕ, suc, ◌*◌, ◌<◌, ◌≤◌, Bool, true, false, ◌==◌, List, [], ◌∷◌, length, Option, Some, None, inl, inr, refl, sym, ap, ◌∙◌, subst, arith, ⊎_elim, length-append}
use Rattle.std.specs.Prelude.{map}
use Rattle.std.proofs.lemmas.Bool.{eqb-true, ne_eqb, cases_lt}
use Rattle.std.proofs.lemmas.Option.{slice_get_within}
use Rattle.chord_base.specs.declared.value.Object.{Object}
use Rattle.chord_base.specs.declared.value.Value as value
use Rattle.chord_base.specs.declared.value.Value.TheVariants as a_value
use Rattle.chord_base.specs.declared.event.End.{End}
use Rattle.chord_base.specs.declared.event.End.TheVariants.{Gives, Traps}
use Rattle.chord_base.specs.declared.event.Entry.{Entry}
use Rattle.chord_base.specs.declared.event.Limits.{Limits}
use Rattle.chord_base.specs.declared.event.What.{What}
use Rattle.chord_base.specs.declared.event.What.TheVariants.{Begun, Made, Sent, Called, Printed, Fired, Ended}
use Rattle.chord_base.specs.Meaning.{Program, Asked}
use Rattle.chord_base.specs.Messages.{Message, message_of, members_of, has, pending}
use Rattle.chord_base.specs.Bodies.{Doing, Absent, Unplaced, Ready, Waits, Over, heard, serves, doing, asked}
use Rattle.chord_base.specs.Machine.{IsPast, Comes, Takes}
use Rattle.chord_base.specs.Objects.{ValueAmong, ValuesAmong, EndAmong, WhatAmong, makes, was_made}
use Rattle.chord_base.specs.Bounds.{IsObjectWithin, IsValueWithin, AreValuesWithin, AreNumbersWithin, IsEndWithin, IsWhatWithin, AreWithin}
use Rattle.chord_base.proofs.Waits.{either}
use Rattle.chord_base.proofs.Objects.{objects_were_made}
use Rattle.chord_code.specs.declared.parts.Parts.{Parts}
use Rattle.chord_code.specs.Valid.{IsValid}
use Rattle.chord_code.specs.Meaning.{chord_lines, methods_of, code_program}
use Rattle.chord_code.specs.Within.{IsAskWithin}
use Rattle.chord_code.proofs.Tame.{code_is_tame, code_asks_within}
use Rattle.chord_code.proofs.Validity.{valid_within, valid_methods, valid_headers, valid_chords}

-- ---- bodies that are not there

-- a body that is absent stays so, whatever another body does
heard_absent : (w : What) (c : Option ℕ) → heard w c Absent ≡ Absent
heard_absent (Ended x) None = refl
heard_absent (Ended x) (Some q) = refl
heard_absent Begun c = refl
heard_absent (Made k) c = refl
heard_absent (Sent o j vs) c = refl
heard_absent (Called o j vs) c = refl
heard_absent (Printed t) c = refl
heard_absent (Fired k o ms vs) c = refl

-- a body that asks has a number below the count of entries, where bodies from that count on are absent
asks_low : (p : Program) (h : List Entry) (b : ℕ) (a : Asked) → ((c : ℕ) → length h ≤ c → doing p h c ≡ Absent) → asked p (doing p h b) ≡ Some a → b < length h
asks_low p h b a absent e =
    ⊎_elim (λ lt. lt) (λ le. let z : ◌≡◌ {A = Option Asked} None (Some a) = sym (ap (asked p) (absent b le)) ∙ e in cc) (cases_lt b (length h))

-- the body of an entry that may come has a number of at most the count of entries, where bodies from that count on are absent
comes_low : (p : Program) (h : List Entry) (n b : ℕ) (w : What) → ((c : ℕ) → length h ≤ c → doing p h c ≡ Absent) → n ≡ length h → Comes p h n b w → b ≤ length h
comes_low p h n b Begun absent i c = (let z = c.1 in omega (arith, z))
comes_low p h n b (Fired k o ms vs) absent i c = (let z = c.0 in omega (arith, z, i))
comes_low p h n b (Made x) absent i c = (let l = asks_low p h b (record { what = Made x; depth = c.0 }) absent c.1 in omega (arith, l))
comes_low p h n b (Sent o j vs) absent i c = (let l = asks_low p h b (record { what = Sent o j vs; depth = c.0 }) absent c.1 in omega (arith, l))
comes_low p h n b (Called o j vs) absent i c = (let l = asks_low p h b (record { what = Called o j vs; depth = c.0 }) absent c.1 in omega (arith, l))
comes_low p h n b (Printed t) absent i c = (let l = asks_low p h b (record { what = Printed t; depth = c.0 }) absent c.1 in omega (arith, l))
comes_low p h n b (Ended x) absent i c = (let l = asks_low p h b (record { what = Ended x; depth = c.0 }) absent c.1 in omega (arith, l))

-- a body whose number no entry has is absent
absent_past : (p : Program) (h : List Entry) → IsPast p h → (b : ℕ) → length h ≤ b → doing p h b ≡ Absent
absent_past p [] r b l = refl
absent_past p (e ∷ h) r b l =
    let low = comes_low p h e.number e.body e.what (absent_past p h r.0) r.1.numbered r.1.comes in
    let o : (e.body == b) ≡ false = ne_eqb e.body b (λ z. omega (arith, z, low, l)) in
    rw o (ap (λ d. heard e.what (serves p e.body h) d) (absent_past p h r.0 b (omega (arith, l))) ∙ heard_absent e.what (serves p e.body h))

-- ---- objects and messages

-- an entry within its bounds makes an object of a class below 1,024
makes_within : (c : ℕ) (w : What) → IsWhatWithin w → makes c w ≡ true → c < 1024
makes_within c (Made k) w m = subst (λ z. z < 1024) (eqb-true k c m) w
makes_within c Begun w m = (let z : false ≡ true = m in cc)
makes_within c (Sent o j vs) w m = (let z : false ≡ true = m in cc)
makes_within c (Called o j vs) w m = (let z : false ≡ true = m in cc)
makes_within c (Printed t) w m = (let z : false ≡ true = m in cc)
makes_within c (Fired k o ms vs) w m = (let z : false ≡ true = m in cc)
makes_within c (Ended x) w m = (let z : false ≡ true = m in cc)

-- an object that was made is within its bounds
made_within : (h : List Entry) → AreWithin h → length h ≤ 65536 → (o : Object) → was_made h o ≡ true → IsObjectWithin o
made_within [] w l o m = (let z : false ≡ true = m in cc)
made_within (e ∷ h) w l o m =
    elim (either (e.number == o.number)) [
      | inl y ↦
          (let same = eqb-true e.number o.number y in
          let i = w.1 in
          record { number = omega (arith, same, i, l); class = makes_within o.class e.what w.3 (rw y at m) })
      | inr n ↦ made_within h w.0 (omega (arith, l)) o (rw n at m)
    ]

-- a value is within its bounds where its object is among objects within theirs
value_within : (f : Object → Bool) → ((o : Object) → f o ≡ true → IsObjectWithin o) → (v : value.Value) → ValueAmong f v → IsValueWithin v
value_within f k (a_value.Ref o) a = k o a
value_within f k a_value.Unit a = tt
value_within f k (a_value.Int n) a = tt
value_within f k (a_value.Flag b) a = tt
value_within f k (a_value.Text t) a = tt

-- values are within their bounds where their objects are among objects within theirs
values_within : (f : Object → Bool) → ((o : Object) → f o ≡ true → IsObjectWithin o) → (vs : List value.Value) → ValuesAmong f vs → AreValuesWithin vs
values_within f k [] a = tt
values_within f k (v ∷ vs) a = (value_within f k v a.0, values_within f k vs a.1)

-- an end is within its bounds where its object is among objects within theirs
end_within : (f : Object → Bool) → ((o : Object) → f o ≡ true → IsObjectWithin o) → (x : End) → EndAmong f x → IsEndWithin x
end_within f k (Gives v) a = value_within f k v a
end_within f k (Traps t) a = tt

-- a message has at most eight values
abbrev IsShort : Message → Type 0
IsShort m = length m.arguments ≤ 8

-- a message that an entry within its bounds sends has at most eight values
sent_short : (w : What) (m : Message) → IsWhatWithin w → message_of w ≡ Some m → IsShort m
sent_short (Sent o j vs) m w e = (let z : record { object = o; method = j; arguments = vs } ≡ m = cc in subst IsShort z w.few)
sent_short (Called o j vs) m w e = (let z : record { object = o; method = j; arguments = vs } ≡ m = cc in subst IsShort z w.few)
sent_short Begun m w e = (let z : ◌≡◌ {A = Option Message} None (Some m) = e in cc)
sent_short (Made c) m w e = (let z : ◌≡◌ {A = Option Message} None (Some m) = e in cc)
sent_short (Printed t) m w e = (let z : ◌≡◌ {A = Option Message} None (Some m) = e in cc)
sent_short (Fired k o ms vs) m w e = (let z : ◌≡◌ {A = Option Message} None (Some m) = e in cc)
sent_short (Ended x) m w e = (let z : ◌≡◌ {A = Option Message} None (Some m) = e in cc)

-- a pending message has a number of the history, and at most eight values
pending_within : (h : List Entry) → AreWithin h → (n : ℕ) (m : Message) → pending n h ≡ Some m → (n < length h) × IsShort m
pending_within [] w n m e = (let z : ◌≡◌ {A = Option Message} None (Some m) = e in cc)
pending_within (x ∷ h) w n m e =
    elim (either (x.number == n)) [
      | inl y ↦ (let same = eqb-true x.number n y in let i = w.1 in (omega (arith, same, i), sent_short x.what m w.3 (rw y at e)))
      | inr o ↦
          elim (either (has n (members_of x.what))) [
            | inl y ↦ (let z : ◌≡◌ {A = Option Message} None (Some m) = rw (o, y) at e in cc)
            | inr q ↦ (let r = pending_within h w.0 n m (rw (o, q) at e) in let l = r.0 in (omega (arith, l), r.1))
          ]
    ]

-- what a firing takes
takes_within : (h : List Entry) → AreWithin h → length h ≤ 65536 → (o : Object) (js ms : List ℕ) (vs : List value.Value) → Takes h o js ms vs → AreNumbersWithin ms × (length ms ≡ length js) × (length vs ≤ 8 * length js)
takes_within h w l o [] [] vs t = (tt, refl, (let z = ap length t in omega (arith, z)))
takes_within h w l o [] (i ∷ ms) vs t = absurd t
takes_within h w l o (j ∷ js) [] vs t = absurd t
takes_within h w l o (j ∷ js) (i ∷ ms) vs t =
    let rest = takes_within h w l o js ms t.1 t.4 in
    let p = pending_within h w i (record { object = o; method = j; arguments = t.0 }) t.2 in
    let number = p.0 in
    let short = p.1 in
    let long = rest.2 in
    let both = ap length t.3 ∙ length-append t.0 t.1 in
    ((omega (arith, number, l), rest.0), ap suc rest.1, omega (arith, short, long, both))

-- ---- entries

-- what a body of a valid code asks is within its bounds
asked_within : (code : Parts) → IsValid code → (limits : Limits) (d : Doing) (a : Asked) → asked (code_program code limits) d ≡ Some a → IsAskWithin a.what
asked_within code valid limits (Ready s k rs) a e = code_asks_within code limits (valid_within code valid) s k rs a e
asked_within code valid limits (Waits s k rs q l) a e = (let z : ◌≡◌ {A = Option Asked} None (Some a) = e in cc)
asked_within code valid limits Absent a e = (let z : ◌≡◌ {A = Option Asked} None (Some a) = e in cc)
asked_within code valid limits Unplaced a e = (let z : ◌≡◌ {A = Option Asked} None (Some a) = e in cc)
asked_within code valid limits (Over x) a e = (let z : ◌≡◌ {A = Option Asked} None (Some a) = e in cc)

-- what an entry that comes says
what_within : (code : Parts) → IsValid code → (limits : Limits) (h : List Entry) → AreWithin h → length h ≤ 65536 → (n b : ℕ) (w : What) → WhatAmong (was_made h) w → Comes (code_program code limits) h n b w → IsWhatWithin w
what_within code valid limits h all l n b Begun a c = tt
what_within code valid limits h all l n b (Made x) a c = asked_within code valid limits (doing (code_program code limits) h b) (record { what = Made x; depth = c.0 }) c.1
what_within code valid limits h all l n b (Printed t) a c = tt
what_within code valid limits h all l n b (Ended x) a c = end_within (was_made h) (made_within h all l) x a
what_within code valid limits h all l n b (Sent o j vs) a c =
    (let k = asked_within code valid limits (doing (code_program code limits) h b) (record { what = Sent o j vs; depth = c.0 }) c.1 in
    record { object = made_within h all l o a.0; method = k.0; few = k.1; values = values_within (was_made h) (made_within h all l) vs a.1 })
what_within code valid limits h all l n b (Called o j vs) a c =
    (let k = asked_within code valid limits (doing (code_program code limits) h b) (record { what = Called o j vs; depth = c.0 }) c.1 in
    record { object = made_within h all l o a.0; method = k.0; few = k.1; values = values_within (was_made h) (made_within h all l) vs a.1 })
what_within code valid limits h all l n b (Fired k o ms vs) a c =
    (let js = c.1.0 in
    let t = takes_within h all l o js ms vs c.1.2 in
    let some = valid_methods code limits valid o.class k js c.1.1 in
    let few = valid_headers code valid o.class k js c.1.1 in
    let chords = valid_chords code valid o.class in
    let here = slice_get_within (map methods_of (chord_lines code o.class)) k js c.1.1 in
    let many = t.1 in
    let long = t.2 in
    record {
      chord = omega (arith, here, chords);
      object = made_within h all l o a.0;
      some = omega (arith, some, many);
      few_members = omega (arith, few, many);
      members = t.0;
      few_values = omega (arith, few, long);
      values = values_within (was_made h) (made_within h all l) vs a.1;
    })

-- each entry of a run of at most 65,536 entries is within the bounds of a journal
pub run_within : (code : Parts) → IsValid code → (limits : Limits) (h : List Entry) → IsPast (code_program code limits) h → length h ≤ 65536 → AreWithin h
run_within code valid limits [] r l = tt
run_within code valid limits (e ∷ h) r l =
    let p = code_program code limits in
    let short : length h ≤ 65536 = omega (arith, l) in
    let all = run_within code valid limits h r.0 short in
    let low = comes_low p h e.number e.body e.what (absent_past p h r.0) r.1.numbered r.1.comes in
    let among = objects_were_made p e h (code_is_tame code limits (valid_within code valid)) (valid_methods code limits valid) r in
    (all, r.1.numbered, omega (arith, low, l), what_within code valid limits h all short e.number e.body e.what among r.1.comes)
