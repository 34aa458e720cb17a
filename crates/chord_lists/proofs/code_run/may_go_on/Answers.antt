use Rattle.std.proofs.Common.{◌≡◌, ◌<◌, ◌∙◌, sym, ap, subst, arith, length, reverse, List}
use Rattle.std.proofs.lemmas.List.{length-reverse}
use Rattle.std.proofs.lemmas.Bool.{eqb-true, eqb-false}
use Rattle.chord_base.specs.declared.event.Entry.{Entry}
use Rattle.chord_base.specs.Bounds.{AreWithin}
use Rattle.chord_base.specs.Machine.{MayFollow, NoneFires}
use Rattle.chord_code.specs.Meaning.{code_program}
use Rattle.chord_lists.specs.CodeStands.{StandsAfter}
use Rattle.chord_lists.specs.CodeGoes.{CanFire}
use Rattle.chord_lists.proofs.Going.{no_entries, begun_follows, ready_follows, fire_follows, nothing_follows}
use Rattle.chord_lists.proofs.code_run.may_go_on.Goals as goal

pub returns-then-is_empty-clause-yes : goal.returns-then-is_empty-clause-yes
returns-then-is_empty-clause-yes c =
    λ yes.
    let p = code_program c.args.code.now c.args.limits.now in
    let none : length c.args.journal.now ≡ 0 = sym (ap length c.entries-entries.ensures.entries) ∙ eqb-true (length c.entries-entries.result.now) 0 (sym c.is_empty.ensures ∙ c.if-is_empty.true) in
    subst (λ h. (e : Entry) × MayFollow p h e) (sym (no_entries c.args.journal.now none)) (begun_follows p)

pub pending_bag-requires-clause-few : goal.pending_bag-requires-clause-few
pending_bag-requires-clause-few c = (let l = ap length c.entries-entries.ensures.entries in omega (arith, l, c.entries-entries.ensures.within.few))

pub pending_bag-requires-clause-within : goal.pending_bag-requires-clause-within
pending_bag-requires-clause-within c = subst (λ (es : List Entry). AreWithin (reverse es)) (sym c.entries-entries.ensures.entries) c.entries-entries.ensures.within.within

pub returns-in-Some-clause-yes : goal.returns-in-Some-clause-yes
returns-in-Some-clause-yes c =
    λ yes.
    let code = c.args.code.now in
    let limits = c.args.limits.now in
    let s : StandsAfter code limits c.in_ok-bodies.bodies (reverse c.args.journal.now) = rw c.entries-entries.ensures.entries at c.in_ok-bodies.ensures in
    let ready = rw (c.in-Some.is, c.deref.ensures.value) at c.next_ready.ensures.some in
    ready_follows code limits c.in_ok-bodies.bodies (reverse c.args.journal.now) c.in-Some.field-0 s ready

pub returns-clause-yes : goal.returns-clause-yes
returns-clause-yes c =
    λ yes.
    let p = code_program c.args.code.now c.args.limits.now in
    fire_follows p (reverse c.args.journal.now) (subst (λ (es : List Entry). CanFire p (reverse es)) c.entries-entries.ensures.entries (c.fires.ensures.yes yes))

pub returns-clause-no : goal.returns-clause-no
returns-clause-no c =
    λ no.
    let code = c.args.code.now in
    let limits = c.args.limits.now in
    let p = code_program code limits in
    let s : StandsAfter code limits c.in_ok-bodies.bodies (reverse c.args.journal.now) = rw c.entries-entries.ensures.entries at c.in_ok-bodies.ensures in
    let none = rw (c.in-None.is, c.deref.ensures.value) at c.next_ready.ensures.none in
    let f = subst (λ (es : List Entry). NoneFires p (reverse es)) c.entries-entries.ensures.entries (c.fires.ensures.no no) in
    let apart = eqb-false (length c.entries-entries.result.now) 0 (sym c.is_empty.ensures ∙ c.if-is_empty.false) in
    let some : 0 < length (reverse c.args.journal.now) = (let l = length-reverse c.args.journal.now in let k = ap length c.entries-entries.ensures.entries in omega (arith, l, k, apart)) in
    nothing_follows code limits c.in_ok-bodies.bodies (reverse c.args.journal.now) s some none f
