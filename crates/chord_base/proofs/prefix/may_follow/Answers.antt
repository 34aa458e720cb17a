use Rattle.std.proofs.Common.{Bool, IsTrue, Result, Ok, Err, IfOk, reverse, arith}
use Rattle.std.proofs.lemmas.List.{length-reverse}
use Rattle.chord_base.specs.Machine.{MayFollow}
use Rattle.chord_base.proofs.Prefixes.{table_follows, SaysNext}
use Rattle.chord_base.proofs.prefix.may_follow.Goals as goal

-- a fact of an Ok that follows from another
on_ok : {E : Type 0} (r : Result Bool E) (P Q : Bool → Type 0) → ((b : Bool) → P b → Q b) → IfOk r P → IfOk r Q
on_ok (Ok b) P Q f x = f b x
on_ok (Err e) P Q f x = tt

pub returns-in_default : goal.returns-in_default
returns-in_default g c =
    let p = g.M.Meaning.program c.args.meaning.now in
    let h = reverse c.args.past.now in
    let e = c.args.entry.now in
    let same = table_follows p h c.args.bodies.now e c.requires (omega (arith, c.if-entry-past.false, length-reverse c.args.past.now)) c.in_default.not-Begun c.in_default.not-Fired in
    on_ok c.is_next.result (λ yes. (IsTrue yes → SaysNext p c.args.bodies.now e) × (SaysNext p c.args.bodies.now e → IsTrue yes)) (λ yes. (IsTrue yes → MayFollow p h e) × (MayFollow p h e → IsTrue yes))
    (λ yes f. (λ t. same.0 (f.0 t), λ m. f.1 (same.1 m)))
    c.is_next.ensures
