-- A good play comes to an end after finitely many asks.
use Rattle.std.proofs.Common.{◌≡◌, ℕ, suc, Option, Some, refl, sym, ◌∙◌, subst}
use Rattle.chord_base.specs.declared.value.Object.{Object}
use Rattle.chord_base.specs.declared.value.Value.{Value}
use Rattle.chord_base.specs.declared.value.Value.TheVariants as a_value
use Rattle.chord_base.specs.declared.event.End.{End}
use Rattle.chord_base.specs.declared.event.End.TheVariants.{Gives, Traps}
use Rattle.chord_base.specs.declared.static_type.StaticType.{StaticType}
use Rattle.chord_base.specs.Types.{Signature, Signatures, Has}
use Rattle.chord_code.specs.Plays.{Play, MakesObject, SendsMessage, CallsMethod, PrintsLine, EndsBody, GoesWrong, left_of, left_after, Good, EndFits}
use Rattle.chord_source.specs.Source.{play_of}
use Rattle.chord_source.specs.Laws.{first_answers, SupplyFits, EndsAfter, EachEnds}
use Rattle.std.proofs.lemmas.Option.{same_Some}
use Rattle.chord_source.proofs.GoodPlays.{good_plays}

-- a play that ends after the answers behind the first one ends
after_one_more : (sig : Signatures) (r : Option StaticType) (p : Play) (f : ℕ → End) (e : End) → f 0 ≡ e → EndsAfter sig r (left_of p e) (λ k. f (suc k)) → EndsAfter sig r p f
after_one_more sig r p f e q h = record { count = suc h.count; end = h.end; ends = subst (λ z. left_after (left_of p z) (first_answers h.count (λ k. f (suc k))) ≡ EndsBody h.end) (sym q) h.ends; good = h.good }

-- behind its first answer a supply that fits is one that fits what is left
later_answers_fit : (sig : Signatures) (p : Play) (f : ℕ → End) (e : End) → f 0 ≡ e → SupplyFits sig p f → SupplyFits sig (left_of p e) (λ k. f (suc k))
later_answers_fit sig p f e q h = subst (λ z. SupplyFits sig (left_of p z) (λ k. f (suc k))) q (λ n. h (suc n))

-- a play that is its end has ended
is_at_its_end : (sig : Signatures) (r : Option StaticType) (f : ℕ → End) (e : End) → Good sig r (EndsBody e) → EndsAfter sig r (EndsBody e) f
is_at_its_end sig r f e g = record { count = 0; end = e; ends = refl; good = g }

-- a good play ends, whatever fits it is answered
pub good_play_ends : (sig : Signatures) (r : Option StaticType) (p : Play) → Good sig r p → (f : ℕ → End) → SupplyFits sig p f → EndsAfter sig r p f
good_play_ends sig r (MakesObject c k) g f h = by_answer (f 0) refl (λ o q e. good_play_ends sig r (k o) (g o q) (λ n. f (suc n)) (later_answers_fit sig (MakesObject c k) f (Gives (a_value.Ref o)) e h))
  where
    by_answer : (e : End) → f 0 ≡ e → ((o : Object) → o.class ≡ c → f 0 ≡ Gives (a_value.Ref o) → EndsAfter sig r (k o) (λ n. f (suc n))) → EndsAfter sig r (MakesObject c k) f
    by_answer (Gives (a_value.Ref o)) e i = after_one_more sig r (MakesObject c k) f (Gives (a_value.Ref o)) e (i o (subst (EndFits sig (MakesObject c k)) e (h 0 tt)) e)
    by_answer (Gives a_value.Unit) e i = absurd (subst (EndFits sig (MakesObject c k)) e (h 0 tt))
    by_answer (Gives (a_value.Int x)) e i = absurd (subst (EndFits sig (MakesObject c k)) e (h 0 tt))
    by_answer (Gives (a_value.Flag x)) e i = absurd (subst (EndFits sig (MakesObject c k)) e (h 0 tt))
    by_answer (Gives (a_value.Text x)) e i = absurd (subst (EndFits sig (MakesObject c k)) e (h 0 tt))
    by_answer (Traps t) e i = absurd (subst (EndFits sig (MakesObject c k)) e (h 0 tt))
good_play_ends sig r (SendsMessage o j xs p) g f h = by_answer (f 0) refl (λ e. good_play_ends sig r p g.1 (λ n. f (suc n)) (later_answers_fit sig (SendsMessage o j xs p) f (Gives a_value.Unit) e h))
  where
    by_answer : (e : End) → f 0 ≡ e → (f 0 ≡ Gives a_value.Unit → EndsAfter sig r p (λ n. f (suc n))) → EndsAfter sig r (SendsMessage o j xs p) f
    by_answer (Gives a_value.Unit) e i = after_one_more sig r (SendsMessage o j xs p) f (Gives a_value.Unit) e (i e)
    by_answer (Gives (a_value.Ref x)) e i = absurd (subst (EndFits sig (SendsMessage o j xs p)) e (h 0 tt))
    by_answer (Gives (a_value.Int x)) e i = absurd (subst (EndFits sig (SendsMessage o j xs p)) e (h 0 tt))
    by_answer (Gives (a_value.Flag x)) e i = absurd (subst (EndFits sig (SendsMessage o j xs p)) e (h 0 tt))
    by_answer (Gives (a_value.Text x)) e i = absurd (subst (EndFits sig (SendsMessage o j xs p)) e (h 0 tt))
    by_answer (Traps t) e i = absurd (subst (EndFits sig (SendsMessage o j xs p)) e (h 0 tt))
good_play_ends sig r (PrintsLine s p) g f h = by_answer (f 0) refl (λ e. good_play_ends sig r p g (λ n. f (suc n)) (later_answers_fit sig (PrintsLine s p) f (Gives a_value.Unit) e h))
  where
    by_answer : (e : End) → f 0 ≡ e → (f 0 ≡ Gives a_value.Unit → EndsAfter sig r p (λ n. f (suc n))) → EndsAfter sig r (PrintsLine s p) f
    by_answer (Gives a_value.Unit) e i = after_one_more sig r (PrintsLine s p) f (Gives a_value.Unit) e (i e)
    by_answer (Gives (a_value.Ref x)) e i = absurd (subst (EndFits sig (PrintsLine s p)) e (h 0 tt))
    by_answer (Gives (a_value.Int x)) e i = absurd (subst (EndFits sig (PrintsLine s p)) e (h 0 tt))
    by_answer (Gives (a_value.Flag x)) e i = absurd (subst (EndFits sig (PrintsLine s p)) e (h 0 tt))
    by_answer (Gives (a_value.Text x)) e i = absurd (subst (EndFits sig (PrintsLine s p)) e (h 0 tt))
    by_answer (Traps t) e i = absurd (subst (EndFits sig (PrintsLine s p)) e (h 0 tt))
good_play_ends sig r (CallsMethod room o j xs k) g f h = by_answer (f 0) refl (λ v i e. good_play_ends sig r (k v) (g.4 v i) (λ n. f (suc n)) (later_answers_fit sig (CallsMethod room o j xs k) f (Gives v) e h))
  where
    result_is : (m : Signature) (v : Value) → sig.methods o.class j ≡ Some m → Has sig m.result v → Has sig g.0.result v
    result_is m v e i = subst (λ (z : Signature). Has sig z.result v) (same_Some _ _ (sym e ∙ g.1)) i

    by_answer : (e : End) → f 0 ≡ e → ((v : Value) → Has sig g.0.result v → f 0 ≡ Gives v → EndsAfter sig r (k v) (λ n. f (suc n))) → EndsAfter sig r (CallsMethod room o j xs k) f
    by_answer (Gives v) e i =
        let a : EndFits sig (CallsMethod room o j xs k) (Gives v) = subst (EndFits sig (CallsMethod room o j xs k)) e (h 0 tt) in
        after_one_more sig r (CallsMethod room o j xs k) f (Gives v) e (i v (result_is a.0 v a.1 a.2) e)
    by_answer (Traps t) e i = after_one_more sig r (CallsMethod room o j xs k) f (Traps t) e (is_at_its_end sig r (λ n. f (suc n)) (Traps t) tt)
good_play_ends sig r (EndsBody e) g f h = is_at_its_end sig r f e g
good_play_ends sig r GoesWrong g f h = absurd g

-- each body that begins as it may ends
pub each_ends : EachEnds
each_ends sig p typed plan limits s d r fits f h = good_play_ends sig r (play_of p limits s d) (good_plays sig p typed plan limits s d r fits) f h
