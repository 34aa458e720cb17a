-- A body that begins as it may never goes wrong.
use Rattle.std.proofs.Common.{◌≡◌, ℕ, ◌-◌, [], true, false, Option, Some, None, refl, sym, ◌∙◌, subst, slice_get}
use Rattle.chord_base.specs.declared.value.Value.TheVariants.{Unit as NoValue, Ref}
use Rattle.chord_base.specs.declared.event.Limits.{Limits}
use Rattle.chord_base.specs.Meaning.{Start, Main, Chord}
use Rattle.chord_base.specs.declared.static_type.StaticType.{StaticType}
use Rattle.chord_bodies.specs.Resolved.{BodyOf, ClassOf, ChordOf, Resolved}
use Rattle.std.proofs.lemmas.Option.{none-some, same_Some}
use Rattle.chord_bodies.specs.Types.{Signatures, HaveAll, this_in}
use Rattle.chord_bodies.specs.Planned.{IsPlanned}
use Rattle.chord_code.specs.Plays.{Good}
use Rattle.chord_source.specs.Objects.{make_object}
use Rattle.chord_source.specs.Source.{chord_body, class_chords, play_of}
use Rattle.chord_source.specs.Laws.{AreWellTyped, StartFits, GoodPlays}
use Rattle.chord_source.proofs.SlotTypes.{HasAny}
use Rattle.chord_source.proofs.GoodWays.{found_good}
use Rattle.chord_source.proofs.GoodStatements.{body_good}
use Rattle.chord_source.proofs.GoodObjects.{objects_good}

module _ (sig : Signatures) (p : Resolved) (typed : AreWellTyped sig p) (plan : IsPlanned sig p) (r : Option StaticType) where
  -- the body of a chord of a class is of a class that this one derives from, and not `Main`
  chord_is_there : (c k : ℕ) (o : Option ClassOf) (b : BodyOf) → slice_get p.classes c ≡ o → chord_body p (slice_get (class_chords o) k) ≡ Some b → (b.is_main ≡ false) × (sig.derives c b.class ≡ true)
  chord_is_there c k None b e f = absurd (none-some _ f)
  chord_is_there c k (Some x) b e f = by_chord (slice_get x.chords k) refl f
    where
      by_chord : (y : Option ChordOf) → slice_get x.chords k ≡ y → chord_body p y ≡ Some b → (b.is_main ≡ false) × (sig.derives c b.class ≡ true)
      by_chord None q f = absurd (none-some _ f)
      by_chord (Some y) q f =
          let is = plan.chords c k x y e q in
          let same : is.body ≡ b = same_Some _ _ (sym is.there ∙ f) in
          (subst (λ (z : BodyOf). z.is_main ≡ false) same is.is_chord.0, subst (λ (z : BodyOf). sig.derives c z.class ≡ true) same is.derives)

  -- a body that begins as it may is good
  play_good : (limits : Limits) (s : Start) (d : ℕ) → StartFits sig p s r → Good sig r (play_of p limits s d)
  play_good limits Main d f =
      let b = plan.main.0 in
      let room = limits.depth - d in
      found_good sig r (slice_get p.bodies p.main) b _ plan.main.1
      (body_good sig r plan.inherits room (make_object p room) (objects_good sig p typed plan r room) None b (typed p.main b plan.main.1) NoValue [] limits.turns
      (subst (λ z. HasAny sig (this_in z b.class) NoValue) (sym plan.main.2) tt) (subst (λ z. HaveAll sig z []) (sym plan.main.3) tt) (plan.main.4 ∙ sym f))
  play_good limits (Chord k o vs) d f =
      let b = f.0 in
      let room = limits.depth - d in
      let is = chord_is_there o.class k (slice_get p.classes o.class) b refl f.1 in
      let at = numbered (slice_get (class_chords (slice_get p.classes o.class)) k) b f.1 in
      found_good sig r (chord_body p (slice_get (class_chords (slice_get p.classes o.class)) k)) b _ f.1
      (body_good sig r plan.inherits room (make_object p room) (objects_good sig p typed plan r room) None b (typed at.0 b at.1) (Ref o) vs limits.turns
      (subst (λ z. HasAny sig (this_in z b.class) (Ref o)) (sym is.0) is.1) f.2 (sym f.3))
    where
      numbered : (y : Option ChordOf) (b : BodyOf) → chord_body p y ≡ Some b → (i : ℕ) × (slice_get p.bodies i ≡ Some b)
      numbered None b e = absurd (none-some _ e)
      numbered (Some y) b e = (y.body, e)

-- each body of a program that keeps to its types and whose plan is as it must be is good
pub good_plays : GoodPlays
good_plays sig p typed plan limits s d r f = play_good sig p typed plan r limits s d f
