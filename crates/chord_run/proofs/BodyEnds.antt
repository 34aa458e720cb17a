-- Each body of the join machine of a source that keeps to its types comes to its end.
use Rattle.std.proofs.Common.{◌≡◌, ℕ, List, [], ◌∷◌, ◌++◌, Bool, true, false, Option, Some, None, ap, map, refl, slice_get, subst, sym, ◌∙◌}
use Rattle.std.specs.Prelude.{option_map}
use Rattle.std.proofs.lemmas.Option.{none-some, same_Some, slice_get-map}
use Rattle.chord_base.specs.Meaning.{Asked, Chord, Main, Program, Start}
use Rattle.chord_base.specs.Types.{HaveAll, Signature, Signatures}
use Rattle.chord_base.specs.declared.event.End.{End}
use Rattle.chord_base.specs.declared.event.End.TheVariants.{Gives, Traps}
use Rattle.chord_base.specs.declared.event.Limits.{Limits}
use Rattle.chord_base.specs.declared.event.What.TheVariants.{Called, Ended, Made, Printed, Sent}
use Rattle.chord_base.specs.declared.static_type.StaticType.{StaticType}
use Rattle.chord_base.specs.declared.value.Object.{Object}
use Rattle.chord_base.specs.declared.value.Value.{Value}
use Rattle.chord_base.specs.declared.value.Value.TheVariants as a_value
use Rattle.chord_bodies.specs.Planned.{AreConcatenated, ChordIs, IsPlanned, gives, if_sync}
use Rattle.chord_bodies.specs.Resolved.{ChordOf, ClassOf, Resolved}
use Rattle.chord_code.specs.Plays.{CallsMethod, EndFits, EndsBody, GoesWrong, Good, MakesObject, Play, PrintsLine, SendsMessage, ask_of, left_after}
use Rattle.chord_run.specs.BodyEnds.{AnswersEachAsk, BodyBegins, ComesToEnd, FitsAsk}
use Rattle.chord_source.specs.Laws.{AreWellTyped, EachEnds, EndsAfter, StartFits, WantsAnswer, first_answers}
use Rattle.chord_source.specs.Source.{chord_body, class_chords, play_of, source_program}

-- the parameters of methods are laid together in one way
one_list_laid : (sig : Signatures) (class : ℕ) (methods : List ℕ) (these those : List StaticType) → AreConcatenated sig class methods these → AreConcatenated sig class methods those → these ≡ those
one_list_laid sig class [] these those a b = a ∙ sym b
one_list_laid sig class (j ∷ js) these those a b =
    let same : a.0 ≡ b.0 = same_Some _ _ (sym a.2 ∙ b.2) in
    let rest : a.1 ≡ b.1 = one_list_laid sig class js a.1 b.1 a.4 b.4 in
    a.3 ∙ ap (λ (m : Signature). m.parameters ++ a.1) same ∙ ap (λ (types : List StaticType). b.0.parameters ++ types) rest ∙ sym b.3

-- methods give one result
one_result : (sig : Signatures) (class : ℕ) (methods : List ℕ) (this that : Option StaticType) → gives sig class methods this → gives sig class methods that → this ≡ that
one_result sig class [] this that a b = a ∙ sym b
one_result sig class (j ∷ js) this that a b =
    let same : b.0 ≡ a.0 = same_Some _ _ (sym b.1 ∙ a.1) in
    by_kind a.0.is_sync a.2 (subst (λ (m : Signature). if_sync m.is_sync (that ≡ m.result) (gives sig class js that)) same b.2) (one_result sig class js this that)
  where
    by_kind : (kind : Bool) → if_sync kind (this ≡ a.0.result) (gives sig class js this) → if_sync kind (that ≡ a.0.result) (gives sig class js that) → (gives sig class js this → gives sig class js that → this ≡ that) → this ≡ that
    by_kind true f g more = f ∙ sym g
    by_kind false f g more = more f g

-- a chord of the machine is one of the plan
chord_in_plan : (p : Resolved) (class k : ℕ) (methods : List ℕ) → slice_get (map (λ (y : ChordOf). y.methods) (class_chords (slice_get p.classes class))) k ≡ Some methods → (y : ChordOf) × (slice_get (class_chords (slice_get p.classes class)) k ≡ Some y) × (y.methods ≡ methods)
chord_in_plan p class k methods e =
    by_chord (slice_get (class_chords (slice_get p.classes class)) k) refl (sym (slice_get-map (λ (y : ChordOf). y.methods) (class_chords (slice_get p.classes class)) k) ∙ e)
  where
    by_chord : (y : Option ChordOf) → slice_get (class_chords (slice_get p.classes class)) k ≡ y → option_map (λ (y : ChordOf). y.methods) y ≡ Some methods → (y : ChordOf) × (slice_get (class_chords (slice_get p.classes class)) k ≡ Some y) × (y.methods ≡ methods)
    by_chord None q e = absurd (none-some _ e)
    by_chord (Some y) q e = (y, q, same_Some _ _ e)

-- a chord of the plan is as sound code needs it
chord_planned : (sig : Signatures) (p : Resolved) → IsPlanned sig p → (class k : ℕ) (y : ChordOf) (x : Option ClassOf) → slice_get p.classes class ≡ x → slice_get (class_chords x) k ≡ Some y → ChordIs sig p class y
chord_planned sig p plan class k y None e f = absurd (none-some _ f)
chord_planned sig p plan class k y (Some x) e f = plan.chords class k x y e f

-- what begins a body of the machine begins one of the source
begins_source : (sig : Signatures) (p : Resolved) (limits : Limits) → IsPlanned sig p → (start : Start) (result : Option StaticType) → BodyBegins (source_program p limits) sig start result → StartFits sig p start result
begins_source sig p limits plan Main result b = b
begins_source sig p limits plan (Chord k o vs) result b =
    let y = chord_in_plan p o.class k b.methods b.is_chord in
    let ch = chord_planned sig p plan o.class k y.0 (slice_get p.classes o.class) refl y.1 in
    let laid : AreConcatenated sig o.class b.methods ch.body.parameters = subst (λ z. AreConcatenated sig o.class z ch.body.parameters) y.2 ch.parameters in
    let due : gives sig o.class b.methods ch.body.result = subst (λ z. gives sig o.class z ch.body.result) y.2 ch.result in
    let same : b.parameters ≡ ch.body.parameters = one_list_laid sig o.class b.methods b.parameters ch.body.parameters b.laid_together laid in
    (ch.body, ap (chord_body p) y.1 ∙ ch.there, subst (λ z. HaveAll sig z vs) same b.fit, one_result sig o.class b.methods result ch.body.result b.is_result due)

-- an answer that fits what a body makes fits its play
made_fits : (sig : Signatures) (class : ℕ) (more : Object → Play) (answer : End) → FitsAsk sig (Made class) answer → EndFits sig (MakesObject class more) answer
made_fits sig class more (Gives (a_value.Ref o)) f = f
made_fits sig class more (Gives a_value.Unit) f = absurd f
made_fits sig class more (Gives (a_value.Int n)) f = absurd f
made_fits sig class more (Gives (a_value.Flag b)) f = absurd f
made_fits sig class more (Gives (a_value.Text t)) f = absurd f
made_fits sig class more (Traps t) f = absurd f

-- so does one that fits what it sends
sent_fits : (sig : Signatures) (o : Object) (j : ℕ) (vs : List Value) (more : Play) (answer : End) → FitsAsk sig (Sent o j vs) answer → EndFits sig (SendsMessage o j vs more) answer
sent_fits sig o j vs more (Gives a_value.Unit) f = tt
sent_fits sig o j vs more (Gives (a_value.Ref x)) f = absurd f
sent_fits sig o j vs more (Gives (a_value.Int n)) f = absurd f
sent_fits sig o j vs more (Gives (a_value.Flag b)) f = absurd f
sent_fits sig o j vs more (Gives (a_value.Text t)) f = absurd f
sent_fits sig o j vs more (Traps t) f = absurd f

-- and what it calls
called_fits : (sig : Signatures) (room : ℕ) (o : Object) (j : ℕ) (vs : List Value) (more : Value → Play) (answer : End) → FitsAsk sig (Called o j vs) answer → EndFits sig (CallsMethod room o j vs more) answer
called_fits sig room o j vs more (Gives v) f = f
called_fits sig room o j vs more (Traps t) f = tt

-- and what it prints
printed_fits : (sig : Signatures) (text : List ℕ) (more : Play) (answer : End) → FitsAsk sig (Printed text) answer → EndFits sig (PrintsLine text more) answer
printed_fits sig text more (Gives a_value.Unit) f = tt
printed_fits sig text more (Gives (a_value.Ref x)) f = absurd f
printed_fits sig text more (Gives (a_value.Int n)) f = absurd f
printed_fits sig text more (Gives (a_value.Flag b)) f = absurd f
printed_fits sig text more (Gives (a_value.Text t)) f = absurd f
printed_fits sig text more (Traps t) f = absurd f

-- an answer that fits the ask of a play fits the play
ask_fits : (sig : Signatures) (limits : Limits) (play : Play) (answer : End) → WantsAnswer play → ((asked : Asked) → ask_of limits play ≡ Some asked → FitsAsk sig asked.what answer) → EndFits sig play answer
ask_fits sig limits (MakesObject c more) answer wants f = made_fits sig c more answer (f (record { what = Made c; depth = 0 }) refl)
ask_fits sig limits (SendsMessage o j vs more) answer wants f = sent_fits sig o j vs more answer (f (record { what = Sent o j vs; depth = 0 }) refl)
ask_fits sig limits (CallsMethod room o j vs more) answer wants f = called_fits sig room o j vs more answer (f _ refl)
ask_fits sig limits (PrintsLine t more) answer wants f = printed_fits sig t more answer (f (record { what = Printed t; depth = 0 }) refl)
ask_fits sig limits (EndsBody e) answer wants f = absurd wants
ask_fits sig limits GoesWrong answer wants f = absurd wants

-- a play that has ended by these answers is a body that has
play_ended : (sig : Signatures) (p : Resolved) (limits : Limits) (start : Start) (depth : ℕ) (result : Option StaticType) (supply : ℕ → End) → EndsAfter sig result (play_of p limits start depth) supply → ComesToEnd (source_program p limits) sig start depth result supply
play_ended sig p limits start depth result supply h =
    record {
      count = h.count;
      asked = record { what = Ended h.end; depth = 0 };
      asks = ap (ask_of limits) h.ends;
      end = h.end;
      is_end = refl;
      fits = λ value e. subst (λ (z : End). Good sig result (EndsBody z)) e h.good;
    }

-- each body of the join machine of such a source comes to its end, if each ask of it is answered as fits
source_body_ends :
    EachEnds → (sig : Signatures) (p : Resolved) → AreWellTyped sig p → IsPlanned sig p → (limits : Limits) (start : Start) (depth : ℕ) (result : Option StaticType) (supply : ℕ → End) →
    BodyBegins (source_program p limits) sig start result → AnswersEachAsk (source_program p limits) sig start depth supply → ComesToEnd (source_program p limits) sig start depth result supply
source_body_ends ends sig p typed plan limits start depth result supply begins answers =
    play_ended sig p limits start depth result supply
    (ends sig p typed plan limits start depth result (begins_source sig p limits plan start result begins) supply
    (λ count wants. ask_fits sig limits (left_after (play_of p limits start depth) (first_answers count supply)) (supply count) wants (answers count)))

-- so does each of a machine that is this one
pub body_ends :
    EachEnds → (sig : Signatures) (p : Resolved) → AreWellTyped sig p → IsPlanned sig p → (limits : Limits) (program : Program) → program ≡ source_program p limits →
    (start : Start) (depth : ℕ) (result : Option StaticType) (supply : ℕ → End) → BodyBegins program sig start result → AnswersEachAsk program sig start depth supply →
    ComesToEnd program sig start depth result supply
body_ends ends sig p typed plan limits program is start depth result supply begins answers =
    subst (λ (z : Program). ComesToEnd z sig start depth result supply) (sym is)
    (source_body_ends ends sig p typed plan limits start depth result supply (subst (λ (z : Program). BodyBegins z sig start result) is begins) (subst (λ (z : Program). AnswersEachAsk z sig start depth supply) is answers))
