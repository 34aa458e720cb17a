-- Code that plays what a source does is sound in every run, and its runs are the source's.
use Rattle.std.proofs.Common.{◌≡◌, ℕ, List, Bool, true, false, Option, Some, refl, sym, ◌∙◌, ap, subst, slice_get, length}
use Rattle.std.proofs.lemmas.Option.{none-some}
use Rattle.chord_base.specs.declared.value.Object.{Object}
use Rattle.chord_base.specs.declared.value.Value.{Value}
use Rattle.chord_base.specs.declared.event.Entry.{Entry}
use Rattle.chord_base.specs.declared.event.Limits.{Limits}
use Rattle.chord_base.specs.declared.event.What.{What}
use Rattle.chord_base.specs.declared.event.What.TheVariants.{Begun, Made, Sent, Called, Printed, Fired, Ended}
use Rattle.chord_base.specs.declared.event.End.{End}
use Rattle.chord_base.specs.Meaning.{Program, Start}
use Rattle.chord_base.specs.Bodies.{Doing, Absent, Unplaced, Ready, Waits, Over, doing, asked}
use Rattle.chord_base.specs.Machine.{IsPast, Comes}
use Rattle.chord_base.specs.Story.{HasKind}
use Rattle.chord_base.specs.declared.static_type.StaticType.{StaticType}
use Rattle.chord_base.specs.Types.{Signature, Signatures, HaveAll}
use Rattle.chord_base.specs.Agreement.{AgreeInRuns}
use Rattle.chord_bodies.specs.Resolved.{Resolved}
use Rattle.chord_bodies.specs.Planned.{IsPlanned}
use Rattle.chord_code.specs.declared.parts.Parts.{Parts}
use Rattle.chord_code.specs.Machine.{IsForward}
use Rattle.chord_code.specs.Meaning.{code_program}
use Rattle.chord_code.specs.Plays.{Play, MakesObject, SendsMessage, CallsMethod, PrintsLine, EndsBody, GoesWrong, what_of, ask_of, left_after, Good}
use Rattle.chord_code.specs.Runs.{BodyPlays, AllGood, AreLocal, IsPlan}
use Rattle.chord_code.specs.Sound.{HasMethod, NamesMethod}
use Rattle.chord_code.proofs.Runs.{playing_asks, source_asks, message_kind}
use Rattle.chord_code.proofs.Sound.{all_good, all_defined}
use Rattle.chord_source.specs.Source.{class_methods, play_of, source_program}
use Rattle.chord_source.specs.Laws.{AreWellTyped, StartFits}
use Rattle.chord_source.specs.Sources.{IsCodeOf, IsSoundAs, SoundRuns}
use Rattle.chord_source.specs.TypedRuns.{FitsMethod}
use Rattle.chord_source.proofs.Firings.{tells_kind, firing_fits, chords_right}
use Rattle.chord_source.proofs.GoodObjects.{as_many_values}
use Rattle.chord_source.proofs.GoodPlays.{good_plays}

-- code whose bodies play good plays of a source agrees in its runs with the meaning that tells these plays' asks
agrees_in_runs : (code : Parts) → IsForward code → (limits : Limits) (sig : Signatures) (src : Start → ℕ → Play) (fits : Start → Option StaticType → Type 0) → AreLocal code limits sig src fits → IsPlan code limits sig src fits
    → (q : Program) → (code_program code limits).chords ≡ q.chords → (code_program code limits).is_sync ≡ q.is_sync → ((s : Start) (d : ℕ) (rs : List End) → q.next s d rs ≡ ask_of limits (left_after (src s d) rs)) → AgreeInRuns (code_program code limits) q
agrees_in_runs code fwd limits sig src fits local plan q chords sync next = record {
  chords = chords;
  is_sync = sync;
  next = λ h b d s rs past here.
      source_asks code fwd limits sig src h b s d rs (subst (λ (z : Doing). BodyPlays code limits sig src h b z) here ((all_good code fwd limits sig src fits local plan h past).bodies b))
      ∙ sym (next s d rs);
}

-- a call of a good play is of a synchronous method, with its arguments
call_has_kind : (sig : Signatures) (r : Option StaticType) (p : Play) (o : Object) (j : ℕ) (vs : List Value) → Good sig r p → what_of p ≡ Some (Called o j vs) → (m : Signature) × (sig.methods o.class j ≡ Some m) × (m.is_sync ≡ true) × HaveAll sig m.parameters vs
call_has_kind sig r (CallsMethod l o' j' vs' k) o j vs g e =
    let z : Called o' j' vs' ≡ Called o j vs = cc in
    let a : o' ≡ o = cc in
    let b : j' ≡ j = cc in
    let c : vs' ≡ vs = cc in
    (g.0, subst (λ (x : Object). sig.methods x.class j ≡ Some g.0) a (subst (λ x. sig.methods o'.class x ≡ Some g.0) b g.1), g.2, subst (HaveAll sig g.0.parameters) c g.3)
call_has_kind sig r (MakesObject c k) o j vs g e = (let z : Made c ≡ Called o j vs = cc in cc)
call_has_kind sig r (SendsMessage o' j' vs' p) o j vs g e = (let z : Sent o' j' vs' ≡ Called o j vs = cc in cc)
call_has_kind sig r (PrintsLine t p) o j vs g e = (let z : Printed t ≡ Called o j vs = cc in cc)
call_has_kind sig r (EndsBody x) o j vs g e = (let z : Ended x ≡ Called o j vs = cc in cc)
call_has_kind sig r GoesWrong o j vs g e = absurd g

module _ (sig : Signatures) (p : Resolved) (typed : AreWellTyped sig p) (plan : IsPlanned sig p) (code : Parts) (is : IsCodeOf code p sig) (limits : Limits) where
  -- a body that begins as it may plays what the source does, and that is good
  plays_locally : AreLocal code limits sig (play_of p limits) (StartFits sig p)
  plays_locally = record { plays = λ s d r f. (good_plays sig p typed plan limits s d r f, is.plays limits s d r f) }

  -- the code tells of a method whether its callers wait as its signature does
  tells : (k j : ℕ) (m : Signature) → sig.methods k j ≡ Some m → (code_program code limits).is_sync k j ≡ m.is_sync
  tells = tells_kind sig p plan (code_program code limits) (is.chords limits) (is.is_sync limits)

  -- the code has each method of a signature, with as many parameters
  has_method : (k j : ℕ) (m : Signature) (n : ℕ) → sig.methods k j ≡ Some m → n ≡ length m.parameters → HasMethod code k j n
  has_method k j m n e w =
      let q = plan.methods k j m e in
      let one : slice_get (class_methods (slice_get p.classes k)) j ≡ Some q.1 = ap (λ o. slice_get (class_methods o) j) q.2 ∙ q.3 in
      subst (HasMethod code k j) (q.5 ∙ sym w) (is.methods k j q.1 one)

  -- the plan is as the runs of code need it
  is_plan : IsPlan code limits sig (play_of p limits) (StartFits sig p)
  is_plan = record {
    main = refl;
    fired = λ h n k o ms vs below all f.
        firing_fits sig p plan (code_program code limits) (is.chords limits) (is.is_sync limits) h all.messages o n k ms vs below f;
  }

  -- after each run each message has its arguments, and each body does what is left of its play
  run_is_good : (h : List Entry) → IsPast (code_program code limits) h → AllGood code limits sig (play_of p limits) h
  run_is_good h past = all_good code is.forward limits sig (play_of p limits) (StartFits sig p) plays_locally is_plan h past

  -- what a good play says of a message is that it fits its method
  as_fit : (o : Object) (j : ℕ) (vs : List Value) (sync : Bool) → (m : Signature) × (sig.methods o.class j ≡ Some m) × (m.is_sync ≡ sync) × HaveAll sig m.parameters vs → FitsMethod sig sync o j vs
  as_fit o j vs sync q = record { method = q.0; found = q.1; kind = q.2; arguments = q.3 }

  -- what a body is to send is a message of an asynchronous method
  sends_next : (h : List Entry) (b : ℕ) (o : Object) (j : ℕ) (vs : List Value) (l : ℕ) (d : Doing) → BodyPlays code limits sig (play_of p limits) h b d → asked (code_program code limits) d ≡ Some (record { what = Sent o j vs; depth = l }) → FitsMethod sig false o j vs
  sends_next h b o j vs l (Ready s d rs) k e = as_fit o j vs false (message_kind sig k.kind k.play o j vs k.good (playing_asks code is.forward limits sig (play_of p limits) h b s d rs k (Sent o j vs) l e))
  sends_next h b o j vs l (Waits s d rs q l') k e = absurd (none-some _ e)
  sends_next h b o j vs l (Over x) k e = absurd (none-some _ e)
  sends_next h b o j vs l Absent k e = absurd (none-some _ e)
  sends_next h b o j vs l Unplaced k e = absurd (none-some _ e)

  -- what a body is to call is a message of a synchronous method
  calls_next : (h : List Entry) (b : ℕ) (o : Object) (j : ℕ) (vs : List Value) (l : ℕ) (d : Doing) → BodyPlays code limits sig (play_of p limits) h b d → asked (code_program code limits) d ≡ Some (record { what = Called o j vs; depth = l }) → FitsMethod sig true o j vs
  calls_next h b o j vs l (Ready s d rs) k e = as_fit o j vs true (call_has_kind sig k.kind k.play o j vs k.good (playing_asks code is.forward limits sig (play_of p limits) h b s d rs k (Called o j vs) l e))
  calls_next h b o j vs l (Waits s d rs q l') k e = absurd (none-some _ e)
  calls_next h b o j vs l (Over x) k e = absurd (none-some _ e)
  calls_next h b o j vs l Absent k e = absurd (none-some _ e)
  calls_next h b o j vs l Unplaced k e = absurd (none-some _ e)

  -- what comes next in a run has the kind of its method and as many arguments as it has parameters
  message_is_right : (h : List Entry) (n b : ℕ) (w : What) → IsPast (code_program code limits) h → Comes (code_program code limits) h n b w → HasKind (code_program code limits) w × NamesMethod code w
  message_is_right h n b Begun past a = (tt, tt)
  message_is_right h n b (Made k) past a = (tt, tt)
  message_is_right h n b (Printed t) past a = (tt, tt)
  message_is_right h n b (Fired k o ms vs) past a = (tt, tt)
  message_is_right h n b (Ended x) past a = (tt, tt)
  message_is_right h n b (Sent o j vs) past a =
      let m = sends_next h b o j vs a.0 (doing (code_program code limits) h b) ((run_is_good h past).bodies b) a.1 in
      (tells o.class j m.method m.found ∙ m.kind, has_method o.class j m.method (length vs) m.found (as_many_values sig m.method.parameters vs m.arguments))
  message_is_right h n b (Called o j vs) past a =
      let m = calls_next h b o j vs a.0 (doing (code_program code limits) h b) ((run_is_good h past).bodies b) a.1 in
      (tells o.class j m.method m.found ∙ m.kind, has_method o.class j m.method (length vs) m.found (as_many_values sig m.method.parameters vs m.arguments))

  -- the code is sound under the limits, and its runs are the source's
  sound_as : IsSoundAs code p limits
  sound_as = record {
    sound = record {
      sound = record {
        is_defined = λ h b past. all_defined code is.forward limits sig (play_of p limits) (StartFits sig p) plays_locally is_plan h b past;
        kinds = λ h e past. (message_is_right h e.number e.body e.what past.0 past.1.comes).0;
      };
      methods = λ h e past. (message_is_right h e.number e.body e.what past.0 past.1.comes).1;
    };
    one_sync = (chords_right sig p plan (code_program code limits) (is.chords limits) (is.is_sync limits)).one_sync;
    runs = agrees_in_runs code is.forward limits sig (play_of p limits) (StartFits sig p) plays_locally is_plan (source_program p limits) (is.chords limits) (is.is_sync limits) (λ s d rs. refl);
  }

-- code of a source is sound in every run, and has its runs
pub sound_runs : SoundRuns
sound_runs sig p code typed plan is limits = sound_as sig p typed plan code is limits
