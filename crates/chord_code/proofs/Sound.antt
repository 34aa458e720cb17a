-- In every run of a code whose bodies keep to their kinds all traces are defined.
use Rattle.std.proofs.Common.{◌≡◌, ℕ, ◌+◌, length, inl, inr, ◌==◌, List, [], ◌∷◌, Option, Some, None, refl, sym, ap, ◌∙◌, subst, arith}
use Rattle.std.proofs.lemmas.Bool.{eqb-true}
use Rattle.chord_base.specs.declared.value.Object.{Object}
use Rattle.chord_base.specs.declared.value.Value.{Value}
use Rattle.chord_base.specs.declared.event.Entry.{Entry}
use Rattle.chord_base.specs.declared.event.Limits.{Limits}
use Rattle.chord_base.specs.declared.event.What.{What}
use Rattle.chord_base.specs.declared.event.What.TheVariants.{Begun, Made, Sent, Called, Printed, Fired, Ended}
use Rattle.chord_base.specs.Meaning.{Start, Main, Chord}
use Rattle.chord_base.specs.Bodies.{Doing, Absent, Unplaced, Ready, Waits, Over, placed, begun_by, begun, served, doing}
use Rattle.chord_base.specs.Messages.{Message, maker}
use Rattle.chord_base.specs.Machine.{Comes, Fires, IsPast}
use Rattle.chord_base.specs.Story.{IsDefined, AllBelow}
use Rattle.chord_base.proofs.Waits.{either}
use Rattle.chord_base.proofs.Merged.{past_below}
use Rattle.chord_base.specs.declared.static_type.StaticType.{StaticType}
use Rattle.chord_base.specs.Types.{Signatures}
use Rattle.chord_code.specs.declared.parts.Parts.{Parts}
use Rattle.chord_code.specs.Machine.{IsForward}
use Rattle.chord_code.specs.Meaning.{code_program}
use Rattle.chord_code.specs.Plays.{Play}
use Rattle.chord_code.specs.Runs.{IsPlaying, BodyPlays, AllGood, AreLocal, IsPlan}
use Rattle.chord_code.proofs.Runs.{good_defined, playing_begins}
use Rattle.chord_code.proofs.AllGood.{own_entry, body_later, step_own}

-- what is known of a new body at each depth is known of it below the place where its caller waits
placed_good : (code : Parts) (limits : Limits) (sig : Signatures) (src : Start → ℕ → Play) (h : List Entry) (n q : ℕ) (s : Start) (d : Doing) → ((l : ℕ) → IsPlaying code limits sig src h n s l []) → BodyPlays code limits sig src h n (placed s q d)
placed_good code limits sig src h n q s (Waits s' d rs q' l) f = elim (either (q == q')) [ inl y ↦ rw y (f (l + 1)) | inr o ↦ rw o tt ]
placed_good code limits sig src h n q s (Ready s' d rs) f = tt
placed_good code limits sig src h n q s Absent f = tt
placed_good code limits sig src h n q s Unplaced f = tt
placed_good code limits sig src h n q s (Over x) f = tt

-- what is known of a new body at each depth is known of it below the maker of its call, if there is one
begun_by_good : (code : Parts) (limits : Limits) (sig : Signatures) (src : Start → ℕ → Play) (h : List Entry) (n q : ℕ) (s : Start) (b : Option ℕ) (g : ℕ → Doing) → ((l : ℕ) → IsPlaying code limits sig src h n s l []) → BodyPlays code limits sig src h n (begun_by s q b g)
begun_by_good code limits sig src h n q s None g f = tt
begun_by_good code limits sig src h n q s (Some b) g f = placed_good code limits sig src h n q s (g b) f

-- what is known of a new body at each depth is known of it as it begins, whether it serves a call or not
begun_good : (code : Parts) (limits : Limits) (sig : Signatures) (src : Start → ℕ → Play) (h : List Entry) (n : ℕ) (s : Start) (c : Option ℕ) (m : ℕ → Option ℕ) (g : ℕ → Doing) → ((l : ℕ) → IsPlaying code limits sig src h n s l []) → BodyPlays code limits sig src h n (begun s c m g)
begun_good code limits sig src h n s None m g f = f 1
begun_good code limits sig src h n s (Some q) m g f = begun_by_good code limits sig src h n q s (m q) g f

-- nothing is not a message
no_message : (m : Message) → ◌≡◌ {A = Option Message} None (Some m) → ⊥
no_message m e = cc

-- `Main` begins
step_begun : (code : Parts) (limits : Limits) (sig : Signatures) (src : Start → ℕ → Play) (fits : Start → Option StaticType → Type 0) → AreLocal code limits sig src fits → IsPlan code limits sig src fits → AllGood code limits sig src (own_entry 0 0 Begun ∷ [])
step_begun code limits sig src fits local plan =
    record {
      messages = λ q m s. elim (either (0 == q)) [ inl y ↦ absurd (no_message m (rw y at s)) | inr o ↦ absurd (no_message m (rw o at s)) ];
      bodies =
          λ x.
          elim (either (0 == x)) [
            | inl y ↦
                (let z = eqb-true 0 x y in
                rw y (subst (λ v. BodyPlays code limits sig src (own_entry 0 0 Begun ∷ []) v (Ready Main 1 [])) z (playing_begins code limits sig src fits (own_entry 0 0 Begun ∷ []) 0 Main 1 None local plan.main (inl (refl, refl)) (omega arith))))
            | inr o ↦ rw o tt
          ];
    }

-- a chord fires
step_fired : (code : Parts) (limits : Limits) (sig : Signatures) (src : Start → ℕ → Play) (fits : Start → Option StaticType → Type 0) (h : List Entry) (n k : ℕ) (o : Object) (ms : List ℕ) (vs : List Value) → AreLocal code limits sig src fits → IsPlan code limits sig src fits → AllBelow n h → n ≡ length h → AllGood code limits sig src h → Fires (code_program code limits) h k o ms vs → AllGood code limits sig src (own_entry n n (Fired k o ms vs) ∷ h)
step_fired code limits sig src fits h n k o ms vs local plan a i all f =
    let p = code_program code limits in
    let e = own_entry n n (Fired k o ms vs) in
    let r = plan.fired h n k o ms vs a all f in
    record {
      messages = λ q m s. elim (either (n == q)) [ inl y ↦ absurd (no_message m (rw y at s)) | inr g ↦ all.messages q m (rw g at s) ];
      bodies =
          λ x.
          elim (either (n == x)) [
            | inl y ↦
                (let z = eqb-true n x y in
                rw y (subst (λ v. BodyPlays code limits sig src (e ∷ h) v (begun (Chord k o vs) (served p (Fired k o ms vs)) (λ q. maker q h) (doing p h))) z
                (begun_good code limits sig src (e ∷ h) n (Chord k o vs) (served p (Fired k o ms vs)) (λ q. maker q h) (doing p h)
                (λ l. playing_begins code limits sig src fits (e ∷ h) n (Chord k o vs) l r.0 local r.1 r.2 (omega (arith, i))))))
            | inr g ↦ rw g (body_later code limits sig src e h x (doing p h x) a i (all.bodies x))
          ];
    }

-- an entry that may come next keeps all good
step_comes : (code : Parts) → IsForward code → (limits : Limits) (sig : Signatures) (src : Start → ℕ → Play) (fits : Start → Option StaticType → Type 0) (h : List Entry) (n b : ℕ) (w : What) → AreLocal code limits sig src fits → IsPlan code limits sig src fits → AllBelow n h → n ≡ length h → AllGood code limits sig src h → Comes (code_program code limits) h n b w → AllGood code limits sig src (own_entry n b w ∷ h)
step_comes code fwd limits sig src fits h n b Begun local plan a i all c =
    let z : n ≡ 0 = i ∙ ap length c.0 in
    subst (λ v. AllGood code limits sig src (own_entry v b Begun ∷ h)) (sym z)
    (subst (λ v. AllGood code limits sig src (own_entry 0 v Begun ∷ h)) (sym c.1) (subst (λ (v : List Entry). AllGood code limits sig src (own_entry 0 0 Begun ∷ v)) (sym c.0) (step_begun code limits sig src fits local plan)))
step_comes code fwd limits sig src fits h n b (Fired k o ms vs) local plan a i all c =
    subst (λ v. AllGood code limits sig src (own_entry n v (Fired k o ms vs) ∷ h)) (sym c.0) (step_fired code limits sig src fits h n k o ms vs local plan a i all c.1)
step_comes code fwd limits sig src fits h n b (Made c') local plan a i all c = step_own code fwd limits sig src h n b (Made c') c.0 a i all c.1 tt
step_comes code fwd limits sig src fits h n b (Sent o j vs) local plan a i all c = step_own code fwd limits sig src h n b (Sent o j vs) c.0 a i all c.1 tt
step_comes code fwd limits sig src fits h n b (Called o j vs) local plan a i all c = step_own code fwd limits sig src h n b (Called o j vs) c.0 a i all c.1 tt
step_comes code fwd limits sig src fits h n b (Printed t) local plan a i all c = step_own code fwd limits sig src h n b (Printed t) c.0 a i all c.1 tt
step_comes code fwd limits sig src fits h n b (Ended x) local plan a i all c = step_own code fwd limits sig src h n b (Ended x) c.0 a i all c.1 tt

-- in every run
pub all_good : (code : Parts) → IsForward code → (limits : Limits) (sig : Signatures) (src : Start → ℕ → Play) (fits : Start → Option StaticType → Type 0) → AreLocal code limits sig src fits → IsPlan code limits sig src fits → (h : List Entry) → IsPast (code_program code limits) h → AllGood code limits sig src h
all_good code fwd limits sig src fits local plan [] r = record { messages = λ q m s. absurd (no_message m s); bodies = λ x. tt }
all_good code fwd limits sig src fits local plan (e ∷ h) r =
    step_comes code fwd limits sig src fits h e.number e.body e.what local plan (past_below (code_program code limits) h e.number r.0 (omega (arith, r.1.numbered))) r.1.numbered
    (all_good code fwd limits sig src fits local plan h r.0) r.1.comes

-- the traces of every run are defined
pub all_defined : (code : Parts) → IsForward code → (limits : Limits) (sig : Signatures) (src : Start → ℕ → Play) (fits : Start → Option StaticType → Type 0) → AreLocal code limits sig src fits → IsPlan code limits sig src fits → (h : List Entry) (b : ℕ) → IsPast (code_program code limits) h → IsDefined (code_program code limits) (doing (code_program code limits) h b)
all_defined code fwd limits sig src fits local plan h b r = good_defined code fwd limits sig src h b (doing (code_program code limits) h b) ((all_good code fwd limits sig src fits local plan h r).bodies b)
