-- The code of the tests is sound: its `Main` ends at once.
use Rattle.std.proofs.Common.{◌≡◌, ℕ, zero, suc, ◌<◌, false, List, [], ◌∷◌, Option, Some, None, refl, sym, ap, subst}
use Rattle.std.proofs.lemmas.Bool.{eq-eqb}
use Rattle.chord_base.specs.declared.value.Value.TheVariants as a_value
use Rattle.chord_base.specs.declared.event.End.TheVariants.{Gives}
use Rattle.chord_base.specs.declared.event.Entry.{Entry}
use Rattle.chord_base.specs.declared.event.Limits.{Limits}
use Rattle.chord_base.specs.declared.event.What.{What}
use Rattle.chord_base.specs.declared.event.What.TheVariants.{Begun, Made, Sent, Called, Printed, Fired, Ended}
use Rattle.chord_base.specs.declared.static_type.StaticType.{StaticType}
use Rattle.chord_base.specs.Machine.{IsPast}
use Rattle.chord_base.specs.Meaning.{Start, Main, Chord}
use Rattle.chord_base.specs.Messages.{Message, message_of}
use Rattle.chord_base.specs.Story.{HasKind}
use Rattle.chord_base.specs.Types.{Signatures, Has}
use Rattle.chord_code.specs.Machine.{IsForward, fetch}
use Rattle.chord_code.specs.declared.parts.Parts.{Parts}
use Rattle.chord_code.specs.Meaning.{code_program, begins}
use Rattle.chord_code.specs.Plays.{Play, EndsBody, GoesWrong, Good, Plays}
use Rattle.chord_code.specs.Runs.{AreLocal, IsPlan}
use Rattle.chord_code.specs.Sound.{IsSoundCode, NamesMethod}
use Rattle.chord_code.proofs.Sound.{all_good, all_defined}
use Rattle.chord_code.specs.declared.instruction.Instruction.TheVariants as instr

-- a code without classes, whose `Main` ends at once
abbrev pub ending : Parts
ending = record { classes = []; blocks = record { slots = 1; instructions = instr.End ∷ [] } ∷ [] }

-- no class has a method
abbrev no_methods : Signatures
no_methods = record { methods = λ c j. None; builders = λ c. None; derives = λ c d. false }

-- what `Main` does
abbrev plays : Start → ℕ → Play
plays Main d = EndsBody (Gives a_value.Unit)
plays (Chord k o vs) d = GoesWrong

-- `Main` begins so
abbrev fits : Start → Option StaticType → Type 0
fits Main r = r ≡ None
fits (Chord k o vs) r = ⊥

-- the jumps of the code go forward, but for those of loops
forward : IsForward ending
forward = record { jumps = λ b p a e. no_jump b p a e; skips = λ b p a e. no_skip b p a e; inits = λ b p c k n e f. no_init b p c e }
  where
    no_jump : (b p a : ℕ) → fetch ending b p ≡ Some (instr.Jump a) → p < a
    no_jump zero zero a e = absurd (cc)
    no_jump zero (suc p) a e = absurd (cc)
    no_jump (suc b) p a e = absurd (cc)

    no_skip : (b p a : ℕ) → fetch ending b p ≡ Some (instr.Skip a) → p < a
    no_skip zero zero a e = absurd (cc)
    no_skip zero (suc p) a e = absurd (cc)
    no_skip (suc b) p a e = absurd (cc)

    no_init : (b p c : ℕ) {k : ℕ} → fetch ending b p ≡ Some (instr.Init c) → k < b
    no_init zero zero c e = absurd (cc)
    no_init zero (suc p) c e = absurd (cc)
    no_init (suc b) p c e = absurd (cc)

-- a body of the code that begins as it may does what its play says, which is good
local : (limits : Limits) → AreLocal ending limits no_methods plays fits
local limits = record { plays = go }
  where
    go : (s : Start) (d : ℕ) (r : Option StaticType) → fits s r → Good no_methods r (plays s d) × Plays ending (plays s d) (begins ending limits s d)
    go Main d r f = (subst (λ (y : Option StaticType). Has no_methods y a_value.Unit) (sym f) tt, (_, record { count = 1; by = refl }))
    go (Chord k o vs) d r f = absurd f

-- `Main` begins as it may, and no chord fires
plan : (limits : Limits) → IsPlan ending limits no_methods plays fits
plan limits = record { main = refl; fired = λ h n k o ms vs a all f. absurd (let z = f.1 in cc) }

-- the code is sound
pub ending_is_sound : IsSoundCode ending
ending_is_sound limits some low = record {
  sound = record {
    is_defined = λ h b r. all_defined ending forward limits no_methods plays fits (local limits) (plan limits) h b r;
    kinds = λ h e r. kind h e e.what refl r;
  };
  methods = λ h e r. method h e e.what refl r;
}
  where
    -- no entry sends a message
    silent : (h : List Entry) (e : Entry) (m : Message) → IsPast (code_program ending limits) (e ∷ h) → message_of e.what ≡ Some m → ⊥
    silent h e m r says = let good = all_good ending forward limits no_methods plays fits (local limits) (plan limits) (e ∷ h) r in let t = good.messages e.number m (rw (eq-eqb e.number e.number refl) says) in let z = t.found in cc

    kind : (h : List Entry) (e : Entry) (w : What) → e.what ≡ w → IsPast (code_program ending limits) (e ∷ h) → HasKind (code_program ending limits) e.what
    kind h e (Sent o j vs) is r = absurd (silent h e _ r (ap message_of is))
    kind h e (Called o j vs) is r = absurd (silent h e _ r (ap message_of is))
    kind h e Begun is r = subst (HasKind (code_program ending limits)) (sym is) tt
    kind h e (Made c) is r = subst (HasKind (code_program ending limits)) (sym is) tt
    kind h e (Printed t) is r = subst (HasKind (code_program ending limits)) (sym is) tt
    kind h e (Fired k o ms vs) is r = subst (HasKind (code_program ending limits)) (sym is) tt
    kind h e (Ended x) is r = subst (HasKind (code_program ending limits)) (sym is) tt

    method : (h : List Entry) (e : Entry) (w : What) → e.what ≡ w → IsPast (code_program ending limits) (e ∷ h) → NamesMethod ending e.what
    method h e (Sent o j vs) is r = absurd (silent h e _ r (ap message_of is))
    method h e (Called o j vs) is r = absurd (silent h e _ r (ap message_of is))
    method h e Begun is r = subst (NamesMethod ending) (sym is) tt
    method h e (Made c) is r = subst (NamesMethod ending) (sym is) tt
    method h e (Printed t) is r = subst (NamesMethod ending) (sym is) tt
    method h e (Fired k o ms vs) is r = subst (NamesMethod ending) (sym is) tt
    method h e (Ended x) is r = subst (NamesMethod ending) (sym is) tt
