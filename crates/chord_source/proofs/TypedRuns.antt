-- What an entry says keeps to types, and does so after each later entry.
use Rattle.std.proofs.Common.{◌≡◌, ℕ, ◌<◌, length, true, false, List, ◌∷◌, Option, Some, subst, arith}
use Rattle.std.proofs.lemmas.Option.{same_Some}
use Rattle.chord_base.specs.declared.event.End.TheVariants.{Gives, Traps}
use Rattle.chord_base.specs.declared.event.Entry.{Entry}
use Rattle.chord_base.specs.declared.event.What.{What}
use Rattle.chord_base.specs.declared.event.What.TheVariants.{Begun, Made, Sent, Called, Printed, Fired, Ended}
use Rattle.chord_base.specs.Meaning.{Program, Start, Main, Chord}
use Rattle.chord_base.specs.Story.{AllBelow}
use Rattle.chord_base.specs.declared.static_type.StaticType.{StaticType}
use Rattle.chord_base.specs.Types.{Has, Signatures}
use Rattle.chord_code.specs.Plays.{Play, MakesObject, SendsMessage, CallsMethod, PrintsLine, EndsBody, GoesWrong, Good, what_of}
use Rattle.chord_code.specs.Runs.{IsResultType}
use Rattle.chord_code.proofs.AllGood.{result_more}
use Rattle.chord_source.specs.TypedRuns.{FitsMethod}

-- a body begins so, as it may, and is to give what is its result type
abbrev pub BeginsWell : (Start → Option StaticType → Type 0) → Program → Signatures → List Entry → ℕ → Start → Type 0
BeginsWell fits program sig h b s = (b < length h) × (r : Option StaticType) × fits s r × IsResultType program sig h b r

-- an entry of a body keeps to types: a message fits its method, a body begins as it may, and a value that the body gives has its result type
abbrev pub EntryFits : (Start → Option StaticType → Type 0) → Program → Signatures → List Entry → ℕ → What → Type 0
EntryFits fits program sig h b (Sent o j vs) = FitsMethod sig false o j vs
EntryFits fits program sig h b (Called o j vs) = FitsMethod sig true o j vs
EntryFits fits program sig h b (Ended (Gives v)) = (b < length h) × (r : Option StaticType) × IsResultType program sig h b r × Has sig r v
EntryFits fits program sig h b (Ended (Traps t)) = Unit {0}
EntryFits fits program sig h b Begun = BeginsWell fits program sig h b Main
EntryFits fits program sig h b (Made c) = Unit {0}
EntryFits fits program sig h b (Printed t) = Unit {0}
EntryFits fits program sig h b (Fired k o ms vs) = BeginsWell fits program sig h b (Chord k o vs)

-- what a good play says keeps to types
pub play_fits : (fits : Start → Option StaticType → Type 0) (program : Program) (sig : Signatures) (h : List Entry) (b : ℕ) (r : Option StaticType) (p : Play) (w : What) → b < length h → IsResultType program sig h b r → Good sig r p → what_of p ≡ Some w → EntryFits fits program sig h b w
play_fits fits program sig h b r (MakesObject c k) w l is g e = subst (EntryFits fits program sig h b) (same_Some _ _ e) tt
play_fits fits program sig h b r (SendsMessage o j vs p) w l is g e = subst (EntryFits fits program sig h b) (same_Some _ _ e) (record { method = g.0.0; found = g.0.1; kind = g.0.2; arguments = g.0.3 })
play_fits fits program sig h b r (CallsMethod room o j vs k) w l is g e = subst (EntryFits fits program sig h b) (same_Some _ _ e) (record { method = g.0; found = g.1; kind = g.2; arguments = g.3 })
play_fits fits program sig h b r (PrintsLine t p) w l is g e = subst (EntryFits fits program sig h b) (same_Some _ _ e) tt
play_fits fits program sig h b r (EndsBody (Gives v)) w l is g e = subst (EntryFits fits program sig h b) (same_Some _ _ e) (l, r, is, g)
play_fits fits program sig h b r (EndsBody (Traps t)) w l is g e = subst (EntryFits fits program sig h b) (same_Some _ _ e) tt
play_fits fits program sig h b r GoesWrong w l is g e = absurd g

-- a body that began as it may did so after one more entry
begins_later : (fits : Start → Option StaticType → Type 0) (program : Program) (sig : Signatures) (e : Entry) (h : List Entry) (b : ℕ) (s : Start) → AllBelow e.number h → e.number ≡ length h → BeginsWell fits program sig h b s → BeginsWell fits program sig (e ∷ h) b s
begins_later fits program sig e h b s a n k = (let i = k.0 in omega (arith, i), k.1, k.2, result_more program sig e h b k.1 a (let i = k.0 in omega (arith, i, n)) k.3)

-- what keeps to types does so after one more entry
pub fits_later : (fits : Start → Option StaticType → Type 0) (program : Program) (sig : Signatures) (e : Entry) (h : List Entry) (b : ℕ) (w : What) → AllBelow e.number h → e.number ≡ length h → EntryFits fits program sig h b w → EntryFits fits program sig (e ∷ h) b w
fits_later fits program sig e h b (Ended (Gives v)) a n k = (let i = k.0 in omega (arith, i), k.1, result_more program sig e h b k.1 a (let i = k.0 in omega (arith, i, n)) k.2, k.3)
fits_later fits program sig e h b (Ended (Traps t)) a n k = tt
fits_later fits program sig e h b (Sent o j vs) a n k = k
fits_later fits program sig e h b (Called o j vs) a n k = k
fits_later fits program sig e h b Begun a n k = begins_later fits program sig e h b Main a n k
fits_later fits program sig e h b (Made c) a n k = tt
fits_later fits program sig e h b (Printed t) a n k = tt
fits_later fits program sig e h b (Fired c o ms vs) a n k = begins_later fits program sig e h b (Chord c o vs) a n k
