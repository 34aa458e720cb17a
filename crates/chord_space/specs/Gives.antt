-- When a desk may give a parcel away, with a message that it links or with a firing that it posts, and when it may draw a firing.
use Rattle.std.specs.Prelude.{◌≡◌, ◌⊎◌, ℕ, List, Some, None, length, slice_get}
use Rattle.chord_base.specs.declared.value.Object.{Object}
use Rattle.chord_base.specs.declared.value.Value as value
use Rattle.chord_base.specs.declared.event.Entry.{Entry}
use Rattle.chord_base.specs.Meaning.{Program}
use Rattle.chord_base.specs.Messages.{Message, message_of, IsCall}
use Rattle.chord_base.specs.Bodies.{doing}
use Rattle.chord_base.specs.Story.{IsIn}
use Rattle.chord_rule.specs.declared.view.Claim.{Claim}
use Rattle.chord_rule.specs.declared.view.View.{View}
use Rattle.chord_rule.specs.Claims.{AreClaimed}
use Rattle.chord_rule.specs.Kinds.{MayGo}
use Rattle.chord_rule.specs.Numbers.{HasNumber}
use Rattle.chord_rule.specs.Parcels.{BeginsThere, IsParkedThere}

-- a desk may link message m to the method of the object, with a parcel that keeps these entries and holds these arguments
pub record MayLink (p : Program) (v : View) (m : ℕ) (object : Object) (method : ℕ) (entries : List Entry) (arguments : List value.Value) : Type 0 where
  -- it drew the message, has not linked it, and has nothing in flight
  pub fresh : HasNumber m v.fresh
  pub idle : v.flight ≡ None
  -- it keeps the message's entry, and the parcel holds its arguments
  pub entry : Entry
  pub kept : IsIn entry v.kept
  pub numbered : entry.number ≡ m
  pub message : message_of entry.what ≡ Some (record { object = object; method = method; arguments = arguments })
  -- what goes and what stays are told
  pub goes : MayGo p v.kept entries
  -- each other message among the parcel's entries was linked
  pub others : (e : Entry) (x : Message) → IsIn e entries → message_of e.what ≡ Some x → (e.number ≡ m) ⊎ (HasNumber e.number v.fresh → ⊥)
  -- a synchronous call goes with its parcel
  pub call : (e : Entry) → IsIn e v.kept → IsCall m e → IsIn e entries
  -- each body in the parcel that has not ended waits for m, or for a call that a body of the parcel serves
  pub parked : (b : ℕ) → BeginsThere b entries → IsParkedThere p entries (Some m) (doing p entries b)

-- a desk may post firing f with a parcel that keeps these entries
pub record MayPost (p : Program) (v : View) (f : ℕ) (entries : List Entry) : Type 0 where
  -- it drew the firing, and has not posted it
  pub unposted : HasNumber f v.unposted
  -- what goes and what stays are told
  pub goes : MayGo p v.kept entries
  -- each message among the parcel's entries was linked
  pub linked : (e : Entry) (x : Message) → IsIn e entries → message_of e.what ≡ Some x → HasNumber e.number v.fresh → ⊥
  -- the parcel has the firing's entry, as the only one of its body
  pub begins : BeginsThere f entries
  pub only : (e : Entry) → IsIn e entries → e.body ≡ f → e.number ≡ f
  -- each other body in the parcel that has not ended waits for a call that a body of the parcel serves
  pub parked : (b : ℕ) → (b ≡ f → ⊥) → BeginsThere b entries → IsParkedThere p entries None (doing p entries b)

-- a desk with these claims may draw a firing of the chord of this number on the object: it has claimed exactly the members, one for each method of the chord, in header order, for no firing yet
pub record MayFire (p : Program) (claims : List Claim) (chord : ℕ) (object : Object) (members : List ℕ) : Type 0 where
  pub methods : List ℕ
  pub values : List value.Value
  pub found : slice_get (p.chords object.class) chord ≡ Some methods
  pub claimed : AreClaimed claims object methods members values
  pub exactly : length claims ≡ length members
