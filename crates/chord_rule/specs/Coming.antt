-- What comes to a desk, and what the desk keeps: places of one run.
use Rattle.std.specs.Prelude.{◌≡◌, ◌≢◌, ℕ, true, false, List, Some, None}
use Rattle.chord_base.specs.Meaning.{Program}
use Rattle.chord_base.specs.Messages.{IsCall}
use Rattle.chord_base.specs.Bodies.{doing}
use Rattle.chord_base.specs.Story.{IsIn, IsMerged}
use Rattle.chord_base.specs.declared.event.Entry.{Entry}
use Rattle.chord_rule.specs.declared.view.Claim.{Claim}
use Rattle.chord_rule.specs.Parcels.{BeginsThere, IsParkedThere}

-- a run is kept in places, one of which keeps these entries
pub record IsPlace (p : Program) (es : List Entry) : Type 0 where
  pub run : List Entry
  pub view : ℕ → List Entry
  pub merged : IsMerged p view run
  pub place : ℕ
  pub is : view place ≡ es

-- a run is kept in places, two of which keep these entries and those
pub record ArePlaces (p : Program) (es fs : List Entry) : Type 0 where
  pub run : List Entry
  pub view : ℕ → List Entry
  pub merged : IsMerged p view run
  pub place : ℕ
  pub other : ℕ
  pub apart : place ≢ other
  pub is : view place ≡ es
  pub other_is : view other ≡ fs

-- these entries come with the parcel of a claimed message to a desk that keeps those: each body among them that has not ended waits for the message, or for a call that one of them serves; a call comes with its own entry, and no other message with an entry of a call of its number
pub record ComesWithMessage (p : Program) (kept : List Entry) (c : Claim) (es : List Entry) : Type 0 where
  pub places : ArePlaces p kept es
  pub parked : (b : ℕ) → BeginsThere b es → IsParkedThere p es (Some c.number) (doing p es b)
  pub call : p.is_sync c.object.class c.method ≡ true → (e : Entry) × IsIn e es × IsCall c.number e
  pub sent : p.is_sync c.object.class c.method ≡ false → (e : Entry) → IsIn e es → IsCall c.number e → ⊥

-- these entries come with the parcel of a ready firing to a desk that keeps those: the firing's entry, as the only one of its body, and bodies that have ended or wait for a call that one of them serves
pub record ComesWithFiring (p : Program) (kept : List Entry) (f : ℕ) (es : List Entry) : Type 0 where
  pub places : ArePlaces p kept es
  pub begins : BeginsThere f es
  pub only : (e : Entry) → IsIn e es → e.body ≡ f → e.number ≡ f
  pub parked : (b : ℕ) → (b ≡ f → ⊥) → BeginsThere b es → IsParkedThere p es None (doing p es b)
