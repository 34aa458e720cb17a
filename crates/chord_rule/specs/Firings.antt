-- Firings: a message was taken exactly where it is consumed, or claimed by a desk that has drawn the firing.
use Rattle.std.specs.Prelude.{◌≡◌, ℕ, true, List, Option, None, IsSome}
use Rattle.chord_base.specs.declared.event.Entry.{Entry}
use Rattle.chord_base.specs.Messages.{members_of, has}
use Rattle.chord_base.specs.Story.{IsIn}
use Rattle.chord_rule.specs.Stages.{Hold, Fresh, Placing, Flying, Claiming, Emptying, Unposted, Posting, Starting, Stage, Vacant, InHand, Armed, Spent, Posted, Played, taker}

-- the firing f of the history took the message i
abbrev pub TookMessage : List Entry → ℕ → ℕ → Type 0
TookMessage h f i = (e : Entry) × IsIn e h × (e.number ≡ f) × (has i (members_of e.what) ≡ true)

-- the firing that took a number which a desk has in hand
abbrev pub IsHeldFor : Hold → Option ℕ → Type 0
IsHeldFor (Claiming c) f = f ≡ c.firing
IsHeldFor Emptying f = IsSome f
IsHeldFor Fresh f = f ≡ None
IsHeldFor Placing f = f ≡ None
IsHeldFor (Flying k a) f = f ≡ None
IsHeldFor Unposted f = f ≡ None
IsHeldFor Posting f = f ≡ None
IsHeldFor Starting f = f ≡ None

-- the firing that took a number, if any, as it stands
abbrev pub IsTakenBy : Stage → Option ℕ → Type 0
IsTakenBy (InHand j x) f = IsHeldFor x f
IsTakenBy Spent f = IsSome f
IsTakenBy Vacant f = f ≡ None
IsTakenBy Armed f = f ≡ None
IsTakenBy Posted f = f ≡ None
IsTakenBy Played f = f ≡ None

-- each message was taken by the firing that its stage tells, and by no other
pub record Firings (h : List Entry) (stage : ℕ → Stage) : Type 0 where
  pub taken : (i : ℕ) → IsTakenBy (stage i) (taker i h)
