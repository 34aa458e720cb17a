-- How a number stands: what has come of the message or the firing that was drawn with it.
use Rattle.std.specs.Prelude.{ℕ, ◌==◌, List, [], ◌∷◌, Option, Some, None, if◌then◌else◌}
use Rattle.chord_base.specs.declared.event.What.{What}
use Rattle.chord_base.specs.declared.event.What.TheVariants.{Begun, Made, Sent, Called, Printed, Fired, Ended}
use Rattle.chord_base.specs.declared.event.Entry.{Entry}
use Rattle.chord_base.specs.Messages.{Message, message_of, members_of, has}
use Rattle.chord_rule.specs.declared.view.Claim.{Claim}

-- for what a desk has a number in hand
pub data Hold : Type 0 where
  -- the message was drawn, and nothing else was done
  Fresh : Hold
  -- its place word is set, and its slot is out
  Placing : Hold
  -- it is linked in this bag, above this message, and not armed
  Flying : (bag : ℕ) (above : Option ℕ) → Hold
  -- it is claimed
  Claiming : (claim : Claim) → Hold
  -- it is consumed, and its slot is out
  Emptying : Hold
  -- the firing was drawn, and nothing else was done
  Unposted : Hold
  -- its slot is out
  Posting : Hold
  -- it is started, and its slot is out
  Starting : Hold

-- how a number stands
pub data Stage : Type 0 where
  -- it was not drawn, or is neither a message's nor a firing's
  Vacant : Stage
  -- a desk has it in hand
  InHand : (desk : ℕ) (hold : Hold) → Stage
  -- the message is armed, and nobody has claimed it
  Armed : Stage
  -- it is consumed
  Spent : Stage
  -- the firing waits for somebody to start it
  Posted : Stage
  -- it is started
  Played : Stage

-- what the entry of this number says
abbrev pub said_at : ℕ → List Entry → Option What
said_at i [] = None
said_at i (e ∷ h) = if e.number == i then Some e.what else said_at i h

-- the firing that took the message of this number
abbrev pub taker : ℕ → List Entry → Option ℕ
taker i [] = None
taker i (e ∷ h) = if has i (members_of e.what) then Some e.number else taker i h

-- the message that the entry sends, if there is one
abbrev pub message_in : Option What → Option Message
message_in None = None
message_in (Some w) = message_of w

-- there is an entry, and it is a firing
abbrev pub IsFiringEntry : Option What → Type 0
IsFiringEntry None = ⊥
IsFiringEntry (Some (Fired k o ms vs)) = Unit {0}
IsFiringEntry (Some _) = ⊥

-- there is no entry, or it is neither a message nor a firing
abbrev pub IsNeither : Option What → Type 0
IsNeither None = Unit {0}
IsNeither (Some Begun) = Unit {0}
IsNeither (Some (Made c)) = Unit {0}
IsNeither (Some (Printed t)) = Unit {0}
IsNeither (Some (Ended x)) = Unit {0}
IsNeither (Some (Sent o j vs)) = ⊥
IsNeither (Some (Called o j vs)) = ⊥
IsNeither (Some (Fired k o ms vs)) = ⊥

-- the message that was claimed
abbrev pub claimed_message : Claim → Message
claimed_message c = record { object = c.object; method = c.method; arguments = c.values }
