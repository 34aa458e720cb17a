-- What each kind of step does to the view of the desk that makes it, and to how numbers stand.
use Rattle.std.specs.Prelude.{not, Bool, true, false, ◌==◌, ◌||◌, ◌-◌, ◌+◌, ◌++◌, ◌≡◌, map, ℕ, List, [], ◌∷◌, Option, Some, None, if◌then◌else◌}
use Rattle.std.specs.List.{filter}
use Rattle.chord_base.specs.declared.event.Entry.{Entry}
use Rattle.chord_base.specs.declared.event.What.{What}
use Rattle.chord_base.specs.declared.event.What.TheVariants.{Sent, Called, Fired}
use Rattle.chord_base.specs.declared.value.Object.{Object}
use Rattle.chord_base.specs.declared.value.Value as value
use Rattle.chord_base.specs.Messages.{has}
use Rattle.chord_word.specs.declared.cells.Cell.{Cell}
use Rattle.chord_word.specs.declared.cells.Cell.TheVariants as a_cell
use Rattle.chord_word.specs.declared.cells.Word.{Word}
use Rattle.chord_rule.specs.declared.view.Claim.{Claim}
use Rattle.chord_rule.specs.declared.view.View.{View}
use Rattle.chord_rule.specs.Bags.{head_number}
use Rattle.chord_rule.specs.Claims.{fired_with}
use Rattle.chord_rule.specs.Duties.{duty_on, drop_duty, reset_duty, start_walk, move_duty}
use Rattle.chord_rule.specs.Ways.{way_begun, on_way}
use Rattle.chord_rule.specs.Stages.{Fresh, Claiming, Unposted, Stage, InHand}
use Rattle.chord_base.specs.Meaning.{Program}
use Rattle.chord_rule.specs.declared.view.Looked.{Looked}
use Rattle.chord_base.specs.Story.{kept, together, IsTold}

-- ## Views

-- whether the number is that of one of these entries
abbrev pub is_among : List Entry → ℕ → Bool
is_among [] n = false
is_among (e ∷ es) n = (e.number == n) || is_among es n

-- a message begins a cell of its own
abbrev pub fresh_after : ℕ → What → List ℕ → List ℕ
fresh_after x (Sent o j vs) xs = x ∷ xs
fresh_after x (Called o j vs) xs = x ∷ xs
fresh_after x _ xs = xs

-- the entry of this number, of this body, which says this
abbrev pub entry : ℕ → ℕ → What → Entry
entry x body what = record { number = x; body = body; what = what }

-- the desk drew the new entry, and keeps it, the newest first
abbrev pub drew : View → ℕ → ℕ → What → View
drew v x body what = record v { kept = entry x body what ∷ v.kept; draws = entry x body what ∷ v.draws; fresh = fresh_after x what v.fresh; drawn = true }

-- the desk was told that the limit is reached
abbrev pub was_told : View → View
was_told v = record v { spent = true }

-- nothing was looked at
abbrev pub nothing_looked : Looked
nothing_looked = record { count = None; heads = []; seen = []; ways = [] }

-- a desk that keeps nothing and has nothing in hand
abbrev pub newcomer : View
newcomer = record { kept = []; draws = []; fresh = []; placing = None; flight = None; above = None; bag = 0; claims = []; emptying = None; unposted = []; posting = None; starting = None; duties = []; looked = nothing_looked; first = false; gone = false; drawn = false; spent = false; lent = 0; splits = 0 }

-- a desk that was joined into the first
abbrev pub gone : View
gone = record newcomer { spent = true; gone = true }

-- the first desk at the start
abbrev pub newcomer_first : View
newcomer_first = record newcomer { first = true }

-- these numbers without x
abbrev pub without : ℕ → List ℕ → List ℕ
without x = filter (λ y. not (y == x))

-- of what is kept, the entries that stay where these go
abbrev pub left_by : List Entry → List Entry → List Entry
left_by ps = kept (λ n. not (is_among ps n))

-- these entries may go: what goes and what stays are told
pub record MayGo (p : Program) (es ps : List Entry) : Type 0 where
  pub part : kept (is_among ps) es ≡ ps
  pub goes : IsTold p ps
  pub stays : IsTold p (left_by ps es)

-- a message was claimed
abbrev pub claimed : View → Claim → View
claimed v c = record v { claims = c ∷ v.claims }

-- a firing was drawn with the claims on these members
abbrev pub firing_drawn : View → ℕ → ℕ → Object → List ℕ → List value.Value → View
firing_drawn v f k o ms vs = record v { kept = entry f f (Fired k o ms vs) ∷ v.kept; draws = entry f f (Fired k o ms vs) ∷ v.draws; claims = fired_with f ms v.claims; unposted = f ∷ v.unposted; drawn = true }

-- the place word of a message was set, and its slot came out
abbrev pub address_set : View → ℕ → View
address_set v i = record v { fresh = without i v.fresh; placing = Some i }

-- it was linked in this bag above this message, and these entries went with its parcel
abbrev pub flown : View → ℕ → ℕ → Option ℕ → List Entry → View
flown v i k above ps = record v { kept = left_by ps v.kept; placing = None; flight = Some i; bag = k; above = above }

-- it was armed
abbrev pub armed : View → ℕ → View
armed v i = record v { flight = None; above = None; duties = duty_on i v.bag ∷ v.duties }

-- these claims without those on i
abbrev pub drop_claim : ℕ → List Claim → List Claim
drop_claim i = filter (λ c. not (c.number == i))

-- a claim was given back
abbrev pub unclaimed : View → ℕ → View
unclaimed v i = record v { claims = drop_claim i v.claims }

-- a message was consumed, and these entries came with its parcel
abbrev pub consumed : View → ℕ → List Entry → View
consumed v i ps = record v { kept = together v.kept ps; claims = drop_claim i v.claims; emptying = Some i; duties = drop_duty i v.duties }

-- its slot is home again
abbrev pub emptied : View → View
emptied v = record v { emptying = None }

-- the slot of a firing came out
abbrev pub posting : View → ℕ → View
posting v f = record v { unposted = without f v.unposted; posting = Some f }

-- the firing was posted, and these entries went with its parcel
abbrev pub posted : View → List Entry → View
posted v ps = record v { kept = left_by ps v.kept; posting = None }

-- a firing was started, and these entries came with its parcel
abbrev pub firing_started : View → ℕ → List Entry → View
firing_started v f ps = record v { kept = together v.kept ps; starting = Some f }

-- its slot is home again
abbrev pub played : View → View
played v = record v { starting = None }

-- the first desk lent one
abbrev pub lent_one : View → View
lent_one v = record v { lent = v.lent + 1; splits = v.splits + 1 }

-- the first desk took over what another desk has, and what that one was told of the limit
abbrev pub united : View → View → View
united v w = record v { kept = together v.kept w.kept; draws = together v.draws w.draws; fresh = v.fresh ++ w.fresh; unposted = v.unposted ++ w.unposted; spent = v.spent || w.spent; lent = v.lent - 1; looked = nothing_looked; duties = map reset_duty (v.duties ++ w.duties) }

-- whether a message with this cell stands no longer: it is consumed or woken
abbrev pub is_down : Cell → Bool
is_down a_cell.Consumed = true
is_down (a_cell.Woken q) = true
is_down _ = false

-- what the desk read or wrote in the counter is remembered
abbrev pub saw_count : View → ℕ → View
saw_count v c = record v { looked = record v.looked { count = Some c } }

-- what it read or wrote in the head k is remembered
abbrev pub saw_head : View → ℕ → Option ℕ → View
saw_head v k x = record v { looked = record v.looked { heads = record { head = k; message = x } ∷ v.looked.heads } }

-- what it read or wrote in the cell i is remembered
abbrev pub saw : View → ℕ → Word → View
saw v i c = record v { looked = record v.looked { seen = record { number = i; word = c } ∷ v.looked.seen } }

-- a look at the head of the bag k, in which these messages had been linked, starts its walks, and a way
abbrev pub looked_head : View → ℕ → List ℕ → Option ℕ → View
looked_head v k linked h = record v { duties = map (start_walk k h) v.duties; looked = record v.looked { heads = record { head = head_number k; message = h } ∷ v.looked.heads; ways = way_begun k linked h ∷ v.looked.ways } }

-- a look at the cell i moves the walks that have come to it, where it does not stand, and goes on the newest way
abbrev pub looked_cell : View → ℕ → Word → View
looked_cell v i c = record v { duties = if is_down c.cell then map (move_duty i c.next) v.duties else v.duties; looked = record v.looked { seen = record { number = i; word = c } ∷ v.looked.seen; ways = on_way i c v.looked.ways } }

-- the duty on i is laid down
abbrev pub rested : View → ℕ → View
rested v i = record v { duties = drop_duty i v.duties }

-- the caller q was woken by i
abbrev pub woke : View → ℕ → ℕ → View
woke v q i = record v { duties = drop_duty q (drop_duty i v.duties) }

-- the caller q is pending again
abbrev pub rearmed : View → (q kq i ki : ℕ) → View
rearmed v q kq i ki = record v { duties = duty_on q kq ∷ duty_on i ki ∷ v.duties }

-- ## How numbers stand

-- an entry of this number was drawn, which is no firing
abbrev pub drawn_stage : ℕ → ℕ → What → (ℕ → Stage) → ℕ → Stage
drawn_stage id n (Sent o j vs) stage i = if i == n then InHand id Fresh else stage i
drawn_stage id n (Called o j vs) stage i = if i == n then InHand id Fresh else stage i
drawn_stage id n _ stage i = stage i

-- a claim has the firing that was drawn with it
abbrev pub fired_claim : ℕ → Stage → Stage
fired_claim f (InHand j (Claiming c)) = InHand j (Claiming (record c { firing = Some f }))
fired_claim f s = s

-- a firing of this number was drawn with these members
abbrev pub fired_stage : ℕ → ℕ → List ℕ → (ℕ → Stage) → ℕ → Stage
fired_stage id f ms stage i = if i == f then InHand id Unposted else if has i ms then fired_claim f (stage i) else stage i

-- what desk `other` has in hand, desk `id` has
abbrev pub heir : ℕ → ℕ → Stage → Stage
heir id other (InHand j x) = InHand (if j == other then id else j) x
heir id other s = s
