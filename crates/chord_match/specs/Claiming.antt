-- Members are claimed one after another.
use Rattle.std.specs.Prelude.{◌≡◌, ◌≢◌, ℕ, zero, suc, ◌+◌, ◌-◌, ◌<◌, ◌≤◌, true, false, List, [], ◌∷◌, ◌++◌, length, reverse, take, drop, slice_get, slice_index_or, Option, Some, None}
use Rattle.chord_base.specs.Meaning.{Program}
use Rattle.chord_base.specs.Story.{AllBelow}
use Rattle.chord_base.specs.declared.event.What.TheVariants.{Fired}
use Rattle.chord_base.specs.declared.value.Object.{Object}
use Rattle.chord_base.specs.declared.value.Value as value
use Rattle.chord_word.specs.declared.cells.Cell.{Cell}
use Rattle.chord_word.specs.declared.cells.Cell.TheVariants as a_cell
use Rattle.chord_word.specs.declared.cells.Word.{Word}
use Rattle.chord_rule.specs.declared.view.Claim.{Claim}
use Rattle.chord_rule.specs.declared.view.Look.{Look}
use Rattle.chord_rule.specs.declared.view.Looked.{Looked}
use Rattle.chord_rule.specs.declared.view.View.{View}
use Rattle.chord_rule.specs.Claims.{HasThe, AreClaimed}
use Rattle.chord_rule.specs.Coming.{IsPlace}
use Rattle.chord_rule.specs.Kinds.{entry, saw, claimed, firing_drawn}
use Rattle.chord_rule.specs.Tells.{CameNext, IsNewClaim}
use Rattle.chord_match.specs.declared.claiming.Missed.{Missed}
use Rattle.chord_match.specs.declared.claiming.Missed.TheVariants.{Lost, Spent}
use Rattle.chord_match.specs.Fires.{messages_and_cells, all_with, AreLastPending, WasGone}
use Rattle.chord_match.specs.Seen.{AreSeen}

-- the desk has claimed i, for this object and method and for no firing yet
abbrev pub ClaimAt : List Claim → Object → ℕ → ℕ → Type 0
ClaimAt cs o j i = (c : Claim) × HasThe c cs × (c.number ≡ i) × (c.object ≡ o) × (c.method ≡ j) × (c.firing ≡ None)

-- the first so many members are claimed, all different, and the others may be
pub record Taking (n : ℕ) (p : Program) (v : View) (o : Object) (chord : ℕ) (ms : List ℕ) (xs : List (Option ℕ)) (at : ℕ) : Type 0 where
  pub seen : AreSeen n p v o chord ms xs
  pub most : at ≤ length ms
  pub claimed : (q : ℕ) → q < at → ClaimAt v.claims o (slice_index_or seen.methods q 0) (slice_index_or ms q 0)
  pub apart : (q r : ℕ) → q < r → r < at → slice_index_or ms q 0 ≢ slice_index_or ms r 0
  pub many : length v.claims ≡ at
  pub room : v.spent ≡ false

-- the member of the place k was claimed from the view u, which left the view w
pub record WasClaimed (n : ℕ) (p : Program) (u w : View) (o : Object) (chord : ℕ) (ms : List ℕ) (xs : List (Option ℕ)) (k : ℕ) : Type 0 where
  pub taking : Taking n p u o chord ms xs k
  pub low : k < length ms
  pub claim : Claim
  pub new : IsNewClaim u (slice_index_or ms k 0) (slice_index_or xs k None) claim
  pub word : Word
  pub written : word.cell ≡ a_cell.Claimed
  pub becomes : w ≡ saw (claimed u claim) (slice_index_or ms k 0) word

-- from the view v the first so many members were claimed one after another, up to the view w
abbrev pub WereClaimed : ℕ → Program → View → Object → ℕ → List ℕ → List (Option ℕ) → ℕ → View → Type 0
WereClaimed n p v o chord ms xs zero w = w ≡ v
WereClaimed n p v o chord ms xs (suc k) w = (u : View) × WereClaimed n p v o chord ms xs k u × WasClaimed n p u w o chord ms xs k

-- the desk with other claims and looks
abbrev pub with_claims : View → List Claim → Looked → View
with_claims v cs l = record v { claims = cs; looked = l }

-- the firing was drawn with claims on exactly the members
pub record IsDrawn (p : Program) (v w : View) (o : Object) (chord : ℕ) (ms : List ℕ) (f : ℕ) : Type 0 where
  pub claims : List Claim
  pub methods : List ℕ
  pub values : List value.Value
  pub is_chord : slice_get (p.chords o.class) chord ≡ Some methods
  pub claimed : AreClaimed claims o methods ms values
  pub many : length claims ≡ length ms
  pub apart : (q r : ℕ) → q < r → r < length ms → slice_index_or ms q 0 ≢ slice_index_or ms r 0
  pub below : AllBelow f v.kept
  pub came : CameNext p (entry f f (Fired chord o ms values))
  pub place : IsPlace p (entry f f (Fired chord o ms values) ∷ v.kept)
  pub drawn : w ≡ firing_drawn (with_claims v claims w.looked) f chord o ms values

-- all members were claimed in order and each once, the firing f was drawn, and nothing else was looked at
pub record TookInOrder (v w : View) (ms : List ℕ) (f : ℕ) : Type 0 where
  pub looks : List Look
  pub remembered : w.looked ≡ record v.looked { seen = looks ++ v.looked.seen; count = Some (f + 1) }
  pub in_order : messages_and_cells looks ≡ all_with a_cell.Claimed (reverse ms)

-- the members from this place up to below that one
abbrev pub members_from : ℕ → ℕ → List ℕ → List ℕ
members_from at end ms = take (end - at) (drop at ms)

-- by these looks, the newest first, these members were claimed in order, then came `rest`, and then they were given back, the last one first
abbrev pub WentAndCame : List ℕ → List (ℕ × Cell) → List Look → Type 0
WentAndCame is rest ls = messages_and_cells ls ≡ all_with a_cell.Pending is ++ (rest ++ all_with a_cell.Claimed (reverse is))

-- the desk as it was, but for what it read and wrote, and that it was told
abbrev pub missed_by : View → Missed → Looked → View
missed_by v (Lost i) l = record v { looked = l }
missed_by v Spent l = record v { looked = l; spent = true }

-- the member i, at place `at` or behind it, was gone at the last of these looks at it; by them the members from `at` up to before it were claimed in header order, and given back, the last one first
pub record IsGoneFrom (n : ℕ) (ms : List ℕ) (at : ℕ) (ls : List Look) (i : ℕ) : Type 0 where
  pub place : ℕ
  pub from : at ≤ place
  pub low : place < length ms
  pub is : i ≡ slice_index_or ms place 0
  pub below : i < n
  pub read : WasGone i ls
  pub cell : Cell
  pub gone : cell ≢ a_cell.Pending
  pub in_order : WentAndCame (members_from at place ms) ((i, cell) ∷ []) ls

-- from place `at` on members were claimed and given back, up to one that was gone, or all, since the counter had passed the limit
abbrev pub IsWhy : ℕ → List ℕ → ℕ → Looked → List Look → Missed → Type 0
IsWhy n ms at l ls (Lost i) = IsGoneFrom n ms at ls i
IsWhy n ms at l ls Spent = (c : ℕ) × (n < c) × (l.count ≡ Some c) × WentAndCame (members_from at (length ms) ms) [] ls

-- no member was lost
abbrev pub IsNotLost : Missed → Type 0
IsNotLost (Lost i) = ⊥
IsNotLost Spent = Unit {0}

-- what the desk remembers, with these looks at cells more, and where it was told with this count
abbrev pub looked_by : Missed → Looked → List Look → Option ℕ → Looked
looked_by (Lost i) l ls c = record l { seen = ls ++ l.seen }
looked_by Spent l ls c = record l { seen = ls ++ l.seen; count = c }

-- nothing was fired, and what was claimed from place `at` on was given back
pub record IsMissed (n : ℕ) (v w : View) (ms : List ℕ) (xs : List (Option ℕ)) (at : ℕ) (x : Missed) : Type 0 where
  pub frame : w ≡ missed_by v x w.looked
  pub looks : List Look
  pub more : w.looked.seen ≡ looks ++ v.looked.seen
  pub why : IsWhy n ms at w.looked looks x
  pub remembered : w.looked ≡ looked_by x v.looked looks w.looked.count
  pub alone : v.first ≡ true → v.lent ≡ 0 → AreLastPending v ms xs at → IsNotLost x
