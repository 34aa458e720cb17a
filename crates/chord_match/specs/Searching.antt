-- What is known while a chord is looked for.
use Rattle.std.specs.Prelude.{◌≡◌, ◌≢◌, ◌⊎◌, ℕ, ◌<◌, true, List, ◌++◌, length, slice_get, slice_index_or, Option, Some, None}
use Rattle.chord_base.specs.Messages.{has}
use Rattle.chord_base.specs.declared.value.Object.{Object}
use Rattle.chord_rule.specs.declared.view.View.{View}
use Rattle.chord_rule.specs.declared.view.Duty.{Duty}
use Rattle.chord_rule.specs.Duties.{HasDuty}
use Rattle.chord_rule.specs.Made.{key}
use Rattle.chord_rule.specs.Looks.{HasSeen}
use Rattle.chord_rule.specs.Ways.{IsAloneDesk, KnowsBag}
use Rattle.chord_bag.specs.declared.walk.Sought.{Sought}
use Rattle.chord_bag.specs.declared.walk.Sought.TheVariants.{Found, Bare, Busy}
use Rattle.chord_bag.specs.Reads.{AllAt}
use Rattle.chord_bag.specs.Seeking.{IsSoughtBelow}
use Rattle.chord_match.specs.declared.search.Own.{Own}
use Rattle.chord_match.specs.declared.search.Pick.{Pick}
use Rattle.chord_match.specs.declared.search.Pick.TheVariants as a_pick
use Rattle.chord_match.specs.declared.search.Step.{Step}
use Rattle.chord_match.specs.declared.search.Step.TheVariants as a_step
use Rattle.chord_match.specs.declared.search.Verdict.{Verdict}
use Rattle.chord_match.specs.declared.search.Verdict.TheVariants as a_verdict
use Rattle.chord_match.specs.Seen.{Grows, HasSought, bags_of, Answered, MayBeClaimed, MayAllBeClaimed, IsMember, AreMatched}

-- what an answer for the bag k, which was given since v, still says now
abbrev pub SaysOf : View → View → ℕ → Sought → Type 0
SaysOf v w k (Found i next) = HasSeen w i next × KnowsBag w i k
SaysOf v w k Bare = AllAt k None w.duties
SaysOf v w k (Busy i) = IsAloneDesk v → ⊥

-- the bag k was sought since v, with this answer
pub record WasTold (n : ℕ) (v w : View) (k : ℕ) (s : Sought) : Type 0 where
  pub answered : Answered v w k s
  pub says : SaysOf v w k s
  pub below : IsSoughtBelow n s

-- so if there is an answer
abbrev pub WasToldIf : ℕ → View → View → ℕ → Option Sought → Type 0
WasToldIf n v w k None = Unit {0}
WasToldIf n v w k (Some s) = WasTold n v w k s

-- the own message was seen, and since v these bags were sought
pub record Searching (n : ℕ) (v u : View) (o : Object) (own : Own) (known : List (Option Sought)) : Type 0 where
  pub sought : HasSought v u
  -- each bag that was sought is that of a method, and something is known of it
  pub listed : (k : ℕ) → has k (bags_of sought.grows.ways) ≡ true → (q : ℕ) × (s : Sought) × (k ≡ key o q) × (slice_index_or known q None ≡ Some s) × (q < 16)
  pub read : HasSeen v own.message own.next
  pub below : own.message < n
  pub next_below : (x : ℕ) → own.next ≡ Some x → x < n
  pub duty : (d : Duty) × HasDuty d u.duties × (d.message ≡ own.message) × (d.bag ≡ key o own.method)
  pub cached : (q : ℕ) → WasToldIf n v u (key o q) (slice_index_or known q None)

-- what was known still is
abbrev pub KeepsKnown : List (Option Sought) → List (Option Sought) → Type 0
KeepsKnown known known' = (q : ℕ) (s : Sought) → slice_index_or known q None ≡ Some s → slice_index_or known' q None ≡ Some s

-- the search goes on, and more is known
pub record Moves (n : ℕ) (v u w : View) (o : Object) (own : Own) (known known' : List (Option Sought)) : Type 0 where
  pub stands : Searching n v w o own known'
  pub grows : Grows u w
  pub kept : KeepsKnown known known'

-- and the bag of the method j was sought, with this answer
pub record MovesTo (n : ℕ) (v u w : View) (o : Object) (own : Own) (j : ℕ) (known known' : List (Option Sought)) (s : Sought) : Type 0 where
  pub moves : Moves n v u w o own known known'
  pub tells : WasTold n v w (key o j) s
  pub here : slice_index_or known' j None ≡ Some s

-- so for whatever search had come to the view u, and of the other bags no more is known
pub record Learned (n : ℕ) (u w : View) (o : Object) (j : ℕ) (known known' : List (Option Sought)) (s : Sought) : Type 0 where
  pub told : (v : View) (own : Own) → Searching n v u o own known → MovesTo n v u w o own j known known' s
  pub others : (q : ℕ) → q ≢ j → slice_index_or known' q None ≡ slice_index_or known q None

-- what is known more is of the bag of the method j, which is another one than the own
abbrev pub LearnsAt : Own → ℕ → (known known' : List (Option Sought)) → Type 0
LearnsAt own j known known' = (q : ℕ) → (slice_index_or known' q None ≡ slice_index_or known q None) ⊎ ((q ≡ j) × (q ≢ own.method))

-- what is known more is of the bags of these methods, other ones than the own
abbrev pub LearnsOf : Own → List ℕ → (known known' : List (Option Sought)) → Type 0
LearnsOf own js known known' = (q : ℕ) → (slice_index_or known' q None ≡ slice_index_or known q None) ⊎ ((has q js ≡ true) × (q ≢ own.method))

-- what a walk came to, as a pick
abbrev pub pick_of : Sought → Pick
pick_of (Found i next) = a_pick.Take i next
pick_of Bare = a_pick.Stuck None
pick_of (Busy i) = a_pick.Stuck (Some i)

-- there is no member for the method j: its bag was bare, or a message was in another hand
abbrev pub IsStuckAt : Own → ℕ → List (Option Sought) → Option ℕ → Type 0
IsStuckAt own j known None = (j ≢ own.method) × (slice_index_or known j None ≡ Some Bare)
IsStuckAt own j known (Some i) = (j ≢ own.method) × (slice_index_or known j None ≡ Some (Busy i))

-- the member for the method j, or why there is none
abbrev pub IsPicked : ℕ → View → View → Object → Own → ℕ → List (Option Sought) → Pick → Type 0
IsPicked n v w o own j known (a_pick.Take i next) = IsMember v w o own.message own.method own.next j i next × MayBeClaimed n w o j i next
IsPicked n v w o own j known (a_pick.Stuck b) = IsStuckAt own j known b

-- the search went on for one method
pub record Picked (n : ℕ) (v u w : View) (o : Object) (own : Own) (j : ℕ) (known known' : List (Option Sought)) (t : Pick) : Type 0 where
  pub moves : Moves n v u w o own known known'
  pub picked : IsPicked n v w o own j known' t
  pub learns : LearnsAt own j known known'

-- so for a method whose bag was not sought: of the other bags no more is known
pub record PickedFirst (n : ℕ) (v u w : View) (o : Object) (own : Own) (j : ℕ) (known : List (Option Sought)) (t : Pick) : Type 0 where
  pub after : List (Option Sought)
  pub long : length after ≡ length known
  pub others : (q : ℕ) → q ≢ j → slice_index_or after q None ≡ slice_index_or known q None
  -- what is known to be bare more, the pick tells
  pub bare : (q : ℕ) → slice_index_or after q None ≡ Some Bare → (slice_index_or known q None ≡ Some Bare) ⊎ (t ≡ a_pick.Stuck None)
  pub picked : Picked n v u w o own j known after t

-- one of the methods has no member
abbrev pub IsStuck : Own → List ℕ → List (Option Sought) → Option ℕ → Type 0
IsStuck own js known b = (j : ℕ) × (has j js ≡ true) × IsStuckAt own j known b

-- members for these methods were added to those that there were, or one of the methods has none
abbrev pub IsGathered : ℕ → View → View → Object → Own → List ℕ → List (Option Sought) → (ms ms' : List ℕ) → (xs xs' : List (Option ℕ)) → Step → Type 0
IsGathered n v w o own js known ms ms' xs xs' a_step.All = (is : List ℕ) × (nexts : List (Option ℕ)) × (ms' ≡ ms ++ is) × (xs' ≡ xs ++ nexts) × AreMatched v w o own.message own.method own.next js is nexts × MayAllBeClaimed n w o js is nexts
IsGathered n v w o own js known ms ms' xs xs' (a_step.Stuck b) = IsStuck own js known b

-- the search went on for these methods
pub record Gathered (n : ℕ) (v u w : View) (o : Object) (own : Own) (js : List ℕ) (known known' : List (Option Sought)) (ms ms' : List ℕ) (xs xs' : List (Option ℕ)) (t : Step) : Type 0 where
  pub moves : Moves n v u w o own known known'
  pub gathered : IsGathered n v w o own js known' ms ms' xs xs' t
  pub learns : LearnsOf own js known known'

-- a bag is known to be bare only where one of the methods is stuck for it
abbrev pub TellsBare : List (Option Sought) → Step → Type 0
TellsBare known t = (q : ℕ) → slice_index_or known q None ≡ Some Bare → t ≡ a_step.Stuck None

-- the first of two messages that are in other hands
abbrev pub firstly : Option ℕ → Option ℕ → Option ℕ
firstly (Some i) more = Some i
firstly None more = more

-- each of the first so many chords with the method is stuck: all by bare bags, or i is in another hand for one of them
abbrev pub AreStuck : Own → List (List ℕ) → ℕ → List (Option Sought) → Option ℕ → Type 0
AreStuck own jss m known None = (q : ℕ) (js : List ℕ) → q < m → slice_get jss q ≡ Some js → has own.method js ≡ true → IsStuck own js known None
AreStuck own jss m known (Some i) = ((q : ℕ) (js : List ℕ) → q < m → slice_get jss q ≡ Some js → has own.method js ≡ true → (b : Option ℕ) × IsStuck own js known b)
    × ((q : ℕ) × (js : List ℕ) × (q < m) × (slice_get jss q ≡ Some js) × (has own.method js ≡ true) × IsStuck own js known (Some i))

-- no bag of these methods is known to be bare
abbrev pub NoneIsBare : List ℕ → List (Option Sought) → Type 0
NoneIsBare js known = (j : ℕ) → has j js ≡ true → slice_index_or known j None ≢ Some Bare

-- i is in another hand in the bag of one of these methods, and none is known to be bare; or one is, or no bag is known to be busy
abbrev pub IsHolder : List ℕ → List (Option Sought) → Option ℕ → Type 0
IsHolder js known None = ((j : ℕ) × (has j js ≡ true) × (slice_index_or known j None ≡ Some Bare)) ⊎ ((j i : ℕ) → has j js ≡ true → slice_index_or known j None ≢ Some (Busy i))
IsHolder js known (Some i) = ((j : ℕ) × (has j js ≡ true) × (slice_index_or known j None ≡ Some (Busy i))) × NoneIsBare js known

-- so for one of the chords with the method, or for none of them
abbrev pub IsHolding : ℕ → List (List ℕ) → List (Option Sought) → Option ℕ → Type 0
IsHolding method jss known None = (q : ℕ) (js : List ℕ) → slice_get jss q ≡ Some js → has method js ≡ true → IsHolder js known None
IsHolding method jss known (Some i) = (q : ℕ) × (js : List ℕ) × (slice_get jss q ≡ Some js) × (has method js ≡ true) × IsHolder js known (Some i)

-- each chord with the method is stuck: all by bare bags, or i is in another hand for one of them, and no bag of that one is known to be bare
abbrev pub IsWithout : Own → List (List ℕ) → List (Option Sought) → Option ℕ → Type 0
IsWithout own jss known None = AreStuck own jss (length jss) known None
IsWithout own jss known (Some i) = ((q : ℕ) (js : List ℕ) → slice_get jss q ≡ Some js → has own.method js ≡ true → (b : Option ℕ) × IsStuck own js known b)
    × ((q : ℕ) × (js : List ℕ) × (slice_get jss q ≡ Some js) × (has own.method js ≡ true) × IsStuck own js known (Some i) × NoneIsBare js known)

-- these are members of the chord of this number, or each chord with the method is stuck
abbrev pub IsVerdict : ℕ → View → View → Object → Own → List (List ℕ) → List (Option Sought) → List ℕ → List (Option ℕ) → Verdict → Type 0
IsVerdict n v w o own jss known ms xs (a_verdict.Match k) = (js : List ℕ) × (slice_get jss k ≡ Some js) × (has own.method js ≡ true) × AreMatched v w o own.message own.method own.next js ms xs × MayAllBeClaimed n w o js ms xs
IsVerdict n v w o own jss known ms xs (a_verdict.Without b) = IsWithout own jss known b

-- of each bag nothing is known, or it is that of another method, which stands in one of these chords with the own one
abbrev pub KnowsBeside : Own → List (List ℕ) → List (Option Sought) → Type 0
KnowsBeside own jss known = (q : ℕ) → (slice_index_or known q None ≡ None) ⊎ ((k : ℕ) × (js : List ℕ) × (slice_get jss k ≡ Some js) × (has own.method js ≡ true) × (has q js ≡ true) × (q ≢ own.method))

-- the search of the chords came to this verdict, and this is known of the bags
pub record IsThrough (n : ℕ) (v w : View) (o : Object) (own : Own) (jss : List (List ℕ)) (known' : List (Option Sought)) (ms : List ℕ) (xs : List (Option ℕ)) (t : Verdict) : Type 0 where
  pub stands : Searching n v w o own known'
  pub verdict : IsVerdict n v w o own jss known' ms xs t
  pub beside : KnowsBeside own jss known'
