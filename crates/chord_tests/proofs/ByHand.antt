-- What the desks of the tests by hand know after each step.
use Rattle.std.proofs.lemmas.Bool.{eq-eqb}
use Rattle.std.proofs.Common.{◌≡◌, ◌⊎◌, inl, inr, ℕ, true, false, Bool, List, [], ◌∷◌, ◌++◌, map, Option, Some, None, refl, sym, ap, ◌∙◌, subst, arith}
use Rattle.chord_base.specs.declared.event.Entry.{Entry}
use Rattle.chord_base.specs.declared.event.Limits.{Limits}
use Rattle.chord_base.specs.declared.event.What.{What}
use Rattle.chord_base.specs.declared.event.What.TheVariants.{Begun, Made, Sent, Called, Printed, Fired, Ended}
use Rattle.chord_base.specs.declared.value.Object.{Object}
use Rattle.chord_base.specs.declared.value.Value.{Value}
use Rattle.chord_base.specs.Bodies.{Doing, Absent, Asks, begun, doing, own, served}
use Rattle.chord_base.specs.Meaning.{Program, Start, Chord}
use Rattle.chord_base.specs.Messages.{IsCall, maker}
use Rattle.chord_base.specs.Story.{IsIn, IsTold, kept, together}
use Rattle.chord_code.specs.declared.parts.Parts.{Parts}
use Rattle.chord_code.specs.Meaning.{code_program}
use Rattle.chord_rule.specs.declared.view.Claim.{Claim}
use Rattle.chord_rule.specs.declared.view.Duty.{Duty}
use Rattle.chord_rule.specs.declared.view.Looked.{Looked}
use Rattle.chord_rule.specs.declared.view.View.{View}
use Rattle.chord_rule.specs.Duties.{HasDuty, duty_on}
use Rattle.chord_rule.specs.Kinds.{entry, lent_one, claimed, unclaimed, drop_claim, looked_cell, rested, drew, saw_count, saw_head, saw, flown, address_set, armed, is_among, left_by, without, fresh_after, newcomer_first}
use Rattle.chord_rule.specs.Numbers.{HasNumber}
use Rattle.chord_space.specs.Gives.{MayLink, MayPost}
use Rattle.chord_word.specs.declared.cells.Word.{Word}
use Rattle.chord_word.specs.declared.cells.Cell.{Cell}
use Rattle.chord_word.specs.declared.cells.Cell.TheVariants.{Pending, Claimed, Consumed, Woken}
use Rattle.chord_rule.specs.Claims.{HasThe}
use Rattle.chord_rule.specs.Looks.{HasLook, HasSeen}
use Rattle.chord_rule.specs.Made.{key}
use Rattle.chord_rule.specs.Tells.{a_word, IsNewClaim}
use Rattle.chord_bag.specs.declared.walk.Sought.{Sought}
use Rattle.chord_bag.specs.declared.walk.Sought.TheVariants as a_sought
use Rattle.chord_bag.specs.Reads.{with_looks, messages_and_bags}
use Rattle.chord_bag.specs.Seeking.{IsSought}
use Rattle.chord_match.specs.declared.search.Finding.{Finding}
use Rattle.chord_match.specs.declared.search.Finding.TheVariants.{Match, Left, Taken, Busy}
use Rattle.chord_match.specs.Findings.{IsFinding, IsBusyWith, read_so}
use Rattle.chord_match.specs.Seen.{HasSought, Grows, AreSeen}
use Rattle.chord_tests.specs.Pairs.{pair_code, pair_limits, pair_program, first_object, second_object, made_one, sent_x, sent_both, made_two, sent_x_apart, sent_apart, HasInHand, HoldsClaim, Owes, IsAsBefore, KeepsDuties, KeepsSeen, TakesClaim, GivesClaim, LeavesDuty, KeepsFiring, SaysFired, IsLetter}
use Rattle.chord_rule.specs.Parcels.{IsParkedThere}
use Rattle.chord_match.specs.Fires.{AreOlder, AreComing, IsComing, IsLost, IsFired, all_together, firing_entry, laid_together}
use Rattle.chord_match.proofs.Growing.{duty_on as duty_kept, seen_on, members_on, sought_grows, found_ready}

-- ## The program of a table

-- what holds of the program of the code and its limits holds of that of a table for them
pub of_table : (P : Program → Type 0) (two : Bool) (n : ℕ) (code : Parts) (limits : Limits) → code ≡ pair_code two → limits ≡ pair_limits n → P (pair_program two n) → P (code_program code limits)
of_table P two n code limits a b h = subst (λ (z : Parts × Limits). P (code_program z.0 z.1)) (λ i. (sym a i, sym b i)) h

-- `Main` first makes an object
pub asks_object : (two : Bool) (n : ℕ) → Asks (pair_program two n) (entry 0 0 Begun ∷ []) 0 (Made 0)
asks_object false n = (0, refl)
asks_object true n = (0, refl)

-- then it sends it the first message
pub asks_x : (n : ℕ) → Asks (pair_program false n) made_one 0 (Sent first_object 0 [])
asks_x n = (0, refl)

-- and the second one
pub asks_y : (n : ℕ) → Asks (pair_program false n) sent_x 0 (Sent first_object 1 [])
asks_y n = (0, refl)

-- or it makes a second object
pub asks_second : (n : ℕ) → Asks (pair_program true n) made_one 0 (Made 0)
asks_second n = (0, refl)

-- then it sends the first object the first message
pub asks_x_apart : (n : ℕ) → Asks (pair_program true n) made_two 0 (Sent first_object 0 [])
asks_x_apart n = (0, refl)

-- and the second object the second message
pub asks_y_apart : (n : ℕ) → Asks (pair_program true n) sent_x_apart 0 (Sent second_object 1 [])
asks_y_apart n = (0, refl)

-- an ask that sends no values is one of the table's program
pub may_send : (two : Bool) (n : ℕ) (code : Parts) (limits : Limits) (es held : List Entry) (o : Object) (j : ℕ) (vs : List Value) → code ≡ pair_code two → limits ≡ pair_limits n → held ≡ es → vs ≡ [] → Asks (pair_program two n) es 0 (Sent o j []) → Asks (code_program code limits) held 0 (Sent o j vs)
may_send two n code limits es held o j vs a b keeps none asks = of_table (λ (p : Program). Asks p held 0 (Sent o j vs)) two n code limits a b (subst (λ (z : List Entry × List Value). Asks (pair_program two n) z.0 0 (Sent o j z.1)) (λ i. (sym keeps i, sym none i)) asks)

-- what the desk keeps is told
pub told_made : (two : Bool) (n : ℕ) → IsTold (pair_program two n) made_one
told_made two n = ((tt, tt, refl), omega (arith), asks_object two n)

-- with the message x
pub told_x : (n : ℕ) → IsTold (pair_program false n) sent_x
told_x n = (told_made false n, omega (arith), asks_x n)

-- with both messages
pub told_both : (n : ℕ) → IsTold (pair_program false n) sent_both
told_both n = (told_x n, omega (arith), asks_y n)

-- with two objects and a message to each
pub told_apart : (n : ℕ) → IsTold (pair_program true n) sent_apart
told_apart n = (((told_made true n, omega (arith), asks_second n), omega (arith), asks_x_apart n), omega (arith), asks_y_apart n)

-- ## Draws

-- a desk at the start keeps nothing
pub holds_first : (v : View) → v ≡ newcomer_first → HasInHand v [] [] None []
holds_first v e = subst (λ (z : View). HasInHand z [] [] None []) (sym e) (record { room = refl; kept = refl; fresh_are = refl; flight_is = refl; claims_are = refl })

-- after a draw it keeps one entry more
pub holds_drew : (v w : View) (es : List Entry) (fresh : List ℕ) (flight : Option ℕ) (cs : List Claim) (x b : ℕ) (what : What) (c : ℕ) → HasInHand v es fresh flight cs → w ≡ saw_count (drew v x b what) c → HasInHand w (entry x b what ∷ es) (fresh_after x what fresh) flight cs
holds_drew v w es fresh flight cs x b what c h e = subst (λ (z : View). HasInHand z (entry x b what ∷ es) (fresh_after x what fresh) flight cs) (sym e) (record {
  room = h.room;
  kept = ap (λ (z : List Entry). entry x b what ∷ z) h.kept;
  fresh_are = ap (fresh_after x what) h.fresh_are;
  flight_is = h.flight_is;
  claims_are = h.claims_are;
})

-- ## Links and arms

-- no entry among these is a call
abbrev NoCalls : List Entry → Type 0
NoCalls [] = Unit {0}
NoCalls (e ∷ es) = ((q : ℕ) → IsCall q e → ⊥) × NoCalls es

-- so none that stands there is
none_called : (es : List Entry) → NoCalls es → (e : Entry) (q : ℕ) → IsIn e es → IsCall q e → ⊥
none_called [] quiet e q i c = absurd i
none_called (x ∷ es) quiet e q (inl t) c = quiet.0 q (subst (IsCall q) t c)
none_called (x ∷ es) quiet e q (inr t) c = none_called es quiet.1 e q t c

-- a desk may link a message that it sent, with a parcel that keeps nothing
may_add : (p : Program) (v : View) (es : List Entry) (fresh : List ℕ) (m : ℕ) (o : Object) (j : ℕ) → HasInHand v es fresh None [] → HasNumber m fresh → IsIn (entry m 0 (Sent o j [])) es → kept (is_among []) es ≡ [] → left_by [] es ≡ es → IsTold p es → NoCalls es → MayLink p v m o j [] []
may_add p v es fresh m o j h has there none left told quiet = record {
  fresh = subst (HasNumber m) (sym h.fresh_are) has;
  idle = h.flight_is;
  entry = entry m 0 (Sent o j []);
  kept = subst (IsIn (entry m 0 (Sent o j []))) (sym h.kept) there;
  numbered = refl;
  message = refl;
  goes = record { part = ap (kept (is_among [])) h.kept ∙ none; goes = tt; stays = subst (IsTold p) (sym (ap (left_by []) h.kept ∙ left)) told };
  others = λ e x is says. absurd is;
  call = λ e is call. absurd (none_called es quiet e m (subst (IsIn e) h.kept is) call);
  parked = λ b t. absurd t.1;
}

-- the beginning of `Main` is no call
begun_no_call : (q : ℕ) → IsCall q (entry 0 0 Begun) → ⊥
begun_no_call q c = let z : Begun ≡ Called c.1.0 c.1.1 c.1.2 = c.1.3 in cc

-- nor is that of an object
made_no_call : (x q : ℕ) → IsCall q (entry x 0 (Made 0)) → ⊥
made_no_call x q c = let z : Made 0 ≡ Called c.1.0 c.1.1 c.1.2 = c.1.3 in cc

-- nor that of a message which is sent
sent_no_call : (x : ℕ) (o : Object) (j q : ℕ) → IsCall q (entry x 0 (Sent o j [])) → ⊥
sent_no_call x o j q c = let z : Sent o j [] ≡ Called c.1.0 c.1.1 c.1.2 = c.1.3 in cc

-- the first desk may link x
pub may_add_x : (n : ℕ) (v : View) → HasInHand v sent_x (2 ∷ []) None [] → MayLink (pair_program false n) v 2 first_object 0 [] []
may_add_x n v h = may_add (pair_program false n) v sent_x (2 ∷ []) 2 first_object 0 h (inl refl) (inl refl) refl refl (told_x n) (sent_no_call 2 first_object 0, (made_no_call 1, (begun_no_call, tt)))

-- and y
pub may_add_y : (n : ℕ) (v : View) → HasInHand v sent_both (3 ∷ []) None [] → MayLink (pair_program false n) v 3 first_object 1 [] []
may_add_y n v h = may_add (pair_program false n) v sent_both (3 ∷ []) 3 first_object 1 h (inl refl) (inl refl) refl refl (told_both n) (sent_no_call 3 first_object 1, (sent_no_call 2 first_object 0, (made_no_call 1, (begun_no_call, tt))))

-- and x where y goes to another object
pub may_add_x_apart : (n : ℕ) (v : View) → HasInHand v sent_apart (4 ∷ 3 ∷ []) None [] → MayLink (pair_program true n) v 3 first_object 0 [] []
may_add_x_apart n v h = may_add (pair_program true n) v sent_apart (4 ∷ 3 ∷ []) 3 first_object 0 h (inr (inl refl)) (inr (inl refl)) refl refl (told_apart n) (sent_no_call 4 second_object 1, (sent_no_call 3 first_object 0, (made_no_call 2, (made_no_call 1, (begun_no_call, tt)))))

-- and then y
pub may_add_y_apart : (n : ℕ) (v : View) → HasInHand v sent_apart (4 ∷ []) None [] → MayLink (pair_program true n) v 4 second_object 1 [] []
may_add_y_apart n v h = may_add (pair_program true n) v sent_apart (4 ∷ []) 4 second_object 1 h (inl refl) (inl refl) refl refl (told_apart n) (sent_no_call 4 second_object 1, (sent_no_call 3 first_object 0, (made_no_call 2, (made_no_call 1, (begun_no_call, tt)))))

-- once it is linked the message is in flight, in its bag
pub holds_linked : (v w : View) (es : List Entry) (fresh : List ℕ) (m k : ℕ) (above : Option ℕ) (head : ℕ) → left_by [] es ≡ es → HasInHand v es fresh None [] → w ≡ saw_head (flown (address_set v m) m k above []) head (Some m) → HasInHand w es (without m fresh) (Some m) [] × (w.bag ≡ k)
holds_linked v w es fresh m k above head left h e = subst (λ (z : View). HasInHand z es (without m fresh) (Some m) [] × (z.bag ≡ k)) (sym e) (
  record { room = h.room; kept = ap (left_by []) h.kept ∙ left; fresh_are = ap (without m) h.fresh_are; flight_is = refl; claims_are = h.claims_are },
  refl,
)

-- once it is armed the desk has a duty on it
pub holds_armed : (v w : View) (es : List Entry) (fresh : List ℕ) (m k : ℕ) (flight : Option ℕ) (c : Word) → HasInHand v es fresh flight [] → v.bag ≡ k → w ≡ saw (armed v m) m c → HasInHand w es fresh None [] × Owes w m k
holds_armed v w es fresh m k flight c h bag e = subst (λ (z : View). HasInHand z es fresh None [] × Owes z m k) (sym e) (
  record { room = h.room; kept = h.kept; fresh_are = h.fresh_are; flight_is = refl; claims_are = h.claims_are },
  (duty_on m v.bag, inl refl, refl, bag),
)

-- a desk that is lent changes nothing else
pub holds_lent : (v w : View) (es : List Entry) (fresh : List ℕ) (flight : Option ℕ) (cs : List Claim) (m k : ℕ) → HasInHand v es fresh flight cs → Owes v m k → w ≡ lent_one v → HasInHand w es fresh flight cs × Owes w m k
holds_lent v w es fresh flight cs m k h d e = subst (λ (z : View). HasInHand z es fresh flight cs × Owes z m k) (sym e) (record { room = h.room; kept = h.kept; fresh_are = h.fresh_are; flight_is = h.flight_is; claims_are = h.claims_are }, d)

-- ## Looks and searches

-- looks change nothing that a desk holds
pub same_by_looks : (v w : View) → w ≡ with_looks v w.duties w.looked → IsAsBefore v w
same_by_looks v w e es fresh flight cs h = subst (λ (z : View). HasInHand z es fresh flight cs) (sym e) (record { room = h.room; kept = h.kept; fresh_are = h.fresh_are; flight_is = h.flight_is; claims_are = h.claims_are })

-- one look at a cell
pub same_by_look : (v w : View) (i : ℕ) (c : Word) → w ≡ looked_cell v i c → IsAsBefore v w
same_by_look v w i c e es fresh flight cs h = subst (λ (z : View). HasInHand z es fresh flight cs) (sym e) (record { room = h.room; kept = h.kept; fresh_are = h.fresh_are; flight_is = h.flight_is; claims_are = h.claims_are })

-- what is laid down is a duty alone
same_by_rest : (v w : View) (i : ℕ) → w ≡ rested v i → IsAsBefore v w
same_by_rest v w i e es fresh flight cs h = subst (λ (z : View). HasInHand z es fresh flight cs) (sym e) (record { room = h.room; kept = h.kept; fresh_are = h.fresh_are; flight_is = h.flight_is; claims_are = h.claims_are })

-- one change after another
same_after : (u v w : View) → IsAsBefore u v → IsAsBefore v w → IsAsBefore u w
same_after u v w a b es fresh flight cs h = b es fresh flight cs (a es fresh flight cs h)

-- a look at the message itself
same_by_read : (v : View) (m : ℕ) (c : Cell) (next : Option ℕ) → IsAsBefore v (read_so v m c next)
same_by_read v m c next = same_by_look v (read_so v m c next) m (a_word c next) refl

-- and the walks behind it
same_by_search : (v w : View) (m : ℕ) (c : Cell) (next : Option ℕ) → HasSought (read_so v m c next) w → IsAsBefore v w
same_by_search v w m c next s = same_after v (read_so v m c next) w (same_by_read v m c next) (same_by_looks (read_so v m c next) w s.grows.only.frame)

-- a desk holds after a search what it held before it
pub same_by_find : (p : Program) (n : ℕ) (v w : View) (m : ℕ) (o : Object) (method : ℕ) (ms : List ℕ) (xs : List (Option ℕ)) (r : Finding) → IsFinding p n v w m o method ms xs r → IsAsBefore v w
same_by_find p n v w m o method ms xs (Match k) f = same_by_search v w m Pending f.next f.sought
same_by_find p n v w m o method ms xs Taken f = same_after v (read_so v m Consumed f.0) w (same_by_read v m Consumed f.0) (same_by_rest (read_so v m Consumed f.0) w m f.1)
same_by_find p n v w m o method ms xs Left (inl f) = same_after v (read_so v m (Woken f.0) f.1) w (same_by_read v m (Woken f.0) f.1) (same_by_rest (read_so v m (Woken f.0) f.1) w m f.2)
same_by_find p n v w m o method ms xs Left (inr f) = same_after v f.0 w (same_by_search v f.0 m Pending f.1.next f.1.sought) (same_by_rest f.0 w m f.2)
same_by_find p n v w m o method ms xs (Busy i) f = by_one f.one
  where
    by_one : ((i ≡ m) × ((next : Option ℕ) × (w ≡ read_so v m Claimed next))) ⊎ IsBusyWith p v w m o method i → IsAsBefore v w
    by_one (inl t) = same_by_look v w m (a_word Claimed t.1.0) t.1.1
    by_one (inr t) = same_by_search v w m Pending t.next t.sought

-- its duty on the message is left where it was not laid down
pub duty_by_find : (p : Program) (n : ℕ) (v w : View) (m : ℕ) (o : Object) (method : ℕ) (ms : List ℕ) (xs : List (Option ℕ)) (r : Finding) → Owes v m (key o method) → IsFinding p n v w m o method ms xs r → LeavesDuty p n w m o method ms xs r
duty_by_find p n v w m o method ms xs (Match k) d f = (duty_kept v (read_so v m Pending f.next) w f.sought.grows m (key o method) d, f.seen)
duty_by_find p n v w m o method ms xs Taken d f = tt
duty_by_find p n v w m o method ms xs Left d f = tt
duty_by_find p n v w m o method ms xs (Busy i) d f = by_one f.one
  where
    by_one : ((i ≡ m) × ((next : Option ℕ) × (w ≡ read_so v m Claimed next))) ⊎ IsBusyWith p v w m o method i → Owes w m (key o method)
    by_one (inl t) = subst (λ (z : View). Owes z m (key o method)) (sym t.1.1) d
    by_one (inr t) = duty_kept v (read_so v m Pending t.next) w t.sought.grows m (key o method) d

-- a look at a pending message: duties and what was seen stay, and it was seen
pub duties_by_pending : (v w : View) (i : ℕ) (next : Option ℕ) → w ≡ looked_cell v i (a_word Pending next) → KeepsDuties v w
duties_by_pending v w i next e m k d = subst (λ (z : View). Owes z m k) (sym e) d

-- what was seen before one more look was seen
pub seen_by_look : (v w : View) (i : ℕ) (c : Word) → w ≡ looked_cell v i c → KeepsSeen v w
seen_by_look v w i c e j next s = subst (λ (z : View). HasSeen z j next) (sym e) (s.0, inr s.1, s.2, s.3)

-- what was read pending was seen
pub seen_pending : (v w : View) (i : ℕ) (next : Option ℕ) → w ≡ looked_cell v i (a_word Pending next) → HasSeen w i next
seen_pending v w i next e = subst (λ (z : View). HasSeen z i next) (sym e) (a_word Pending next, inl (refl, refl), tt, refl)

-- a walk changes nothing that a desk holds
pub same_by_seek : (n k : ℕ) (v w : View) (s : Sought) → IsSought n k v w s → IsAsBefore v w
same_by_seek n k v w s f = same_by_looks v w f.only.frame

-- what was seen before it was seen
pub seen_by_seek : (n k : ℕ) (v w : View) (s : Sought) → IsSought n k v w s → KeepsSeen v w
seen_by_seek n k v w s f i next h = seen_on v v w (sought_grows n k v w s f) i next h

-- and what it found
pub seen_by_found : (n k : ℕ) (v w : View) (s : Sought) → IsSought n k v w s → (i : ℕ) (next : Option ℕ) → s ≡ a_sought.Found i next → HasSeen w i next
seen_by_found n k v w s f i next e = (found_ready n k v w i next (subst (IsSought n k v w) e f)).0

-- ## Claims

-- what the desk has written or read in one cell more
pub seen_by_saw : (v u w : View) (i : ℕ) (c : Word) → u.looked ≡ v.looked → w ≡ saw u i c → KeepsSeen v w
seen_by_saw v u w i c l e j next s = subst (λ (z : View). HasSeen z j next) (sym e) (s.0, inr (subst (λ z. HasLook j s.0 z) (sym (ap (λ z. z.seen) l)) s.1), s.2, s.3)

-- duties stay
pub duties_by_saw : (v u w : View) (i : ℕ) (c : Word) → u.duties ≡ v.duties → w ≡ saw u i c → KeepsDuties v w
duties_by_saw v u w i c l e m k d = subst (λ (z : View). Owes z m k) (sym e) (d.0, subst (HasDuty d.0) (sym l) d.1, d.2, d.3)

-- a claim that failed
pub same_by_saw : (v w : View) (i : ℕ) (c : Word) → w ≡ saw v i c → IsAsBefore v w
same_by_saw v w i c e es fresh flight cs h = subst (λ (z : View). HasInHand z es fresh flight cs) (sym e) (record { room = h.room; kept = h.kept; fresh_are = h.fresh_are; flight_is = h.flight_is; claims_are = h.claims_are })

-- a claim that was made
pub takes_claim : (v w : View) (i : ℕ) (next : Option ℕ) (c : Claim) → IsNewClaim v i next c → w ≡ saw (claimed v c) i (a_word Claimed next) → TakesClaim v w i
takes_claim v w i next c new e es h = (
  c,
  subst (λ (z : View). HasInHand z es [] None (c ∷ [])) (sym e) (record { room = h.room; kept = h.kept; fresh_are = h.fresh_are; flight_is = h.flight_is; claims_are = ap (λ (z : List Claim). c ∷ z) h.claims_are }),
  new.numbered,
  new.unfired,
)

-- the claim that a desk may give back
pub may_give : (v : View) (es : List Entry) (i : ℕ) → HoldsClaim v es i → (c : Claim) × HasThe c v.claims × (c.number ≡ i) × (c.firing ≡ None)
may_give v es i h = (h.0, subst (HasThe h.0) (sym h.1.claims_are) (inl refl), h.2, h.3)

-- a claim that was given back
pub gives_claim : (v w : View) (i : ℕ) → ((c : Claim) → HasThe c v.claims → c.number ≡ i → w ≡ saw (unclaimed v i) i (a_word Pending c.next)) → GivesClaim v w i
gives_claim v w i given es h = let t = may_give v es i h in subst (λ (z : View). HasInHand z es [] None []) (sym (given t.0 t.1 t.2)) (record {
  room = h.1.room;
  kept = h.1.kept;
  fresh_are = h.1.fresh_are;
  flight_is = h.1.flight_is;
  claims_are = ap (drop_claim i) h.1.claims_are ∙ rw (eq-eqb h.0.number i h.2) refl;
})

-- ## Firings

-- an attempt that was lost made looks alone
grows_by_lost : (n : ℕ) (v w : View) (ms : List ℕ) (xs : List (Option ℕ)) (i : ℕ) → IsLost n v w ms xs i → Grows v w
grows_by_lost n v w ms xs i t = record {
  ways = [];
  looks = t.looks;
  more_ways = ap (λ (l : Looked). l.ways) t.remembered;
  more_seen = t.more;
  only = record { frame = t.same ∙ ap (λ (ds : List Duty). with_looks v ds w.looked) (sym duties); duties = ap (λ (ds : List Duty). messages_and_bags ds) duties };
}
  where
    duties : w.duties ≡ v.duties
    duties = ap (λ (z : View). z.duties) t.same

-- so the desk holds what it held, and members that it saw it has seen
pub stands_by_lost : (n : ℕ) (p : Program) (v w : View) (o : Object) (chord : ℕ) (ms : List ℕ) (xs : List (Option ℕ)) (i : ℕ) → AreSeen n p v o chord ms xs → IsLost n v w ms xs i → IsAsBefore v w × AreSeen n p w o chord ms xs
stands_by_lost n p v w o chord ms xs i s t = let g = grows_by_lost n v w ms xs i t in (same_by_looks v w g.only.frame, members_on v v w g n p o chord ms xs s)

-- a body whose call is not there, or that serves none, is not parked
not_begun : (p : Program) (es : List Entry) (m : Option ℕ) (s : Start) (c : Option ℕ) (before : ℕ → Doing) → IsParkedThere p es m (begun s c (λ q. maker q []) before) → ⊥
not_begun p es m s None before t = t
not_begun p es m s (Some q) before t = t

-- so the body of a firing whose entry stands alone is not
not_parked : (p : Program) (es : List Entry) (m : Option ℕ) (f : ℕ) (what : What) (d : Doing) → SaysFired what → IsParkedThere p es m (own p f what (λ q. maker q []) (doing p []) d) → ⊥
not_parked p es m f (Fired k o ms vs) d is t = not_begun p es m (Chord k o vs) (served p (Fired k o ms vs)) (doing p []) t
not_parked p es m f Begun d is t = is
not_parked p es m f (Made c) d is t = is
not_parked p es m f (Sent o j vs) d is t = is
not_parked p es m f (Called o j vs) d is t = is
not_parked p es m f (Printed x) d is t = is
not_parked p es m f (Ended x) d is t = is

-- the parcel of a message keeps nothing
comes_empty : (p : Program) (o : Object) (es : List Entry) (j i : ℕ) (ps : List Entry) → IsLetter ps → IsComing p o es j i ps → ps ≡ []
comes_empty p o es j i ps (inl e) c = e
comes_empty p o es j i ps (inr t) c =
    let f : ℕ = t.0 in let what : What = t.1 in
    let parked = c.4.parked f (entry f f what, subst (IsIn (entry f f what)) (sym t.2) (inl refl), refl, refl) in
    let alone : IsParkedThere p (entry f f what ∷ []) (Some c.0.number) (doing p (entry f f what ∷ []) f) = subst (λ (z : List Entry). IsParkedThere p z (Some c.0.number) (doing p z f)) t.2 parked in
    absurd (not_parked p (entry f f what ∷ []) (Some c.0.number) f what Absent t.3 (rw (eq-eqb f f refl) at alone))

module _ {P : Type 0} (entries : P → List Entry) (arguments : P → List Value) (keeps_to : P → Type 0) (letters : (q : P) → keeps_to q → IsLetter (entries q)) (none : (q : P) → arguments q ≡ []) where
  -- so nothing comes to the desk
  nothing_comes : (p : Program) (o : Object) (es : List Entry) (js ms : List ℕ) (f : ℕ) (qs : List P) → AreOlder entries keeps_to f qs → AreComing p entries o es js ms qs → all_together es (map entries qs) ≡ es
  nothing_comes p o es js ms f [] older coming = refl
  nothing_comes p o es [] [] f (q ∷ qs) older coming = absurd coming
  nothing_comes p o es [] (i ∷ ms) f (q ∷ qs) older coming = absurd coming
  nothing_comes p o es (j ∷ js) [] f (q ∷ qs) older coming = absurd coming
  nothing_comes p o es (j ∷ js) (i ∷ ms) f (q ∷ qs) older coming =
      nothing_comes p o (together es (entries q)) js ms f qs older.2 coming.1 ∙ ap (λ (z : List Entry). together es z) (comes_empty p o es j i (entries q) (letters q older.1) coming.0)

  -- and the firing has no values
  no_values : (qs : List P) → laid_together arguments qs ≡ []
  no_values [] = refl
  no_values (q ∷ qs) = ap (λ (z : List Value). z ++ laid_together arguments qs) (none q) ∙ no_values qs

  -- the desk keeps what it kept, and the firing's entry
  pub holds_fired : (p : Program) (n : ℕ) (v w : View) (ms : List ℕ) (f : ℕ) (qs : List P) → HasInHand v sent_both [] None [] → IsFired entries arguments keeps_to p n v w first_object 0 ms f qs → KeepsFiring w ms f
  holds_fired p n v w ms f qs h fired = let vs = no_values qs in record {
    kept = ap (λ (z : View). z.kept) fired.view ∙ nothing_comes p first_object (firing_entry arguments first_object 0 ms f qs ∷ v.kept) fired.methods ms f qs fired.older fired.coming ∙ (λ k. entry f f (Fired 0 first_object ms (vs k)) ∷ h.kept k);
    fresh = ap (λ (z : View). z.fresh) fired.view ∙ h.fresh_are;
    unposted = subst (HasNumber f) (sym (ap (λ (z : View). z.unposted) fired.view)) (inl refl);
  }

-- what was read of a cell changes nothing of that
pub still_fired : (v w : View) (i : ℕ) (c : Word) → w ≡ saw v i c → (ms : List ℕ) (f : ℕ) → KeepsFiring v ms f → KeepsFiring w ms f
still_fired v w i c e ms f h = subst (λ (z : View). KeepsFiring z ms f) (sym e) (record { kept = h.kept; fresh = h.fresh; unposted = h.unposted })

-- the entry that is posted
abbrev pub fourth : List ℕ → Entry
fourth ms = entry 4 4 (Fired 0 first_object ms [])

-- the desk may post the firing with its entry
pub may_post_fourth : (n : ℕ) (v : View) (ms : List ℕ) → KeepsFiring v ms 4 → MayPost (pair_program false n) v 4 (fourth ms ∷ [])
may_post_fourth n v ms h = record {
  unposted = h.unposted;
  goes = record { part = ap (kept (is_among (fourth ms ∷ []))) h.kept; goes = (tt, tt, refl); stays = subst (IsTold (pair_program false n)) (sym (ap (left_by (fourth ms ∷ [])) h.kept)) (told_both n) };
  linked = λ e x is says has. absurd (subst (HasNumber e.number) h.fresh has);
  begins = (fourth ms, inl refl, refl, refl);
  only = λ e is body. only_one e is;
  parked = λ b other t. absurd (other (sym t.2 ∙ only_one t.0 t.1));
}
  where
    only_one : (e : Entry) → IsIn e (fourth ms ∷ []) → e.number ≡ 4
    only_one e (inl q) = ap (λ (z : Entry). z.number) q
    only_one e (inr k) = absurd k
