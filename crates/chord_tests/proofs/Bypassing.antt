-- What the desk of the bypass by hand knows after each step.
use Rattle.std.proofs.Common.{◌≡◌, inl, inr, ℕ, ◌<◌, ◌==◌, ◌++◌, true, false, List, [], ◌∷◌, Option, Some, None, length, refl, sym, ap, ◌∙◌, subst, arith}
use Rattle.chord_base.specs.declared.event.Entry.{Entry}
use Rattle.chord_base.specs.declared.value.Value.{Value}
use Rattle.chord_base.specs.declared.event.Limits.{Limits}
use Rattle.chord_base.specs.Meaning.{Program}
use Rattle.chord_base.specs.Messages.{has}
use Rattle.chord_code.specs.declared.parts.Parts.{Parts}
use Rattle.chord_code.specs.Meaning.{code_program}
use Rattle.chord_word.specs.declared.cells.Cell.TheVariants.{Consumed}
use Rattle.chord_word.specs.declared.cells.Word.{Word}
use Rattle.chord_rule.specs.declared.view.Claim.{Claim}
use Rattle.chord_rule.specs.declared.view.View.{View}
use Rattle.chord_rule.specs.Claims.{HasThe, fired_with}
use Rattle.chord_rule.specs.Kinds.{saw_count, saw, claimed, consumed, emptied, firing_drawn, drop_claim, looked_head, looked_cell}
use Rattle.chord_rule.specs.Made.{key}
use Rattle.chord_rule.specs.Tells.{a_word, IsNewClaim}
use Rattle.chord_rule.specs.Ways.{WentPast, way_begun, gone_on}
use Rattle.chord_space.specs.Gives.{MayFire}
use Rattle.chord_tests.specs.Pairs.{pair_code, pair_limits, pair_program, first_object, sent_both, HasInHand, Owes, KeepsDuties, IsClaimOn, HasClaimedBoth}
use Rattle.chord_tests.proofs.ByHand.{of_table}

-- ## Claims

-- after a claim the desk has the duties that it had
duties_by_claim : (v w : View) (c : Claim) (i : ℕ) (x : Word) → w ≡ saw (claimed v c) i x → KeepsDuties v w
duties_by_claim v w c i x e m k d = subst (λ (z : View). Owes z m k) (sym e) d

-- the claim of a message on which the desk has a duty is to the object and the method of its bag
known_claim : (v : View) (i j : ℕ) (c : Claim) → j < 16 → Owes v i (key first_object j) → IsNewClaim v i None c → IsClaimOn i j None c
known_claim v i j c low d new = let b = new.bagged first_object j (omega arith) low (d.0, j, d.1, low, d.3) (inr d) in record { numbered = new.numbered; to_object = b.0; to_method = b.1; fired = new.unfired }

-- both messages were claimed, one after the other
pub claimed_both : (v u w : View) (x y : Claim) (a b : Word) → HasInHand v sent_both [] None [] → Owes v 2 (key first_object 0) → Owes v 3 (key first_object 1) → IsNewClaim v 2 None x → u ≡ saw (claimed v x) 2 a → IsNewClaim u 3 None y → w ≡ saw (claimed u y) 3 b → HasClaimedBoth w None
claimed_both v u w x y a b hand of_x of_y new_x e new_y f = record {
  room = ap (λ (z : View). z.spent) f ∙ ap (λ (z : View). z.spent) e ∙ hand.room;
  x = x;
  y = y;
  claims = ap (λ (z : View). z.claims) f ∙ ap (λ (z : View). y ∷ z.claims) e ∙ ap (λ (z : List Claim). y ∷ x ∷ z) hand.claims_are;
  is_x = known_claim v 2 0 x (omega arith) of_x new_x;
  is_y = known_claim u 3 1 y (omega arith) (duties_by_claim v u x 2 a e 3 (key first_object 1) of_y) new_y;
}

-- a firing may be drawn with them
may_fire_both : (n : ℕ) (v : View) → HasClaimedBoth v None → MayFire (pair_program false n) v.claims 0 first_object (2 ∷ 3 ∷ [])
may_fire_both n v h = record {
  methods = 0 ∷ 1 ∷ [];
  values = h.x.values ++ (h.y.values ++ []);
  found = refl;
  claimed = (h.x, subst (HasThe h.x) (sym h.claims) (inr (inl refl)), h.is_x.numbered, h.is_x.to_object, h.is_x.to_method, h.is_x.fired, (h.y.values ++ [], refl, (h.y, subst (HasThe h.y) (sym h.claims) (inl refl), h.is_y.numbered, h.is_y.to_object, h.is_y.to_method, h.is_y.fired, ([], refl, refl))));
  exactly = ap length h.claims;
}

-- so with the same members, of a table for the code
pub may_fire_members : (n : ℕ) (code : Parts) (limits : Limits) (v : View) (ms : List ℕ) → code ≡ pair_code false → limits ≡ pair_limits n → ms ≡ 2 ∷ 3 ∷ [] → HasClaimedBoth v None → MayFire (code_program code limits) v.claims 0 first_object ms
may_fire_members n code limits v ms a b members h = of_table (λ (p : Program). MayFire p v.claims 0 first_object ms) false n code limits a b (subst (λ z. MayFire (pair_program false n) v.claims 0 first_object z) (sym members) (may_fire_both n v h))

-- members that were added one after the other
pub two_members : (a b c : List ℕ) → a ≡ [] → b ≡ a ++ 2 ∷ [] → c ≡ b ++ 3 ∷ [] → c ≡ 2 ∷ 3 ∷ []
two_members a b c none first second = second ∙ ap (λ z. z ++ 3 ∷ []) (first ∙ ap (λ z. z ++ 2 ∷ []) none)

-- the claim of a member has the firing
fired_claim : (i j : ℕ) (c : Claim) → IsClaimOn i j None c → IsClaimOn i j (Some 4) (record c { firing = Some 4 })
fired_claim i j c is = record { numbered = is.numbered; to_object = is.to_object; to_method = is.to_method; fired = refl }

-- and so have both
both_fired : (x y : Claim) → x.number ≡ 2 → y.number ≡ 3 → fired_with 4 (2 ∷ 3 ∷ []) (y ∷ x ∷ []) ≡ record y { firing = Some 4 } ∷ record x { firing = Some 4 } ∷ []
both_fired x y of_x of_y =
    let is_x : has x.number (2 ∷ 3 ∷ []) ≡ true = ap (λ z. has z (2 ∷ 3 ∷ [])) of_x in
    let is_y : has y.number (2 ∷ 3 ∷ []) ≡ true = ap (λ z. has z (2 ∷ 3 ∷ [])) of_y in
    rw (is_x, is_y) refl

-- the firing was drawn
pub drawn_both : (v w : View) (f : ℕ) (ms : List ℕ) (vs : List Value) (c : ℕ) → HasClaimedBoth v None → f ≡ 4 → ms ≡ 2 ∷ 3 ∷ [] → w ≡ saw_count (firing_drawn v f 0 first_object ms vs) c → HasClaimedBoth w (Some 4)
drawn_both v w f ms vs c h number members e = record {
  room = ap (λ (z : View). z.spent) e ∙ h.room;
  x = record h.x { firing = Some 4 };
  y = record h.y { firing = Some 4 };
  claims = ap (λ (z : View). z.claims) e ∙ (λ i. fired_with (number i) (members i) (h.claims i)) ∙ both_fired h.x h.y h.is_x.numbered h.is_y.numbered;
  is_x = fired_claim 2 0 h.x h.is_x;
  is_y = fired_claim 3 1 h.y h.is_y;
}

-- a message that is claimed, and with which the firing was drawn, may be consumed
abbrev pub MayConsume : View → ℕ → Type 0
MayConsume v i = (c : Claim) × (f : ℕ) × HasThe c v.claims × (c.number ≡ i) × (c.firing ≡ Some f)

-- once x was consumed y may be
pub may_consume_y : (v w : View) (f : ℕ) (ps : List Entry) (h : HasClaimedBoth v (Some f)) → w ≡ emptied (saw (consumed v 2 ps) 2 (a_word Consumed h.x.next)) → MayConsume w 3
may_consume_y v w f ps h e = (h.y, f, subst (HasThe h.y) (sym (ap (λ (z : View). z.claims) e ∙ ap (drop_claim 2) h.claims ∙ dropped)) (inl refl), h.is_y.numbered, h.is_y.fired)
  where
    dropped : drop_claim 2 (h.y ∷ h.x ∷ []) ≡ h.y ∷ []
    dropped =
        let x : (h.x.number == 2) ≡ true = ap (λ z. z == 2) h.is_x.numbered in
        let y : (h.y.number == 2) ≡ false = ap (λ z. z == 2) h.is_y.numbered in
        rw (x, y) refl

-- ## Bypasses

-- the head of a bag led to x, and x was read consumed with no next: the desk went past it
pub went_past_x : (v u w : View) (k : ℕ) (linked : List ℕ) (h : Option ℕ) (c : Word) → h ≡ Some 2 → u ≡ looked_head v k linked h → w ≡ looked_cell u 2 c → c.cell ≡ Consumed → c.next ≡ None → WentPast w 2 None
went_past_x v u w k linked h c at looked read is last = subst (λ (z : View). WentPast z 2 None) (sym (read ∙ ap (λ (z : View). looked_cell z 2 c) (looked ∙ ap (looked_head v k linked) at))) (gone_on (way_begun k linked (Some 2)) 2 c, inl refl, onward, (is, inl refl))
  where
    onward : (gone_on (way_begun k linked (Some 2)) 2 c).place ≡ None
    onward = rw is last
