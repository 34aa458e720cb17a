-- What a desk knows by the rule: which bag a message is in, and, alone, what stands in a cell or a head that it remembers and that
-- nobody else has a message in hand.
use Rattle.std.proofs.Common.{◌≡◌, ◌≢◌, ◌⊎◌, inl, inr, ⊎_elim, ℕ, ◌<◌, ◌≤◌, Bool, true, false, List, [], refl, sym, ap, ◌∙◌, subst, arith, Option, Some, None}
use mathlib.Core.Path.{Path}
use mathlib.Core.Logic.{dite}
use mathlib.Core.Option as maybe
use mathlib.Core.Option.{some, none, some-injective}
use native.Mathlib.Decide.{ℕ_discrete}
use lib.ListN.{get_elem?}
use Rattle.atomic_table.proofs.Lists.{set_here}
use Rattle.chord_base.specs.Meaning.{Program}
use Rattle.chord_base.specs.Messages.{Message}
use Rattle.chord_base.specs.declared.value.Object.{Object}
use Rattle.chord_base.specs.declared.value.Value as value
use Rattle.chord_base.specs.declared.event.Entry.{Entry}
use Rattle.chord_word.specs.declared.cells.Cell.{Cell}
use Rattle.chord_word.specs.declared.cells.Cell.TheVariants as a_cell
use Rattle.chord_word.specs.declared.cells.Word.{Word}
use Rattle.chord_rule.specs.declared.view.View.{View}
use Rattle.chord_rule.specs.Moment.{Moment, Home}
use Rattle.chord_rule.specs.Agrees.{Agrees}
use Rattle.chord_rule.specs.Bags.{head_number}
use Rattle.chord_rule.specs.Claims.{HasThe}
use Rattle.chord_rule.specs.Draws.{draws_at}
use Rattle.chord_rule.specs.Hands.{hand, Holds}
use Rattle.chord_rule.specs.Kinds.{gone}
use Rattle.chord_rule.specs.Looks.{LastHead}
use Rattle.chord_rule.specs.Made.{IsMade, IsKey, key}
use Rattle.chord_rule.specs.Messages.{IsOpen}
use Rattle.chord_rule.specs.StandsFor.{Unseen}
use Rattle.chord_rule.specs.Stages.{Hold, Stage, Vacant, InHand, Armed, Spent, Posted, Played, Fresh, Placing, Flying, Claiming, Emptying, Unposted, Posting, Starting, said_at, message_in}
use Rattle.chord_rule.specs.Tells.{IsNewClaim, a_word}
use Rattle.chord_rule.specs.Ways.{KnowsBag, KnowsObject, LastSeen, IsAloneDesk, IsSettledCell}
use Rattle.chord_rule.specs.Whole.{Whole}
use Rattle.chord_rule.proofs.Agreeing as agreeing
use Rattle.chord_rule.proofs.AloneSteps.{live_some, other_live}
use Rattle.chord_rule.proofs.Bagging as bagging
use Rattle.chord_rule.proofs.Drawing.{draws_all}
use Rattle.chord_rule.proofs.KeySteps.{one_key, same_key}
use Rattle.chord_rule.proofs.MessageSteps.{claim_on}
use Rattle.chord_rule.proofs.Puts.{at_inside}
use Rattle.chord_rule.proofs.Standing as standing
use Rattle.chord_rule.proofs.WaySteps.{read_bag}
use Rattle.chord_rule.proofs.Wholes.{whole_claim}

module _ {P : Type 0} (entries : P → List Entry) (arguments : P → List value.Value) (keeps_to : P → Type 0) (p : Program) (n : ℕ) (small : n ≤ 65536) (m : Moment P) (u : Unseen) (whole : Whole entries arguments keeps_to p n m u)
    (id : ℕ) (v : View) (at : get_elem? m.views id ≡ some v) (here : v.gone ≡ false) where
  -- the first part of the rule holds
  law : Agrees entries arguments keeps_to p n m u
  law = whole.agrees

  -- the bags of an object to which the desk has a duty on a message are bags
  known_key : (o : Object) (j : ℕ) → o.number < 65536 → j < 16 → KnowsObject v o → IsKey u.journal (key o j)
  known_key o j low few known =
      let is = law.bags.keyed known.0.message (key o known.1) (law.tied.duties id v at known.0 known.2 ∙ ap (λ (k : ℕ). Some k) known.4) in
      let same = same_key o is.0 known.1 is.1 low known.3 is.3 is.4 is.5 in
      (o, j, subst (IsMade u.journal) (sym same.0) is.2, low, few, refl)

  -- a message that the desk knows to be in a bag is in that bag
  pub known_bag : (i : ℕ) (o : Object) (j : ℕ) → o.number < 65536 → j < 16 → KnowsObject v o → KnowsBag v i (key o j) → u.order.bag i ≡ Some (key o j)
  known_bag i o j low few known (inr d) = sym (ap u.order.bag d.2) ∙ law.tied.duties id v at d.0 d.1 ∙ ap (λ (k : ℕ). Some k) d.3
  known_bag i o j low few known (inl w) =
      let way = (whole.desks.right id v at).ways w.0 w.1 in let bag = read_bag n way.along u.order i w.0.looks way.falls w.3 in
      bag ∙ ap (λ (k : ℕ). Some k) (one_key p u.journal law.stands.keeping.merged.past way.along (key o j) (law.bags.keyed i way.along bag) (known_key o j low few known) (way.headed ∙ ap head_number w.2))

  -- what a new claim tells
  pub new_claim : (i : ℕ) (next : Option ℕ) (x : Message) → m.cells i ≡ a_word a_cell.Pending next → message_in (said_at i u.journal) ≡ Some x → IsNewClaim v i next (claim_on i next x)
  new_claim i next x is says = record {
    numbered = refl;
    linked = refl;
    unfired = refl;
    free = λ t. let s = law.stands.hands.holds id v at i (Claiming t.0) (t.1, t.2) in
        let w = (agreeing.it entries arguments keeps_to p n small m u law id v at i (InHand id (Claiming t.0)) s).2 in let z : a_cell.Pending ≡ a_cell.Claimed = ap (λ (c : Word). c.cell) (sym is ∙ w) in cc;
    bagged = λ o j low few known bag.
        let after = whole_claim entries arguments keeps_to p n small m u whole id v at here i next x is says in
        bagging.claim_of_bag entries arguments keeps_to p n small _ _ after.agrees.stands after.agrees.heads after.agrees.bags law.tabled id _ (set_here m.views id _ (at_inside m.views id v at)) (claim_on i next x) o j (inl refl) (known_bag i o j low few known bag) low few;
  }

  -- alone, the first desk knows what stands in each cell that it remembers
  pub remembered_cell : v.first ≡ true → v.lent ≡ 0 → (i : ℕ) (c : Word) → LastSeen i c v.looked.seen → m.cells i ≡ c
  remembered_cell is_first none_lent i c last = (whole.alone.alone v (ap (get_elem? m.views) (sym (law.firsts.leads id v at is_first)) ∙ at) none_lent).cell i c last

  -- alone, the first desk knows where each head leads that it remembers
  pub remembered_head : v.first ≡ true → v.lent ≡ 0 → (k : ℕ) (x : Option ℕ) → LastHead k x v.looked.heads → m.heads k ≡ x
  remembered_head is_first none_lent k x last = (whole.alone.alone v (ap (get_elem? m.views) (sym (law.firsts.leads id v at is_first)) ∙ at) none_lent).head k x last

  -- alone, each other desk is gone
  others_gone : v.first ≡ true → v.lent ≡ 0 → (j : ℕ) (w : View) → j ≢ id → get_elem? m.views j ≡ some w → w ≡ gone
  others_gone is_first none_lent j w ne there = go w.gone refl
    where
      zero_id : id ≡ 0
      zero_id = law.firsts.leads id v at is_first

      go : (b : Bool) → w.gone ≡ b → w ≡ gone
      go true e = (whole.desks.right j w there).ended e
      go false e = let live = other_live m.count m.heads m.cells m.views whole.alone law.firsts.leads j w there e (λ z. ne (z ∙ sym zero_id)) in
          let some_live = live_some m.views j w there live in let lent = whole.alone.lent v (ap (get_elem? m.views) (sym zero_id) ∙ at) in absurd (omega (arith, some_live, lent, none_lent))

  -- alone, each desk is the first one, or gone
  pub who : v.first ≡ true → v.lent ≡ 0 → (j : ℕ) (w : View) → get_elem? m.views j ≡ some w → (w ≡ v) ⊎ (w ≡ gone)
  who is_first none_lent j w there = dite (ℕ_discrete j id) (λ e. inl (some-injective w v (sym there ∙ ap (get_elem? m.views) e ∙ at))) (λ ne. inr (others_gone is_first none_lent j w ne there))

  -- alone, the first desk drew, or took over, each entry of the journal
  pub drew_all : v.first ≡ true → v.lent ≡ 0 → v.draws ≡ u.journal
  drew_all is_first none_lent = draws_all m.views u.journal whole.draws id v at (λ j ne. nothing j ne (get_elem? m.views j) refl)
    where
      nothing : (j : ℕ) → j ≢ id → (x : maybe.Option View) → get_elem? m.views j ≡ x → draws_at x ≡ []
      nothing j ne none e = refl
      nothing j ne (some w) e = ap (λ (y : View). y.draws) (others_gone is_first none_lent j w ne e)

  -- the cell of a message that is armed and free is settled
  open_settled : (c : Cell) → IsOpen c → IsSettledCell c
  open_settled a_cell.Pending t = tt
  open_settled (a_cell.Woken q) t = tt
  open_settled a_cell.Empty t = t
  open_settled a_cell.Claimed t = t
  open_settled a_cell.Consumed t = tt
  open_settled a_cell.Ready t = t
  open_settled a_cell.Started t = t

  -- alone, nobody has a linked message in hand
  pub settled : IsAloneDesk v → (i k : ℕ) → u.order.bag i ≡ Some k → IsSettledCell (m.cells i).cell
  settled alone i k b = go (u.stage i) refl
    where
      it : (s : Stage) → u.stage i ≡ s → agreeing.It entries arguments keeps_to p n small m u law id v at i s
      it s e = agreeing.it entries arguments keeps_to p n small m u law id v at i s e

      -- who has it in hand is the first desk, or gone
      holder : (j : ℕ) (x : Hold) → u.stage i ≡ InHand j x → Holds (hand v) i x ⊎ Holds (hand gone) i x
      holder j x e = let h = law.stands.hands.held i j x e in
          ⊎_elim (λ q. inl (subst (λ (w : View). Holds (hand w) i x) q h.2)) (λ q. inr (subst (λ (w : View). Holds (hand w) i x) q h.2)) (who alone.first alone.lent j h.0 h.1)

      go : (s : Stage) → u.stage i ≡ s → IsSettledCell (m.cells i).cell
      go Vacant e = absurd (let z = sym (it Vacant e).1.unlinked ∙ b in cc)
      go (InHand j Fresh) e = absurd (let z = sym (it (InHand j Fresh) e).1.unlinked ∙ b in cc)
      go (InHand j Placing) e = absurd (let z = sym (it (InHand j Placing) e).5 ∙ b in cc)
      go (InHand j (Flying l a)) e = absurd (⊎_elim (λ h. let z : Path (Option ℕ) None (Some i) = sym alone.flight ∙ h.0 in cc) (λ h. let z : Path (Option ℕ) None (Some i) = h.0 in cc) (holder j (Flying l a) e))
      go (InHand j (Claiming c)) e = absurd (⊎_elim (λ h. subst (HasThe c) alone.claims h.0) (λ h. h.0) (holder j (Claiming c) e))
      go (InHand j Emptying) e = subst IsSettledCell (sym (it (InHand j Emptying) e).3) tt
      go (InHand j Unposted) e = absurd (let z = sym (it (InHand j Unposted) e).1.unlinked ∙ b in cc)
      go (InHand j Posting) e = absurd (let z = sym (it (InHand j Posting) e).4 ∙ b in cc)
      go (InHand j Starting) e = absurd (let z = sym (it (InHand j Starting) e).4 ∙ b in cc)
      go Armed e = open_settled (m.cells i).cell (it Armed e).3
      go Spent e = subst IsSettledCell (sym (it Spent e).3) tt
      go Posted e = absurd (let z = sym (it Posted e).4 ∙ b in cc)
      go Played e = absurd (let z = sym (it Played e).4 ∙ b in cc)

  -- alone, with no slot out with it, the desk finds each slot at home
  pub at_home : v.first ≡ true → v.lent ≡ 0 → v.placing ≡ None → v.emptying ≡ None → v.posting ≡ None → v.starting ≡ None → (i : ℕ) → (y : Option P) × (m.homes i ≡ some y)
  at_home is_first none_lent placing emptying posting starting i = cases (m.homes i) refl
    where
      out : (j : ℕ) (w : View) → get_elem? m.views j ≡ some w → (w.placing ≡ Some i) ⊎ ((w.emptying ≡ Some i) ⊎ ((w.posting ≡ Some i) ⊎ (w.starting ≡ Some i))) → ⊥
      out j w there o = ⊎_elim
          (λ (e : w ≡ v). let t = subst (λ (y : View). (y.placing ≡ Some i) ⊎ ((y.emptying ≡ Some i) ⊎ ((y.posting ≡ Some i) ⊎ (y.starting ≡ Some i)))) e o in
          ⊎_elim (λ z. not_some (sym placing ∙ z)) (λ s. ⊎_elim (λ z. not_some (sym emptying ∙ z)) (λ s. ⊎_elim (λ z. not_some (sym posting ∙ z)) (λ z. not_some (sym starting ∙ z)) s) s) t)
          (λ (e : w ≡ gone). let t = subst (λ (y : View). (y.placing ≡ Some i) ⊎ ((y.emptying ≡ Some i) ⊎ ((y.posting ≡ Some i) ⊎ (y.starting ≡ Some i)))) e o in
          ⊎_elim not_some (λ s. ⊎_elim not_some (λ s. ⊎_elim not_some not_some s) s) t)
          (who is_first none_lent j w there)
        where
          not_some : Path (Option ℕ) None (Some i) → ⊥
          not_some e = cc

      cases : (h : Home P) → m.homes i ≡ h → (y : Option P) × (m.homes i ≡ some y)
      cases (some y) e = (y, e)
      cases none e = let o = standing.home_out entries arguments keeps_to p n m u law.stands i e in absurd (out o.0 o.1 o.2 o.3)
