-- What each step asks of the table.
use Rattle.std.proofs.Common.{◌≡◌, ◌⊎◌, ⊎_elim, ℕ, ◌+◌, ◌/◌, ◌%◌, ◌^◌, ◌<◌, ◌≤◌, List, [], ◌∷◌, set, replicate, false, refl, sym, ap, ◌∙◌, subst, arith, get_or, zero, suc, map, Option, Some, None, eqb, Bool, true, if◌then◌else◌}
use mathlib.Core.Path.{Path}
use mathlib.Core.Option.{none, some, some-injective, some-ne-none}
use native.Mathlib.Decide.{dec_le}
use lib.ListN.{get_elem?, length-map, length-replicate}
use Rattle.atomic_table.specs.Table.{Act, Allows, Me, carried_after, keeps, step, opening}
use Rattle.chord_base.specs.Meaning.{Program}
use Rattle.chord_base.specs.Bodies.{Asks}
use Rattle.chord_base.specs.Story.{IsOwn, IsTold}
use Rattle.chord_base.specs.declared.event.Entry.{Entry}
use Rattle.chord_base.specs.declared.value.Value as value
use Rattle.chord_base.specs.declared.event.What.{What}
use Rattle.chord_rule.specs.declared.view.View.{View}
use Rattle.chord_rule.specs.Layout.{cell_at, place_at, head_at, word_count}
use Rattle.chord_rule.specs.Moment.{Moment, empty_word}
use Rattle.chord_rule.specs.Keeping.{kept_at, at_desk}
use Rattle.chord_rule.specs.Tells.{draws, HasNotBegun}
use Rattle.chord_rule.specs.Kinds.{saw_count, drew, was_told, entry, newcomer_first, drawn_stage}
use Rattle.chord_rule.specs.Whole.{Held, Whole}
use Rattle.chord_rule.specs.StandsFor.{Unseen}
use Rattle.chord_rule.specs.Stages.{Fresh, Placing, Vacant}
use Rattle.chord_base.specs.Messages.{AreDifferent}
use Rattle.chord_rule.specs.Claims.{claimed_numbers}
use Rattle.chord_rule.specs.Hands.{hand, Holds, IsUnlinked}
use Rattle.chord_rule.specs.Made.{IsChord, IsTabled}
use Rattle.chord_rule.specs.Looks.{HasSeen}
use Rattle.chord_rule.specs.Numbers.{HasNumber}
use Rattle.chord_rule.specs.Duties.{HasDuty, Chosen, IsNamedByCell, IsCarried}
use Rattle.chord_rule.specs.Alone.{Remembers}
use Rattle.chord_rule.specs.Desks.{IsRightDesk}
use Rattle.chord_rule.specs.Draws.{draws_at}
use Rattle.chord_rule.specs.Bags.{LinkOrder}
use Rattle.chord_rule.proofs.AloneSteps.{nothing_remembered}
use Rattle.chord_rule.proofs.HandMoves.{newcomer_none}
use Rattle.chord_rule.proofs.Agreeing.{drawn_above}
use Rattle.chord_rule.proofs.Wholes.{whole_draw, whole_told}
use Rattle.chord_rule.proofs.Bridge.{Can, after_act, counter_step}
use Rattle.chord_rule.proofs.Counting.{count_fits}
use Rattle.chord_rule.proofs.Coming.{desk_place}
use Rattle.chord_rule.proofs.Puts.{at_inside}
use Rattle.atomic_table.proofs.Lists.{set_here}

-- the first desk, which has neither drawn nor been split, finds the counter at 0
pub unbegun_count : {P : Type 0} (entries : P → List Entry) (arguments : P → List value.Value) (keeps_to : P → Type 0) (p : Program) (n : ℕ) (m : Moment P) (u : Unseen) → Whole entries arguments keeps_to p n m u
    → (id : ℕ) (v : View) → get_elem? m.views id ≡ some v → HasNotBegun v → m.count ≡ 0
unbegun_count entries arguments keeps_to p n m u whole id v at h = let firsts = whole.agrees.firsts in firsts.untouched v (subst (λ (j : ℕ). get_elem? m.views j ≡ some v) (firsts.leads id v at h.0) at) h.1 h.2

module _ {P : Type 0} (entries : P → List Entry) (arguments : P → List value.Value) (keeps_to : P → Type 0) (p : Program) (n width : ℕ) (any : 0 < n) (small : n ≤ 65536) where
  -- the draw of an own entry
  pub draw_step : (id : ℕ) (me : Me (Option P) View) (body : ℕ) (what : What) → me.0.gone ≡ false → me.0.spent ≡ false → IsOwn what → Asks p me.0.kept body what
      → Allows (Held entries arguments keeps_to p n width) n id me 0 (λ x. (x + 1) % 2 ^ 64) (draws p body what (step n 0 1 0 none) me)
  draw_step id me body what live untold own next = counter_step Unseen (Whole entries arguments keeps_to p n) n width id me (λ x. (x + 1) % 2 ^ 64) (draws p body what (step n 0 1 0 none) me)
      (λ m u whole at fits. go m u whole at (dec_le n m.count))
    where
      -- a desk that has not begun is the first one, and the counter is 0
      first_number : (m : Moment P) (u : Unseen) → Whole entries arguments keeps_to p n m u → get_elem? m.views id ≡ some me.0 → HasNotBegun me.0 → m.count ≡ 0
      first_number m u whole at h = unbegun_count entries arguments keeps_to p n m u whole id me.0 at h

      go : (m : Moment P) (u : Unseen) (whole : Whole entries arguments keeps_to p n m u) (at : get_elem? m.views id ≡ some me.0) → Dec (n ≤ m.count)
          → (w : View) × (a : Act (Option P)) × (u' : Unseen) × Can n m.homes me.1 a
          × Whole entries arguments keeps_to p n (record m { count = (m.count + 1) % 2 ^ 64; homes = after_act m.homes me.1 a; views = set m.views id w }) u'
          × draws p body what (step n 0 1 0 none) me m.count (w, carried_after me.1 a)
      go m u whole at (yes full) = (
        saw_count (was_told me.0) (m.count + 1),
        keeps,
        u,
        tt,
        subst (λ (x : ℕ). Whole entries arguments keeps_to p n (record m { count = x; views = set m.views id (saw_count (was_told me.0) (m.count + 1)) }) u) (sym (count_fits n m.count m.views small whole.agrees.counting))
            (whole_told entries arguments keeps_to p n small m u whole id me.0 at live any full untold),
        (refl, (λ l. absurd (omega arith)), (λ l. refl), first_number m u whole at),
      )
      go m u whole at (no room) = let l : m.count < n = omega arith in let w : View = saw_count (drew me.0 m.count body what) (m.count + 1) in let u' : Unseen = record u { journal = entry m.count body what ∷ u.journal; stage = drawn_stage id m.count what u.stage } in (
        w,
        keeps,
        u',
        tt,
        subst (λ (x : ℕ). Whole entries arguments keeps_to p n (record m { count = x; views = set m.views id w }) u') (sym (count_fits n m.count m.views small whole.agrees.counting))
            (whole_draw entries arguments keeps_to p n small m u whole id me.0 at live body what l own next),
        (
          refl,
          (λ k.
              let after_act = whole_draw entries arguments keeps_to p n small m u whole id me.0 at live body what l own next in
              let above = drawn_above entries arguments keeps_to p n small m u whole.agrees id me.0 at body what l u.journal after_act.agrees.stands.keeping.merged.past (let long = whole.agrees.stands.keeping.long in omega arith) in (refl, above.0, above.1, (u.journal, after_act.agrees.stands.keeping.merged.past), desk_place entries arguments keeps_to p n _ u' after_act.agrees.stands id w (set_here m.views id w (at_inside m.views id me.0 at)))),
          (λ k. absurd (omega arith)),
          first_number m u whole at,
        ),
      )

-- each of n slots at the start is at home, with what all have
all_vacant : {A : Type 0} (n i : ℕ) (a : A) → i < n → get_elem? (map some (replicate n a)) i ≡ some (some a)
all_vacant zero i a h = absurd (omega arith)
all_vacant (suc n) zero a h = refl
all_vacant (suc n) (suc i) a h = all_vacant n i a (omega arith)

-- each of k words at the start is 0
zero_at : (k i : ℕ) → get_or {A = ℕ} (replicate k 0) i 0 ≡ 0
zero_at zero i = refl
zero_at (suc k) zero = refl
zero_at (suc k) (suc i) = zero_at k i

module _ {P : Type 0} (entries : P → List Entry) (arguments : P → List value.Value) (keeps_to : P → Type 0) (p : Program) where
  -- no message was linked
  abbrev nothing_linked : LinkOrder
  nothing_linked = record { clock = 0; bag = λ i. None; rank = λ i. 0; next = λ i. None }

  -- the moment at the start: nothing was drawn, and there is the first desk alone
  abbrev first_moment : Moment P
  first_moment = record { count = 0; cells = λ i. empty_word; heads = λ k. None; places = λ i. None; homes = λ i. some None; views = newcomer_first ∷ [] }

  -- no desk keeps anything at the start
  alone : (j : ℕ) → at_desk (get_elem? (newcomer_first ∷ []) j) ≡ []
  alone zero = refl
  alone (suc j) = refl

  -- no place keeps anything at the start
  nothing : (c : ℕ) → kept_at entries (newcomer_first ∷ []) (λ i. some None) c ≡ []
  nothing c = cases (eqb (c % 2) 0)
    where
      cases : (b : Bool) → (if b then at_desk (get_elem? (newcomer_first ∷ []) (c / 2)) else []) ≡ []
      cases true = alone (c / 2)
      cases false = refl

  -- the table at the start meets the rule
  pub opens : IsTabled p → (n width words_count : ℕ) → words_count ≡ word_count n width → Held entries arguments keeps_to p n width (opening (replicate words_count 0) (replicate n None) newcomer_first)
  opens tabled n width words_count wide = record {
    moment = first_moment;
    ghosts = record { journal = []; stage = λ i. Vacant; order = nothing_linked };
    shows = record {
      wide = length-replicate words_count 0 ∙ wide;
      deep = length-map (replicate n None) (λ (x : Option P). some x) ∙ length-replicate n None;
      count = zero_at words_count 0;
      cells = λ i l. (zero_at words_count (cell_at i), (omega arith, tt));
      heads = λ o j l few. (zero_at words_count (head_at n width o j), tt);
      places = λ i l. (zero_at words_count (place_at n i), tt);
      homes = λ i l. all_vacant n i None l;
      views = refl;
    };
    rule = record {
      agrees = record {
        tabled = tabled;
        counting = record {
          bound = omega arith;
          first = λ v e. let s : newcomer_first.splits ≡ v.splits = ap (λ (u : View). u.splits) (some-injective newcomer_first v e) in (omega arith, omega arith);
          some = omega arith;
        };
        firsts = record { leads = λ j v e first. first_zero j v e; untouched = λ v e a b. refl; begun = λ v e drew. absurd (let z : false ≡ true = ap (λ (u : View). u.drawn) (some-injective newcomer_first v e) ∙ drew in cc) };
        stands = record {
          keeping = record {
            long = omega arith;
            merged = record {
              past = tt;
              at = λ n. 0;
              keeps = λ c. sym (nothing c);
              told = λ c. subst (λ (es : List Entry). IsTold p es) (sym (nothing c)) tt;
            };
          };
          hands = record {
            holds = λ j v e i x h. absurd (newcomer_none i x (subst (λ (u : View). Holds (hand u) i x) (first_alone j v e) h));
            held = λ i j x e. absurd (cc);
            kept = λ j v e i k. absurd (let k' = subst (λ (u : View). IsUnlinked (hand u) i) (first_alone j v e) k in ⊎_elim (λ h. newcomer_none i Fresh h) (λ h. newcomer_none i Placing h) k');
            once = λ j v e. subst (λ (u : View). AreDifferent (claimed_numbers u.claims)) (sym (first_alone j v e)) tt;
          };
          messages = record { stands = λ i. (tt, record { cell = refl; unplaced = refl; slot = refl; unlinked = refl }) };
          firings = record { taken = λ i. refl };
          younger = record { below = λ i j c f q s for home. absurd (cc) };
          parcels = record { sent = λ i q x home says. absurd (cc); fired = λ i q home is. absurd (cc); task = λ i q home. absurd (cc) };
        };
        heads = record { keyed = λ i x s. absurd (cc) };
        bags = record {
          heads_lead = λ k is. record { inside = λ y e. absurd (cc); passes = λ i b ne low. absurd (cc) };
          nexts_lead = λ i k b. absurd (cc);
          keyed = λ i k b. absurd (cc);
          ranked = λ i k b. absurd (cc);
          apart = λ i j k l a b e. absurd (cc);
          armed = λ i a. absurd a;
        };
        tied = record { duties = λ j v e d h. absurd (subst (λ (u : View). HasDuty d u.duties) (first_alone j v e) h) };
        duties = λ ks xs c. nobody ks xs c.some c.chosen;
        looks = record { seen = λ j v e i next h. absurd (subst (λ (y : View). HasSeen y i next) (first_alone j v e) h).1 };
      };
      desks = record { right = λ j v e. subst (IsRightDesk n 0 (λ i. empty_word) nothing_linked) (sym (first_alone j v e)) (record { armed = λ d h. absurd h; ways = λ w h. absurd h; told = λ here spent. absurd (let z : false ≡ true = spent in cc); counted = λ c e. absurd (let z : Path (Option ℕ) None (Some c) = e in cc); ended = λ g. absurd (let z : false ≡ true = g in cc) }) };
      woken = record { none = λ q i e. absurd (cc) };
      places = record { within = λ i pl e. absurd (cc) };
      alone = record {
        lent = λ v e. ap (λ (y : View). y.lent) (first_alone 0 v e);
        alone = λ v e lent. subst (λ (y : View). Remembers 0 (λ k. None) (λ i. empty_word) y.looked) (sym (first_alone 0 v e)) (nothing_remembered 0 (λ k. None) (λ i. empty_word));
      };
      draws = record { by = λ n. 0; drawn = none_drawn };
    };
  }
    where
      first_alone : (j : ℕ) (v : View) → get_elem? (newcomer_first ∷ []) j ≡ some v → v ≡ newcomer_first
      first_alone zero v e = sym (some-injective newcomer_first v e)
      first_alone (suc j) v e = absurd (some-ne-none v (sym e))

      nobody : (ks xs : List ℕ) → (k : ℕ) × HasNumber k ks → Chosen (IsChord p) (λ i. empty_word) nothing_linked ks xs
          → IsNamedByCell (IsChord p) (λ i. empty_word) nothing_linked xs ⊎ IsCarried (IsChord p) (newcomer_first ∷ []) nothing_linked xs
      nobody [] xs first chosen = absurd first.1
      nobody (k ∷ ks) [] first chosen = absurd chosen
      nobody (k ∷ ks) (x ∷ xs) first chosen = absurd chosen.1

      none_drawn : (j : ℕ) → [] ≡ draws_at (get_elem? (newcomer_first ∷ []) j)
      none_drawn zero = refl
      none_drawn (suc j) = refl

      first_zero : (j : ℕ) (v : View) → get_elem? (newcomer_first ∷ []) j ≡ some v → j ≡ 0
      first_zero zero v e = refl
      first_zero (suc j) v e = absurd (some-ne-none v (sym e))
