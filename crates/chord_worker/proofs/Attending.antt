-- What looking for chords, and firing one, make of a worker that minds a message.
use Rattle.std.proofs.Common.{◌≡◌, ℕ, Bool, true, false, ◌==◌, List, [], ◌∷◌, map, Option, Some, None, refl, sym, ap, ◌∙◌, subst, inl, inr, ⊎_elim, Vec, Global}
use Rattle.std.proofs.lemmas.Bool.{eq-eqb, eqb-true, eqb-false, ne_eqb}
use mathlib.Core.Path.{Path}
use Rattle.chord_base.specs.declared.value.Object.{Object}
use Rattle.chord_base.specs.declared.event.Entry.{Entry}
use Rattle.chord_base.specs.declared.event.Limits.{Limits}
use Rattle.chord_code.specs.declared.parts.Parts.{Parts}
use Rattle.chord_task.specs.declared.task.Task.{Task}
use Rattle.chord_worker.proofs.Listed.{lists_same}
use Rattle.chord_worker.proofs.Memory.{task_laid}
use Rattle.chord_base.specs.Messages.{has}
use Rattle.chord_base.proofs.Waits.{either}
use Rattle.chord_bag.specs.Reads.{messages_and_bags, IsOnlyLooks}
use Rattle.chord_match.specs.Fires.{drop_duties, IsFired}
use Rattle.chord_match.specs.Findings.{IsMatch}
use Rattle.chord_match.specs.Seen.{AreMatched}
use Rattle.chord_rule.specs.declared.view.Duty.{Duty}
use Rattle.chord_rule.specs.declared.view.View.{View}
use Rattle.chord_rule.specs.Duties.{drop_duty, move_duty}
use Rattle.chord_rule.specs.Kinds.{is_down, looked_cell, rested}
use Rattle.chord_rule.specs.Made.{key}
use Rattle.chord_rule.specs.Numbers.{HasNumber}
use Rattle.chord_word.specs.declared.cells.Word.{Word}
use Rattle.chord_space.specs.declared.space.Desk.{Desk}
use Rattle.chord_space.specs.declared.space.Space.{Space}
use Rattle.chord_space.specs.Desks.{view, space_code, space_limits, program_of, IsSameDesk}
use Rattle.chord_task.specs.declared.parcel.Opened.{Opened as Parcel}
use Rattle.chord_worker.specs.declared.worker.Worker.{Worker}
use Rattle.chord_task.specs.Parcels.{entries_of, arguments_of, IsParcelOf}
use Rattle.chord_worker.specs.Firing.{HasFired}
use Rattle.chord_worker.specs.Resting.{IsHandFree, IsInMemory, MayContinue, IsStock, IsAtRest, IsSameRole, IsOutOfMemory}
use Rattle.chord_worker.specs.Sending.{Minds}

-- ## The one duty

-- one duty, on this message in this bag
pub the_duty : (ds : List Duty) (m k : ℕ) → messages_and_bags ds ≡ (m, k) ∷ [] → (d : Duty) × (ds ≡ d ∷ []) × (d.message ≡ m) × (d.bag ≡ k)
the_duty [] m k e = let z : Path (List (ℕ × ℕ)) [] ((m, k) ∷ []) = e in cc
the_duty (d ∷ []) m k e =
    let z : Path (List (ℕ × ℕ)) ((d.message, d.bag) ∷ []) ((m, k) ∷ []) = e in
    let y : Path (ℕ × ℕ) (d.message, d.bag) (m, k) = cc in (d, refl, (λ i. (y i).0), (λ i. (y i).1))
the_duty (d ∷ d' ∷ ds) m k e = let z : Path (List (ℕ × ℕ)) ((d.message, d.bag) ∷ (d'.message, d'.bag) ∷ messages_and_bags ds) ((m, k) ∷ []) = e in cc

-- without it none is left
drop_one : (d : Duty) (m : ℕ) → d.message ≡ m → drop_duty m (d ∷ []) ≡ []
drop_one d m e = rw (eq-eqb d.message m e) refl

-- the one duty is laid down
pub no_duty_left : (ds : List Duty) (m k : ℕ) → messages_and_bags ds ≡ (m, k) ∷ [] → drop_duty m ds ≡ []
no_duty_left ds m k e = let t = the_duty ds m k e in ap (drop_duty m) t.1 ∙ drop_one t.0 m t.2

-- no duty stays none
nothing_dropped : (ms : List ℕ) → drop_duties ms [] ≡ []
nothing_dropped [] = refl
nothing_dropped (i ∷ ms) = nothing_dropped ms

-- among duties that are dropped is the one
member_dropped : (ms : List ℕ) (d : Duty) → HasNumber d.message ms → drop_duties ms (d ∷ []) ≡ []
member_dropped [] d h = absurd h
member_dropped (i ∷ ms) d h =
    elim (either (d.message == i)) [
      | inl y ↦ ap (drop_duties ms) (drop_one d i (eqb-true d.message i y)) ∙ nothing_dropped ms
      | inr o ↦ ap (drop_duties ms) (kept_one o) ∙ ⊎_elim (λ q. absurd (eqb-false d.message i o q)) (λ k. member_dropped ms d k) h
    ]
  where
    kept_one : (d.message == i) ≡ false → drop_duty i (d ∷ []) ≡ d ∷ []
    kept_one o = rw o refl

-- where the message is a member, its duty goes
pub duty_goes : (ds : List Duty) (m k : ℕ) (ms : List ℕ) → messages_and_bags ds ≡ (m, k) ∷ [] → HasNumber m ms → drop_duties ms ds ≡ []
duty_goes ds m k ms e h = let t = the_duty ds m k e in ap (drop_duties ms) t.1 ∙ member_dropped ms t.0 (subst (λ (x : ℕ). HasNumber x ms) (sym t.2) h)

-- what is minded is a member of what was found for it
pub minded_member : (v w : View) (o : Object) (m method : ℕ) (own : Option ℕ) (js ms : List ℕ) (xs : List (Option ℕ)) → AreMatched v w o m method own js ms xs → has method js ≡ true → HasNumber m ms
minded_member v w o m method own [] [] [] a h = let z : false ≡ true = h in absurd (cc)
minded_member v w o m method own (j ∷ js) (i ∷ ms) (x ∷ xs) a h =
    ⊎_elim
    (λ t. inl (sym t.1))
    (λ t. inr (minded_member v w o m method own js ms xs a.1 (let o' : (method == j) ≡ false = ne_eqb method j (λ q. t.0 (sym q)) in rw o' at h)))
    a.0
minded_member v w o m method own [] (i ∷ ms) xs a h = absurd a
minded_member v w o m method own [] [] (x ∷ xs) a h = absurd a
minded_member v w o m method own (j ∷ js) [] xs a h = absurd a
minded_member v w o m method own (j ∷ js) (i ∷ ms) [] a h = absurd a

-- ## Looks

-- duties that move keep their messages and bags
moved_named : (x : ℕ) (y : Option ℕ) (ds : List Duty) → messages_and_bags (map (move_duty x y) ds) ≡ messages_and_bags ds
moved_named x y [] = refl
moved_named x y (d ∷ ds) = ap (λ (t : List (ℕ × ℕ)). (d.message, d.bag) ∷ t) (moved_named x y ds)

-- a look at a cell is a look
pub cell_looks : (v : View) (i : ℕ) (c : Word) → IsOnlyLooks v (looked_cell v i c)
cell_looks v i c = record { frame = refl; duties = elim (either (is_down c.cell)) [ inl y ↦ rw y (moved_named i c.next v.duties) | inr o ↦ rw o refl ] }

-- looks after looks
pub looks_on : (u v w : View) → IsOnlyLooks u v → IsOnlyLooks v w → IsOnlyLooks u w
looks_on u v w a b = record { frame = b.frame ∙ ap (λ (z : View). record z { duties = w.duties; looked = w.looked }) a.frame; duties = b.duties ∙ a.duties }

module _ (v w : View) (l : IsOnlyLooks v w) where
  -- the desk has the same in hand
  pub looks_free : IsHandFree v → IsHandFree w
  looks_free f = subst IsHandFree (sym l.frame) (record { claims = f.claims; flight = f.flight; fresh = f.fresh })

  -- it keeps the same
  pub looks_kept : w.kept ≡ v.kept
  looks_kept = ap (λ (z : View). z.kept) l.frame

  -- it drew the same
  pub looks_draws : w.draws ≡ v.draws
  looks_draws = ap (λ (z : View). z.draws) l.frame

  -- it was told the same
  pub looks_spent : w.spent ≡ v.spent
  looks_spent = ap (λ (z : View). z.spent) l.frame

  -- it has its role still
  pub looks_role : IsSameRole v w
  looks_role = record {
    first = ap (λ (z : View). z.first) l.frame;
    lent = ap (λ (z : View). z.lent) l.frame;
    splits = ap (λ (z : View). z.splits) l.frame;
    drawn = λ e. ap (λ (z : View). z.drawn) l.frame ∙ e;
  }

-- roles follow on each other
pub role_on : (u v w : View) → IsSameRole u v → IsSameRole v w → IsSameRole u w
role_on u v w a b = record { first = b.first ∙ a.first; lent = b.lent ∙ a.lent; splits = b.splits ∙ a.splits; drawn = λ e. b.drawn (a.drawn e) }

module _ (s : Space Parcel) (w w' : Worker) (m k : ℕ) (minds : Minds s w m k) (same : IsSameDesk w.desk w'.desk) (rest : w' ≡ record w { desk = w'.desk }) where
  -- after looks the worker still minds the message
  pub still_minds : IsOnlyLooks (view w.desk) (view w'.desk) → Minds s w' m k
  still_minds l = subst (λ (x : Worker). Minds s x m k) (sym rest) record {
    desk = same.0 ∙ minds.desk;
    untold = minds.untold;
    room = looks_spent (view w.desk) (view w'.desk) l ∙ minds.room;
    free = looks_free (view w.desk) (view w'.desk) l minds.free;
    duty = l.duties ∙ minds.duty;
    memory = subst (λ (es : List Entry). IsInMemory (space_code s) (space_limits s) es false w.task) (sym (looks_kept (view w.desk) (view w'.desk) l)) minds.memory;
    goes_on = minds.goes_on;
    stock = minds.stock;
    spare = minds.spare;
    is_stock = minds.is_stock;
    listed = lists_same w.draws.items w.draws.items w.taken.items w.taken.items (view w.desk).draws (view w'.desk).draws refl refl (looks_draws (view w.desk) (view w'.desk) l) minds.listed;
  }

  module _ (u : View) (l : IsOnlyLooks (view w.desk) u) (laid : view w'.desk ≡ rested u m) where
    -- once the duty is laid down it is at rest
    pub minded : IsAtRest s w'
    minded = subst (IsAtRest s) (sym rest) record {
      desk = same.0 ∙ minds.desk;
      told = minds.untold ∙ sym (spent ∙ minds.room);
      free = subst IsHandFree (sym laid) (let f = looks_free (view w.desk) u l minds.free in record { claims = f.claims; flight = f.flight; fresh = f.fresh });
      duties = λ e. ap (λ (z : View). z.duties) laid ∙ no_duty_left u.duties m k (l.duties ∙ minds.duty);
      memory = subst (λ (b : Bool). IsInMemory (space_code s) (space_limits s) (view w'.desk).kept b w.task) (sym (spent ∙ minds.room))
          (subst (λ (es : List Entry). IsInMemory (space_code s) (space_limits s) es false w.task) (sym (ap (λ (z : View). z.kept) laid ∙ looks_kept (view w.desk) u l)) minds.memory);
      goes_on = minds.goes_on;
      stock = subst (IsStock (space_code s) (space_limits s)) (sym minds.spare) minds.is_stock;
      listed = lists_same w.draws.items w.draws.items w.taken.items w.taken.items (view w.desk).draws (view w'.desk).draws refl refl (ap (λ (z : View). z.draws) laid ∙ looks_draws (view w.desk) u l) minds.listed;
    }
      where
        spent : (view w'.desk).spent ≡ (view w.desk).spent
        spent = ap (λ (z : View). z.spent) laid ∙ looks_spent (view w.desk) u l

    -- and has its role still
    pub minded_role : IsSameRole (view w.desk) (view w'.desk)
    minded_role = role_on (view w.desk) u (view w'.desk) (looks_role (view w.desk) u l) record {
      first = ap (λ (z : View). z.first) laid;
      lent = ap (λ (z : View). z.lent) laid;
      splits = ap (λ (z : View). z.splits) laid;
      drawn = λ e. ap (λ (z : View). z.drawn) laid ∙ e;
    }

module _ (s : Space Parcel) (w : Worker) (m method : ℕ) (o : Object) (minds : Minds s w m (key o method)) (u : View) (chord : ℕ) (ms : List ℕ) (xs : List (Option ℕ)) (found : IsMatch (program_of s) s.events u (view w.desk) m o method chord ms xs)
    (d : Desk Parcel) (same : IsSameDesk w.desk d) (f : ℕ) (qs : List Parcel) (fired : IsFired entries_of arguments_of (λ q. IsParcelOf q (space_code s) (space_limits s)) (program_of s) s.events (view w.desk) (view d) o chord ms f qs) where
  -- what was found was fired
  pub found_fired : HasFired s (record w { desk = d }) (view w.desk) o chord ms f qs
  found_fired = record {
    desk = same.0 ∙ minds.desk;
    untold = minds.untold;
    room = minds.room;
    free = minds.free;
    memory = minds.memory;
    goes_on = minds.goes_on;
    stock = minds.stock;
    spare = minds.spare;
    is_stock = minds.is_stock;
    listed = minds.listed;
    duties = ap (λ (z : View). z.duties) fired.view ∙ duty_goes (view w.desk).duties m (key o method) ms minds.duty found.own;
    fired = fired;
  }

-- a lost member leaves looks alone
pub lost_looks : (v w : View) → w ≡ record v { looked = w.looked } → IsOnlyLooks v w
lost_looks v w same =
    let ds : w.duties ≡ v.duties = ap (λ (z : View). z.duties) same in
    record { frame = same ∙ ap (λ (es : List Duty). record v { duties = es; looked = w.looked }) (sym ds); duties = ap messages_and_bags ds }

-- where the run is full, the task of a worker may be laid down
laid_down : (code : Parts) (limits : Limits) (es : List Entry) (spent : Bool) (t : Option Task) → IsInMemory code limits es spent t → IsInMemory code limits es true None
laid_down code limits es spent None m = record { rises = m.rises; told = m.told; played = tt; quiet = λ e. let z : true ≡ false = e in absurd (cc) }
laid_down code limits es spent (Some t) m = task_laid code limits es spent t m

module _ (s : Space Parcel) (w w' : Worker) (m k : ℕ) (minds : Minds s w m k) (same : IsSameDesk w.desk w'.desk) (view_is : view w'.desk ≡ record (view w.desk) { looked = (view w'.desk).looked; spent = true })
    (task : w'.task ≡ None) (spent : w'.spent ≡ true) (stock : w'.spare ≡ w.spare) (draws : w'.draws.items ≡ w.draws.items) (taken : w'.taken.items ≡ w.taken.items) where
  -- where the limit is reached, the worker is at rest once its task is laid down
  pub refused : IsAtRest s w'
  refused = record {
    desk = same.0 ∙ minds.desk;
    told = spent ∙ sym (ap (λ (z : View). z.spent) view_is);
    free = subst IsHandFree (sym view_is) (record { claims = minds.free.claims; flight = minds.free.flight; fresh = minds.free.fresh });
    duties = λ e. let z : true ≡ false = sym (ap (λ (z : View). z.spent) view_is) ∙ e in absurd (cc);
    memory = subst (λ (z : View). IsInMemory (space_code s) (space_limits s) z.kept z.spent w'.task) (sym view_is)
        (subst (λ (x : Option Task). IsInMemory (space_code s) (space_limits s) (view w.desk).kept true x) (sym task)
        (laid_down (space_code s) (space_limits s) (view w.desk).kept false w.task minds.memory));
    goes_on = subst MayContinue (sym task) tt;
    stock = subst (IsStock (space_code s) (space_limits s)) (sym (stock ∙ minds.spare)) minds.is_stock;
    listed = lists_same w.draws.items w'.draws.items w.taken.items w'.taken.items (view w.desk).draws (view w'.desk).draws draws taken (ap (λ (z : View). z.draws) view_is) minds.listed;
  }

-- a worker that minds a message still does where its list has room for more
pub minds_roomier : (s : Space Parcel) (w : Worker) (m k : ℕ) → Minds s w m k → (list : Vec Entry Global) → list.items ≡ w.draws.items → Minds s (record w { draws = list }) m k
minds_roomier s w m k minds list items = record {
  desk = minds.desk;
  untold = minds.untold;
  room = minds.room;
  free = minds.free;
  duty = minds.duty;
  memory = minds.memory;
  goes_on = minds.goes_on;
  stock = minds.stock;
  spare = minds.spare;
  is_stock = minds.is_stock;
  listed = lists_same w.draws.items list.items w.taken.items w.taken.items (view w.desk).draws (view w.desk).draws items refl refl minds.listed;
}

-- a worker that minds a message, and has no room for the entry of a firing, is out of memory once its task is laid off
pub out_of_memory : (s : Space Parcel) (w : Worker) (m k : ℕ) → Minds s w m k → (list : Vec Entry Global) → list.items ≡ w.draws.items → (x : Option Task) → x ≡ None → IsOutOfMemory s (record w { draws = list; task = x })
out_of_memory s w m k minds list items x none = record {
  desk = minds.desk;
  none = none;
  free = minds.free;
  listed = lists_same w.draws.items list.items w.taken.items w.taken.items (view w.desk).draws (view w.desk).draws items refl refl minds.listed;
}
