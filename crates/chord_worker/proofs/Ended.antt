-- A worker that minds a message ends the body that sent it.
use Rattle.std.proofs.Common.{◌≡◌, ◌≢◌, ℕ, true, false, ◌∷◌, Option, Some, None, refl, sym, ap, ◌∙◌, subst}
use Rattle.chord_bag.specs.Reads.{messages_and_bags}
use Rattle.chord_base.specs.declared.event.What.{What}
use Rattle.chord_rule.specs.declared.view.View.{View}
use Rattle.chord_rule.specs.Kinds.{entry}
use Rattle.chord_space.specs.declared.space.Space.{Space}
use Rattle.chord_space.specs.Desks.{view, space_code, space_limits, IsSameDesk}
use Rattle.chord_task.specs.declared.parcel.Opened.{Opened as Parcel}
use Rattle.chord_task.specs.declared.task.Task.{Task}
use Rattle.chord_task.specs.Standing.{is_ready_of}
use Rattle.chord_worker.specs.declared.worker.Worker.{Worker}
use Rattle.chord_worker.specs.Playing.{DrawsOne, HeardOfLimit, IsNotedAs, IsNoMessage}
use Rattle.chord_worker.specs.Resting.{IsInMemory, MayContinue, IsHandFree, IsStock, IsAtRest}
use Rattle.chord_worker.specs.Sending.{Minds}
use Rattle.chord_worker.proofs.Listed.{lists_same, one_more_listed}
use Rattle.chord_worker.proofs.Memory.{task_done, task_laid}

module _ (s : Space Parcel) (w : Worker) (t : Task) (m k : ℕ) (minds : Minds s (record w { task = Some t }) m k) (w' : Worker) (same : IsSameDesk w.desk w'.desk) where
  module _ (t' : Task) (n : ℕ) (what : What) (noted : IsNotedAs (space_code s) (space_limits s) (view w.desk) (view w'.desk) t t' n what) where
    -- its task is over, and it still minds the message
    pub ended_minds : IsNoMessage what → is_ready_of t' ≡ false → w'.spent ≡ w.spent → w'.spare ≡ w.spare → w'.task ≡ None → DrawsOne (view w.desk).draws (view w'.desk).draws w.draws.items w'.draws.items → w'.taken.items ≡ w.taken.items → Minds s w' m k
    ended_minds plain over spent spare task one taken = record {
      desk = same.0 ∙ minds.desk;
      untold = spent ∙ minds.untold;
      room = ap (λ (z : View). z.spent) noted.drawn ∙ minds.room;
      free = subst IsHandFree (sym noted.drawn) (record { claims = minds.free.claims; flight = minds.free.flight; fresh = plain n (view w.desk).fresh ∙ minds.free.fresh });
      duty = ap (λ (z : View). messages_and_bags z.duties) noted.drawn ∙ minds.duty;
      memory = subst (λ (x : Option Task). IsInMemory (space_code s) (space_limits s) (view w'.desk).kept false x) (sym task)
          (subst (λ (z : View). IsInMemory (space_code s) (space_limits s) z.kept false None) (sym noted.drawn)
          (task_done (space_code s) (space_limits s) (entry n noted.body what ∷ (view w.desk).kept) false t' (noted.memory false minds.memory) over));
      goes_on = subst MayContinue (sym task) tt;
      stock = minds.stock;
      spare = spare ∙ minds.spare;
      is_stock = minds.is_stock;
      listed = one_more_listed w.draws.items w'.draws.items w.taken.items w'.taken.items (view w.desk).draws (view w'.desk).draws one taken minds.listed;
    }

  module _ (told : HeardOfLimit (view w.desk) (view w'.desk)) where
    -- it was told that the limit is reached, and is at rest
    pub ended_told : w'.spare ≡ w.spare → w'.task ≡ None → w'.spent ≡ true → w'.draws.items ≡ w.draws.items → w'.taken.items ≡ w.taken.items → IsAtRest s w'
    ended_told stock task spent draws taken = record {
      desk = same.0 ∙ minds.desk;
      told = spent ∙ sym (ap (λ (z : View). z.spent) told.1);
      free = subst IsHandFree (sym told.1) (record { claims = minds.free.claims; flight = minds.free.flight; fresh = minds.free.fresh });
      duties = λ e. let z : true ≡ false = sym (ap (λ (z : View). z.spent) told.1) ∙ e in absurd (cc);
      memory = subst (λ (z : View). IsInMemory (space_code s) (space_limits s) z.kept z.spent w'.task) (sym told.1)
          (subst (λ (x : Option Task). IsInMemory (space_code s) (space_limits s) (view w.desk).kept true x) (sym task)
          (task_laid (space_code s) (space_limits s) (view w.desk).kept false t minds.memory));
      goes_on = subst MayContinue (sym task) tt;
      stock = subst (IsStock (space_code s) (space_limits s)) (sym (stock ∙ minds.spare)) minds.is_stock;
      listed = lists_same w.draws.items w'.draws.items w.taken.items w'.taken.items (view w.desk).draws (view w'.desk).draws draws taken (ap (λ (z : View). z.draws) told.1) minds.listed;
    }

-- a worker at rest may put another task into its stock
pub rest_stocked : (s : Space Parcel) (w : Worker) (x : Option Task) → IsStock (space_code s) (space_limits s) x → IsAtRest s w → IsAtRest s (record w { spare = x })
rest_stocked s w x stock r = record {
  desk = r.desk;
  told = r.told;
  free = r.free;
  duties = r.duties;
  memory = r.memory;
  goes_on = r.goes_on;
  stock = stock;
  listed = r.listed;
}

-- what is in stock stays, and where nothing is in stock something comes there
pub stays_stocked : (x y : Option Task) → (x ≢ None → y ≡ x) → (x ≡ None → y ≢ None) → y ≢ None
stays_stocked None y same serves = serves refl
stays_stocked (Some t) y same serves = λ e.
    let z : Some t ≡ None = sym (same (λ f. let y : Some t ≡ None = f in absurd (cc))) ∙ e in
    absurd (cc)
