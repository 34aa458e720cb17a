-- A worker is at rest again after an entry of its task, and where it was told that the limit is reached, and what its look at a cell told it.
use Rattle.std.proofs.Common.{◌≡◌, ℕ, true, false, ◌∷◌, Option, Some, None, refl, sym, ap, ◌∙◌, subst, inl}
use Rattle.chord_base.specs.declared.event.Limits.{Limits}
use Rattle.chord_base.specs.declared.event.What.{What}
use Rattle.chord_code.specs.declared.parts.Parts.{Parts}
use Rattle.chord_rule.specs.declared.view.View.{View}
use Rattle.chord_rule.specs.Kinds.{entry}
use Rattle.chord_rule.specs.Ways.{LastSeen}
use Rattle.chord_space.specs.declared.space.Space.{Space}
use Rattle.chord_space.specs.Desks.{view, space_code, space_limits, IsSameDesk}
use Rattle.chord_task.specs.declared.parcel.Opened.{Opened as Parcel}
use Rattle.chord_task.specs.declared.task.Task.{Task}
use Rattle.chord_word.specs.declared.cells.Cell.TheVariants.{Ready}
use Rattle.chord_word.specs.declared.cells.Word.{Word}
use Rattle.chord_worker.specs.declared.worker.Worker.{Worker}
use Rattle.chord_worker.specs.Playing.{DrawsOne, HeardOfLimit, IsNotedAs, IsNoMessage}
use Rattle.chord_worker.proofs.Listed.{lists_same, one_more_listed}
use Rattle.chord_worker.proofs.Memory.{task_laid}
use Rattle.chord_worker.specs.Resting.{IsInMemory, MayContinue, IsHandFree, IsStock, IsAtRest, IsSameRole, LastSawReady}

-- a desk that drew an entry has its role still
pub role_noted : (code : Parts) (limits : Limits) (v u : View) (t t' : Task) (n : ℕ) (what : What) → IsNotedAs code limits v u t t' n what → IsSameRole v u
role_noted code limits v u t t' n what noted = record {
  first = ap (λ (z : View). z.first) noted.drawn;
  lent = ap (λ (z : View). z.lent) noted.drawn;
  splits = ap (λ (z : View). z.splits) noted.drawn;
  drawn = λ e. ap (λ (z : View). z.drawn) noted.drawn;
}

-- and so has one that was told that the limit is reached
pub role_told : (v u : View) → HeardOfLimit v u → IsSameRole v u
role_told v u told = record {
  first = ap (λ (z : View). z.first) told.1;
  lent = ap (λ (z : View). z.lent) told.1;
  splits = ap (λ (z : View). z.splits) told.1;
  drawn = λ e. ap (λ (z : View). z.drawn) told.1 ∙ e;
}

-- a look at a cell that read that a firing is ready
pub saw_ready : (v w : View) (i : ℕ) (x : Word) → w.looked.seen ≡ record { number = i; word = x } ∷ v.looked.seen → x.cell ≡ Ready → LastSawReady w i
saw_ready v w i x seen ready = record { word = x; last = subst (LastSeen i x) (sym seen) (inl (refl, refl)); ready = ready }

module _ (s : Space Parcel) (w : Worker) (t : Task) (r : IsAtRest s (record w { task = Some t })) (w' : Worker) (same : IsSameDesk w.desk w'.desk) where
  module _ (t' : Task) (n : ℕ) (what : What) (noted : IsNotedAs (space_code s) (space_limits s) (view w.desk) (view w'.desk) t t' n what) where
    -- an entry that is no message was drawn
    pub rest_noted : IsNoMessage what → w'.spent ≡ w.spent → IsStock (space_code s) (space_limits s) w'.spare → IsInMemory (space_code s) (space_limits s) (entry n noted.body what ∷ (view w.desk).kept) (view w.desk).spent w'.task → MayContinue w'.task → DrawsOne (view w.desk).draws (view w'.desk).draws w.draws.items w'.draws.items → w'.taken.items ≡ w.taken.items → IsAtRest s w'
    rest_noted plain spent stock memory goes_on one taken = record {
      desk = same.0 ∙ r.desk;
      told = spent ∙ r.told ∙ sym (ap (λ (z : View). z.spent) noted.drawn);
      free = subst IsHandFree (sym noted.drawn) (record { claims = r.free.claims; flight = r.free.flight; fresh = plain n (view w.desk).fresh ∙ r.free.fresh });
      duties = λ e. ap (λ (z : View). z.duties) noted.drawn ∙ r.duties (sym (ap (λ (z : View). z.spent) noted.drawn) ∙ e);
      memory = subst (λ (z : View). IsInMemory (space_code s) (space_limits s) z.kept z.spent w'.task) (sym noted.drawn) memory;
      goes_on = goes_on;
      stock = stock;
      listed = one_more_listed w.draws.items w'.draws.items w.taken.items w'.taken.items (view w.desk).draws (view w'.desk).draws one taken r.listed;
    }

  module _ (told : HeardOfLimit (view w.desk) (view w'.desk)) where
    -- the desk was told that the limit is reached
    pub rest_told : w'.spare ≡ w.spare → w'.task ≡ None → w'.spent ≡ true → w'.draws.items ≡ w.draws.items → w'.taken.items ≡ w.taken.items → IsAtRest s w'
    rest_told stock task spent draws taken = record {
      desk = same.0 ∙ r.desk;
      told = spent ∙ sym (ap (λ (z : View). z.spent) told.1);
      free = subst IsHandFree (sym told.1) (record { claims = r.free.claims; flight = r.free.flight; fresh = r.free.fresh });
      duties = λ e. let z : true ≡ false = sym (ap (λ (z : View). z.spent) told.1) ∙ e in absurd (cc);
      memory = subst (λ (z : View). IsInMemory (space_code s) (space_limits s) z.kept z.spent w'.task) (sym told.1)
          (subst (λ (x : Option Task). IsInMemory (space_code s) (space_limits s) (view w.desk).kept true x) (sym task)
          (task_laid (space_code s) (space_limits s) (view w.desk).kept (view w.desk).spent t r.memory));
      goes_on = subst MayContinue (sym task) tt;
      stock = subst (IsStock (space_code s) (space_limits s)) (sym stock) r.stock;
      listed = lists_same w.draws.items w'.draws.items w.taken.items w'.taken.items (view w.desk).draws (view w'.desk).draws draws taken (ap (λ (z : View). z.draws) told.1) r.listed;
    }
