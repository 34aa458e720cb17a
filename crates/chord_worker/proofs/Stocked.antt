-- What becomes of the stock in a step: it stays, or a firing that serves no call was drawn last.
use Rattle.std.specs.Prelude.{is_some}
use Rattle.std.proofs.Common.{◌≡◌, ◌≢◌, ℕ, true, false, List, [], ◌∷◌, ◌++◌, Option, None, refl, sym, ap, ◌∙◌, subst, inl, inr, ⊎_elim, append_assoc}
use Rattle.chord_base.specs.declared.event.Entry.{Entry}
use Rattle.chord_base.specs.declared.value.Object.{Object}
use Rattle.chord_base.specs.Meaning.{Program}
use Rattle.chord_base.specs.declared.event.What.{What}
use Rattle.chord_base.specs.declared.event.What.TheVariants.{Fired}
use Rattle.chord_base.specs.Bodies.{served}
use Rattle.chord_base.specs.Messages.{message_of}
use Rattle.chord_base.specs.Printed.{is_end}
use Rattle.chord_match.specs.Fires.{firing_entry, laid_together, IsFired}
use Rattle.chord_rule.specs.declared.view.View.{View}
use Rattle.chord_space.specs.declared.space.Desk.{Desk}
use Rattle.chord_space.specs.Desks.{view}
use Rattle.chord_task.specs.declared.parcel.Opened.{Opened as Parcel}
use Rattle.chord_task.specs.declared.task.Task.{Task}
use Rattle.chord_task.specs.Parcels.{entries_of, arguments_of}
use Rattle.chord_worker.specs.declared.worker.Worker.{Worker}
use Rattle.chord_worker.specs.Stepping.{DrewFiringLast, HasStockAfter, SaysFirst, StillStocked}

-- a firing that serves no call was drawn last
pub fired_last : (keeps : Parcel → Type 0) (p : Program) (n : ℕ) (v w : View) (o : Object) (chord : ℕ) (ms : List ℕ) (f : ℕ) (qs : List Parcel) → IsFired entries_of arguments_of keeps p n v w o chord ms f qs → served p (Fired chord o ms (laid_together arguments_of qs)) ≡ None → DrewFiringLast p v.draws w.draws
fired_last keeps p n v w o chord ms f qs fired serves_none = record {
  others = [];
  fired = firing_entry arguments_of o chord ms f qs;
  drawn = ap (λ (z : View). z.draws) fired.view;
  is_firing = tt;
  begins = refl;
  serves_none = serves_none;
}

-- one that was drawn last after an entry more was drawn last
last_since : (p : Program) (e : Entry) (before now : List Entry) → DrewFiringLast p (e ∷ before) now → DrewFiringLast p before now
last_since p e before now last = record {
  others = last.others ++ e ∷ [];
  fired = last.fired;
  drawn = last.drawn ∙ ap (λ (es : List Entry). last.fired ∷ es) (sym (append_assoc last.others (e ∷ []) before));
  is_firing = last.is_firing;
  begins = last.begins;
  serves_none = last.serves_none;
}

module _ (p : Program) (before es : List Entry) (x y : Option Task) (w : Worker) (same : x ≢ None → y ≡ x) (still : StillStocked p es y w) where
  -- the stock where nothing was drawn before
  pub stocked_alike : es ≡ before → StillStocked p before x w
  stocked_alike is = λ there.
      ⊎_elim
      (λ stays. inl (stays ∙ same there))
      (λ last. inr (subst (λ (ds : List Entry). DrewFiringLast p ds (view w.desk).draws) is last))
      (still (λ none. there (sym (same there) ∙ none)))

  -- the stock where an entry was drawn before
  pub stocked_since : (e : Entry) → es ≡ e ∷ before → StillStocked p before x w
  stocked_since e is = λ there.
      ⊎_elim
      (λ stays. inl (stays ∙ same there))
      (λ last. inr (last_since p e before (view w.desk).draws (subst (λ (ds : List Entry). DrewFiringLast p ds (view w.desk).draws) is last)))
      (still (λ none. there (sym (same there) ∙ none)))

-- the stock where a task comes there if there is none
pub stocked_retired : (p : Program) (before : List Entry) (x : Option Task) (w w' : Worker) → w'.desk ≡ w.desk → (w.spare ≢ None → w'.spare ≡ w.spare) → StillStocked p before x w → StillStocked p before x w'
stocked_retired p before x w w' desk same still = λ there.
    ⊎_elim
    (λ stays. inl (same (λ none. there (sym stays ∙ none)) ∙ stays))
    (λ last. inr (subst (λ (d : Desk Parcel). DrewFiringLast p before (view d).draws) (sym desk) last))
    (still there)

module _ (p : Program) (before : List Entry) (x : Option Task) (w : Worker) (what : What) (says : SaysFirst what before (view w.desk).draws) where
  -- the stock after a message, which was there before it
  pub message_stocked : (y : Option Task) → (x ≢ None → y ≡ x) → y ≢ None → StillStocked p before y w → is_some (message_of what) ≡ true → HasStockAfter p before x w
  message_stocked y same some still message = record {
    still = stocked_alike p before before x y w same still refl;
    stocked = λ e first is. ⊎_elim (λ stays. inl (λ none. some (sym stays ∙ none))) (λ last. inr last) (still some);
    unmade = λ e first none plain. let z : true ≡ false = sym message ∙ ap is_some (ap message_of (sym (says e first)) ∙ none) in absurd (cc);
  }

  -- the stock after an entry that is no message
  pub own_stocked : (x ≢ None → w.spare ≡ x) → (is_end what ≡ false → w.spare ≡ x) → message_of what ≡ None → HasStockAfter p before x w
  own_stocked stays unmade none = record {
    still = λ there. inl (stays there);
    stocked = λ e first some. absurd (some (ap message_of (says e first) ∙ none));
    unmade = λ e first no plain. unmade (ap is_end (sym (says e first)) ∙ plain);
  }
