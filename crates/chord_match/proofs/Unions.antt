-- Entries that come to a place of the run, one parcel after another, leave it a place of the run.
use Rattle.std.proofs.Common.{◌≡◌, ℕ, List, [], ◌∷◌, map, eq-eqb, refl, sym, ap, ◌∙◌}
use Rattle.chord_base.specs.Meaning.{Program}
use Rattle.chord_base.specs.Story.{together, moved_into}
use Rattle.chord_base.specs.declared.event.Entry.{Entry}
use Rattle.chord_base.specs.declared.value.Object.{Object}
use Rattle.chord_base.proofs.Together.{moving_keeps_places}
use Rattle.chord_rule.specs.Coming.{IsPlace, ArePlaces}
use Rattle.chord_match.specs.Fires.{all_together, AreComing}

-- two places of the run are one where one takes over what the other keeps
union_is_place : (p : Program) (es fs : List Entry) → ArePlaces p es fs → IsPlace p (together es fs)
union_is_place p es fs a = record {
  run = a.run;
  view = moved_into a.other a.place a.view;
  merged = moving_keeps_places p a.view a.run a.other a.place (λ e. a.apart (sym e)) a.merged;
  place = a.place;
  is = taken ∙ ap (λ (z : List Entry). together z (a.view a.other)) a.is ∙ ap (together es) a.other_is;
}
  where
    taken : moved_into a.other a.place a.view a.place ≡ together (a.view a.place) (a.view a.other)
    taken = rw (eq-eqb a.place a.place refl) refl

-- so it is after all parcels
pub all_are_place : {P : Type 0} (p : Program) (entries : P → List Entry) (o : Object) (es : List Entry) (js ms : List ℕ) (qs : List P) → IsPlace p es → AreComing p entries o es js ms qs → IsPlace p (all_together es (map entries qs))
all_are_place p entries o es [] [] [] place t = place
all_are_place p entries o es [] [] (q ∷ qs) place t = absurd t
all_are_place p entries o es [] (i ∷ ms) qs place t = absurd t
all_are_place p entries o es (j ∷ js) [] qs place t = absurd t
all_are_place p entries o es (j ∷ js) (i ∷ ms) [] place t = absurd t
all_are_place p entries o es (j ∷ js) (i ∷ ms) (q ∷ qs) place t = all_are_place p entries o (together es (entries q)) js ms qs (union_is_place p es (entries q) t.0.4.places) t.1
