use Rattle.std.proofs.Common.{◌≡◌, arith, sym, ap, subst, ◌∙◌, ◌++◌, ◌∷◌, [], length, Some}
use Rattle.std.specs.Str.{bytes_eq}
use Rattle.std.specs.Map.{update}
use Rattle.std.proofs.lemmas.Map.Text.{btree_map_updates_str}
use Rattle.chord_classes.specs.NamePlaces.{FindsNames}
use Rattle.chord_types.specs.Views.{local_names}
use Rattle.chord_types.proofs.ScopePlaces.{places_more, finds_there, names_end, names_length, copied_some, none_of, found_place}
use Rattle.chord_types.proofs.scope.Scope.push.Goals as goal
use Rattle.chord_types.proofs.scope.Scope.push.Goals.{then-is_none+in_ok-insert, else-is_none}

pub invariant_of-self-2 : goal.invariant_of-self-2
invariant_of-self-2 c =
    let locals = c.self.inside.locals.items in
    let name = c.args.local.name.now in
    let count : c.len-place.result ≡ length (local_names locals) = omega (arith, c.len-place.ensures, c.self.inside.locals.ok.0, names_length locals) in
    elim c.if-is_none.branch [
      | then-is_none+in_ok-insert w ↦
          subst (λ z. FindsNames z (local_names c.push.new.self.items)) (sym (ap (λ s. s.places) w.self-inside-is))
          (subst (λ z. FindsNames w.insert.new.self z) (sym (ap local_names (c.in_ok-push.ensures.items ∙ ap (λ s. s.locals.items ++ (c.args.local ∷ [])) w.self-inside-is) ∙ names_end _ c.args.local ∙ ap (λ z. local_names z ++ (name ∷ [])) c.in_ok-reserve.ensures.items))
          (places_more c.self.inside.places w.insert.new.self (local_names locals) name c.self.invariant
          (none_of (found_place c.self.inside.places name) (sym (copied_some _ _ c.get.ensures.value) ∙ w.if-is_none.ensures))
          (λ x. btree_map_updates_str name c.self.inside.places w.insert.new.self _ w.in_ok-insert.ensures.updates x ∙ ap (λ n. update bytes_eq (found_place c.self.inside.places) name (Some n) x) count)))
      | else-is_none w ↦
          subst (λ z. FindsNames z (local_names c.push.new.self.items)) (sym (ap (λ s. s.places) w.self-inside-is))
          (subst (λ z. FindsNames c.self.inside.places z) (sym (ap local_names (c.in_ok-push.ensures.items ∙ ap (λ s. s.locals.items ++ (c.args.local ∷ [])) w.self-inside-is) ∙ names_end _ c.args.local ∙ ap (λ z. local_names z ++ (name ∷ [])) c.in_ok-reserve.ensures.items))
          (finds_there c.self.inside.places (local_names locals) name c.self.invariant (sym (copied_some _ _ c.get.ensures.value) ∙ w.if-is_none.ensures)))
    ]
