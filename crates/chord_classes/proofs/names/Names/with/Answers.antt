use Rattle.std.proofs.Common.{sym, ap, ◌∙◌, ◌++◌, ◌∷◌, [], length}
use Rattle.std.proofs.lemmas.Map.Text.{btree_map_updates_str}
use Rattle.chord_classes.proofs.NamePlaces.{added, kept}
use Rattle.chord_classes.proofs.names.Names.with.Goals as goal
use Rattle.chord_classes.proofs.names.Names.with.Goals.{then-is_none+in_ok-insert, else-is_none}

pub invariant_of-self : goal.invariant_of-self
invariant_of-self c = elim c.if-is_none.branch [
  | then-is_none+in_ok-insert w ↦ added _ _ _ _ _ c.args.name _ _ (ap (λ s. s.places) w.self-inside-is) (c.in_ok-add_one.ensures.items ∙ ap (λ s. s.all.items ++ (c.args.name ∷ [])) w.self-inside-is) c.self.invariant c.get.ensures.value w.if-is_none.ensures (c.len-number.ensures ∙ ap length (sym c.self.view_is))
      (btree_map_updates_str c.args.name.now c.self.inside.places w.insert.new.self _ w.in_ok-insert.ensures.updates)
  | else-is_none w ↦ kept _ _ _ _ c.args.name _ (ap (λ s. s.places) w.self-inside-is) (c.in_ok-add_one.ensures.items ∙ ap (λ s. s.all.items ++ (c.args.name ∷ [])) w.self-inside-is) c.self.invariant c.get.ensures.value w.if-is_none.ensures
]
