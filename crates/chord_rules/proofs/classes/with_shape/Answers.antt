use Rattle.std.proofs.Common.{[], ◌∷◌, ◌++◌, refl, ap, ◌∙◌}
use Rattle.chord_rules.specs.Limits.{base_depth}
use Rattle.chord_rules.proofs.classes.with_shape.Goals as goal

pub returns : goal.returns
returns c = record {
  table = c.in_ok-with.ensures;
  plans = refl;
  depths = c.in_ok-push.ensures.items ∙ ap (λ z. c.args.progress.depths.items ++ (z ∷ [])) (c.in_ok-depth.ensures.depth ∙ ap (λ z. base_depth z c.args.base) c.deref.ensures.value);
  number = refl;
}
