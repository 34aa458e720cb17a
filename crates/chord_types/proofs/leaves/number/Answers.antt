use Rattle.std.proofs.Common.{◌≡◌, rules, refl, ap, ◌∙◌, w32, to_z, of_z}
use Rattle.chord_bodies.specs.declared.expr.Expr.TheVariants as expr
use Rattle.chord_bodies.specs.Resolved as to
use Rattle.chord_bodies.specs.View.{view_expr}
use Rattle.chord_bodies.proofs.Viewed.{viewed_int}
use Rattle.chord_types.specs.Views.{see_role}
use Rattle.chord_types.specs.Sites.{see_site}
use Rattle.chord_types.proofs.Doubled.{doubled_int}
use Rattle.chord_types.proofs.leaves.number.Goals as goal

pub returns : goal.returns
returns c =
    let same : to_z w32 (of_z w32 c.int_of.result) ≡ c.int_of.result = search rules in
    record {
      checked = record {
        built = λ e. ap (λ z. view_expr (expr.Int z)) same ∙ viewed_int c.int_of.result ∙ ap to.IntOf c.int_of.ensures;
        typed = refl;
        noted = c.judge_number.ensures (see_site c.args.site.now) (see_role c.args.role);
        flat = doubled_int _;
      };
      console = refl;
    }
