use Rattle.std.proofs.Common.{refl, length}
use Rattle.chord_classes.specs.TypedTerms.{LiteralTyped}
use Rattle.chord_classes.specs.AllNotes.{typed_term_keys}
use Rattle.chord_types.specs.Views.{see_role}
use Rattle.chord_types.specs.Sites.{see_site}
use Rattle.chord_types.proofs.Notes.{nothing_there, short_text}
use Rattle.chord_types.proofs.leaves.literal.Goals as goal

pub returns-clause-receiver : goal.returns-clause-receiver
returns-clause-receiver c =
    let noted = c.judge_literal.ensures (see_site c.args.site.now) (see_role c.args.role) in
    record {
      checked = record {
        built = λ e. c.in_ok-text_of.ensures.built (short_text (length c.args.bytes.now) c.args.at (nothing_there c.args.breaks.now.found c.judge_literal.new.breaks.found (typed_term_keys (see_site c.args.site.now) (see_role c.args.role) (LiteralTyped c.args.bytes.now c.args.at)) noted e));
        typed = refl;
        noted = noted;
        flat = c.in_ok-text_of.ensures.flat;
      };
      console = refl;
    }
