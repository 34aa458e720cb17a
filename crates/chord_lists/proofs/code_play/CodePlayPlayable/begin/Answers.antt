use Rattle.std.proofs.Common.{◌∙◌, sym, ap, length}
use Rattle.std.specs.Prelude.{slice_get}
use Rattle.chord_base.proofs.Taken.{takes_lengths}
use Rattle.chord_base.specs.Bodies.{served_among}
use Rattle.chord_code.specs.Meaning.{code_program, method_is_sync}
use Rattle.chord_lists.proofs.Spots.{one_some}
use Rattle.chord_lists.proofs.code_play.CodePlayPlayable.begin.Goals as goal

pub served_by-served-requires : goal.served_by-served-requires
served_by-served-requires c =
    let m = c.requires.may in
    let f = m.4 in
    let p = code_program c.args.self.now.code.now c.args.self.now.limits.now in
    let same = one_some f.0 c.args.methods.now (slice_get (p.chords c.args.object.class) c.args.chord) f.1 c.requires.methods in
    ap length (sym same) ∙ takes_lengths m.0 c.args.object f.0 c.args.members.now m.1 f.2 ∙ ap length (sym c.items.ensures.numbers)

pub returns-clause-kept : goal.returns-clause-kept
returns-clause-kept c =
    λ some. c.in_ok-begin_body.ensures.kept (λ none. some (ap (served_among (method_is_sync c.args.self.now.code.now c.args.object.class) c.args.methods.now) (sym c.items.ensures.numbers) ∙ sym c.served_by-served.ensures ∙ none))
