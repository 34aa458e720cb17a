use Rattle.std.proofs.Common.{◌∙◌, sym, ap, subst, arith, reverse, length}
use Rattle.std.proofs.lemmas.List.{reverse-reverse, length-reverse}
use Rattle.chord_base.specs.Bounds.{AreWithin}
use Rattle.chord_lists.proofs.code_play.CodePlayPlayable.journal.Goals as goal

pub journal_of-requires : goal.journal_of-requires
journal_of-requires c =
    let r = c.requires in
    record {
      few = (let i = ap length r.1.journal in let j = length-reverse c.args.bodies.entries.items in omega (arith, i, j, r.4));
      within = subst AreWithin (sym r.1.journal) r.3;
    }

pub returns : goal.returns
returns c = λ h s. c.journal_of.ensures ∙ sym (reverse-reverse c.args.bodies.entries.items) ∙ ap reverse s.journal
