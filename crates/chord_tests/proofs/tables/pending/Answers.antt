use Rattle.std.proofs.Common.{[], sym, ap, subst}
use Rattle.chord_base.specs.declared.event.Limits.{Limits}
use Rattle.chord_code.specs.declared.parts.Parts.{Parts}
use Rattle.chord_code.specs.Meaning.{code_program}
use Rattle.chord_rule.specs.declared.view.View.{View}
use Rattle.chord_space.specs.Desks.{space_limits}
use Rattle.chord_space.specs.Gives.{MayLink}
use Rattle.chord_tests.proofs.Sending.{may_link}
use Rattle.chord_tests.proofs.tables.pending.Goals as goal

pub link-requires-clause-link : goal.link-requires-clause-link
link-requires-clause-link c = let code = c.requires.code in let sent = c.requires.sent in let limits : Limits = space_limits c.args.space.now in
    subst (λ (y : Parts × View). MayLink (code_program y.0 limits) y.1 c.args.message (record { number = c.args.made; class = 0 }) 0 [] []) (λ i. (sym code.0 i, sym sent.4 i))
    (may_link limits (ap (λ (l : Limits). l.depth) code.1) c.args.begun c.args.made c.args.message sent.0 sent.1 sent.2)
