use Rattle.std.proofs.Common.{map, sym, ap, ◌∙◌}
use Rattle.chord_tree.specs.declared.exprs.Calls.{out-Calls}
use Rattle.chord_tree.specs.declared.exprs.Chain.{out-Chain}
use Rattle.chord_tree.specs.Tree.{MoreDots, dots, links}
use Rattle.chord_tree.specs.Terms.{term, first_token}
use Rattle.chord_tree.specs.ViewExprs.{see_expr, see_chain, see_calls, see_link, see_dot}
use Rattle.chord_tree.proofs.SeenExprs.{seen_chain, seen_chained, seen_alone, seen_calls, seen_called}
use Rattle.chord_tree.proofs.Counts.{first_chained, first_called}
use Rattle.chord_tree.proofs.exprs.Expr.+first_token.Goals as goal

pub returns-in-Chain : goal.returns-in-Chain
returns-in-Chain t c = c.first_token.ensures ∙ sym (first_chained (see_expr (out-Chain c.deref.result.now).first) (see_link (out-Chain c.deref.result.now).link) (links (map see_link (out-Chain c.deref.result.now).more.items))) ∙ sym (ap (λ z. first_token (term z)) (seen_chain c.deref.result.now)) ∙ ap (λ z. first_token (term (see_chain z))) c.deref.ensures ∙ sym (ap (λ z. first_token (term z)) (ap see_expr c.in-Chain.is ∙ seen_chained c.in-Chain.chain))

pub returns-in-Start : goal.returns-in-Start
returns-in-Start t c = c.first_token-in-Start.ensures ∙ sym (ap (λ z. first_token (term z)) (ap see_expr c.in-Start.is ∙ seen_alone c.in-Start.start))

pub returns-in-Calls : goal.returns-in-Calls
returns-in-Calls t c = c.first_token-in-Calls.ensures ∙ sym (ap (λ z. first_token (term z)) (ap see_expr c.in-Calls.is ∙ seen_called c.in-Calls.calls ∙ ap see_calls (sym c.deref-in-Calls.ensures) ∙ seen_calls c.deref-in-Calls.result.now) ∙ first_called (MoreDots (see_dot (out-Calls c.deref-in-Calls.result.now).first) (dots (map see_dot (out-Calls c.deref-in-Calls.result.now).more.items))) _)
