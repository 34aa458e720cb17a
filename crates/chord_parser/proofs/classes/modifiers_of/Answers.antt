use Rattle.std.proofs.Common.{sym, ap, arith}
use Rattle.chord_tree.specs.Program.{token_kinds}
use Rattle.chord_tree.specs.declared.classes.ModifierKeyword.TheVariants as modifiers
use Rattle.chord_tree.proofs.Ahead.{next_small}
use Rattle.chord_parser.specs.Lists.{wrapped}
use Rattle.chord_parser.proofs.Reading.{step, ends}
use Rattle.chord_parser.proofs.Chains.{stops, stops_in, exits, from_the_start, enters, then, renamed, as_node}
use Rattle.chord_parser.proofs.ClassLists.{push, modifier_way, all_modifiers, modifiers_begun, shorter_by}
use Rattle.chord_parser.proofs.made.MemberSteps.{modifiers_none, modifiers_none_at}
use Rattle.chord_parser.proofs.classes.modifiers_of.Goals as goal

pub each-init : goal.each-init
each-init c = renamed from_the_start (λ n. ap (λ z. wrapped modifier_way z n) (sym c.new-list.ensures.items))

pub returns-in_err-one-clause-err : goal.returns-in_err-one-clause-err
returns-in_err-one-clause-err c = exits _ _ _ _ _ c.from_residual.ensures.1 (stops_in c.each.invariant _ (stops {count = c.args.count} (modifiers_begun c.in-Some.word c.in-Some.ensures.some) _ c.in_err-one.ensures.err))

pub each-smaller : goal.each-smaller
each-smaller c = shorter_by _ _ c.in_ok-one.ensures.ok (omega arith)

pub each-preserved : goal.each-preserved
each-preserved c = renamed (then c.each.invariant (enters (step (modifiers_begun c.in-Some.word c.in-Some.ensures.some) c.in_ok-one.ensures.ok))) (λ n. push modifier_way _ _ _ n c.in_ok-push.ensures.items)

pub returns-clause-ok : goal.returns-clause-ok
returns-clause-ok c = as_node (c.each.invariant.reads _ _ (ends (modifiers_none (modifiers_none_at _ (next_small (token_kinds c.each.left.now)) (c.in_default.ensures.none modifiers.Public) (c.in_default.ensures.none modifiers.Private) (c.in_default.ensures.none modifiers.Protected) (c.in_default.ensures.none modifiers.Virtual) (c.in_default.ensures.none modifiers.Override) (c.in_default.ensures.none modifiers.Static))))) (all_modifiers c.each.list.items)
