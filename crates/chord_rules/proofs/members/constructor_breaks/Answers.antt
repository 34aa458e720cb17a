use Rattle.std.proofs.Common.{[], drop, ap, ◌∙◌}
use Rattle.std.specs.Prelude.{reverse}
use Rattle.chord_tree.specs.ViewStmts.{see_block}
use Rattle.chord_classes.specs.ChordRules.{formal_tokens, block_names}
use Rattle.chord_classes.specs.DeclarationRules.{barred_among, OnConstructor, repeated_formals}
use Rattle.chord_classes.specs.Least.{least, keys}
use Rattle.chord_classes.proofs.Leasts.{noted_four}
use Rattle.chord_rules.proofs.members.constructor_breaks.Goals as goal

pub returns : goal.returns
returns c =
    noted_four _ _ _ _ _ (keys 21 (barred_among OnConstructor c.args.modifiers.now [] c.args.modifiers.now)) (keys 8 (repeated_formals [] c.args.formals.now)) (keys 4 (drop 8 (formal_tokens c.args.formals.now))) (keys 4 (drop 256 (block_names (see_block c.args.body.now))))
    c.barred.ensures (c.in_ok-formals_again.ensures.noted ∙ ap (λ z. least c.barred.new.breaks.found (keys 8 (repeated_formals (reverse z) c.args.formals.now))) c.new.ensures) c.formals_past.ensures c.locals_past.ensures
