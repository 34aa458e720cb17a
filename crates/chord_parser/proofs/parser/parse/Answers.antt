use Rattle.std.proofs.Common.{◌≡◌, ◌≤◌, refl, sym, subst}
use Rattle.chord_tree.specs.Program.{IsProgram, spelling, token_kinds}
use Rattle.chord_tree.specs.View.{tree_of}
use Rattle.chord_parser.specs.Answers.{IsNotTall}
use Rattle.chord_parser.specs.Nesting.{program_depth}
use Rattle.chord_parser.proofs.NestedStmts.{not_tall_nested}
use Rattle.chord_parser.proofs.Whole.{found, stopped, only_memory, the_one}
use Rattle.chord_parser.proofs.OneVerdict.{at_only, tall_only, found_not_at, found_not_tall}
use Rattle.chord_parser.proofs.parser.parse.Goals as goal

pub new-requires : goal.new-requires
new-requires c = (found _ c.args.tokens.now _ (tree_of (record { usings = c.in-Ok.usings.items; classes = c.in-Ok.classes.items })) refl c.in-Ok.ensures.end c.in-Ok.ensures.ok).program

pub numbered-requires-clause-stopped : goal.numbered-requires-clause-stopped
numbered-requires-clause-stopped c = stopped _ _ c.in-Err.ensures.err

pub returns-in-Ok-clause-spelled : goal.returns-in-Ok-clause-spelled
returns-in-Ok-clause-spelled c = subst (λ v. spelling (tree_of v) ≡ token_kinds c.args.tokens.now) (sym c.new.ensures) (found _ c.args.tokens.now _ (tree_of (record { usings = c.in-Ok.usings.items; classes = c.in-Ok.classes.items })) refl c.in-Ok.ensures.end c.in-Ok.ensures.ok).spelled

pub returns-in-Ok-clause-program : goal.returns-in-Ok-clause-program
returns-in-Ok-clause-program c = subst (λ v. IsProgram (tree_of v)) (sym c.new.ensures) (found _ c.args.tokens.now _ (tree_of (record { usings = c.in-Ok.usings.items; classes = c.in-Ok.classes.items })) refl c.in-Ok.ensures.end c.in-Ok.ensures.ok).program

pub returns-in-Ok-clause-not_tall : goal.returns-in-Ok-clause-not_tall
returns-in-Ok-clause-not_tall c = subst (λ v. IsNotTall (tree_of v)) (sym c.new.ensures) (found _ c.args.tokens.now _ (tree_of (record { usings = c.in-Ok.usings.items; classes = c.in-Ok.classes.items })) refl c.in-Ok.ensures.end c.in-Ok.ensures.ok).not_tall

pub returns-in-Ok-clause-nested : goal.returns-in-Ok-clause-nested
returns-in-Ok-clause-nested c =
    let program = tree_of (record { usings = c.in-Ok.usings.items; classes = c.in-Ok.classes.items }) in
    let f = found _ c.args.tokens.now _ program refl c.in-Ok.ensures.end c.in-Ok.ensures.ok in
    subst (λ v. program_depth (tree_of v) ≤ 1600) (sym c.new.ensures) (not_tall_nested program f.program f.not_tall)

pub returns-in-Ok-clause-the_one : goal.returns-in-Ok-clause-the_one
returns-in-Ok-clause-the_one c = λ t a e. subst (λ v. tree_of v ≡ t) (sym c.new.ensures) (the_one _ _ (found _ c.args.tokens.now _ (tree_of (record { usings = c.in-Ok.usings.items; classes = c.in-Ok.classes.items })) refl c.in-Ok.ensures.end c.in-Ok.ensures.ok) t a e)

pub returns-in-Ok-clause-found : goal.returns-in-Ok-clause-found
returns-in-Ok-clause-found c = λ t a l e. tt

pub returns-in-Err-clause-the_one : goal.returns-in-Err-clause-the_one
returns-in-Err-clause-the_one c = λ t a e. tt

pub returns-in-Err-clause-found : goal.returns-in-Err-clause-found
returns-in-Err-clause-found c = only_memory _ _ c.numbered.ensures

pub returns-in-Ok-clause-at : goal.returns-in-Ok-clause-at
returns-in-Ok-clause-at c = found_not_at _ _ (found _ c.args.tokens.now _ (tree_of (record { usings = c.in-Ok.usings.items; classes = c.in-Ok.classes.items })) refl c.in-Ok.ensures.end c.in-Ok.ensures.ok)

pub returns-in-Ok-clause-tall : goal.returns-in-Ok-clause-tall
returns-in-Ok-clause-tall c = found_not_tall _ _ (found _ c.args.tokens.now _ (tree_of (record { usings = c.in-Ok.usings.items; classes = c.in-Ok.classes.items })) refl c.in-Ok.ensures.end c.in-Ok.ensures.ok)

pub returns-in-Err-clause-at : goal.returns-in-Err-clause-at
returns-in-Err-clause-at c = at_only _ _ c.numbered.ensures

pub returns-in-Err-clause-tall : goal.returns-in-Err-clause-tall
returns-in-Err-clause-tall c = tall_only _ _ c.numbered.ensures
