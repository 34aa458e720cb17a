-- What a program spells is read as that program, and a source that has a program is refused by a rule alone.
use Rattle.std.proofs.Common.{◌≡◌, ◌∙◌, arith, map, refl, sym}
use Rattle.chord_lexer.proofs.Chains.{not_both}
use Rattle.chord_parser.proofs.Whole.{only_memory, told_unplaced}
use Rattle.chord_tree.proofs.BackClasses.{only_one}
use Rattle.chord_tree.specs.Program.{spelling, token_kinds, without_span}
use Rattle.chord_run.proofs.Causes.{syntax_not_program, tall_not_program}
use Rattle.chord_run.specs.Laws.{IsRefusedByRule, SpellingIsReadAgain}
use Rattle.chord_run.specs.declared.refusal.Refusal.TheVariants.{Bad, Long, Rule, Syntax, Tall}

-- a source that has a program is refused by a rule alone
pub refused_by_rule : IsRefusedByRule
refused_by_rule source program Long g long = absurd (let s = g.short in omega arith)
refused_by_rule source program (Bad k) g bad = absurd (not_both source g.tokens k g.read bad.1)
refused_by_rule source program (Syntax k) g c = absurd (syntax_not_program source program k c g)
refused_by_rule source program (Tall k) g c = absurd (tall_not_program source program k c g)
refused_by_rule source program (Rule rule token) g c = (rule, token, refl)

-- the tokens that a program spells are read as that program
pub spelling_is_read_again : SpellingIsReadAgain
spelling_is_read_again program is not_tall =
    let told : spelling program ≡ token_kinds (map without_span (spelling program)) = sym (told_unplaced (spelling program)) in
    record {
      spelled = told;
      only = λ other a e. only_one other program a is (e ∙ sym told);
      unrefused = λ fault answer. only_memory (token_kinds (map without_span (spelling program))) fault answer program is not_tall told;
    }
