-- What the two passes find of a program is what is found of all rules, and a program without a break has its code.
use Rattle.std.proofs.Common.{◌≡◌, ◌∙◌, List, ap, inl, inr, map, refl, subst, sym}
use Rattle.chord_base.specs.Agreement.{AgreeInRuns}
use Rattle.chord_base.specs.Types.{Signatures}
use Rattle.chord_bodies.specs.BodyView.{view_body}
use Rattle.chord_bodies.specs.Planned.{IsPlanned}
use Rattle.chord_bodies.specs.Resolved.{LayoutOf, Resolved}
use Rattle.chord_bodies.specs.declared.body.Body.{Body}
use Rattle.chord_classes.specs.Breaks.{IsBreak, KeepsEveryRule, every_rule}
use Rattle.chord_classes.specs.Plan.{main_of, plan_of, resolved_program}
use Rattle.chord_classes.specs.Resolve.{bodies_of}
use Rattle.chord_classes.specs.Rules.{is_type_rule}
use Rattle.chord_code.specs.Meaning.{code_program}
use Rattle.chord_code.specs.Sound.{IsSoundCode}
use Rattle.chord_code.specs.declared.parts.Parts.{Parts}
use Rattle.chord_gen.specs.Laws.{KeepsMeaning}
use Rattle.chord_gen.specs.Translation.{code_of}
use Rattle.chord_gen.specs.TypedSource.{IsTypedSource, source_of}
use Rattle.chord_rules.specs.Family.{PassesJoin, is_layout_rule}
use Rattle.chord_run.specs.Compiled.{IsCompiled, IsEarlier}
use Rattle.chord_run.specs.declared.compile.Break.{Break}
use Rattle.chord_source.specs.Laws.{AreWellTyped}
use Rattle.chord_source.specs.Source.{source_program}
use Rattle.chord_tree.specs.Tree.{ProgramTree}

-- the earlier of the first breaks of two passes is the first of all rules
pub earlier_is_first : PassesJoin → (p : ProgramTree) (one other found : Break) → IsBreak is_type_rule p one.rule one.token → IsBreak is_layout_rule p other.rule other.token → IsEarlier one other found → IsBreak every_rule p found.rule found.token
earlier_is_first joins p one other found a b (inl e) =
    subst (λ (z : Break). IsBreak every_rule p z.rule z.token) (sym e.0) ((joins p).0.earlier one.rule one.token other.rule other.token a b e.1)
earlier_is_first joins p one other found a b (inr e) =
    subst (λ (z : Break). IsBreak every_rule p z.rule z.token) (sym e.0) ((joins p).1.earlier other.rule other.token one.rule one.token b a e.1)

-- a layout and bodies in memory that are those of a program are its source
pub source_is : (p : ProgramTree) (layout : LayoutOf) (bodies : List Body) → layout ≡ record { classes = plan_of p; main = main_of p } → map view_body bodies ≡ bodies_of p → source_of layout bodies ≡ resolved_program p
source_is p layout bodies planned typed = rw (planned, typed) refl

-- where a program breaks no rule, and the code of its source is sound and keeps its meaning, that is the program's code
pub has_code : (p : ProgramTree) (source : Resolved) (code : Parts) → source ≡ resolved_program p → IsTypedSource source → ((sig : Signatures) → AreWellTyped sig source → IsPlanned sig source → KeepsMeaning code source sig) → code ≡ code_of source → IsSoundCode code → KeepsEveryRule p → IsCompiled p code
has_code p source code same t keeps is sound kept = record {
  kept = kept;
  is_code = is ∙ ap code_of same;
  sound = sound;
  runs = λ limits. subst (λ z. AgreeInRuns (code_program code limits) (source_program z limits)) same ((keeps t.sig t.typed t.planned).runs limits);
}
