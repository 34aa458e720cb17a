use Rattle.std.proofs.Common.{List, ◌∷◌, inl, refl, sym, ap, ◌∙◌, subst}
use Rattle.std.proofs.lemmas.Bool.{eq-eqb}
use Rattle.chord_rule.specs.declared.view.Claim.{Claim}
use Rattle.chord_rule.specs.declared.view.View.{View}
use Rattle.chord_rule.specs.Claims.{HasThe}
use Rattle.chord_rule.specs.Kinds.{drop_claim}
use Rattle.chord_tests.proofs.tables.claimed.Goals as goal

pub returns-in-Ok-clause-alone : goal.returns-in-Ok-clause-alone
returns-in-Ok-clause-alone c = let alone = c.requires.alone in let t = c.in-Ok.ensures.claimed in let claim = t.0 in
    let given = c.give_back.ensures.given claim (subst (λ (v : View). HasThe claim v.claims) (sym t.2) (inl refl)) t.1.numbered in let looked = c.look_cell.ensures.looked.looked in (
      ap (λ (v : View). v.first) given ∙ ap (λ (v : View). v.first) t.2 ∙ ap (λ (v : View). v.first) looked ∙ alone.0,
      ap (λ (v : View). v.lent) given ∙ ap (λ (v : View). v.lent) t.2 ∙ ap (λ (v : View). v.lent) looked ∙ alone.1,
      ap (λ (v : View). v.splits) given ∙ ap (λ (v : View). v.splits) t.2 ∙ ap (λ (v : View). v.splits) looked ∙ alone.2,
      ap (λ (v : View). v.claims) given ∙ ap (drop_claim c.args.message) (ap (λ (v : View). v.claims) t.2 ∙ ap (λ (cs : List Claim). claim ∷ cs) (ap (λ (v : View). v.claims) looked ∙ alone.3)) ∙ rw (eq-eqb claim.number c.args.message t.1.numbered) refl,
      ap (λ (v : View). v.flight) given ∙ ap (λ (v : View). v.flight) t.2 ∙ ap (λ (v : View). v.flight) looked ∙ alone.4,
    )
