use Rattle.std.proofs.Common.{◌∙◌, sym, ap, subst}
use Rattle.std.specs.Prelude.{OnOk}
use Rattle.std.proofs.lemmas.Result.{on_ok_weaker}
use Rattle.chord_lists.specs.declared.bag.Noted.{Noted}
use Rattle.chord_lists.specs.Bag.{AddsClass, first_comes, items_at, stacked_by}
use Rattle.chord_lists.proofs.Newest.{noted_before, newest_first, one_apart, none_apart}
use Rattle.chord_lists.proofs.bag.Older.note.Goals as goal

pub returns-in-None-clause-pushed : goal.returns-in-None-clause-pushed
returns-in-None-clause-pushed c = λ i.
    let ns = stacked_by c.args.self.now.objects.items i in
    ap (λ newest. first_comes newest i ns) c.replace.ensures.after
    ∙ newest_first c.args.self.now.last c.args.noted i ns (sym c.replace.ensures.value ∙ c.in-None.is)

pub returns-in-Some-clause-pushed : goal.returns-in-Some-clause-pushed
returns-in-Some-clause-pushed c =
    on_ok_weaker c.note_on.result
    (λ q i.
    let ns = stacked_by c.args.self.now.objects.items i in
    let ns' = stacked_by c.note_on.new.objects.items i in
    ap (λ newest. first_comes newest i ns') c.replace.ensures.after
    ∙ noted_before c.args.self.now.last c.args.noted c.in-Some.before i ns ns' (sym c.replace.ensures.value ∙ c.in-Some.is) (q i))
    c.note_on.ensures.pushed

pub returns-in-None-clause-class : goal.returns-in-None-clause-class
returns-in-None-clause-class c before stood =
    absurd (none_apart c.args.self.now.last before (sym c.replace.ensures.value ∙ c.in-None.is) stood)

pub returns-in-Some-clause-class : goal.returns-in-Some-clause-class
returns-in-Some-clause-class c before stood =
    subst (λ (noted : Noted). OnOk c.note_on.result (AddsClass noted.object.class (items_at c.args.self.now.objects.items noted.object.number) (items_at c.note_on.new.objects.items noted.object.number)))
    (one_apart c.in-Some.before before (sym c.in-Some.is ∙ c.replace.ensures.value ∙ stood))
    c.note_on.ensures.class
