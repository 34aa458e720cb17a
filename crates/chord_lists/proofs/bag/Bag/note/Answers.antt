use Rattle.std.proofs.Common.{◌∙◌, sym, ap}
use Rattle.std.proofs.lemmas.Result.{on_ok_weaker}
use Rattle.chord_lists.specs.Bag.{first_comes, older_of}
use Rattle.chord_lists.proofs.Newest.{noted_before, newest_first, none_apart}
use Rattle.chord_lists.proofs.bag.Bag.note.Goals as goal

pub returns-in-None-clause-pushed : goal.returns-in-None-clause-pushed
returns-in-None-clause-pushed c = λ i.
    let ns = older_of c.args.self.now.older i in
    ap (λ newest. first_comes newest i ns) c.replace.ensures.after
    ∙ newest_first c.args.self.now.newest (record { object = c.args.object; method = c.args.method; number = c.args.number }) i ns (sym c.replace.ensures.value ∙ c.in-None.is)

pub returns-in-Some-clause-pushed : goal.returns-in-Some-clause-pushed
returns-in-Some-clause-pushed c =
    on_ok_weaker c.note.result
    (λ q i.
    let ns = older_of c.args.self.now.older i in
    let ns' = older_of c.note.new.self i in
    ap (λ newest. first_comes newest i ns') c.replace.ensures.after
    ∙ noted_before c.args.self.now.newest (record { object = c.args.object; method = c.args.method; number = c.args.number }) c.in-Some.before i ns ns' (sym c.replace.ensures.value ∙ c.in-Some.is) (q i))
    c.note.ensures.pushed

pub returns-in-None-clause-class : goal.returns-in-None-clause-class
returns-in-None-clause-class c last before stood second =
    absurd (none_apart c.args.self.now.newest last (sym c.replace.ensures.value ∙ c.in-None.is) stood)

pub returns-in-Some-clause-class : goal.returns-in-Some-clause-class
returns-in-Some-clause-class c last before stood second = c.note.ensures.class before second
