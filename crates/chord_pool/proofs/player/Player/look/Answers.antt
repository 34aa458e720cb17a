use Rattle.std.proofs.Common.{◌≡◌, ◌+◌, ℕ, min, if◌then◌else◌, ap, refl, ◌∙◌, subst}
use Rattle.chord_rule.specs.declared.view.View.{View}
use Rattle.chord_space.specs.Desks.{view}
use Rattle.chord_pool.proofs.Looking.{started_since, plays_since, began_from, through_from}
use Rattle.chord_pool.specs.Players.{LookedThrough}
use Rattle.chord_pool.proofs.player.Player.look.Goals.{then-among_all, else-among_all}
use Rattle.chord_pool.proofs.player.Player.look.Goals as goal

pub returns-clause-started : goal.returns-clause-started
returns-clause-started g c = λ some.
    started_since g.G.Gate.knows c.args.self.now.worker c.count-count.new.self c.find_work-self.new.worker c.requires.idle (ap (λ (v : View). v.kept) c.count-count.ensures.counted.2) (c.find_work-self.ensures.started some)

pub returns-clause-kept : goal.returns-clause-kept
returns-clause-kept g c = λ none. c.find_work-self.ensures.kept none ∙ ap (λ (v : View). v.kept) c.count-count.ensures.counted.2

pub returns-clause-plays : goal.returns-clause-plays
returns-clause-plays g c = λ some.
    plays_since g.G.Gate.knows c.args.self.now.worker c.count-count.new.self c.find_work-self.new.worker c.find_work-self.result c.requires.idle (ap (λ (v : View). v.kept) c.count-count.ensures.counted.2) (c.find_work-self.ensures.plays some)

pub returns-clause-began : goal.returns-clause-began
returns-clause-began g c =
    let after = view c.find_work-self.new.worker.desk in
    began_from (view c.args.self.now.worker.desk) (view c.count-count.new.self.desk) after after c.args.self.now.card c.args.self.now.card c.find_work-self.new.card c.find_work-self.new.card
    (ap (λ (v : View). v.looked.seen) c.count-count.ensures.counted.2) refl refl refl refl c.find_work-self.ensures.began

pub returns-clause-found : goal.returns-clause-found
returns-clause-found g c = λ some.
    through_from (view c.args.self.now.worker.desk) (view c.count-count.new.self.desk) (view c.find_work-self.new.worker.desk) c.args.self.now.place (c.find_work-self.result + 1)
    (ap (λ (v : View). v.looked.seen) c.count-count.ensures.counted.2) (c.find_work-self.ensures.found some)

pub returns-clause-through : goal.returns-clause-through
returns-clause-through g c = λ none.
    let place = c.args.self.now.place in
    let before = view c.count-count.new.self.desk in
    let after = view c.find_work-self.new.worker.desk in
    let below : c.if-among_all.below ≡ (if c.args.among_all then c.count-count.result else min c.args.self.now.known c.count-count.result) =
    elim c.if-among_all.branch [ then-among_all w ↦ rw w.if-among_all.true w.below-is | else-among_all w ↦ rw w.if-among_all.false (w.below-is ∙ w.min-below.ensures) ] in
    through_from (view c.args.self.now.worker.desk) before after place _ (ap (λ (v : View). v.looked.seen) c.count-count.ensures.counted.2)
    (subst (λ (n : ℕ). LookedThrough place n before after) below (c.find_work-self.ensures.through none))
