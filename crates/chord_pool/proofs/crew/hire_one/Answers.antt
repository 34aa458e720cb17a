use Rattle.std.proofs.Common.{◌≡◌, ◌+◌, List, length, None, subst, sym, ap, ◌∙◌, refl}
use Rattle.chord_roll.specs.Cards.{counts, last_read, stops, roll_of}
use Rattle.chord_rule.specs.declared.view.View.{View}
use Rattle.chord_space.specs.Desks.{view}
use Rattle.chord_worker.specs.declared.worker.Worker.{Worker}
use Rattle.chord_worker.specs.Resting.{IsAtRest}
use Rattle.chord_pool.specs.declared.player.Player.{Player}
use Rattle.chord_pool.specs.Players.{IsHired, IsCrew, AreCards}
use Rattle.chord_pool.proofs.Crews.{hired, carded}
use Rattle.chord_pool.proofs.crew.hire_one.Goals as goal

pub returns : goal.returns
returns c =
    let s = c.args.space.now in let after = c.hired-worker.new.self in let was = c.requires.crew in let h = c.hired-worker.ensures in let one = c.new.result in let made = c.new.ensures in
    let task : one.worker.task ≡ None = ap (λ (w : Worker). w.task) made.0 ∙ h.other.1 in
    let new : IsHired s one = record {
      may = λ sane. record { rest = subst (IsAtRest s) (sym made.0) h.other.0; over = λ told. task };
      task = task;
      undrawn = ap (λ (w : Worker). (view w.desk).draws) made.0 ∙ h.undrawn;
      room = ap (λ (w : Worker). (view w.desk).spent) made.0 ∙ h.other.2;
      sane = made.2;
      uncounted = ap counts made.1 ∙ c.in_ok-card.ensures.other.2;
      unread = ap last_read made.1 ∙ c.in_ok-card.ensures.other.5;
      place = made.3;
      known = made.4;
      misses = made.5;
      untold = ap stops made.1 ∙ c.in_ok-card.ensures.other.3;
    } in
    record {
      same = (refl, refl, refl, refl);
      crew = subst (λ (xs : List Player). IsCrew s after xs × ((view after.desk).splits ≡ length xs) × (length xs ≡ length c.args.others.now.items + 1)) (sym c.in_ok-push.ensures.items)
          (hired s c.args.main.now.worker after c.args.others.now.items one was.0 was.1 h.mine.0 h.mine.1 h.mine.2 new);
      cards = subst (λ (xs : List Player). AreCards c.hire.new.self xs) (sym c.in_ok-push.ensures.items)
          (carded c.args.main.now.card c.hire.new.self c.args.others.now.items one c.requires.cards c.hire.ensures.same.0.0 c.in_ok-card.ensures.other.0 (ap roll_of made.1 ∙ c.in_ok-card.ensures.other.1));
      task = h.mine.1;
      drawn = ap (λ (v : View). v.draws) h.mine.2;
    }
