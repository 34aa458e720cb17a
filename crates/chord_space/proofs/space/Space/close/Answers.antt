use Rattle.std.proofs.Common.{◌≡◌, ℕ, List, min, sym, ap, ◌∙◌, subst, arith, get_or}
use mathlib.Core.Option.{some}
use lib.ListN.{get_elem?}
use Rattle.chord_code.specs.Meaning.{code_program}
use Rattle.chord_rule.specs.declared.view.View.{View}
use Rattle.chord_rule.proofs.Closing.{closing, closing_awake}
use Rattle.chord_rule.proofs.Knowing.{at_home, drew_all}
use Rattle.chord_space.proofs.Items.{got_item, got_first}
use Rattle.chord_space.proofs.space.Space.close.Goals as goal

pub returns-clause-sealed : goal.returns-clause-sealed
returns-clause-sealed g c =
    let sized = c.args.self.sized in let key = c.args.self.table.shared.key in let n : ℕ = key.limits.events in let settled = c.args.desk.settled in
    let keeps : g.row.P.Denot → Type 0 = λ q. g.P.Carry.keeps_to q key.code.value key.limits in let p = code_program key.code.value key.limits in
    let final = c.close_with-slots.ensures.values.2 in let h = final.1.0.0 in let m = h.moment in let v : View = c.args.desk.seat.me.0 in
    let at : get_elem? m.views c.args.desk.seat.id ≡ some v = subst (λ (vs : List View). get_elem? vs c.args.desk.seat.id ≡ some v) h.shows.views final.1.1 in
    let count : m.count ≡ c.word.result = sym h.shows.count ∙ ap (λ (ws : List ℕ). get_or ws 0 0) final.2 ∙ got_first c.close_with-slots.result.words.items c.word.result 0 c.word.ensures in record {
      moment = m;
      unseen = h.ghosts;
      rule = h.rule;
      desk = at;
      drawn_is = c.at_most-drawn.ensures ∙ (λ k. min (sym count k) (sym sized.0 k)) ∙ sym h.rule.agrees.stands.keeping.long;
      journal = drew_all g.P.Carry.entries g.P.Carry.arguments keeps p n (omega arith) m h.ghosts h.rule c.args.desk.seat.id v at settled.6 c.requires.alone.0 c.requires.alone.1;
      at_rest = closing_awake g.P.Carry.entries g.P.Carry.arguments keeps p n (omega arith) (omega arith) m h.ghosts h.rule c.args.desk.seat.id v at settled.6;
      complete = closing g.P.Carry.entries g.P.Carry.arguments keeps p n (omega arith) (omega arith) m h.ghosts h.rule c.args.desk.seat.id v at settled.6;
      homes = λ i low.
          let home = at_home g.P.Carry.entries g.P.Carry.arguments keeps p n (omega arith) m h.ghosts h.rule c.args.desk.seat.id v at settled.6 c.requires.alone.0 c.requires.alone.1 settled.3 settled.7 settled.4 settled.5 i in
          (home.0, home.1, got_item c.close_with-slots.result.slots.items i home.0 (final.4 i home.0 (h.shows.homes i low ∙ ap some home.1)));
    }
