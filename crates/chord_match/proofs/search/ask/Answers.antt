use Rattle.std.proofs.Common.{◌≡◌, ◌<◌, ℕ, List, length, slice_set, sym, ap, ◌∙◌, subst, Option, Some, arith}
use Rattle.chord_space.specs.Desks.{view}
use Rattle.chord_bag.specs.declared.walk.Sought.{Sought}
use Rattle.chord_match.specs.Noting.{all_told}
use Rattle.chord_match.specs.Searching.{Learned}
use Rattle.chord_match.proofs.Knowing.{learned_before, learned_now}
use Rattle.chord_match.proofs.Noted.{told_at_place, told_where_set, all_long}
use Rattle.chord_match.proofs.search.ask.Goals as goal

pub returns-in-Some-clause-learned : goal.returns-in-Some-clause-learned
returns-in-Some-clause-learned g c =
    let known = c.args.known.now in let j = c.args.method in
    let low : j < length known = (let b = c.requires.bounds.2 in let is = c.args.space.now.sized.5 in let few = c.args.space.now.sized.6 in omega (arith, b, is, few)) in
    learned_before c.args.space.now.events (view c.args.desk.now) c.args.object j (all_told known) c.in-Some.sought (told_at_place known j _ low ∙ sym c.answer.ensures ∙ c.in-Some.is)

pub returns-in-None-clause-learned : goal.returns-in-None-clause-learned
returns-in-None-clause-learned g c =
    let known = c.args.known.now in let j = c.args.method in let s = c.seek-sought.result in
    let low : j < length known = (let l = c.of.array_long in let b = c.requires.bounds.2 in let is = c.args.space.now.sized.5 in let few = c.args.space.now.sized.6 in omega (arith, l, b, is, few)) in
    let few : j < 16 = (let b = c.requires.bounds.2 in let is = c.args.space.now.sized.5 in let f = c.args.space.now.sized.6 in omega (arith, b, is, f)) in
    let set : all_told (slice_set known j c.of.result) ≡ slice_set (all_told known) j (Some s) = told_where_set known j c.of.result ∙ ap (slice_set (all_told known) j) c.of.ensures in
    subst (λ (z : List (Option Sought)). Learned c.args.space.now.events (view c.args.desk.now) (view c.seek-sought.new.desk) c.args.object j (all_told known) z s) (sym set)
    (learned_now c.args.space.now.events (view c.args.desk.now) (view c.seek-sought.new.desk) c.args.object j (all_told known) s (told_at_place known j _ low ∙ sym c.answer.ensures ∙ c.in-None.is) (subst (λ (z : ℕ). j < z) (sym (all_long known)) low) few c.seek-sought.ensures.sought c.seek-sought.ensures.tidy c.seek-sought.ensures.other_heads)
