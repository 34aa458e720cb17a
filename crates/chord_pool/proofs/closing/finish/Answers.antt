use Rattle.std.proofs.Common.{◌≡◌, ap, ◌∙◌, subst, arith}
use Rattle.std.specs.List.{flat_map}
use Rattle.chord_base.specs.declared.event.Limits.{Limits}
use Rattle.chord_base.specs.Story.{IsIn}
use Rattle.chord_rule.specs.declared.view.View.{View}
use Rattle.chord_space.specs.Desks.{view, space_code, space_limits}
use Rattle.chord_space.specs.Ends.{parcels}
use Rattle.chord_pool.proofs.Ended.{IsGathered, sealed_for, of_run, in_order, ended}
use Rattle.chord_pool.proofs.closing.finish.Goals as goal

pub journal_of-requires-clause-held : goal.journal_of-requires-clause-held
journal_of-requires-clause-held c =
    let code = c.args.code.now in let limits = c.args.limits.now in let slots = parcels c.close-closed.result in let drawn = c.close-closed.result.drawn in let sized = c.args.space.sized in
    let same : (space_limits c.args.space).events ≡ limits.events = ap (λ (y : Limits). y.events) c.requires.code.1 in
    let s = sealed_for (space_code c.args.space) (space_limits c.args.space) code limits c.args.desk.seat.id (view c.args.desk) slots drawn c.requires.code c.close-closed.ensures.sealed in
    of_run code limits c.args.desk.seat.id (view c.args.desk) slots drawn s (omega (arith, sized, same)) c.args.desk.settled.6 c.requires.alone.0 c.requires.alone.1 (c.entries_are_within.ensures.within limits)
    (flat_map (λ list. list.items) c.args.entries.items) c.requires.held

pub journal_of-requires-clause-alone : goal.journal_of-requires-clause-alone
journal_of-requires-clause-alone c =
    let code = c.args.code.now in let limits = c.args.limits.now in let slots = parcels c.close-closed.result in let drawn = c.close-closed.result.drawn in let sized = c.args.space.sized in
    let same : (space_limits c.args.space).events ≡ limits.events = ap (λ (y : Limits). y.events) c.requires.code.1 in
    let s = sealed_for (space_code c.args.space) (space_limits c.args.space) code limits c.args.desk.seat.id (view c.args.desk) slots drawn c.requires.code c.close-closed.ensures.sealed in
    λ list one. in_order code limits c.args.desk.seat.id (view c.args.desk) slots drawn s (omega (arith, sized, same)) c.args.desk.settled.6 c.requires.alone.0 c.requires.alone.1 (c.entries_are_within.ensures.within limits)
    (flat_map (λ list. list.items) c.args.entries.items) c.requires.held list.items (c.requires.order list one)

-- what is known of the journal
known : (c : goal.After-entries-within) → IsGathered c.args.code.now c.args.limits.now (view c.args.desk) c.close-closed.result.drawn c.in_ok-journal.journal
known c =
    let code = c.args.code.now in let limits = c.args.limits.now in let slots = parcels c.close-closed.result in let drawn = c.close-closed.result.drawn in let sized = c.args.space.sized in
    let same : (space_limits c.args.space).events ≡ limits.events = ap (λ (y : Limits). y.events) c.requires.code.1 in
    let s = sealed_for (space_code c.args.space) (space_limits c.args.space) code limits c.args.desk.seat.id (view c.args.desk) slots drawn c.requires.code c.close-closed.ensures.sealed in
    ended code limits c.args.desk.seat.id (view c.args.desk) slots drawn s (omega (arith, sized, same)) c.args.desk.settled.6 c.requires.alone.0 c.requires.alone.1 (c.entries_are_within.ensures.within limits)
    (flat_map (λ list. list.items) c.args.entries.items) c.requires.held c.in_ok-journal.journal c.in_ok-journal.ensures.gathered c.entries-within.ensures.within

pub returns-clause-run : goal.returns-clause-run
returns-clause-run c = (known c).run

pub returns-clause-whole : goal.returns-clause-whole
returns-clause-whole c = (known c).whole

pub returns-clause-full : goal.returns-clause-full
returns-clause-full c = (known c).full

pub returns-clause-counted : goal.returns-clause-counted
returns-clause-counted c = (known c).counted

pub returns-clause-few : goal.returns-clause-few
returns-clause-few c = (known c).few

pub returns-clause-closed : goal.returns-clause-closed
returns-clause-closed c =
    let after = c.release.ensures.rest in
    (after.0 ∙ (known c).drawn_is, (λ e i. (known c).keeps e (subst (λ (v : View). IsIn e v.kept) (after.2 ∙ c.close-closed.ensures.view) i)))

pub returns-clause-view : goal.returns-clause-view
returns-clause-view c = c.release.ensures.rest.2 ∙ c.close-closed.ensures.view

pub returns-clause-drew : goal.returns-clause-drew
returns-clause-drew c = ap (λ (v : View). v.draws) (c.release.ensures.rest.2 ∙ c.close-closed.ensures.view) ∙ (known c).drew
