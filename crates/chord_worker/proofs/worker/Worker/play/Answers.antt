use Rattle.std.proofs.Common.{◌≡◌, true, false, List, Some, refl, sym, ap, ◌∙◌, subst}
use Rattle.chord_base.specs.declared.event.End.{End}
use Rattle.chord_base.specs.declared.event.What.TheVariants.{Sent, Called}
use Rattle.chord_base.specs.declared.value.Value.{Value}
use Rattle.chord_base.specs.Messages.{message_of}
use Rattle.chord_base.specs.Printed.{is_end}
use Rattle.chord_space.specs.Desks.{view, space_code, space_limits, program_of}
use Rattle.chord_task.specs.declared.task.Task.{Task}
use Rattle.chord_task.specs.Turning.{HasCome}
use Rattle.chord_vm.specs.declared.ask.Ask.{Ask}
use Rattle.chord_vm.specs.declared.ask.Ask.TheVariants as ask
use Rattle.chord_vm.specs.Frames.{what_of_ask}
use Rattle.chord_worker.specs.Resting.{IsAtRest}
use Rattle.chord_worker.proofs.Given.{stock_of, came_stocked}
use Rattle.chord_worker.proofs.Stocked.{message_stocked, own_stocked}
use Rattle.chord_worker.proofs.worker.Worker.play.Goals as goal

pub play_sent-requires-clause-came : goal.play_sent-requires-clause-came
play_sent-requires-clause-came g c =
    let s = c.args.space.now in
    let w = c.args.self.now in
    let stock = stock_of s c.args.code.now c.args.limits.now c.see_to_stock.new.stock c.requires.code c.requires.limits c.in_ok-see_to_stock-in-Send.ensures.stock in
    let came = came_stocked s w c.args.task (ask.Send c.in-Send.object c.in-Send.method c.in-Send.arguments) c.see_to_stock.new.stock stock (c.requires.came (ask.Send c.in-Send.object c.in-Send.method c.in-Send.arguments) (c.in-Some.is ∙ ap Some c.in-Send.is)) in
    subst (λ (vs : List Value). (t : Task) × HasCome (space_code s) (space_limits s) t c.args.task (Sent c.in-Send.object c.in-Send.method vs) × IsAtRest s (record w { task = Some t; spare = c.see_to_stock.new.stock })) (sym c.in_ok-held-in-Send.ensures.first) came

pub play_called-requires-clause-came : goal.play_called-requires-clause-came
play_called-requires-clause-came g c =
    let s = c.args.space.now in
    let w = c.args.self.now in
    let stock = stock_of s c.args.code.now c.args.limits.now c.see_to_stock-in-Call.new.stock c.requires.code c.requires.limits c.in_ok-see_to_stock-in-Call.ensures.stock in
    let came = came_stocked s w c.args.task (ask.Call c.in-Call.object c.in-Call.method c.in-Call.arguments) c.see_to_stock-in-Call.new.stock stock (c.requires.came (ask.Call c.in-Call.object c.in-Call.method c.in-Call.arguments) (c.in-Some.is ∙ ap Some c.in-Call.is)) in
    subst (λ (vs : List Value). (t : Task) × HasCome (space_code s) (space_limits s) t c.args.task (Called c.in-Call.object c.in-Call.method vs) × IsAtRest s (record w { task = Some t; spare = c.see_to_stock-in-Call.new.stock })) (sym c.in_ok-held-in-Call.ensures.first) came

pub play_own-requires-clause-came : goal.play_own-requires-clause-came
play_own-requires-clause-came g c = λ a e. c.requires.came a (c.in-Some.is ∙ e)

pub play_own-requires-in-Print-clause-came : goal.play_own-requires-in-Print-clause-came
play_own-requires-in-Print-clause-came g c = λ a e. c.requires.came a (c.in-Some.is ∙ e)

pub play_own-requires-in-End-clause-came : goal.play_own-requires-in-End-clause-came
play_own-requires-in-End-clause-came g c = λ a e. c.requires.came a (c.in-Some.is ∙ e)

pub returns-in_ok-play_sent-in-Send-clause-stock : goal.returns-in_ok-play_sent-in-Send-clause-stock
returns-in_ok-play_sent-in-Send-clause-stock g c =
    message_stocked (program_of c.args.space.now) (view c.args.self.now.desk).draws c.args.self.now.spare c.play_sent.new.self _ c.in_ok-play_sent-in-Send.ensures.says
    c.see_to_stock.new.stock (λ there. (c.see_to_stock.ensures.stays there).0) c.in_ok-see_to_stock-in-Send.ensures.some c.in_ok-play_sent-in-Send.ensures.stock refl

pub returns-in_ok-play_called-in-Call-clause-stock : goal.returns-in_ok-play_called-in-Call-clause-stock
returns-in_ok-play_called-in-Call-clause-stock g c =
    message_stocked (program_of c.args.space.now) (view c.args.self.now.desk).draws c.args.self.now.spare c.play_called.new.self _ c.in_ok-play_called-in-Call.ensures.says
    c.see_to_stock-in-Call.new.stock (λ there. (c.see_to_stock-in-Call.ensures.stays there).0) c.in_ok-see_to_stock-in-Call.ensures.some c.in_ok-play_called-in-Call.ensures.stock refl

pub returns-in_ok-play_own-in-Make-clause-stock : goal.returns-in_ok-play_own-in-Make-clause-stock
returns-in_ok-play_own-in-Make-clause-stock g c =
    own_stocked (program_of c.args.space.now) (view c.args.self.now.desk).draws c.args.self.now.spare c.play_own.new.self (what_of_ask c.in-Some.ask) (c.in_ok-play_own-in-Make.ensures.says c.in-Some.ask refl)
    c.in_ok-play_own-in-Make.ensures.stays (c.in_ok-play_own-in-Make.ensures.unmade c.in-Some.ask refl) (ap (λ (a : Ask). message_of (what_of_ask a)) c.in-Make.is)

pub returns-in_ok-play_own-in-Print-clause-stock : goal.returns-in_ok-play_own-in-Print-clause-stock
returns-in_ok-play_own-in-Print-clause-stock g c =
    own_stocked (program_of c.args.space.now) (view c.args.self.now.desk).draws c.args.self.now.spare c.play_own-in-Print.new.self (what_of_ask c.in-Some.ask) (c.in_ok-play_own-in-Print.ensures.says c.in-Some.ask refl)
    c.in_ok-play_own-in-Print.ensures.stays (c.in_ok-play_own-in-Print.ensures.unmade c.in-Some.ask refl) (ap (λ (a : Ask). message_of (what_of_ask a)) c.in-Print.is)

pub returns-in_ok-play_own-in-End-clause-stock : goal.returns-in_ok-play_own-in-End-clause-stock
returns-in_ok-play_own-in-End-clause-stock g c =
    own_stocked (program_of c.args.space.now) (view c.args.self.now.desk).draws c.args.self.now.spare c.play_own-in-End.new.self (what_of_ask c.in-Some.ask) (c.in_ok-play_own-in-End.ensures.says c.in-Some.ask refl)
    c.in_ok-play_own-in-End.ensures.stays (c.in_ok-play_own-in-End.ensures.unmade c.in-Some.ask refl) (ap (λ (a : Ask). message_of (what_of_ask a)) c.in-End.is)

-- what is no end is not this one
no_end : (a : Ask) → is_end (what_of_ask a) ≡ false → (e : End) → Some a ≡ Some (ask.End e) → ⊥
no_end a plain e is =
    let same : a ≡ ask.End e = cc in
    let z : true ≡ false = sym (ap (λ (b : Ask). is_end (what_of_ask b)) same) ∙ plain in
    absurd (cc)

pub returns-in_ok-play_sent-in-Send-clause-stocked : goal.returns-in_ok-play_sent-in-Send-clause-stocked
returns-in_ok-play_sent-in-Send-clause-stocked g c = λ e asked alone. absurd (no_end c.in-Some.ask (ap (λ (a : Ask). is_end (what_of_ask a)) c.in-Send.is) e (sym c.in-Some.is ∙ asked))

pub returns-in_ok-play_called-in-Call-clause-stocked : goal.returns-in_ok-play_called-in-Call-clause-stocked
returns-in_ok-play_called-in-Call-clause-stocked g c = λ e asked alone. absurd (no_end c.in-Some.ask (ap (λ (a : Ask). is_end (what_of_ask a)) c.in-Call.is) e (sym c.in-Some.is ∙ asked))

pub returns-in_ok-play_own-in-Make-clause-stocked : goal.returns-in_ok-play_own-in-Make-clause-stocked
returns-in_ok-play_own-in-Make-clause-stocked g c = λ e asked alone. absurd (no_end c.in-Some.ask (ap (λ (a : Ask). is_end (what_of_ask a)) c.in-Make.is) e (sym c.in-Some.is ∙ asked))

pub returns-in_ok-play_own-in-Print-clause-stocked : goal.returns-in_ok-play_own-in-Print-clause-stocked
returns-in_ok-play_own-in-Print-clause-stocked g c = λ e asked alone. absurd (no_end c.in-Some.ask (ap (λ (a : Ask). is_end (what_of_ask a)) c.in-Print.is) e (sym c.in-Some.is ∙ asked))

pub returns-in_ok-play_own-in-End-clause-stocked : goal.returns-in_ok-play_own-in-End-clause-stocked
returns-in_ok-play_own-in-End-clause-stocked g c = λ e asked alone. c.in_ok-play_own-in-End.ensures.stocked e (sym c.in-Some.is ∙ asked) alone
