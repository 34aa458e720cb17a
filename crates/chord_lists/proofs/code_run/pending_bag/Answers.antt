use Rattle.std.proofs.Common.{◌≡◌, ◌<◌, ◌∙◌, sym, subst, arith, length, reverse}
use Rattle.std.proofs.lemmas.List.{length-reverse}
use Rattle.chord_base.specs.Messages.{message_of, pending}
use Rattle.chord_lists.specs.Bag.{Lists, numbers_of}
use Rattle.chord_lists.specs.CodeGoes.{IsNoted, message_left, is_taken}
use Rattle.chord_lists.proofs.Spots.{got}
use Rattle.chord_lists.proofs.Taken.{taken_at}
use Rattle.chord_lists.proofs.Going.{number_at, lists_early, lists_next, lists_all}
use Rattle.chord_lists.proofs.code_run.pending_bag.Goals as goal

pub loop-i-init : goal.loop-i-init
loop-i-init c = (lists_early _ (λ i. pending i (reverse c.args.entries.now)) c.new-bag.ensures.empty, omega arith)

pub note_left-requires : goal.note_left-requires
note_left-requires c =
    let es = c.args.entries.now in
    let lt : c.loop-i.i < length es = omega (arith, c.loop-i-test.true) in
    let number = number_at es c.loop-i.i c.index-entries-i.result lt c.index-entries-i.is c.requires.within in
    omega (arith, number, lt, c.requires.few)

pub loop-i-preserved : goal.loop-i-preserved
loop-i-preserved c =
    let es = c.args.entries.now in
    let n = c.loop-i.i in
    let e = c.index-entries-i.result in
    let lt : n < length es = omega (arith, c.loop-i-test.true) in
    let number = number_at es n e lt c.index-entries-i.is c.requires.within in
    let told = c.in_ok-taken.ensures in
    let b = c.index.result.now in
    let lt' : n < length c.in_ok-taken.taken.items = (let l = length-reverse es in omega (arith, lt, l, told.long)) in
    let is : is_taken c.in_ok-taken.taken.items n ≡ b = taken_at c.in_ok-taken.taken.items n b lt' ∙ sym c.index.ensures in
    let noted = subst (λ k. IsNoted k (message_left b (message_of e.what)) (numbers_of c.loop-i.bag) (numbers_of c.note_left.new.bag)) number c.in_ok-note_left.ensures in
    (lists_next c.in_ok-taken.taken.items es n e b (numbers_of c.loop-i.bag) (numbers_of c.note_left.new.bag) told (got es n e lt c.index-entries-i.is) is noted c.loop-i.invariant.0, omega (arith, lt))

pub returns : goal.returns
returns c =
    let es = c.args.entries.now in
    let end : c.loop-i.i ≡ length es = omega (arith, c.loop-i-test.false, c.loop-i.invariant.1) in
    subst (λ k. Lists (λ i. pending i (reverse es)) k (numbers_of c.loop-i.bag)) end
    (lists_all (reverse es) c.loop-i.i (numbers_of c.loop-i.bag) c.requires.within (let l = length-reverse es in omega (arith, end, l)) c.loop-i.invariant.0)
