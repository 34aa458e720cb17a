use Rattle.std.proofs.Common.{◌≡◌, ◌++◌, ◌∷◌, ◌+◌, ◌-◌, [], reverse, sym, ap, ◌∙◌, arith}
use Rattle.std.proofs.lemmas.Grind.{common_steps}
use Rattle.std.proofs.lemmas.List.{reverse-append}
use Rattle.chord_code.specs.Machine.{pops}
use Rattle.chord_plain.proofs.Popping.{none_to_pop, one_more_popped}
use Rattle.chord_plain.proofs.stack.pop_all.Goals as goal

pub returns-in-None : goal.returns-in-None
returns-in-None c =
    none_to_pop c.args.n c.loop.counter (reverse c.loop.values.items) (reverse c.loop.stack.items) _ c.loop-test.true c.in-None.ensures c.loop.invariant.popped

pub loop-preserved : goal.loop-preserved
loop-preserved c =
    let one : c.push.new.self.items ≡ c.loop.values.items ++ c.in-Some.value ∷ [] = grind (arith, common_steps) in
    let back : reverse c.push.new.self.items ≡ c.in-Some.value ∷ reverse c.loop.values.items = ap reverse one ∙ reverse-append c.loop.values.items (c.in-Some.value ∷ []) in
    record {
      popped =
          one_more_popped c.args.n c.loop.counter (reverse c.loop.values.items) (reverse c.loop.stack.items) (reverse c.pop.new.stack.items) c.in-Some.value _ c.loop-test.true c.in-Some.ensures c.loop.invariant.popped
          ∙ ap (λ xs. pops (c.args.n - (c.loop.counter + 1)) xs (reverse c.pop.new.stack.items)) (sym back);
      counted = grind (arith, common_steps);
    }
