use Rattle.std.proofs.Common.{◌≡◌, ◌<◌, ◌+◌, ◌*◌, ℕ, subst, sym, arith}
use Rattle.std.proofs.Math.Nat.{mul_comm}
use Rattle.std.proofs.lemmas.Nat.{mul-add-lt}
use Rattle.chord_space.proofs.space.Space.head_word.Goals as goal

pub returns-clause-inside : goal.returns-clause-inside
returns-clause-inside g c = let sized = c.args.self.now.sized in let bounds = c.requires.bounds in let inside = c.spread_of.ensures.inside c.args.self.now.events bounds.0 in
    let few = subst (λ (w : ℕ). c.args.method < w) (sym sized.5) bounds.1 in
    let breadth = c.breadth_of.ensures.breadth in
    let row = mul-add-lt c.spread_of.result c.args.self.now.heads c.args.method c.breadth_of.result (omega (arith, inside, breadth)) few in
    let wide = subst (λ (b : ℕ). c.args.self.now.table.shared.table_id.words ≡ 1 + 2 * b + c.args.self.now.heads * b) (sym breadth) sized.1 in
    let turned = mul_comm c.args.self.now.heads c.breadth_of.result in omega (arith, row, wide, turned)
