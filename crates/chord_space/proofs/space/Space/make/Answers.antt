use Rattle.std.proofs.Common.{ℕ, List, ◌+◌, ◌*◌, replicate, None, sym, subst, ◌∙◌, ap}
use Rattle.atomic_table.specs.Table.{opening}
use Rattle.chord_code.specs.Valid.{IsValid}
use Rattle.chord_code.specs.Sound.{IsSoundCode}
use Rattle.chord_code.specs.Meaning.{code_program}
use Rattle.chord_rule.specs.Kinds.{newcomer_first}
use Rattle.chord_rule.specs.Layout.{word_count}
use Rattle.chord_space.specs.Ruled.{Ruled}
use Rattle.chord_space.specs.Widest.{widest}
use Rattle.chord_rule.proofs.Moves.{opens}
use Rattle.chord_space.proofs.Tabled.{tabled}
use Rattle.chord_space.proofs.space.Space.make.Goals as goal

pub vacant-requires : goal.vacant-requires
vacant-requires g c = let same = sym c.of.ensures in let valid = subst IsValid same c.parts.ensures.valid in let sound = subst IsSoundCode same c.requires.sound in let n : ℕ = c.args.limits.now.events in
    subst (λ (ws : List ℕ). Ruled g.P.Carry.entries g.P.Carry.arguments g.P.Carry.keeps_to c.of.result.value c.args.limits.now (opening ws (replicate n None) newcomer_first)) (sym c.in_ok-words.ensures ∙ sym c.as_slice.ensures.value)
    (opens g.P.Carry.entries g.P.Carry.arguments (λ q. g.P.Carry.keeps_to q c.of.result.value c.args.limits.now) (code_program c.of.result.value c.args.limits.now) (tabled c.of.result.value c.args.limits.now valid sound c.requires.depth.0 c.requires.depth.1) n (widest c.of.result.value) (1 + 2 * c.breadth_of-breadth.result + c.heads_of-heads.result * c.breadth_of-breadth.result) (ap (λ (b : ℕ). 1 + 2 * b + c.heads_of-heads.result * b) c.breadth_of-breadth.ensures.breadth ∙ ap (λ (w : ℕ). word_count n w) (c.heads_of-heads.ensures.widest ∙ ap widest same)), valid, sound c.args.limits.now c.requires.depth.0 c.requires.depth.1)
