use Rattle.std.proofs.Common.{◌∙◌, ap, true}
use Rattle.clap.specs.Words.{Rule, rule_of}
use Rattle.chord_run.proofs.Commands.{with_argument}
use Rattle.chord_run.proofs.words.command.Goals as goal

pub returns : goal.returns
returns c =
    let mode = ap rule_of c.required.ensures ∙ ap (λ (r : Rule). record r { required = true }) c.positional.ensures.rule in
    let local = ap (λ a. a.global) c.required.ensures ∙ c.positional.ensures.local in
    let one = with_argument _ _ _ _ _ c.in_ok-arg.ensures local c.bare.ensures mode in
    let two = with_argument _ _ _ _ _ c.in_ok-arg-2.ensures c.positional-2.ensures.local one c.positional-2.ensures.rule in
    let three = with_argument _ _ _ _ _ c.in_ok-arg-3.ensures c.option.ensures.local two c.option.ensures.rule in
    let four = with_argument _ _ _ _ _ c.in_ok-arg-4.ensures c.option-2.ensures.local three c.option-2.ensures.rule in
    let five = with_argument _ _ _ _ _ c.in_ok-arg-5.ensures c.option-3.ensures.local four c.option-3.ensures.rule in
    let six = with_argument _ _ _ _ _ c.in_ok-arg-6.ensures c.flag.ensures.local five c.flag.ensures.rule in
    with_argument _ _ _ _ _ c.in_ok-command.ensures c.flag-2.ensures.local six c.flag-2.ensures.rule
