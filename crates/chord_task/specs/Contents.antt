-- Where the arguments of a message on its way lie. No public clause names this file.
use Rattle.std.specs.Prelude.{[], ◌∷◌}
use Rattle.chord_base.specs.declared.value.Value.TheVariants as value
use Rattle.chord_task.specs.declared.args.Args.{Args}
use Rattle.chord_task.specs.declared.enclosed.Contents.{Contents}
use Rattle.chord_task.specs.declared.enclosed.Contents.TheVariants.{Nothing, Number, Object, Apart}

-- the arguments of a message: none, a value that is both copies, or what lies apart
abbrev pub enclosed : Contents → Args
enclosed Nothing = record { first = []; second = [] }
enclosed (Number i) = record { first = value.Int i ∷ []; second = value.Int i ∷ [] }
enclosed (Object o) = record { first = value.Ref o ∷ []; second = value.Ref o ∷ [] }
enclosed (Apart a) = a
