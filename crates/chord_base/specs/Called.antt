-- A meaning that is called: what its calls take and give, as the definitions of the machine have it.
use Rattle.std.specs.Prelude.{ℕ, List, Option, Some, None, Vec, option_map}
use Rattle.std.specs.Global.{Global}
use Rattle.chord_base.specs.Meaning.{Main, Chord, Asked}
use Rattle.chord_base.specs.Meaning as meaning
use Rattle.chord_base.specs.declared.meaning.Start as start
use Rattle.chord_base.specs.declared.meaning.Start.TheVariants as a_start
use Rattle.chord_base.specs.declared.meaning.Next.{Next}

-- the start of a body, as the machine has it
abbrev pub start_of : start.Start → meaning.Start
start_of a_start.Main = Main
start_of (a_start.Chord k o vs) = Chord k o vs

-- the ask that a call gives, as the machine has it
abbrev pub asked_by : Option Next → Option Asked
asked_by None = None
asked_by (Some next) = Some (record { what = next.what; depth = next.depth })

-- the methods that a call gives
abbrev pub methods_by : Option (Vec ℕ Global) → Option (List ℕ)
methods_by methods = option_map (λ v. v.items) methods
