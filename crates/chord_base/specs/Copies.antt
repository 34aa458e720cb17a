-- Which copies never fail.
use Rattle.std.specs.Prelude.{◌≤◌, length}
use Rattle.chord_base.specs.declared.value.Value.{Value}
use Rattle.chord_base.specs.declared.value.Value.TheVariants as a_value

-- a copy of the value never fails: it is no text, or one of at most eight bytes (that of a longer text takes no memory either, and fails where the text has too many owners)
abbrev pub IsAlwaysCopied : Value → Type 0
IsAlwaysCopied a_value.Unit = Unit {0}
IsAlwaysCopied (a_value.Int i) = Unit {0}
IsAlwaysCopied (a_value.Flag b) = Unit {0}
IsAlwaysCopied (a_value.Text bytes) = length bytes ≤ 8
IsAlwaysCopied (a_value.Ref o) = Unit {0}
