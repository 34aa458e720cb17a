-- A part that is wrong makes the whole wrong, and where memory runs out it is nothing.
use Rattle.std.proofs.Common.{◌≡◌, Option, None}
use Rattle.chord_journal.specs.declared.parts.LineFault.{LineFault}
use Rattle.chord_journal.specs.declared.parts.LineFault.TheVariants.{Memory, Wrong}
use Rattle.chord_journal.specs.Reading.{Fails}

-- why a part failed is why the whole does
pub Fails-whole : {Y W : Type 0} (e : LineFault) (part : Option Y) (whole : Option W) → (part ≡ None → whole ≡ None) → Fails e part → Fails e whole
Fails-whole Memory part whole hence failed = tt
Fails-whole Wrong part whole hence failed = hence failed
