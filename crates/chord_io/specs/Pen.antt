-- What a pen does. It holds back bytes that it was given, until a write to its sink fails: from then on it is broken and holds None.
use Rattle.std.specs.Prelude.{◌≡◌, ℕ, ◌<◌, ◌≤◌, ◌+◌, List, length, ◌++◌, Option, Some, None, IfSome}
use Rattle.chord_io.specs.Faults.{Rose}
use Rattle.chord_io.specs.Pieces.{Took, TookProperPrefix}

-- what a pen held and a text were written but for what it holds now, without a fault, or a proper prefix of the two where one write failed; a broken pen writes nothing, without a fault
abbrev pub HasWritten : Option (List ℕ) → ℕ → Option (List ℕ) → List ℕ → Option (List ℕ) → ℕ → Option (List ℕ) → Type 0
HasWritten before f (Some held) text after g (Some left) = (out : List ℕ) × Took before out after × (out ++ left ≡ held ++ text) × (g ≡ f)
HasWritten before f (Some held) text after g None = TookProperPrefix before (held ++ text) after × Rose f g
HasWritten before f None text after g left = (after ≡ before) × (left ≡ None) × (g ≡ f)

-- the bytes that a pen holds at most
abbrev pub most_held : ℕ
most_held = 4096

-- where what a pen holds and a text are at most as many bytes as it may hold, nothing is written, and the text stands behind what it held
abbrev pub HoldsBack : Option (List ℕ) → Option (List ℕ) → List ℕ → Option (List ℕ) → Option (List ℕ) → Type 0
HoldsBack before held text after left = IfSome held (λ bytes. length bytes + length text ≤ most_held → (after ≡ before) × (left ≡ Some (bytes ++ text)))

-- where a pen held no more than it may, and a text does not fit behind that, all that it held is written out: what it holds now is no longer than the text, and no more than it may hold
abbrev pub WritesOut : Option (List ℕ) → List ℕ → Option (List ℕ) → Type 0
WritesOut held text left =
    IfSome held (λ bytes. length bytes ≤ most_held → most_held < length bytes + length text →
    IfSome left (λ kept. (length kept ≤ length text) × (length kept ≤ most_held)))

-- a pen writes a text: what the sink has taken and its count of faults before, what the pen held, the text, and the same three after
pub record Writes (before : Option (List ℕ)) (f : ℕ) (held : Option (List ℕ)) (text : List ℕ) (after : Option (List ℕ)) (g : ℕ) (left : Option (List ℕ)) : Type 0 where
  pub written : HasWritten before f held text after g left
  pub held_back : HoldsBack before held text after left
  pub written_out : WritesOut held text left
  pub never_falls : f ≤ g
