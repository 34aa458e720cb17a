-- Where the bytes of a text lie. No public clause names this file.
use Rattle.std.specs.Prelude.{ℕ, ◌<◌, ◌≤◌, List, length, take}
use Rattle.std.specs.Arc.{arc_value}
use Rattle.chord_base.specs.declared.text.Storage.{Storage}
use Rattle.chord_base.specs.declared.text.Storage.TheVariants.{Short, Long}

-- the bytes of a text
abbrev pub stored_bytes : Storage → List ℕ
stored_bytes (Short count bytes) = take count bytes
stored_bytes (Long bytes) = (arc_value bytes).items

-- up to 8 lie in the text, and more, at most 1,024, in memory that copies share
abbrev pub IsStored : Storage → Type 0
IsStored (Short count bytes) = count ≤ 8
IsStored (Long bytes) = (8 < length (arc_value bytes).items) × (length (arc_value bytes).items ≤ 1024)
