use Rattle.std.proofs.Common.{◌≡◌, map, drop}
use Rattle.chord_tree.specs.View.{see_header}
use Rattle.chord_classes.specs.ChordRules.{header_tokens}
use Rattle.chord_classes.specs.Least.{least, keys}
use Rattle.chord_rules.proofs.limits.headers_past.Given as goal

abbrev pub invariant-loop-header : goal.invariant-loop-header
invariant-loop-header l = least l.breaks.found (keys 4 (drop l.room (header_tokens (map see_header (drop l.header-index l.headers))))) ≡ least l.initial.breaks.found (keys 4 (drop 8 (header_tokens (map see_header l.headers))))
