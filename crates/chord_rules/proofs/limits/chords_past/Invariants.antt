use Rattle.std.proofs.Common.{◌≡◌, map, drop}
use Rattle.chord_tree.specs.View.{see_member}
use Rattle.chord_classes.specs.ChordRules.{chord_tokens}
use Rattle.chord_classes.specs.Least.{least, keys}
use Rattle.chord_rules.proofs.limits.chords_past.Given as goal

abbrev pub invariant-loop-member : goal.invariant-loop-member
invariant-loop-member l = least l.breaks.found (keys 4 (drop l.room (chord_tokens (map see_member (drop l.member-index l.members))))) ≡ least l.initial.breaks.found (keys 4 (drop l.fn.room (chord_tokens (map see_member l.members))))
