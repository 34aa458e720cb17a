use Rattle.std.proofs.Common.{◌≡◌, drop, map}
use Rattle.chord_lexer.specs.Identifiers.{find_reserved}
use Rattle.chord_lexer.proofs.identifier.find.Given as goal

-- what is left of the table has what the whole has
abbrev pub invariant-loop-text : goal.invariant-loop-text
invariant-loop-text l = find_reserved (map (λ entry. (entry.0.now, entry.1)) l.table) l.identifier ≡ find_reserved (drop l.text-index (map (λ entry. (entry.0.now, entry.1)) l.table)) l.identifier
