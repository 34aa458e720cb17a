use Rattle.std.proofs.Common.{◌≡◌, drop, map}
use Rattle.chord_tree.specs.View.{see_header}
use Rattle.chord_classes.specs.Site.{headers_due}
use Rattle.chord_types.proofs.members.headers_due.Given as goal

abbrev pub invariant-loop-header : goal.invariant-loop-header
invariant-loop-header l = headers_due (map see_header (drop l.header-index l.headers)) ≡ headers_due (map see_header l.headers)
