use Rattle.std.proofs.Common.{◌≡◌, drop, map}
use Rattle.chord_tree.specs.View.{see_header}
use Rattle.chord_classes.specs.Site.{has_main}
use Rattle.chord_classes.proofs.main_headers.has_main.Given as goal

abbrev pub invariant-loop-header : goal.invariant-loop-header
invariant-loop-header l = has_main (map see_header (drop l.header-index l.headers)) ≡ has_main (map see_header l.headers)
