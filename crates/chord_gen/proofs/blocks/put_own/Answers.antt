use Rattle.std.proofs.Common.{map, subst, sym}
use Rattle.chord_bodies.specs.View.{view_stmt, stmt_list}
use Rattle.chord_gen.specs.Emitting.{AreNarrowStmts}
use Rattle.chord_gen.proofs.blocks.put_own.Goals as goal

pub statements-requires : goal.statements-requires
statements-requires c =
    let q = c.in-Some.ensures.among in
    record { narrow = subst (λ z. AreNarrowStmts (stmt_list (map view_stmt z))) (sym c.deref.ensures.value) (c.requires.narrow q.0 c.in-Some.body.now q.1) }
