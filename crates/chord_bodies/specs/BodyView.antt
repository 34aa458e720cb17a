-- The body that one in memory stands for.
use Rattle.std.specs.Prelude.{map}
use Rattle.chord_bodies.specs.declared.body.Body.{Body}
use Rattle.chord_bodies.specs.Resolved.{BodyOf}
use Rattle.chord_bodies.specs.View.{view_stmt, stmt_list}

-- the body that one in memory stands for
abbrev pub view_body : Body → BodyOf
view_body body = record {
  class = body.class;
  is_main = body.is_main;
  is_constructor = body.is_constructor;
  parameters = body.parameters.items;
  locals = body.locals.items;
  result = body.result;
  stmts = stmt_list (map view_stmt body.stmts.items);
}
