use Rattle.chord_gen.specs.TypedSource.{source_of}
use Rattle.chord_gen.proofs.BuiltMore.{body_added}
use Rattle.chord_gen.proofs.building.add_body.Goals as goal

pub returns : goal.returns
returns c = λ plan builders os is. body_added (source_of plan c.args.bodies.now) c.args.blocks.now.items c.push.new.self.items builders c.args.members.now.items c.note.new.members.items os c.args.member c.in_ok-number.number c.in_ok-block_of_body.field-0 is c.in_ok-block_of_body.ensures c.in_ok-push.ensures.items c.in_ok-number.ensures.number c.note.ensures
