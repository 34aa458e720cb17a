use Rattle.chord_space.proofs.Items.{got_item}
use Rattle.chord_space.proofs.closed.take_parcel.Goals as goal

pub returns-clause-parcel : goal.returns-clause-parcel
returns-clause-parcel g c = got_item c.args.slots.now.slots.items c.args.i c.take-parcel.result c.take-parcel.ensures.value
