use denote.Param.Send.{sendable}
use Rattle.std.proofs.Crossing.{crosses}
use Rattle.chord_task.proofs.Crossing.{parcel_sent, parcel_shared}
use Rattle.chord_task.proofs.cross.may_cross.Goals as goal

pub lent-requires-4-send-T : goal.lent-requires-4-send-T
lent-requires-4-send-T c κs = search (parcel_sent, sendable, crosses) depth 60 fits 20000

pub lent-requires-4-sync-T : goal.lent-requires-4-sync-T
lent-requires-4-sync-T c κs = search (parcel_shared, sendable, crosses) depth 60 fits 20000
