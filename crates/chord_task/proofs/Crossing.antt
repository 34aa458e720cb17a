-- Tasks and parcels may go to another thread, and threads may share them.
use denote.Param.Send.{IsSend, IsSync, sendable}
use Rattle.std.proofs.Crossing.{crosses}
use Rattle.chord_base.specs.contracts.event.Entry as Entry
use Rattle.chord_base.specs.contracts.text.Text as Text
use Rattle.chord_base.specs.contracts.value.Value as Value
use Rattle.chord_base.specs.contracts.value.Values as Values
use Rattle.chord_task.specs.contracts.args.Args as Args
use Rattle.chord_task.specs.contracts.enclosed.Enclosed as Enclosed
use Rattle.chord_task.specs.contracts.past.Past as Past
use Rattle.chord_task.specs.contracts.task.Task as Task
use Rattle.chord_task.specs.contracts.parcel.Parcel as Parcel

-- a text may go to another thread
text_sent : IsSend Text.the_row
text_sent = search (sendable, crosses) depth 20

-- a value may
value_sent : IsSend Value.the_row
value_sent = search (text_sent, sendable, crosses) depth 20

-- values may
values_sent : IsSend Values.the_row
values_sent = search (value_sent, sendable, crosses) depth 60 fits 20000

-- an entry may
pub entry_sent : IsSend Entry.the_row
entry_sent = search (text_sent, values_sent, sendable, crosses) depth 60 fits 20000

-- a past may
past_sent : IsSend Past.the_row
past_sent = search (sendable, crosses) depth 20

-- the arguments of a message may
args_sent : IsSend Args.the_row
args_sent = search (values_sent, sendable, crosses) depth 60 fits 20000

-- arguments on their way may
enclosed_sent : IsSend Enclosed.the_row
enclosed_sent = search (args_sent, sendable, crosses) depth 60 fits 20000

-- a task may
pub task_sent : IsSend Task.the_row
task_sent = search (past_sent, values_sent, value_sent, enclosed_sent, sendable, crosses) depth 60 fits 20000

-- a parcel may
pub parcel_sent : IsSend Parcel.the_row
parcel_sent = search (args_sent, task_sent, sendable, crosses) depth 60 fits 20000

-- threads may share a text
text_shared : IsSync Text.the_row
text_shared = search (sendable, crosses) depth 20

-- a value
value_shared : IsSync Value.the_row
value_shared = search (text_shared, sendable, crosses) depth 20

-- values
values_shared : IsSync Values.the_row
values_shared = search (value_shared, sendable, crosses) depth 60 fits 20000

-- a past
past_shared : IsSync Past.the_row
past_shared = search (sendable, crosses) depth 20

-- the arguments of a message
args_shared : IsSync Args.the_row
args_shared = search (values_shared, sendable, crosses) depth 60 fits 20000

-- arguments on their way
enclosed_shared : IsSync Enclosed.the_row
enclosed_shared = search (args_shared, sendable, crosses) depth 60 fits 20000

-- a task
task_shared : IsSync Task.the_row
task_shared = search (past_shared, values_shared, value_shared, enclosed_shared, sendable, crosses) depth 60 fits 20000

-- a parcel
pub parcel_shared : IsSync Parcel.the_row
parcel_shared = search (args_shared, task_shared, sendable, crosses) depth 60 fits 20000
