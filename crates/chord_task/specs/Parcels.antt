-- What a parcel keeps, holds and keeps to.
use Rattle.std.specs.Prelude.{◌≡◌, ◌≢◌, List, [], Option, Some, None}
use Rattle.chord_base.specs.declared.value.Value.{Value}
use Rattle.chord_base.specs.declared.event.Entry.{Entry}
use Rattle.chord_base.specs.declared.event.Limits.{Limits}
use Rattle.chord_code.specs.declared.parts.Parts.{Parts}
use Rattle.chord_task.specs.declared.task.Task.{Task}
use Rattle.chord_task.specs.declared.parcel.Opened.{Opened as Parcel}
use Rattle.chord_task.specs.Standing.{view_of, IsTaskOf}

-- the past of a task, if there is one
abbrev pub past_in : Option Task → List Entry
past_in None = []
past_in (Some t) = (view_of t).past

-- the entries that a parcel keeps: its task's past
abbrev pub entries_of : Parcel → List Entry
entries_of p = past_in p.task

-- the arguments that a parcel holds
abbrev pub arguments_of : Parcel → List Value
arguments_of p = p.arguments.first

-- a task, if there is one, is of this code under these limits, and a body is left
abbrev pub TaskIn : Parts → Limits → Option Task → Type 0
TaskIn code limits None = Unit {0}
TaskIn code limits (Some t) = IsTaskOf code limits t × ((view_of t).top ≢ None)

-- its arguments are held twice, and its task is one of this code under these limits, with a body
abbrev pub IsParcelOf : Parcel → Parts → Limits → Type 0
IsParcelOf p code limits = (p.arguments.second ≡ p.arguments.first) × TaskIn code limits p.task
