-- What a parcel has in its place, and what it brings. No public clause names this file.
use Rattle.std.specs.Prelude.{[], ◌∷◌, Some, None}
use Rattle.chord_base.specs.declared.value.Value.TheVariants as value
use Rattle.chord_task.specs.declared.task.Task.{Task as ATask}
use Rattle.chord_task.specs.declared.parcel.Opened.{Opened}
use Rattle.chord_task.specs.declared.parcel.Freight.{Freight}
use Rattle.chord_task.specs.declared.parcel.Freight.TheVariants.{Nothing, Number, Object, Apart, Task}

-- a task that encloses no arguments any more
abbrev pub without_arguments : ATask → ATask
without_arguments t = record t { enclosed = record { first = []; second = [] } }

-- the arguments and the task of a parcel: a task gives the arguments that it encloses, and keeps none
abbrev pub opened : Freight → Opened
opened Nothing = record { arguments = record { first = []; second = [] }; task = None }
opened (Number i) = record { arguments = record { first = value.Int i ∷ []; second = value.Int i ∷ [] }; task = None }
opened (Object o) = record { arguments = record { first = value.Ref o ∷ []; second = value.Ref o ∷ [] }; task = None }
opened (Apart a) = record { arguments = a; task = None }
opened (Task t) = record { arguments = t.enclosed; task = Some (without_arguments t) }
