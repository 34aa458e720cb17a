-- The closed table of a run that workers made.
use Rattle.std.specs.Prelude.{◌≡◌, ℕ, ◌+◌, Bool, true, false, List, [], length, reverse, Option, Some, None}
use Rattle.chord_base.specs.Story.{IsIn}
use Rattle.chord_base.specs.declared.event.Entry.{Entry}
use Rattle.chord_space.specs.Ends.{parcels, closing_view}
use Rattle.chord_space.specs.declared.closed.Closed.{Closed}
use Rattle.chord_task.specs.declared.parcel.Opened.{Opened as Parcel}

-- a closed table of a journal that so many workers made: the entries of the journal were drawn on it, in this order, and no others; each entry that the desk which closed it kept stands there, that desk was split once for each other worker, and no parcel is left
pub record IsTableOf (journal : List Entry) (workers : ℕ) (table : Closed Parcel) : Type 0 where
  pub drawn : table.drawn ≡ length journal
  pub drew : (closing_view table).draws ≡ reverse journal
  pub kept : (e : Entry) → IsIn e (closing_view table).kept → IsIn e journal
  pub crew : (closing_view table).splits + 1 ≡ workers
  pub released : parcels table ≡ []

-- where workers made the run its closed table is there, and the gate knows of `Main`; a run of one thread has no table, and without a run there is none
abbrev pub HasTable : (ℕ → Type 0) → Bool → ℕ → Option (List Entry) → Option (Closed Parcel) → Type 0
HasTable knows one workers None table = table ≡ None
HasTable knows true workers (Some journal) table = table ≡ None
HasTable knows false workers (Some journal) table = (closed : Closed Parcel) × (table ≡ Some closed) × IsTableOf journal workers closed × knows 0
