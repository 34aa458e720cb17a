-- What a user sees of a journal, oldest entry first: its lines and its status. Entry i has number i.
use Rattle.std.specs.Prelude.{ℕ, Bool, true, false, ◌==◌, ◌&&◌, not, List, [], ◌∷◌, ◌++◌, Option, Some, None, slice_get, if◌then◌else◌}
use Rattle.std.specs.List.{list_any}
use Rattle.chord_base.specs.Messages.{members_of}
use Rattle.chord_base.specs.declared.event.End.TheVariants.{Traps}
use Rattle.chord_base.specs.declared.event.What.{What}
use Rattle.chord_base.specs.declared.event.What.TheVariants.{Called, Printed, Ended}
use Rattle.chord_base.specs.declared.event.Entry.{Entry}

-- the line of an entry: a printed text, followed by the byte 10
abbrev pub line_of : What → List ℕ
line_of (Printed t) = t ++ 10 ∷ []
line_of _ = []

-- the lines of a journal: those of its entries in order
abbrev pub lines : List Entry → List ℕ
lines [] = []
lines (e ∷ es) = line_of e.what ++ lines es

-- whether an entry is an end
abbrev pub is_end : What → Bool
is_end (Ended x) = true
is_end _ = false

-- whether an entry is an end by a trap
abbrev pub is_trap : What → Bool
is_trap (Ended (Traps t)) = true
is_trap _ = false

-- whether an entry is a synchronous call
abbrev pub is_call : What → Bool
is_call (Called o j vs) = true
is_call _ = false

-- whether there is an entry and it is a synchronous call
abbrev pub call_in : Option Entry → Bool
call_in None = false
call_in (Some e) = is_call e.what

-- the members of an entry, if there is one
abbrev pub members_in : Option Entry → List ℕ
members_in None = []
members_in (Some e) = members_of e.what

-- a body serves a caller where a member of the firing that began it is a call
abbrev pub serves_caller : List Entry → ℕ → Bool
serves_caller entries b = list_any (λ n. call_in (slice_get entries n)) (members_in (slice_get entries b))

-- a body that serves no caller ended by a trap
abbrev pub has_failed : List Entry → Bool
has_failed entries = list_any (λ e. is_trap e.what && not (serves_caller entries e.body)) entries

-- `Main`, which is body 0, has ended
abbrev pub main_ended : List Entry → Bool
main_ended entries = list_any (λ e. is_end e.what && (e.body == 0)) entries

-- the status of a journal: 8 if a body that serves no caller ended by a trap, else 4 if `Main` has not ended, else 0
abbrev pub status_of : List Entry → ℕ
status_of entries = if has_failed entries then 8 else if main_ended entries then 0 else 4
