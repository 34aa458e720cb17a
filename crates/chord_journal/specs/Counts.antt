-- The line of counts of a journal: how many entries of each kind it has.
use Rattle.std.specs.Prelude.{ℕ, Bool, true, false, List, ◌++◌, codes, count_by, decimal}
use Rattle.chord_base.specs.declared.event.What.{What}
use Rattle.chord_base.specs.declared.event.What.TheVariants.{Begun, Made, Sent, Called, Printed, Fired, Ended}
use Rattle.chord_base.specs.declared.event.Entry.{Entry}

-- `Main` begins
abbrev pub is_begun : What → Bool
is_begun Begun = true
is_begun _ = false

-- an object is made
abbrev pub is_made : What → Bool
is_made (Made class) = true
is_made _ = false

-- an asynchronous call
abbrev pub is_sent : What → Bool
is_sent (Sent o method values) = true
is_sent _ = false

-- a synchronous call
abbrev pub is_called : What → Bool
is_called (Called o method values) = true
is_called _ = false

-- a firing
abbrev pub is_fired : What → Bool
is_fired (Fired chord o members values) = true
is_fired _ = false

-- a line is printed
abbrev pub is_printed : What → Bool
is_printed (Printed text) = true
is_printed _ = false

-- a body ends
abbrev pub is_ended : What → Bool
is_ended (Ended end) = true
is_ended _ = false

-- a word, and how many entries say this
abbrev pub count_text : List ℕ → (What → Bool) → List Entry → List ℕ
count_text word says entries = word ++ decimal (count_by (λ e. says e.what) entries)

-- the line of counts: `begun A made B sent C called D fired E printed F ended G`, with the byte 10 at the end
abbrev pub counts_text : List Entry → List ℕ
counts_text entries =
    count_text (codes "begun ") is_begun entries ++ (count_text (codes " made ") is_made entries
    ++ (count_text (codes " sent ") is_sent entries ++ (count_text (codes " called ") is_called entries
    ++ (count_text (codes " fired ") is_fired entries ++ (count_text (codes " printed ") is_printed entries
    ++ (count_text (codes " ended ") is_ended entries ++ codes "\n"))))))
