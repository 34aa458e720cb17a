-- The table at a moment, and the rule that holds of it between any two steps, in the order in which they are to be read.

-- ## What callers read

-- numbers among lists
pub mod Numbers
-- where the words of a table lie
pub mod Layout
-- the table at a moment as plain data, and how its words show it
pub mod Moment
-- objects and bags: what an entry names was made before, and what the table takes of a program
pub mod Made
-- how a number stands: what has come of the message or the firing that was drawn with it
pub mod Stages
-- the claims of a desk
pub mod Claims
-- bags: in which order messages were linked, and how the words show it
pub mod Bags
-- duties and their walks, and the law that every enabled chord is minded
pub mod Duties
-- the ways of a desk through bags
pub mod Ways
-- what each kind of step does to the view of its desk, and to how numbers stand
pub mod Kinds
-- each entry of the run is kept in exactly one place
pub mod Keeping
-- each entry of the run was drawn by exactly one desk
pub mod Draws
-- what a parcel at home holds
pub mod Parcels
-- what comes to a desk, and what it keeps, are places of the run
pub mod Coming
-- what desks have in hand: each number at most one desk, for one thing
pub mod Hands
-- what there is of a number by how it stands: entry, cell, place word, slot, bag
pub mod Messages
-- a message was taken exactly where it is consumed, or claimed by a desk that has drawn the firing
pub mod Firings
-- a firing is younger than all that the parcels of its members hold
pub mod Younger
-- the table stands for its journal
pub mod StandsFor
-- the counter passes the limit by at most one a desk
pub mod Counting
-- the first desk
pub mod Firsts
-- heads that lead somewhere
pub mod Heads
-- what a desk has looked at stays true
pub mod Looks
-- what holds of each desk by its view
pub mod Desks
-- place words
pub mod Placed
-- woken cells
pub mod Woken
-- while the first desk has lent no desk, what it read or wrote stands
pub mod Alone
-- what the duty law says of pending messages
pub mod Minded
-- what the table shows of a pending message
pub mod Pending
-- what the words, the desks and the journal say of each other
pub mod Agrees
-- the whole rule
pub mod Whole
-- what a look at a head tells of its moment
pub mod Heading
-- what each step tells its caller
pub mod Tells
-- when the journal is complete
pub mod Closing
-- what the rule says of the journal
pub mod Laws
-- ## What only the code's own contracts use

-- a table that shows a moment under a rule
pub mod Held
