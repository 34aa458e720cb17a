-- A card as clauses see it.
use Rattle.std.specs.Prelude.{◌≡◌, ℕ, Bool, Option}
use Rattle.atomic_table.specs.Seated.{TableId}
use Rattle.chord_roll.specs.declared.card.Card.{Card}

-- whether its worker counts among those at work
abbrev pub counts : Card → Bool
counts c = c.seat.me.0.counts

-- how often its worker was counted off
abbrev pub ended : Card → ℕ
ended c = c.seat.me.0.ended

-- how many cards were made from it
abbrev pub hired : Card → ℕ
hired c = c.seat.me.0.hired

-- the number that its worker last read on the roll
abbrev pub last_read : Card → Option ℕ
last_read c = c.seat.me.0.read

-- how often its worker read such a number
abbrev pub reads : Card → ℕ
reads c = c.seat.me.0.reads

-- how often its worker asked whether all are to stop
abbrev pub times_asked : Card → ℕ
times_asked c = c.seat.me.0.asks

-- whether its worker told all to stop, or read that they are to
abbrev pub stops : Card → Bool
stops c = c.seat.me.0.stops

-- whether its worker told all to stop
abbrev pub tells : Card → Bool
tells c = c.seat.me.0.tells

-- the roll whose card it is
abbrev pub roll_of : Card → TableId
roll_of c = c.seat.table_id

-- the card with which its roll was made
abbrev pub IsFirstCard : Card → Type 0
IsFirstCard c = c.seat.id ≡ 0

-- the same card of the same roll, whatever it says
abbrev pub IsSameCard : Card → Card → Type 0
IsSameCard c d = (roll_of d ≡ roll_of c) × (d.seat.id ≡ c.seat.id)

-- the same card, whose worker has read no number in between
abbrev pub HasReadNothing : Card → Card → Type 0
HasReadNothing c d = IsSameCard c d × (last_read d ≡ last_read c) × (reads d ≡ reads c)

-- the same card, whose worker has read no number in between, and has not asked whether all are to stop
abbrev pub HasAskedNothing : Card → Card → Type 0
HasAskedNothing c d = IsSameCard c d × (last_read d ≡ last_read c) × (reads d ≡ reads c) × (times_asked d ≡ times_asked c)
