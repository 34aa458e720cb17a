-- Where the words of a table lie: the counter, then the cells, the place words and the heads.
use Rattle.std.specs.Prelude.{ℕ, ◌+◌, ◌*◌, ◌%◌}

-- where the word of a number lies among those of all numbers. Of seven numbers that follow each other any two lie at least nine words apart, so desks that draw them in turn write to cache lines of their own
unfoldable pub spread : ℕ → ℕ
spread i = i + 8 * (i % 8)

-- how many words there are of which each number of a table for n events has one: some of the first and of the last are no number's
unfoldable pub breadth_for : ℕ → ℕ
breadth_for n = n + 56

-- the word of the cell of the number i
abbrev pub cell_at : ℕ → ℕ
cell_at i = 1 + spread i

-- the place word of the number i, in a table for n events
abbrev pub place_at : (n i : ℕ) → ℕ
place_at n i = 1 + breadth_for n + spread i

-- the word of the head for the method j of the object o, in a table for n events with so many heads an object
abbrev pub head_at : (n width o j : ℕ) → ℕ
head_at n width o j = 1 + 2 * breadth_for n + (spread o * width + j)

-- how many words a table for n events has with so many heads an object
abbrev pub word_count : (n width : ℕ) → ℕ
word_count n width = 1 + 2 * breadth_for n + width * breadth_for n
