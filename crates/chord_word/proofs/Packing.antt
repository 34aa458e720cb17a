-- A word is packed from one cell alone, and its parts are read off their own bits.
use Rattle.std.proofs.Common.{◌≡◌, ◌≢◌, ◌⊎◌, inl, inr, ℕ, ◌+◌, ◌*◌, ◌^◌, ◌<◌, zero, suc, sym, subst, ap, ap₂, ◌∙◌, refl, arith, Option, Some, None}
use Rattle.chord_word.specs.declared.cells.Cell.{Cell}
use Rattle.chord_word.specs.declared.cells.Cell.TheVariants.{Empty, Pending, Claimed, Consumed, Woken, Ready, Started}
use Rattle.chord_word.specs.declared.cells.Word.{Word}
use Rattle.chord_word.specs.Bits.{bits}
use Rattle.chord_word.specs.Cells.{state_of, link_of, waker_of, NextFits, WordFits, word_of, ShowsCell, IsNoCell}

-- the numbers of a cell that fits are within their bits
link_low : (c : Cell) (next : Option ℕ) → NextFits c next → link_of next < 65537
link_low c None f = omega arith
link_low c (Some n) f = let h = f.1 in omega arith

-- the number of a state is below 7
state_low : (c : Cell) → state_of c < 7
state_low Empty = omega arith
state_low Pending = omega arith
state_low Claimed = omega arith
state_low Consumed = omega arith
state_low (Woken m) = omega arith
state_low Ready = omega arith
state_low Started = omega arith

-- a packed cell is below 2 to the 36
pub word_low : (w : Word) → WordFits w → word_of w < 2 ^ 36
word_low w f = let s = state_low w.cell in let l = link_low w.cell w.next f.1 in let k = f.0 in omega arith

-- three numbers within their bits are read off the word again
parts : (s l k : ℕ) → s < 8 → l < 131072 → k < 65536 → let word : ℕ = s + 2 ^ 3 * l + 2 ^ 20 * k in (bits word 0 2 ≡ s) × (bits word 3 19 ≡ l) × (bits word 20 35 ≡ k) × (bits word 36 63 ≡ 0)
parts s l k a b c = (omega arith, omega arith, omega arith, omega arith)

-- a packed cell shows the cell
pub shows_cell : (w : Word) → WordFits w → ShowsCell (word_of w) w
shows_cell w f = let s = state_low w.cell in let l = link_low w.cell w.next f.1 in
    let p = parts (state_of w.cell) (link_of w.next) (waker_of w.cell) (omega arith) (omega arith) f.0 in
    record { state = p.0; next = p.1; waker = p.2; rest = p.3 }

-- a link names one message
pub same_link : (a b : Option ℕ) → link_of a ≡ link_of b → a ≡ b
same_link None None e = refl
same_link None (Some n) e = absurd (omega arith)
same_link (Some n) None e = absurd (omega arith)
same_link (Some n) (Some m) e = let k : n ≡ m = omega arith in ap (λ (x : ℕ). Some x) k

-- the cell of a state and a waking message
cell_at : ℕ → ℕ → Cell
cell_at zero m = Empty
cell_at (suc zero) m = Pending
cell_at (suc (suc zero)) m = Claimed
cell_at (suc (suc (suc zero))) m = Consumed
cell_at (suc (suc (suc (suc zero)))) m = Woken m
cell_at (suc (suc (suc (suc (suc zero))))) m = Ready
cell_at (suc (suc (suc (suc (suc (suc n)))))) m = Started

-- the cell of a cell's state and its waking message is the cell
cell_again : (c : Cell) → cell_at (state_of c) (waker_of c) ≡ c
unfolding cell_at
cell_again Empty = refl
cell_again Pending = refl
cell_again Claimed = refl
cell_again Consumed = refl
cell_again (Woken m) = refl
cell_again Ready = refl
cell_again Started = refl

-- two cells whose words have the same parts are one
pub same_parts : (word : ℕ) (v w : Word) → ShowsCell word v → ShowsCell word w → v ≡ w
same_parts word v w p q =
    let state : state_of v.cell ≡ state_of w.cell = sym p.state ∙ q.state in
    let waker : waker_of v.cell ≡ waker_of w.cell = sym p.waker ∙ q.waker in
    let cell : v.cell ≡ w.cell = sym (cell_again v.cell) ∙ ap₂ cell_at state waker ∙ cell_again w.cell in
    let next : v.next ≡ w.next = same_link v.next w.next (sym p.next ∙ q.next) in
    λ i. record { cell = cell i; next = next i }

-- two cells that are packed to one word are equal
pub same_word : (v w : Word) → WordFits v → WordFits w → word_of v ≡ word_of w → v ≡ w
same_word v w f g e = same_parts (word_of w) v w (subst (λ (n : ℕ). ShowsCell n v) e (shows_cell v f)) (shows_cell w g)

-- only a woken cell has a waking message
stray_waker : (c : Cell) → (state_of c ≢ 4) × (waker_of c ≢ 0) → ⊥
stray_waker (Woken m) h = h.0 refl
stray_waker Empty h = h.1 refl
stray_waker Pending h = h.1 refl
stray_waker Claimed h = h.1 refl
stray_waker Consumed h = h.1 refl
stray_waker Ready h = h.1 refl
stray_waker Started h = h.1 refl

-- a cell that is Empty, Ready or Started has no next
stray_next : (c : Cell) (next : Option ℕ) → NextFits c next → (state_of c ≡ 0) ⊎ (state_of c ≡ 5) ⊎ (state_of c ≡ 6) → link_of next ≢ 0 → ⊥
stray_next c None f e n = n refl
stray_next Empty (Some x) f e n = f.0
stray_next Ready (Some x) f e n = f.0
stray_next Started (Some x) f e n = f.0
stray_next Pending (Some x) f e n = grind arith
stray_next Claimed (Some x) f e n = grind arith
stray_next Consumed (Some x) f e n = grind arith
stray_next (Woken m) (Some x) f e n = grind arith

-- a word that shows a cell that fits is none of those that no cell has
pub shown_cell : (word : ℕ) (w : Word) → WordFits w → ShowsCell word w → IsNoCell word → ⊥
shown_cell word w f p (inl e) = let s = state_low w.cell in let q = p.state in omega arith
shown_cell word w f p (inr (inl e)) = let s = link_low w.cell w.next f.1 in let q = p.next in omega arith
shown_cell word w f p (inr (inr (inl e))) = stray_waker w.cell (subst (λ (n : ℕ). n ≢ 4) p.state e.0, subst (λ (n : ℕ). n ≢ 0) p.waker e.1)
shown_cell word w f p (inr (inr (inr (inl e)))) = e p.rest
shown_cell word w f p (inr (inr (inr (inr e)))) = stray_next w.cell w.next f.1 (subst (λ (n : ℕ). (n ≡ 0) ⊎ (n ≡ 5) ⊎ (n ≡ 6)) p.state e.0) (subst (λ (n : ℕ). n ≢ 0) p.next e.1)

-- no word of a cell is one that no cell has
pub some_cell : (w : Word) → WordFits w → IsNoCell (word_of w) → ⊥
some_cell w f = shown_cell (word_of w) w f (shows_cell w f)
