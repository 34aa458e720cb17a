-- How a number stands, by what there is of it; and functions that change at one number.
use Rattle.std.proofs.Common.{◌≡◌, ◌≢◌, ℕ, List, [], ◌∷◌, refl, sym, ap, ◌∙◌, subst, arith, ne_eqb, Option, Some, None}
use mathlib.Core.Path.{Path}
use Rattle.chord_base.specs.declared.event.What.{What}
use Rattle.chord_base.specs.declared.event.Entry.{Entry}
use Rattle.chord_base.specs.Messages.{Message}
use Rattle.chord_base.specs.Story.{AllBelow}
use Rattle.chord_word.specs.declared.cells.Cell.TheVariants as a_cell
use Rattle.chord_word.specs.declared.cells.Word.{Word}
use Rattle.chord_rule.specs.Moment.{Home, Place}
use Rattle.chord_rule.specs.Messages.{IsOpen, Stands}
use Rattle.chord_rule.specs.Stages.{Fresh, Placing, Flying, Claiming, Emptying, Unposted, Posting, Starting, Stage, Vacant, InHand, Armed, Spent, Posted, Played, said_at}
use Rattle.chord_rule.proofs.Puts.{put, put_here, put_else}

-- the function has this value at the number, and the old ones elsewhere
pub record Moves {A : Type 0} (f g : ℕ → A) (i : ℕ) (a : A) : Type 0 where
  pub here : g i ≡ a
  pub away : (k : ℕ) → k ≢ i → g k ≡ f k

-- a put changes the function there and nowhere else
pub moves : {A : Type 0} (f : ℕ → A) (i : ℕ) (a : A) → Moves f (put f i a) i a
moves f i a = record { here = put_here f i a; away = put_else f i a }

-- a function that stays as it is has moved nowhere
pub rests : {A : Type 0} (f : ℕ → A) (i : ℕ) → Moves f f i (f i)
rests f i = record { here = refl; away = λ k ne. refl }

-- what is not drawn has no entry
pub what_none : (n : ℕ) (h : List Entry) → AllBelow n h → said_at n h ≡ None
what_none n [] b = refl
what_none n (e ∷ h) b = rw (ne_eqb e.number n (λ q. let l = b.0 in omega arith)) (what_none n h b.1)

module _ {P : Type 0} where
  -- where there is no entry, nothing was done
  pub vacant_where : (s : Stage) (what : Option What) (word : Word) (place : Option Place) (home : Home P) (bag next : Option ℕ) → Stands s what word place home bag next → what ≡ None → s ≡ Vacant
  vacant_where Vacant what word place home bag next t e = refl
  vacant_where (InHand j Fresh) None word place home bag next t e = absurd (let z : Path (Option Message) None (Some t.0.0) = t.0.1 in cc)
  vacant_where (InHand j Placing) None word place home bag next t e = absurd (let z : Path (Option Message) None (Some t.0) = t.1 in cc)
  vacant_where (InHand j (Flying k a)) None word place home bag next t e = absurd (let z : Path (Option Message) None (Some t.0) = t.1 in cc)
  vacant_where (InHand j (Claiming c)) None word place home bag next t e = absurd (let z = t.0 in cc)
  vacant_where (InHand j Emptying) None word place home bag next t e = absurd (let z : Path (Option Message) None (Some t.0) = t.1 in cc)
  vacant_where (InHand j Unposted) None word place home bag next t e = absurd t.0
  vacant_where (InHand j Posting) None word place home bag next t e = absurd t.0
  vacant_where (InHand j Starting) None word place home bag next t e = absurd t.0
  vacant_where Armed None word place home bag next t e = absurd (let z : Path (Option Message) None (Some t.0) = t.1 in cc)
  vacant_where Spent None word place home bag next t e = absurd (let z : Path (Option Message) None (Some t.0) = t.1 in cc)
  vacant_where Posted None word place home bag next t e = absurd t.0
  vacant_where Played None word place home bag next t e = absurd t.0
  vacant_where (InHand j x) (Some a) word place home bag next t e = absurd (cc)
  vacant_where Armed (Some a) word place home bag next t e = absurd (cc)
  vacant_where Spent (Some a) word place home bag next t e = absurd (cc)
  vacant_where Posted (Some a) word place home bag next t e = absurd (cc)
  vacant_where Played (Some a) word place home bag next t e = absurd (cc)

  -- what is pending is armed, and free
  pub pending_armed : (s : Stage) (what : Option What) (word : Word) (place : Option Place) (home : Home P) (bag next : Option ℕ) → Stands s what word place home bag next → word.cell ≡ a_cell.Pending → s ≡ Armed
  pending_armed Armed what word place home bag next t e = refl
  pending_armed Vacant what word place home bag next t e = absurd (let z = sym (ap (λ (w : Word). w.cell) t.1.cell) ∙ e in cc)
  pending_armed (InHand j Fresh) what word place home bag next t e = absurd (let z = sym (ap (λ (w : Word). w.cell) t.1.cell) ∙ e in cc)
  pending_armed (InHand j Placing) what word place home bag next t e = absurd (let z = sym (ap (λ (w : Word). w.cell) t.2) ∙ e in cc)
  pending_armed (InHand j (Flying k a)) what word place home bag next t e = absurd (let z = sym (ap (λ (w : Word). w.cell) t.3) ∙ e in cc)
  pending_armed (InHand j (Claiming c)) what word place home bag next t e = absurd (let z = sym (ap (λ (w : Word). w.cell) t.2) ∙ e in cc)
  pending_armed (InHand j Emptying) what word place home bag next t e = absurd (let z = sym t.3 ∙ e in cc)
  pending_armed (InHand j Unposted) what word place home bag next t e = absurd (let z = sym (ap (λ (w : Word). w.cell) t.1.cell) ∙ e in cc)
  pending_armed (InHand j Posting) what word place home bag next t e = absurd (let z = sym (ap (λ (w : Word). w.cell) t.1) ∙ e in cc)
  pending_armed (InHand j Starting) what word place home bag next t e = absurd (let z = sym t.1 ∙ e in cc)
  pending_armed Spent what word place home bag next t e = absurd (let z = sym t.3 ∙ e in cc)
  pending_armed Posted what word place home bag next t e = absurd (let z = sym (ap (λ (w : Word). w.cell) t.1) ∙ e in cc)
  pending_armed Played what word place home bag next t e = absurd (let z = sym t.1 ∙ e in cc)

  -- what is ready is posted
  pub ready_posted : (s : Stage) (what : Option What) (word : Word) (place : Option Place) (home : Home P) (bag next : Option ℕ) → Stands s what word place home bag next → word.cell ≡ a_cell.Ready → s ≡ Posted
  ready_posted Posted what word place home bag next t e = refl
  ready_posted Armed what word place home bag next t e = absurd (subst IsOpen e t.3)
  ready_posted Vacant what word place home bag next t e = absurd (let z = sym (ap (λ (w : Word). w.cell) t.1.cell) ∙ e in cc)
  ready_posted (InHand j Fresh) what word place home bag next t e = absurd (let z = sym (ap (λ (w : Word). w.cell) t.1.cell) ∙ e in cc)
  ready_posted (InHand j Placing) what word place home bag next t e = absurd (let z = sym (ap (λ (w : Word). w.cell) t.2) ∙ e in cc)
  ready_posted (InHand j (Flying k a)) what word place home bag next t e = absurd (let z = sym (ap (λ (w : Word). w.cell) t.3) ∙ e in cc)
  ready_posted (InHand j (Claiming c)) what word place home bag next t e = absurd (let z = sym (ap (λ (w : Word). w.cell) t.2) ∙ e in cc)
  ready_posted (InHand j Emptying) what word place home bag next t e = absurd (let z = sym t.3 ∙ e in cc)
  ready_posted (InHand j Unposted) what word place home bag next t e = absurd (let z = sym (ap (λ (w : Word). w.cell) t.1.cell) ∙ e in cc)
  ready_posted (InHand j Posting) what word place home bag next t e = absurd (let z = sym (ap (λ (w : Word). w.cell) t.1) ∙ e in cc)
  ready_posted (InHand j Starting) what word place home bag next t e = absurd (let z = sym t.1 ∙ e in cc)
  ready_posted Spent what word place home bag next t e = absurd (let z = sym t.3 ∙ e in cc)
  ready_posted Played what word place home bag next t e = absurd (let z = sym t.1 ∙ e in cc)
