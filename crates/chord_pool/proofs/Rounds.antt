-- Rounds of a player, one after the other, and turns of the first worker alone.
use Rattle.std.proofs.Common.{◌≡◌, ℕ, List, [], ◌∷◌, ◌++◌, true, refl, sym, ap, ◌∙◌, subst, ⊎_elim, inl, inr}
use Rattle.chord_roll.specs.declared.card.Card.{Card}
use Rattle.chord_roll.specs.Cards.{last_read, reads, times_asked, stops, tells, IsSameCard}
use Rattle.chord_space.specs.declared.space.Space.{Space}
use Rattle.chord_space.specs.Desks.{view}
use Rattle.chord_task.specs.declared.parcel.Opened.{Opened as Parcel}
use Rattle.chord_worker.specs.declared.worker.Worker.{Worker}
use Rattle.chord_worker.specs.Resting.{IsSameRole, IsOutOfMemory}
use Rattle.chord_worker.specs.Stepping.{DrewAStep, StillPlays}
use Rattle.chord_pool.specs.declared.player.Player.{Player}
use Rattle.chord_pool.specs.Players.{HadARound, StandsStill, CountsAsBefore, began, IsBetweenRounds, AreRounds, HadRounds, LookedAgain, HasLeftOff, HaveAllLeftOff, FoundNone, IsSettled, HasStopped, HasPlayed, MayPlay, PlaysOn, CountsIfItPlays}
use Rattle.chord_pool.specs.declared.ending.Alone.{Alone}
use Rattle.chord_pool.proofs.Looking.{began_on}
use Rattle.chord_pool.specs.Ending.{HadATurn, AreTurns, HadTurns, HasFailedAlone, HasLeftOffAlone}

-- a player stands where it stood, twice
stands_on : (x y z : Player) → StandsStill x y → StandsStill y z → StandsStill x z
stands_on x y z a b = record { place = b.place ∙ a.place; known = b.known ∙ a.known; misses = b.misses ∙ a.misses }

-- a worker counts as before, twice
counts_on : (c d e : Card) → CountsAsBefore c d → CountsAsBefore d e → CountsAsBefore c e
counts_on c d e a b = record { same = b.same ∙ a.same; throughout = b.throughout ∙ a.throughout }

-- nothing happens between two rounds, twice
between_on : (x y z : Player) → IsBetweenRounds x y → IsBetweenRounds y z → IsBetweenRounds x z
between_on x y z a b = record { worker = b.worker ∙ a.worker; stands = stands_on x y z a.stands b.stands; counted = counts_on x.card y.card z.card a.counted b.counted; asks = b.asks ∙ a.asks; told = b.told ∙ a.told }

-- nothing happens to a player that stays as it is
pub between_none : (x : Player) → IsBetweenRounds x x
between_none x = record { worker = refl; stands = record { place = refl; known = refl; misses = refl }; counted = record { same = refl; throughout = refl }; asks = refl; told = refl }

-- nor does it behind rounds
rounds_stay : (knows : ℕ → Type 0) (s : Space Parcel) (x y z : Player) (ys : List Player) → AreRounds knows s x ys y → IsBetweenRounds y z → AreRounds knows s x ys z
rounds_stay knows s x y z [] rounds same = between_on x y z rounds same
rounds_stay knows s x y z (u ∷ us) rounds same = (rounds.0, rounds.1, rounds.2, between_on u y z rounds.3 same)

-- rounds behind others
rounds_behind : (knows : ℕ → Type 0) (s : Space Parcel) (x y z : Player) (ys zs : List Player) → AreRounds knows s x ys y → AreRounds knows s y zs z → AreRounds knows s x (zs ++ ys) z
rounds_behind knows s x y z ys [] before after = rounds_stay knows s x y z ys before after
rounds_behind knows s x y z ys (u ∷ us) before after = (after.0, rounds_behind knows s x y after.0 ys us before after.1, after.2, after.3)

-- a player that has had no round yet
pub no_rounds : (knows : ℕ → Type 0) (s : Space Parcel) (x y : Player) → IsBetweenRounds x y → HadRounds knows s x y
no_rounds knows s x y same = record { after_each = []; rounds = same }

-- and one that has had one more
pub one_round_more : (knows : ℕ → Type 0) (s : Space Parcel) (x y z : Player) → HadRounds knows s x y → HadARound knows s y z → HadRounds knows s x z
one_round_more knows s x y z had one = record { after_each = z ∷ had.after_each; rounds = (y, had.rounds, one, between_none z) }

-- and one that has had several more
pub more_rounds : (knows : ℕ → Type 0) (s : Space Parcel) (x y z : Player) → HadRounds knows s x y → HadRounds knows s y z → HadRounds knows s x z
more_rounds knows s x y z had later = record { after_each = later.after_each ++ had.after_each; rounds = rounds_behind knows s x y z had.after_each later.after_each had.rounds later.rounds }

-- nothing happens behind rounds
pub rounds_and_between : (knows : ℕ → Type 0) (s : Space Parcel) (x y z : Player) → HadRounds knows s x y → IsBetweenRounds y z → HadRounds knows s x z
rounds_and_between knows s x y z had same = record { after_each = had.after_each; rounds = rounds_stay knows s x y z had.after_each had.rounds same }

-- between two rounds a player may go on as before
pub may_between : (s : Space Parcel) (y z : Player) → IsBetweenRounds y z → z.failed ≡ y.failed → MayPlay s y → MayPlay s z
may_between s y z same failed may = λ sane. subst (IsSettled s) (sym same.worker) (may (sym failed ∙ sane))

-- and counts if it plays
pub counts_between : (y z : Player) → IsBetweenRounds y z → CountsIfItPlays y → CountsIfItPlays z
counts_between y z same so = λ has. same.counted.same ∙ so (λ none. has (ap (λ (w : Worker). w.task) same.worker ∙ none))

-- at the same desk, with the same card
pub plays_on_between : (x y z : Player) → PlaysOn x y → IsBetweenRounds y z → z.failed ≡ y.failed → IsSameCard y.card z.card → PlaysOn x z
plays_on_between x y z on same failed card =
    ((card.0 ∙ on.0.0, card.1 ∙ on.0.1), λ sane. subst (λ (w : Worker). IsSameRole (view x.worker.desk) (view w.desk)) (sym same.worker) (on.1 (sym failed ∙ sane)))

-- rounds, and then more of them, after which the player left off and went
pub left_off_later : (knows : ℕ → Type 0) (s : Space Parcel) (x y z w : Player) → HadRounds knows s x y → HasLeftOff knows s y z → w.worker ≡ z.worker → w.failed ≡ z.failed → began w.card ≡ began z.card → tells w.card ≡ tells z.card → last_read w.card ≡ last_read z.card → reads w.card ≡ reads z.card → times_asked w.card ≡ times_asked z.card → stops w.card ≡ stops z.card → HasLeftOff knows s x w
left_off_later knows s x y z w had later same_worker same_end as_often same_told same_read read_as_often asked_as_often same_stop = record {
  last = later.last;
  had = more_rounds knows s x y later.last had later.had;
  asked = asked_as_often ∙ later.asked;
  off = λ sane. subst (λ (v : Worker). StillPlays (view later.last.worker.desk).kept later.last.worker.task v) (sym same_worker) (later.off (sym same_end ∙ sane));
  began_so = (
    λ sane. began_on (view later.last.worker.desk) (view z.worker.desk) (view w.worker.desk) later.last.card z.card w.card (ap (λ (v : Worker). (view v.desk).looked.seen) same_worker) as_often (later.began_so.0 (sym same_end ∙ sane)),
    λ lost. as_often ∙ later.began_so.1 (sym same_end ∙ lost),
  );
  short = λ lost. ⊎_elim
      (λ alone. inl (same_worker ∙ alone.0, same_told ∙ alone.1))
      (λ told. inr (told.0, same_told ∙ told.1, subst (IsOutOfMemory s) (sym same_worker) told.2, told.3, told.4, subst (λ (v : Worker). DrewAStep told.3 (view later.last.worker.desk).draws (view v.desk).draws) (sym same_worker) told.5))
      (later.short (sym same_end ∙ lost));
  gone = λ sane. ⊎_elim
      (λ spent. inl (subst (λ (v : Worker). (view v.desk).spent ≡ true) (sym same_worker) spent.0, same_worker ∙ spent.1))
      (λ far. inr (read_as_often ∙ far.0, same_read ∙ far.1, far.2, far.3, far.4, subst (λ (v : Worker). LookedAgain s far.2 far.3 (view v.desk)) (sym same_worker) far.5))
      (later.gone (sym same_end ∙ sane));
  untold = λ sane. same_stop ∙ later.untold (sym same_end ∙ sane);
}

-- a player that goes has played what it had played
pub played_later : (s : Space Parcel) (z w : Player) → w.worker ≡ z.worker → w.failed ≡ z.failed → last_read w.card ≡ last_read z.card → HasPlayed s z → HasPlayed s w
played_later s z w same_worker same_end same_read played = λ sane.
    let was = played (sym same_end ∙ sane) in (
      subst (HasStopped s) (sym same_worker) was.0,
      ⊎_elim (λ spent. inl (subst (λ (v : Worker). (view v.desk).spent ≡ true) (sym same_worker) spent)) (λ none. inr (subst (λ (v : Worker). FoundNone s 0 (view v.desk)) (sym same_worker) none.0, same_read ∙ none.1)) was.1,
    )

-- one more player that has left off
pub left_off_more : (knows : ℕ → Type 0) (s : Space Parcel) (xs ys : List Player) (x y : Player) → HaveAllLeftOff knows s xs ys → HasLeftOff knows s x y → HaveAllLeftOff knows s (xs ++ x ∷ []) (ys ++ y ∷ [])
left_off_more knows s [] [] x y all one = (one, tt)
left_off_more knows s [] (v ∷ ys) x y all one = absurd all
left_off_more knows s (u ∷ xs) [] x y all one = absurd all
left_off_more knows s (u ∷ xs) (v ∷ ys) x y all one = (all.0, left_off_more knows s xs ys x y all.1 one)

-- none, where there are none
pub left_off_none : (knows : ℕ → Type 0) (s : Space Parcel) (xs ys : List Player) → xs ≡ [] → ys ≡ [] → HaveAllLeftOff knows s xs ys
left_off_none knows s xs ys none none_either = subst (λ (l : List Player). HaveAllLeftOff knows s l ys) (sym none) (subst (HaveAllLeftOff knows s []) (sym none_either) tt)

-- turns behind others
turns_behind : (knows : ℕ → Type 0) (s : Space Parcel) (x y z : Alone) (ys zs : List Alone) → AreTurns knows s x ys y → AreTurns knows s y zs z → AreTurns knows s x (zs ++ ys) z
turns_behind knows s x y z ys [] before same = subst (λ (a : Alone). AreTurns knows s x ys a) same before
turns_behind knows s x y z ys (u ∷ us) before after = (turns_behind knows s x y u ys us before after.0, after.1)

-- the first worker alone has had no turn yet
pub no_turns : (knows : ℕ → Type 0) (s : Space Parcel) (x : Alone) → HadTurns knows s x x
no_turns knows s x = record { before_each = []; turns = refl }

-- and one more
pub one_turn_more : (knows : ℕ → Type 0) (s : Space Parcel) (x y z : Alone) → HadTurns knows s x y → HadATurn knows s y z → HadTurns knows s x z
one_turn_more knows s x y z had one = record { before_each = y ∷ had.before_each; turns = (had.turns, one) }

-- and several more
pub more_turns : (knows : ℕ → Type 0) (s : Space Parcel) (x y z : Alone) → HadTurns knows s x y → HadTurns knows s y z → HadTurns knows s x z
more_turns knows s x y z had later = record { before_each = later.before_each ++ had.before_each; turns = turns_behind knows s x y z had.before_each later.before_each had.turns later.turns }

-- turns, and then more of them, after which it left off
pub left_off_alone : (knows : ℕ → Type 0) (s : Space Parcel) (x y : Alone) (w : Worker) → HadTurns knows s x y → HasLeftOffAlone knows s y w → HasLeftOffAlone knows s x w
left_off_alone knows s x y w had later = record { last = later.last; had = more_turns knows s x y later.last had later.had; off = later.off }

-- turns, and then more of them, after which it ran out of memory
pub failed_alone : (knows : ℕ → Type 0) (s : Space Parcel) (x y : Alone) (w : Worker) → HadTurns knows s x y → HasFailedAlone knows s y w → HasFailedAlone knows s x w
failed_alone knows s x y w had later = record { last = later.last; had = more_turns knows s x y later.last had later.had; short = later.short }
