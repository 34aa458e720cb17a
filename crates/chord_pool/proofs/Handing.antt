-- Lists of players that are handed to threads and come back.
use Rattle.std.proofs.Common.{◌≡◌, List, [], ◌∷◌, ◌++◌, option_to_list, Option, Some, None, IfSome, subst}
use Rattle.chord_space.specs.declared.space.Space.{Space}
use Rattle.chord_task.specs.declared.parcel.Opened.{Opened as Parcel}
use Rattle.chord_pool.specs.declared.player.Player.{Player}
use Rattle.chord_pool.specs.Players.{HasPlayed, IsHired, AreHired, HaveAllPlayed}

-- one more that has played
pub played_more : (s : Space Parcel) (xs : List Player) (x : Player) → HaveAllPlayed s xs → HasPlayed s x → HaveAllPlayed s (xs ++ x ∷ [])
played_more s [] x all one = (one, tt)
played_more s (y ∷ ys) x all one = (all.0, played_more s ys x all.1 one)

-- one more that was hired
pub hired_more : (s : Space Parcel) (xs : List Player) (x : Player) → AreHired s xs → IsHired s x → AreHired s (xs ++ x ∷ [])
hired_more s [] x all one = (one, tt)
hired_more s (y ∷ ys) x all one = (all.0, hired_more s ys x all.1 one)

-- the last of those that were hired, and the others
last_hired : (s : Space Parcel) (xs : List Player) (x : Player) → AreHired s (xs ++ x ∷ []) → IsHired s x × AreHired s xs
last_hired s [] x all = (all.0, tt)
last_hired s (y ∷ ys) x all = let r = last_hired s ys x all.1 in (r.0, (all.0, r.1))

-- the last was hired, if there is one, and so were the others
pub taken_hired : (s : Space Parcel) (xs ys : List Player) (r : Option Player) → xs ≡ ys ++ option_to_list r → AreHired s xs → IfSome r (λ one. IsHired s one × AreHired s ys)
taken_hired s xs ys None e all = tt
taken_hired s xs ys (Some x) e all = last_hired s ys x (subst (AreHired s) e all)
