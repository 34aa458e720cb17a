-- The crew of a run: at the beginning, with one more worker, and back from its threads.
use Rattle.std.proofs.Common.{◌≡◌, ◌+◌, ◌<◌, ◌≤◌, true, false, List, [], ◌∷◌, ◌++◌, length, length-append, None, sym, ap, ◌∙◌, subst, arith, ◌||◌, Bool}
use Rattle.atomic_table.specs.Seated.{TableId}
use Rattle.std.proofs.lemmas.List.Elements.{All-push}
use Rattle.chord_base.specs.declared.event.Entry.{Entry}
use Rattle.chord_base.specs.declared.event.Limits.{Limits}
use Rattle.chord_base.specs.Story.{IsSound, together}
use Rattle.chord_code.specs.declared.parts.Parts.{Parts}
use Rattle.chord_code.specs.Meaning.{code_program}
use Rattle.chord_code.specs.Sound.{IsSoundCode}
use Rattle.chord_rule.specs.declared.view.View.{View}
use Rattle.chord_rule.specs.Kinds.{lent_one, newcomer_first}
use Rattle.chord_roll.specs.declared.card.Card.{Card}
use Rattle.chord_roll.specs.Cards as cards
use Rattle.chord_roll.specs.Cards.{roll_of, IsSameCard}
use Rattle.chord_space.specs.declared.space.Space.{Space}
use Rattle.chord_space.specs.Desks.{view, space_code, space_limits}
use Rattle.chord_task.specs.declared.parcel.Opened.{Opened as Parcel}
use Rattle.chord_worker.specs.declared.worker.Worker.{Worker}
use Rattle.chord_worker.specs.Resting.{IsAtRest, IsSameRole}
use Rattle.chord_pool.specs.declared.player.Player.{Player}
use Rattle.chord_pool.specs.Players.{IsOneRun, HasPlayed, PlaysOn, HaveAllPlayed, AreOfRoll, AreCards, IsHired, IsCrew, IsBack, any_failed, with_draws}
use Rattle.chord_pool.proofs.Handing.{hired_more}

-- the first worker has lent one desk more, to a worker with nothing to play
pub hired : (s : Space Parcel) (main after : Worker) (others : List Player) (one : Player) → IsCrew s main others → (view main.desk).splits ≡ length others
    → IsAtRest s after → after.task ≡ main.task → view after.desk ≡ lent_one (view main.desk) → IsHired s one
    → IsCrew s after (others ++ one ∷ []) × ((view after.desk).splits ≡ length (others ++ one ∷ [])) × (length (others ++ one ∷ []) ≡ length others + 1)
hired s main after others one crew splits rest task lent new =
    let long : length (others ++ one ∷ []) ≡ length others + 1 = length-append others (one ∷ []) in
    let more : (view after.desk).lent ≡ (view main.desk).lent + 1 = ap (λ (v : View). v.lent) lent in
    let count : (view after.desk).splits ≡ (view main.desk).splits + 1 = ap (λ (v : View). v.splits) lent in (
      record {
        settled = record { rest = rest; over = λ told. task ∙ crew.settled.over (sym (ap (λ (v : View). v.spent) lent) ∙ told) };
        first = ap (λ (v : View). v.first) lent ∙ crew.first;
        drawn = ap (λ (v : View). v.drawn) lent ∙ crew.drawn;
        lent = (let was = crew.lent in omega (arith, more, long, was));
        all = hired_more s others one crew.all new;
      },
      omega (arith, count, long, splits),
      long,
    )

-- the first card has made one more
pub carded : (main after : Card) (others : List Player) (one : Player) → AreCards main others → IsSameCard main after → cards.hired after ≡ cards.hired main + 1 → roll_of one.card ≡ roll_of main → AreCards after (others ++ one ∷ [])
carded main after others one was same more new =
    record {
      first = same.1 ∙ was.first;
      count = more ∙ (let long = length-append others (one ∷ []) in let count = was.count in omega arith);
      all = All-push (λ (x : Player). roll_of x.card ≡ roll_of after) others one (subst (λ (r : TableId). AreOfRoll r others) (sym same.0) was.all) (new ∙ sym same.0);
    }

-- a table that was made for a sound code is of one run
pub one_run : (s : Space Parcel) (code : Parts) (limits : Limits) → space_code s ≡ code → space_limits s ≡ limits → 0 < limits.depth → limits.depth ≤ 256 → IsSoundCode code → IsOneRun s code limits
one_run s code limits code_is limits_are some low sound = record {
  code_is = code_is;
  limits_are = limits_are;
  sound = subst (λ (x : Parts). IsSound (code_program x (space_limits s))) (sym code_is) (subst (λ (l : Limits). IsSound (code_program code l)) (sym limits_are) (sound limits some low).sound);
}

-- at the beginning the first worker is a crew of its own
pub crew_begins : (s : Space Parcel) (v : View) (main : Worker) → v ≡ newcomer_first → IsAtRest s main → IsSameRole v (view main.desk) → (view main.desk).drawn ≡ true → ((view main.desk).spent ≡ true → main.task ≡ None) → IsCrew s main [] × ((view main.desk).splits ≡ 0)
crew_begins s v main new rest role drawn over = (
  record {
    settled = record { rest = rest; over = over };
    first = role.first ∙ ap (λ (x : View). x.first) new;
    drawn = drawn;
    lent = role.lent ∙ ap (λ (x : View). x.lent) new;
    all = tt;
  },
  role.splits ∙ ap (λ (x : View). x.splits) new,
)

-- the crew has come back from its threads
pub come_back : (s : Space Parcel) (main back : Player) (others backs : List Player) → IsCrew s main.worker others → HasPlayed s back → PlaysOn main back → HaveAllPlayed s backs → length backs ≡ length others → back.failed ≡ false → IsBack s back.worker backs
come_back s main back others backs crew played on all count sane =
    let role = on.1 sane in record {
      stopped = (played sane).0;
      first = role.first ∙ crew.first;
      drawn = role.drawn crew.drawn;
      lent = role.lent ∙ crew.lent ∙ sym count;
      all = all;
    }

-- one that had not failed was taken in, so of those that are left one failed exactly where one of all did
pub failed_as_before : (xs left : List Player) (x : Player) (all : Bool) → any_failed xs ≡ all → xs ≡ x ∷ left → x.failed ≡ false → any_failed left ≡ all
failed_as_before xs left x all had is sane = sym (ap (λ (b : Bool). b || any_failed left) sane) ∙ sym (ap any_failed is) ∙ had

-- what one drew that was taken in is drawn, and with what is left it comes to the same
pub drawn_with : (xs left : List Player) (x : Player) (all es now : List Entry) → with_draws es xs ≡ all → xs ≡ x ∷ left → now ≡ together es (view x.worker.desk).draws → with_draws now left ≡ all
drawn_with xs left x all es now had is drew = ap (λ (l : List Entry). with_draws l left) drew ∙ sym (ap (with_draws es) is) ∙ had
