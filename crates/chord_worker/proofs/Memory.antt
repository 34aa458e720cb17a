-- How what a worker has in memory changes.
use Rattle.std.proofs.Common.{◌≡◌, ℕ, Bool, true, false, not, ◌==◌, ◌||◌, List, ◌∷◌, Option, Some, None, IsSome, reverse, refl, sym, ap, ◌∙◌, subst, inl, inr, arith, if◌then◌else◌}
use Rattle.std.proofs.lemmas.Bool.{eq-eqb, eqb-true, eqb-false, ne_eqb}
use mathlib.Core.Path.{Path}
use Rattle.chord_base.specs.declared.event.What.{What}
use Rattle.chord_base.specs.declared.event.Entry.{Entry}
use Rattle.chord_base.specs.declared.event.Limits.{Limits}
use Rattle.chord_base.specs.Meaning.{Program}
use Rattle.chord_base.specs.Bodies.{Doing, Absent, Unplaced, Ready, Waits, Over, doing, asked, Asks}
use Rattle.chord_base.specs.Story.{kept, IsMerged, IsStory, IsSound, IsRising, IsOwn, IsDefined, AllBelow, grown}
use Rattle.chord_base.proofs.Waits.{either}
use Rattle.chord_base.proofs.Merged.{own_tells, merged_story}
use Rattle.chord_base.proofs.Places.{kept_below}
use Rattle.chord_code.specs.declared.parts.Parts.{Parts}
use Rattle.chord_code.specs.Meaning.{code_program}
use Rattle.chord_rule.specs.Closing.{IsQuiet, AreQuiet}
use Rattle.chord_rule.specs.Kinds.{is_among, entry, left_by, MayGo}
use Rattle.chord_task.specs.declared.body.Body.{Body}
use Rattle.chord_task.specs.declared.body.Caller.{Caller}
use Rattle.chord_task.specs.declared.body.Next.{Next}
use Rattle.chord_task.specs.declared.body.Next.TheVariants as nexts
use Rattle.chord_task.specs.declared.task.Task.{Task}
use Rattle.chord_task.specs.Standing.{view_of, body_number, may_go, body_may_go, is_ready_of, IsTop, IsBodyStack, IsTaskOf}
use Rattle.chord_worker.specs.Parted.{IsParted, two}
use Rattle.chord_worker.specs.Resting.{IsInMemory}
use Rattle.chord_worker.proofs.Parts.{kept_agree, kept_nothing, flag_is, in_below, part_goes, part_asks, parts_quiet, part_drawn, place_of_some, parts_told}

-- ## Two parts

-- a truth value as 1 or 0 is 0 where it is false
flag_not : (b : Bool) → ((if b then 1 else 0) == 0) ≡ not b
flag_not true = refl
flag_not false = refl

-- a truth value as 1 or 0 is no other number
flag_other : (b : Bool) (c : ℕ) → (c == 0) ≡ false → (c == 1) ≡ false → ((if b then 1 else 0) == c) ≡ false
flag_other true c z o = ne_eqb 1 c (λ q. eqb-false c 1 o (sym q))
flag_other false c z o = ne_eqb 0 c (λ q. eqb-false c 0 z (sym q))

-- what may go and what stays are two parts
pub two_parted : (p : Program) (es ps : List Entry) → IsRising es → MayGo p es ps → IsParted p (two (left_by ps es) ps) es
two_parted p es ps rises may = record {
  rises = rises;
  at = λ n. if is_among ps n then 1 else 0;
  keeps = λ c. elim (either (c == 0)) [
    | inl y ↦ rw y (subst (λ (d : ℕ). kept (λ n. (if is_among ps n then 1 else 0) == d) es ≡ left_by ps es) (sym (eqb-true c 0 y))
        (kept_agree (λ n. (if is_among ps n then 1 else 0) == 0) (λ n. not (is_among ps n)) es (λ e i. flag_not (is_among ps e.number))))
    | inr o ↦ elim (either (c == 1)) [
      | inl y ↦ rw (o, y) (subst (λ (d : ℕ). kept (λ n. (if is_among ps n then 1 else 0) == d) es ≡ ps) (sym (eqb-true c 1 y))
          (kept_agree (λ n. (if is_among ps n then 1 else 0) == 1) (is_among ps) es (λ e i. flag_is (is_among ps e.number)) ∙ may.part))
      | inr z ↦ rw (o, z) (kept_agree (λ n. (if is_among ps n then 1 else 0) == c) (λ n. false) es (λ e i. flag_other (is_among ps e.number) c o z) ∙ kept_nothing es)
    ]
  ];
  told = λ c. elim (either (c == 0)) [
    | inl y ↦ rw y may.stays
    | inr o ↦ elim (either (c == 1)) [ inl y ↦ rw (o, y) may.goes | inr z ↦ rw (o, z) tt ]
  ];
}

-- an entry above all leaves the same, where it goes with what goes
pub left_above : (ps : List Entry) (e : Entry) (es : List Entry) → AllBelow e.number es → left_by (e ∷ ps) (e ∷ es) ≡ left_by ps es
left_above ps e es below = rw (eq-eqb e.number e.number refl)
    (kept_agree (λ n. not ((e.number == n) || is_among ps n)) (λ n. not (is_among ps n)) es
    (λ x i. let l = in_below e.number es x below i in ap (λ (b : Bool). not (b || is_among ps x.number)) (ne_eqb e.number x.number (λ q. omega (arith, q, l)))))

-- ## Tasks

-- a body on top that may not go on is quiet
next_quiet : (code : Parts) (limits : Limits) (h : List Entry) (b : Body) (n : Next) → IsTop code limits h n b → may_go n ≡ false → IsQuiet (doing (code_program code limits) h b.number)
next_quiet code limits h b nexts.Runs t e = let z : true ≡ false = e in absurd (cc)
next_quiet code limits h b (nexts.Gave w) t e = let z : true ≡ false = e in absurd (cc)
next_quiet code limits h b (nexts.Ends x y) t e = let z : true ≡ false = e in absurd (cc)
next_quiet code limits h b (nexts.Fails x) t e = let z : true ≡ false = e in absurd (cc)
next_quiet code limits h b (nexts.Waits q) t e = subst IsQuiet (sym t.is) tt

-- the number of the body on top, if it may not go on, is that of a quiet body
top_quiet : (code : Parts) (limits : Limits) (h : List Entry) (x : Option Body) (bs : List Caller) → IsBodyStack code limits h x bs → body_may_go x ≡ false → (n : ℕ) → body_number x ≡ Some n → IsQuiet (doing (code_program code limits) h n)
top_quiet code limits h None bs s e n i = let z : Path (Option ℕ) None (Some n) = i in absurd (cc)
top_quiet code limits h (Some b) bs s e n i =
    let j : Some b.number ≡ Some n = i in
    let k : b.number ≡ n = cc in subst (λ (m : ℕ). IsQuiet (doing (code_program code limits) h m)) k (next_quiet code limits h b b.next s.0 e)

-- a placed body that asks nothing, and whose next ask is defined, is quiet
still_quiet : (p : Program) (d : Doing) → asked p d ≡ None → (d ≡ Unplaced → ⊥) → IsDefined p d → IsQuiet d
still_quiet p Absent a u d = tt
still_quiet p Unplaced a u d = absurd (u refl)
still_quiet p (Ready s k rs) a u d = let z : false ≡ true = subst IsSome a d in absurd (cc)
still_quiet p (Waits s k rs q l) a u d = tt
still_quiet p (Over x) a u d = tt

-- the bodies of a task that may not go on are quiet
pub task_quiet : (code : Parts) (limits : Limits) (t : Task) → IsTaskOf code limits t → is_ready_of t ≡ false → AreQuiet (code_program code limits) (view_of t).past
task_quiet code limits t is over b = cases (view_of t).top refl
  where
    cases : (x : Option ℕ) → (view_of t).top ≡ x → IsQuiet (doing (code_program code limits) (view_of t).past b)
    cases None e = still_quiet (code_program code limits) (doing (code_program code limits) (view_of t).past b) (is.task.quiet b (λ z. let k : Path (Option ℕ) None (Some b) = sym e ∙ z in cc)) (is.task.placed b) (is.is_defined b)
    cases (Some n) e =
        elim (either (n == b)) [
          | inl y ↦ top_quiet code limits (view_of t).past t.top (reverse t.below.items) is.stack over b (e ∙ ap Some (eqb-true n b y))
          | inr o ↦ still_quiet (code_program code limits) (doing (code_program code limits) (view_of t).past b)
              (is.task.quiet b (λ z. let k : Some n ≡ Some b = sym e ∙ z in let j : n ≡ b = cc in eqb-false n b o j)) (is.task.placed b) (is.is_defined b)
        ]

-- ## What is in memory

module _ (code : Parts) (limits : Limits) (es : List Entry) (spent : Bool) (t : Task) (m : IsInMemory code limits es spent (Some t)) where
  -- the program that is played
  abbrev p : Program
  p = code_program code limits

  -- the rest and the past of the task are two parts
  pub parts_of : IsParted p (two (left_by (view_of t).past es) (view_of t).past) es
  parts_of = two_parted p es (view_of t).past m.rises m.played.1

  -- what the task asks next, the desk may draw
  pub asks_at_desk : (b : ℕ) (w : What) → Asks p (view_of t).past b w → Asks p es b w
  asks_at_desk b w a = part_asks p (two (left_by (view_of t).past es) (view_of t).past) es parts_of 1 b w a

  -- a task that may not go on is quiet
  pub task_done : is_ready_of t ≡ false → IsInMemory code limits es spent None
  task_done over = record {
    rises = m.rises;
    told = m.told;
    played = tt;
    quiet = λ s. parts_quiet p (two (left_by (view_of t).past es) (view_of t).past) es parts_of
        (λ c. elim (either (c == 0)) [
          | inl y ↦ rw y (m.quiet s)
          | inr o ↦ elim (either (c == 1)) [ inl y ↦ rw (o, y) (task_quiet code limits t m.played.0 over) | inr z ↦ rw (o, z) (λ b. tt) ]
        ]);
  }

  -- where the run is full, any task may be laid down
  pub task_laid : IsInMemory code limits es true None
  task_laid = record {
    rises = m.rises;
    told = m.told;
    played = tt;
    quiet = λ s. let z : true ≡ false = s in absurd (cc);
  }

  module _ (n b : ℕ) (w : What) (below : AllBelow n es) (own : IsOwn w) (asks : Asks p (view_of t).past b w) where
    -- the two parts, where the task has one more entry
    pub noted_parts : IsParted p (grown (two (left_by (view_of t).past es) (view_of t).past) 1 (entry n b w)) (entry n b w ∷ es)
    noted_parts = part_drawn p (two (left_by (view_of t).past es) (view_of t).past) es parts_of 1 (entry n b w) below (own_tells p (view_of t).past n b w own asks)

    -- the task's numbers are below that of the entry
    pub noted_below : AllBelow n (view_of t).past
    noted_below = subst (AllBelow n) m.played.1.part (kept_below n (is_among (view_of t).past) es below)

    -- what the task does with the entry is defined
    pub noted_defined : IsSound p → (h : List Entry) (views : ℕ → List Entry) (merged : IsMerged p views h) (i : ℕ) → views i ≡ entry n b w ∷ es → (c : ℕ) → IsDefined p (doing p (entry n b w ∷ (view_of t).past) c)
    noted_defined sound h views merged i here c =
        let s = place_of_some p (grown (two (left_by (view_of t).past es) (view_of t).past) 1 (entry n b w)) (entry n b w ∷ es) noted_parts h views merged i here (λ d. d == 1) in
        (subst (IsStory p) (s.3 ∙ noted_parts.keeps 1) (merged_story p s.0 h sound s.2 s.1)).is_defined c

    -- the task with the entry is in memory
    pub noted : (t' : Task) → IsTaskOf code limits t' → (view_of t').past ≡ entry n b w ∷ (view_of t).past → IsInMemory code limits (entry n b w ∷ es) spent (Some t')
    noted t' is past = record {
      rises = (below, m.rises);
      told = parts_told p (grown (two (left_by (view_of t).past es) (view_of t).past) 1 (entry n b w)) (entry n b w ∷ es) noted_parts;
      played = (is, subst (MayGo p (entry n b w ∷ es)) (sym past) (part_goes p (grown (two (left_by (view_of t).past es) (view_of t).past) 1 (entry n b w)) (entry n b w ∷ es) noted_parts 1));
      quiet = λ s. subst (AreQuiet p) (sym same) (m.quiet s);
    }
      where
        same : left_by (view_of t').past (entry n b w ∷ es) ≡ left_by (view_of t).past es
        same = ap (λ (ps : List Entry). left_by ps (entry n b w ∷ es)) past ∙ left_above (view_of t).past (entry n b w) es below
