-- What is known of a run that was closed and gathered.
use Rattle.std.proofs.Common.{◌≡◌, ℕ, ◌≤◌, ◌==◌, true, false, List, length, min, reverse, sym, ap, ◌∙◌, subst, arith, Option, Some}
use Rattle.std.proofs.lemmas.List.{length-reverse, reverse-reverse}
use Rattle.std.proofs.lemmas.List.Sorted.{IsPermutation-sym, IsPermutation-reverse}
use Rattle.std.specs.List.Sorted.{IsPermutation}
use mathlib.Core.Option.{some}
use lib.ListN.{get_elem?}
use Rattle.chord_base.specs.declared.event.Entry.{Entry}
use Rattle.chord_base.specs.declared.event.Limits.{Limits}
use Rattle.chord_base.specs.Bounds.{AreWithin, IsJournal}
use Rattle.chord_base.specs.Machine.{IsPast, IsFinal}
use Rattle.chord_base.specs.Story.{IsIn, kept}
use Rattle.chord_base.proofs.Collected.{view_in}
use Rattle.chord_code.specs.declared.parts.Parts.{Parts}
use Rattle.chord_code.specs.Meaning.{code_program}
use Rattle.chord_journal.specs.Gathered.{AreOfJournal}
use Rattle.chord_rule.specs.declared.view.View.{View}
use Rattle.chord_rule.specs.Closing.{MayClose, AreQuiet}
use Rattle.chord_rule.specs.Keeping.{desk, at_desk}
use Rattle.chord_rule.proofs.Keeping.{desk_keeps}
use Rattle.chord_space.specs.Sealed.{IsSealed}
use Rattle.chord_task.specs.declared.parcel.Opened.{Opened as Parcel}
use Rattle.chord_task.specs.Parcels.{entries_of, arguments_of, IsParcelOf}
use Rattle.chord_pool.proofs.Journals.{of_journal, is_history, in_other_order}

-- what a journal is that was gathered from a table which a desk with this view closed
pub record IsGathered (code : Parts) (limits : Limits) (v : View) (drawn : ℕ) (out : List Entry) : Type 0 where
  pub run : IsPast (code_program code limits) (reverse out)
  pub whole : MayClose v → AreQuiet (code_program code limits) v.kept → IsFinal (code_program code limits) (reverse out)
  pub full : v.spent ≡ true → length out ≡ limits.events
  pub counted : (c : ℕ) → v.looked.count ≡ Some c → length out ≡ min c limits.events
  pub few : length out ≤ limits.events
  pub drawn_is : drawn ≡ length out
  pub keeps : (e : Entry) → IsIn e v.kept → IsIn e out
  pub drew : v.draws ≡ reverse out

-- a table of this code under these limits, which go by other names
pub sealed_for : (was : Parts) (before : Limits) (code : Parts) (limits : Limits) (id : ℕ) (v : View) (slots : List (Option Parcel)) (drawn : ℕ) → (was ≡ code) × (before ≡ limits)
    → IsSealed entries_of arguments_of IsParcelOf was before id v slots drawn → IsSealed entries_of arguments_of IsParcelOf code limits id v slots drawn
sealed_for was before code limits id v slots drawn same s =
    subst (λ (x : Parts). IsSealed entries_of arguments_of IsParcelOf x limits id v slots drawn) same.0 (subst (λ (y : Limits). IsSealed entries_of arguments_of IsParcelOf was y id v slots drawn) same.1 s)

module _ (code : Parts) (limits : Limits) (id : ℕ) (v : View) (slots : List (Option Parcel)) (drawn : ℕ) (s : IsSealed entries_of arguments_of IsParcelOf code limits id v slots drawn)
    (small : limits.events ≤ 65536) (here : v.gone ≡ false) (first : v.first ≡ true) (alone : v.lent ≡ 0)
    (bounds : (h : List Entry) → IsPast (code_program code limits) h → length h ≤ 65536 → AreWithin h)
    (es : List Entry) (same : IsPermutation es v.draws) where
  -- the run has as many entries as the counter says, or as are allowed
  long : length s.unseen.journal ≡ min s.moment.count limits.events
  long = s.rule.agrees.stands.keeping.long

  -- it is within the bounds of a journal
  within : AreWithin s.unseen.journal
  within = let l = long in bounds s.unseen.journal s.rule.agrees.stands.keeping.merged.past (omega (arith, l, small))

  -- the entries are those of the run
  moved : IsPermutation es s.unseen.journal
  moved = subst (IsPermutation es) s.journal same

  -- they are those of a journal
  pub of_run : AreOfJournal es
  of_run = let l = long in of_journal es s.unseen.journal moved (omega (arith, l, small)) within

  -- in the order in which they were drawn they are the journal
  pub in_order : (list : List Entry) → list ≡ reverse v.draws → IsJournal list
  in_order list drawn_so =
      let l = long in
      let count = length-reverse s.unseen.journal in
      subst IsJournal (sym (drawn_so ∙ ap reverse s.journal)) (record { few = omega (arith, l, count, small); within = subst AreWithin (sym (reverse-reverse s.unseen.journal)) within })

  -- the place of each entry
  abbrev place : ℕ → ℕ
  place = s.rule.agrees.stands.keeping.merged.at

  -- the closing desk keeps entries of the run
  desk_entries : kept (λ k. place k == desk id) s.unseen.journal ≡ v.kept
  desk_entries = s.rule.agrees.stands.keeping.merged.keeps (desk id) ∙ desk_keeps entries_of s.moment.views s.moment.homes id ∙ ap at_desk s.desk

  -- the closing desk is the first one
  at_first : get_elem? s.moment.views 0 ≡ some v
  at_first = ap (get_elem? s.moment.views) (sym (s.rule.agrees.firsts.leads id v s.desk first)) ∙ s.desk

  -- the journal that has them is the run
  pub ended : (out : List Entry) → IsPermutation es out → IsJournal out → IsGathered code limits v drawn out
  ended out gathered journal =
      let run : reverse out ≡ s.unseen.journal = is_history es s.unseen.journal out moved gathered within journal in
      let p = code_program code limits in
      let count : length out ≡ min s.moment.count limits.events = sym (length-reverse out) ∙ ap length run ∙ long in record {
        run = subst (IsPast p) (sym run) s.rule.agrees.stands.keeping.merged.past;
        whole = λ may quiet. subst (IsFinal p) (sym run) (s.complete may quiet);
        full = λ told. let reached = (s.rule.desks.right id v s.desk).told here told in omega (arith, count, reached);
        counted = λ c saw. count ∙ ap (λ (x : ℕ). min x limits.events) ((s.rule.alone.alone v at_first alone).counter c saw);
        few = omega (arith, count);
        drawn_is = s.drawn_is ∙ long ∙ sym count;
        keeps = λ e i.
            let there : IsIn e s.unseen.journal = view_in (λ k. place k == desk id) e s.unseen.journal (subst (IsIn e) (sym desk_entries) i) in
            in_other_order e (reverse out) out (IsPermutation-sym out (reverse out) (IsPermutation-reverse out)) (subst (IsIn e) (sym run) there);
        drew = s.journal ∙ sym run;
      }
