-- The lists of a worker have what its desk drew: where neither changes, where both got one entry, and where two workers become one.
use Rattle.std.proofs.Common.{◌≡◌, ◌++◌, List, [], ◌∷◌, ltb, inl, inr, refl, sym, ap, ◌∙◌, subst, reverse}
use Rattle.std.proofs.lemmas.Grind.{flat_map-append}
use Rattle.std.proofs.lemmas.List.{append-nil, append_assoc, reverse-append}
use Rattle.std.proofs.lemmas.List.Sorted.{IsPermutation-refl, IsPermutation-cons, IsPermutation-trans, IsPermutation-append, IsPermutation-append_comm, IsPermutation-append_left, IsPermutation-middle}
use Rattle.std.specs.Global.{Global}
use Rattle.std.specs.Prelude.{Vec, IsPermutation}
use Rattle.chord_base.specs.declared.event.Entry.{Entry}
use Rattle.chord_base.specs.Story.{insert, together}
use Rattle.chord_base.proofs.Waits.{either}
use Rattle.chord_task.specs.Past.{AddsOne}
use Rattle.chord_worker.specs.Playing.{DrawsOne}
use Rattle.chord_worker.specs.Resting.{AreListed, all_in}

-- what is the same is listed
pub lists_same : (ds ds' : List Entry) (ts ts' : List (Vec Entry Global)) (vs vs' : List Entry) → ds' ≡ ds → ts' ≡ ts → vs' ≡ vs → AreListed ds ts vs → AreListed ds' ts' vs'
lists_same ds ds' ts ts' vs vs' d t v listed =
    subst (AreListed ds' ts') (sym v)
    (subst (λ (xs : List Entry). AreListed xs ts' vs) (sym d)
    (subst (λ (us : List (Vec Entry Global)). AreListed ds us vs) (sym t) listed))

-- one entry more is listed, behind the others
pub one_more_listed : (ds ds' : List Entry) (ts ts' : List (Vec Entry Global)) (vs vs' : List Entry) → DrawsOne vs vs' ds ds' → ts' ≡ ts → AreListed ds ts vs → AreListed ds' ts' vs'
one_more_listed ds ds' ts ts' vs vs' one t listed =
    lists_same (ds ++ one.entry ∷ []) ds' ts ts' (one.entry ∷ vs) vs' one.list t one.drawn record {
      moved = subst (λ (xs : List Entry). IsPermutation xs (one.entry ∷ vs)) (sym (append_assoc ds (one.entry ∷ []) (all_in ts)))
          (IsPermutation-trans (ds ++ one.entry ∷ all_in ts) (one.entry ∷ (ds ++ all_in ts)) (one.entry ∷ vs)
          (IsPermutation-middle ds one.entry (all_in ts)) (IsPermutation-cons one.entry (ds ++ all_in ts) vs listed.moved));
      in_order = λ none. ap (λ (xs : List Entry). xs ++ one.entry ∷ []) (listed.in_order none) ∙ sym (reverse-append (one.entry ∷ []) vs);
    }

-- the entry that a past and a list got is the one that the desk drew
pub one_drawn : (past past' list list' vs vs' : List Entry) (e : Entry) → AddsOne past past' list list' → reverse past' ≡ e ∷ reverse past → vs' ≡ e ∷ vs → DrawsOne vs vs' list list'
one_drawn past past' list list' vs vs' e one past_is drawn =
    let z : one.entry ∷ reverse past ≡ e ∷ reverse past = sym (ap reverse one.past ∙ reverse-append past (one.entry ∷ [])) ∙ past_is in
    let same : one.entry ≡ e = cc in
    record { entry = one.entry; drawn = drawn ∙ ap (λ (x : Entry). x ∷ vs) (sym same); list = one.list }

-- ## Two workers

-- an inserted entry and the others are all, in another order
insert_all : (e : Entry) (h : List Entry) → IsPermutation (e ∷ h) (insert e h)
insert_all e [] = IsPermutation-refl (e ∷ [])
insert_all e (x ∷ h) =
    elim (either (ltb x.number e.number)) [
      | inl y ↦ rw y (IsPermutation-refl (e ∷ x ∷ h))
      | inr o ↦ rw o (IsPermutation-trans (e ∷ x ∷ h) (x ∷ e ∷ h) (x ∷ insert e h) (IsPermutation-middle (e ∷ []) x h) (IsPermutation-cons x (e ∷ h) (insert e h) (insert_all e h)))
    ]

-- two histories together have the entries of both
together_all : (h g : List Entry) → IsPermutation (h ++ g) (together h g)
together_all h [] = subst (λ (z : List Entry). IsPermutation z h) (sym (append-nil h)) (IsPermutation-refl h)
together_all h (e ∷ g) = IsPermutation-trans (h ++ e ∷ g) (insert e h ++ g) (together (insert e h) g)
    (IsPermutation-trans (h ++ e ∷ g) (e ∷ (h ++ g)) (insert e h ++ g) (IsPermutation-middle h e g) (IsPermutation-append_left g (e ∷ h) (insert e h) (insert_all e h)))
    (together_all (insert e h) g)

-- where a list was taken over, there is one
taken_over : (list : Vec Entry Global) (ts os : List (Vec Entry Global)) → (ts ++ list ∷ []) ++ os ≡ [] → ⊥
taken_over list [] os none = cc
taken_over list (t ∷ ts) os none = cc

-- the lists of both have what both drew
pub lists_united : (ds vs : List Entry) (list : Vec Entry Global) (us : List Entry) (ts os : List (Vec Entry Global)) → AreListed ds ts vs → AreListed list.items os us → AreListed ds ((ts ++ list ∷ []) ++ os) (together vs us)
lists_united ds vs list us ts os mine others = record {
  moved = subst (λ (xs : List Entry). IsPermutation xs (together vs us)) (sym regrouped)
      (IsPermutation-trans ((ds ++ all_in ts) ++ (list.items ++ all_in os)) (vs ++ us) (together vs us)
      (IsPermutation-append (ds ++ all_in ts) vs (list.items ++ all_in os) us mine.moved others.moved) (together_all vs us));
  in_order = λ none. absurd (taken_over list ts os none);
}
  where
    taken : all_in ((ts ++ list ∷ []) ++ os) ≡ all_in ts ++ (list.items ++ all_in os)
    taken = ap all_in (append_assoc ts (list ∷ []) os) ∙ flat_map-append (λ (t : Vec Entry Global). t.items) ts (list ∷ os)

    regrouped : ds ++ all_in ((ts ++ list ∷ []) ++ os) ≡ (ds ++ all_in ts) ++ (list.items ++ all_in os)
    regrouped = ap (λ (xs : List Entry). ds ++ xs) taken ∙ sym (append_assoc ds (all_in ts) (list.items ++ all_in os))

-- all lists in one have what the desk drew
pub lists_handed_over : (list : Vec Entry Global) (ts : List (Vec Entry Global)) (vs : List Entry) → AreListed list.items ts vs → IsPermutation (all_in (ts ++ list ∷ [])) vs
lists_handed_over list ts vs listed =
    subst (λ (xs : List Entry). IsPermutation xs vs) (sym (flat_map-append (λ (t : Vec Entry Global). t.items) ts (list ∷ []) ∙ ap (λ (xs : List Entry). all_in ts ++ xs) (append-nil list.items)))
    (IsPermutation-trans (all_in ts ++ list.items) (list.items ++ all_in ts) vs (IsPermutation-append_comm (all_in ts) list.items) listed.moved)

-- a list that is handed over alone is the worker's own
pub handed_over_alone : (own list : Vec Entry Global) (ts : List (Vec Entry Global)) (vs : List Entry) → AreListed own.items ts vs → ts ++ own ∷ [] ≡ list ∷ [] → list.items ≡ reverse vs
handed_over_alone own list [] vs listed alone =
    let same : own ≡ list = cc in
    sym (ap (λ (v : Vec Entry Global). v.items) same) ∙ listed.in_order refl
handed_over_alone own list (t ∷ ts) vs listed alone =
    let none : ts ++ own ∷ [] ≡ [] = cc in
    absurd (taken_over own ts [] (append-nil (ts ++ own ∷ []) ∙ none))
