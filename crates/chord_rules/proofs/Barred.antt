-- The rule on modifiers by what was seen before one.
use Rattle.std.proofs.Common.{◌≡◌, List, [], ◌∷◌, ◌++◌, Bool, ◌||◌, refl, sym, ap, ◌∙◌}
use Rattle.std.proofs.Math.Bool.{or-false, or-true}
use Rattle.std.proofs.lemmas.List.Recursion.{or_push}
use Rattle.chord_tree.specs.declared.classes.ModifierKeyword.{ModifierKeyword}
use Rattle.chord_tree.specs.declared.classes.ModifierKeyword.TheVariants as modifiers
use Rattle.chord_tree.specs.declared.classes.Modifier.{Modifier}
use Rattle.chord_classes.specs.Table.{has_word, is_virtual_word}
use Rattle.chord_classes.specs.ChordRules.{static_word}
use Rattle.chord_classes.specs.NameRules.{when}
use Rattle.chord_classes.specs.DeclarationRules.{Bearer, is_access, is_open, is_barred, barred_among}
use Rattle.chord_rules.specs.declared.modifiers.Seen.{Seen}
use Rattle.chord_rules.specs.Bearers.{barred_by, seen_with, barred_from}

-- what was seen of modifiers
abbrev seen_of : List Modifier → Seen
seen_of before = record { access = has_word is_access before; of_static = has_word static_word before; of_virtual = has_word is_virtual_word before }

-- a word among modifiers and one more
has_more : (word : ModifierKeyword → Bool) (before : List Modifier) (m : Modifier) → has_word word (before ++ (m ∷ [])) ≡ (has_word word before || word m.keyword)
has_more word before m = or_push (has_word word) (λ (x : Modifier). word x.keyword) refl (λ x xs. refl) before m

-- what was seen after one more modifier is, for each kind, what was seen before it or that it is of that kind
seen_by : (k : ModifierKeyword) (a s v : Bool) → ◌≡◌ {A = Seen} (record { access = a || is_access k; of_static = s || static_word k; of_virtual = v || is_virtual_word k }) (seen_with (record { access = a; of_static = s; of_virtual = v }) k)
seen_by modifiers.Public a s v = rw (or-true a, or-false s, or-false v) refl
seen_by modifiers.Protected a s v = rw (or-true a, or-false s, or-false v) refl
seen_by modifiers.Private a s v = rw (or-true a, or-false s, or-false v) refl
seen_by modifiers.Static a s v = rw (or-false a, or-true s, or-false v) refl
seen_by modifiers.Virtual a s v = rw (or-false a, or-false s, or-true v) refl
seen_by modifiers.Override a s v = rw (or-false a, or-false s, or-true v) refl

-- what is seen of modifiers and one more is what was seen of them and that one
seen_more : (before : List Modifier) (m : Modifier) → seen_of (before ++ (m ∷ [])) ≡ seen_with (seen_of before) m.keyword
seen_more before m = rw (has_more is_access before m, has_more static_word before m, has_more is_virtual_word before m) (seen_by m.keyword (has_word is_access before) (has_word static_word before) (has_word is_virtual_word before))

-- a modifier is barred by what was seen before it exactly where the rule bars it
barred_same : (bearer : Bearer) (before all : List Modifier) (k : ModifierKeyword) → barred_by bearer (seen_of before) (has_word is_open all) k ≡ is_barred bearer before all k
barred_same bearer before all modifiers.Public = refl
barred_same bearer before all modifiers.Protected = refl
barred_same bearer before all modifiers.Private = refl
barred_same bearer before all modifiers.Static = refl
barred_same bearer before all modifiers.Virtual = refl
barred_same bearer before all modifiers.Override = refl

-- the modifiers that are not allowed, by what was seen
pub barred_by_seen : (bearer : Bearer) (all before more : List Modifier) → barred_from bearer (has_word is_open all) (seen_of before) more ≡ barred_among bearer all before more
barred_by_seen bearer all before [] = refl
barred_by_seen bearer all before (m ∷ ms) =
    ap (λ z. when z m.at ++ barred_from bearer (has_word is_open all) (seen_with (seen_of before) m.keyword) ms) (barred_same bearer before all m.keyword)
    ∙ ap (λ z. when (is_barred bearer before all m.keyword) m.at ++ z) (ap (λ z. barred_from bearer (has_word is_open all) z ms) (sym (seen_more before m)) ∙ barred_by_seen bearer all (before ++ (m ∷ [])) ms)
