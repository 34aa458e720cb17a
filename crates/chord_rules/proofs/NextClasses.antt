-- One more class in the pass, by its shape and then by its plan.
use Rattle.std.proofs.Common.{◌≡◌, ℕ, ◌+◌, List, [], ◌∷◌, ◌++◌, map, length, Option, ap, ◌∙◌}
use Rattle.chord_tree.specs.Tree.{ClassTree}
use Rattle.chord_tree.specs.Walk.{headers_of}
use Rattle.chord_bodies.specs.Resolved.{MethodOf, ChordOf}
use Rattle.chord_bodies.specs.View.{view_class_plan}
use Rattle.chord_classes.specs.Table.{methods_at, inherited, base_of, shape_of}
use Rattle.chord_classes.specs.Plan.{method_plan, chords_without, base_chords, overridden}
use Rattle.chord_classes.specs.MethodViews.{see_method}
use Rattle.chord_classes.specs.declared.method.Method as rust_method
use Rattle.chord_classes.specs.Entries.{IsGrown}
use Rattle.chord_rules.specs.declared.classes.Progress.{Progress}
use Rattle.chord_rules.specs.Limits.{base_depth}
use Rattle.chord_rules.specs.Planning.{base_methods, AreAlike, plan_parts}
use Rattle.chord_rules.specs.Passing.{HasNextShape, HasNextPlan, IsNextClass}
use Rattle.chord_rules.proofs.ClassPlans.{last_methods, methods_planned, plan_by_parts, alike_more}

-- the pass goes on by a class that has its shape in the table and then its plan, of these methods and chords
pub next_is : (before shaped next : Progress) (class : ClassTree) (base : Option ℕ) (number : ℕ) (methods : List MethodOf) (chords : List ChordOf) (own : List rust_method.Method) (taken : List ℕ)
    → base ≡ base_of before.table class → number ≡ length before.table
    → methods ≡ base_methods (map view_class_plan before.plans.items) base ++ map method_plan (map see_method own)
    → chords ≡ chords_without taken (base_chords (map view_class_plan before.plans.items) base)
    → IsGrown (inherited before.table (base_of before.table class)) (length before.table) (headers_of class) [] own
    → taken ≡ overridden (inherited before.table (base_of before.table class)) (headers_of class)
    → AreAlike before.table (map view_class_plan before.plans.items) before.depths.items
    → HasNextShape before class base shaped → HasNextPlan shaped class (plan_parts (methods_at shaped.table number) base class methods chords shaped.number) next → IsNextClass before class next
next_is before shaped next class base number methods chords own taken b n m c g t alike s p =
    let done = before.table in
    let plans = map view_class_plan before.plans.items in
    let there = ap (λ z. methods_at z number) s.table ∙ ap (methods_at (done ++ (shape_of done class ∷ []))) n ∙ last_methods done (shape_of done class) in
    let planned = m ∙ ap (λ z. base_methods plans z ++ map method_plan (map see_method own)) b ∙ methods_planned done plans class own alike.methods g in
    let left = c ∙ ap (λ z. chords_without z (base_chords plans base)) t ∙ ap (λ z. chords_without (overridden (inherited done (base_of done class)) (headers_of class)) (base_chords plans z)) b in
    let plan = ap (λ z. plan_parts (methods_at shaped.table number) base class methods chords z) s.number ∙ plan_by_parts done plans before.number class _ _ _ _ there b planned left in
    let after = p.plans ∙ ap (λ z. map view_class_plan z ++ (plan_parts (methods_at shaped.table number) base class methods chords shaped.number ∷ [])) s.plans ∙ ap (λ z. plans ++ (z ∷ [])) plan in
    record {
      table = p.table ∙ s.table;
      plans = after;
      number = p.number ∙ ap (λ z. z + length class.members) s.number;
      alike = alike_more done next.table plans (map view_class_plan next.plans.items) before.depths.items next.depths.items class before.number (base_depth before.depths.items base) (p.table ∙ s.table) after alike (p.depths ∙ s.depths) (ap (base_depth before.depths.items) b);
    }
