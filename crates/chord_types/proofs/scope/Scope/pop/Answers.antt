use Rattle.std.proofs.Common.{◌≡◌, arith, sym, ap, subst, ◌∙◌, length, Some}
use Rattle.std.proofs.lemmas.Map.Text.{btree_map_updates_str}
use Rattle.chord_classes.specs.NamePlaces.{FindsNames}
use Rattle.chord_types.specs.Views.{local_names}
use Rattle.chord_types.proofs.ScopePlaces.{finds_less, finds_others, names_end, names_length, compared_same, compared_other}
use Rattle.chord_types.proofs.scope.Scope.pop.Goals as goal

pub invariant_of-self-then-eq : goal.invariant_of-self-then-eq
invariant_of-self-then-eq c =
    let left = c.pop.new.self.items in
    let name = c.in-Some.local.name.now in
    let count : c.len.result ≡ length (local_names left) = omega (arith, c.len.ensures, c.pop.new.self.ok.0, names_length left) in
    finds_less c.self.inside.places c.remove.new.self (local_names left) name
    (subst (FindsNames c.self.inside.places) (ap local_names c.in-Some.ensures.items ∙ names_end left c.in-Some.local) c.self.invariant)
    (sym (c.copied.ensures ∙ c.get.ensures.value) ∙ compared_same c.copied.result c.len.result (c.if-eq.ensures) ∙ ap Some count)
    (λ x. btree_map_updates_str name c.self.inside.places c.remove.new.self _ c.remove.ensures.updates x)

pub invariant_of-self-else-eq : goal.invariant_of-self-else-eq
invariant_of-self-else-eq c =
    let left = c.pop.new.self.items in
    let name = c.in-Some.local.name.now in
    let count : c.len.result ≡ length (local_names left) = omega (arith, c.len.ensures, c.pop.new.self.ok.0, names_length left) in
    finds_others c.self.inside.places (local_names left) name
    (subst (FindsNames c.self.inside.places) (ap local_names c.in-Some.ensures.items ∙ names_end left c.in-Some.local) c.self.invariant)
    (λ h. compared_other c.copied.result c.len.result c.if-eq.ensures (c.copied.ensures ∙ c.get.ensures.value ∙ h ∙ ap Some (sym count)))
