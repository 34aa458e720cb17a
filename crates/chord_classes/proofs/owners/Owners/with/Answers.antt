use Rattle.std.proofs.Common.{sym, ◌∙◌}
use Rattle.chord_classes.proofs.OwnedNames.{owning_one, names_one, place_there}
use Rattle.chord_classes.proofs.owners.Owners.with.Goals as goal

pub unreachable-requires : goal.unreachable-requires
unreachable-requires c = place_there c.args.self.names c.in_ok-names.names c.args.name.now c.in_ok-names.ensures (sym c.place.ensures ∙ c.in_default.is)

pub returns-clause-owning : goal.returns-clause-owning
returns-clause-owning c =
    owning_one c.args.self (record { names = c.in_ok-names.names; versions = c.with-2.new.self }) c.args.name.now c.args.version c.in-Some.place c.args.owner c.in_ok-made.made
    c.in_ok-names.ensures (sym c.place.ensures ∙ c.in-Some.is) c.in_ok-made.ensures c.requires

pub returns-clause-names : goal.returns-clause-names
returns-clause-names c =
    names_one c.args.self (record { names = c.in_ok-names.names; versions = c.with-2.new.self }) c.args.name.now c.args.version c.in-Some.place c.args.owner c.in_ok-made.made
    c.in_ok-names.ensures (sym c.place.ensures ∙ c.in-Some.is) c.in_ok-made.ensures c.requires
