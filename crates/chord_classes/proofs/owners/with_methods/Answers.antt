use Rattle.chord_classes.proofs.OwnedNames.{owning_none, owning_next, names_none, names_next}
use Rattle.chord_classes.proofs.owners.with_methods.Goals as goal

pub loop-method-init : goal.loop-method-init
loop-method-init c = (owning_none c.args.owners c.args.version c.args.owner c.requires, names_none c.args.owners)

pub loop-method-preserved : goal.loop-method-preserved
loop-method-preserved c = (
  owning_next c.args.owners c.loop-method.owning.owners c.in_ok-owning.owning.owners c.args.version c.loop-method.owning.version c.in_ok-owning.owning.version c.args.methods.now c.loop-method.method-index c.method-item.result c.items.result.now c.args.owner
      c.loop-method-test.true c.method-item.is c.items.ensures.bytes c.loop-method.invariant.0 c.in_ok-owning.ensures.owning,
  names_next c.args.owners c.loop-method.owning.owners c.in_ok-owning.owning.owners c.args.methods.now c.loop-method.method-index c.method-item.result c.items.result.now
      c.loop-method-test.true c.method-item.is c.items.ensures.bytes c.loop-method.invariant.1 c.in_ok-owning.ensures.names,
)
