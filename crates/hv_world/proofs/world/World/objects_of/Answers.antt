use Rattle.std.proofs.Common.{◌↔◌, sym, subst}
use Rattle.std.specs.List.{Contains}
use Rattle.hv_lists.specs.Lists.{Once}
use Rattle.hv_world.specs.Types.{Of}
use Rattle.hv_world.proofs.world.World.objects_of.Goals as goal

pub returns-clause-exact : goal.returns-clause-exact
returns-clause-exact c o = subst (λ os. Contains os o ↔ Of c.args.self.now.typing o c.args.of.0) (sym c.objects.ensures) (c.range_of.ensures.exact o)

pub returns-clause-once : goal.returns-clause-once
returns-clause-once c = subst Once (sym c.objects.ensures) c.range_of.ensures.once
