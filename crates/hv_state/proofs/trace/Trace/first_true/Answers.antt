use Rattle.std.proofs.Common.{arith}
use Rattle.hv_world.specs.Bindings.{objects_in}
use Rattle.hv_world.specs.Views.{formula_view}
use Rattle.hv_state.proofs.NextLemmas.{first_found}
use Rattle.hv_state.proofs.trace.Trace.first_true.Goals as goal

pub returns-then-holds_at : goal.returns-then-holds_at
returns-then-holds_at g c =
    first_found c.args.self.now (formula_view c.args.formula.now) (objects_in c.args.binding.now) c.args.from c.args.upto c.loop-at.at c.unchanged_until-until.result c.loop-at.invariant.0 (omega (arith, c.loop-at-test.true)) c.loop-at.invariant.1 (c.holds_at.ensures.0 c.if-holds_at.true)
    c.unchanged_until-until.ensures.next
