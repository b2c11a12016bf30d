use Rattle.std.proofs.Common.{sym, ◌∙◌}
use Rattle.hv_world.specs.Bindings.{objects_in}
use Rattle.hv_state.proofs.GapLemmas.{ends}
use Rattle.hv_state.proofs.gap.ends_in_next.Goals as goal

pub returns-then-is_next : goal.returns-then-is_next
returns-then-is_next c t = ends (objects_in c.args.binding.now) c.args.atom.now.terms.items c.in-Some.before.now c.in-Some.last.now (sym c.deref.ensures ∙ c.in-Some.ensures.cases.0) (c.are_bound.ensures t) (c.is_next.ensures c.if-is_next.true)
