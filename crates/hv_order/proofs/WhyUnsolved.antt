-- Want of memory is a reason of each plan.
use Rattle.std.proofs.Common.{◌≡◌}
use Rattle.hv_order.specs.Settings.{Setting}
use Rattle.hv_order.specs.Certified.{IsUnsolvedBy}
use Rattle.hv_order.specs.declared.solution.Unsolved.{Unsolved}
use Rattle.hv_order.specs.declared.solution.Unsolved.TheVariants as unsolved

pub memory_is : (q : Setting) (e : Unsolved) → e ≡ unsolved.Memory → IsUnsolvedBy q e
memory_is q e is = rw is tt
