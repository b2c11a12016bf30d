-- Want of memory is a fault of each plan.
use Rattle.std.proofs.Common.{◌≡◌}
use Rattle.hv_order.specs.Settings.{Setting}
use Rattle.hv_order.specs.Certified.{IsRowFault}
use Rattle.hv_order.specs.declared.rows.RowFault.{RowFault}
use Rattle.hv_order.specs.declared.rows.RowFault.TheVariants as faults

pub memory_is : (q : Setting) (e : RowFault) → e ≡ faults.Memory → IsRowFault q e
memory_is q e is = rw is tt
