use Rattle.std.proofs.Common.{◌≡◌, take}
use Rattle.hv_plan.proofs.id_table.table_of_ids.Given as goal

abbrev pub invariant-loop-id : goal.invariant-loop-id
invariant-loop-id l = l.table.keys ≡ take l.id-index l.ids
