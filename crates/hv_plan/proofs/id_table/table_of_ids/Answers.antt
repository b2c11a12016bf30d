use Rattle.std.proofs.Common.{refl}
use Rattle.hv_plan.proofs.ShapePlaces.{table_next}
use Rattle.hv_plan.proofs.id_table.table_of_ids.Goals as goal

pub loop-id-preserved : goal.loop-id-preserved
loop-id-preserved c =
    table_next c.args.ids.now c.loop-id.table.keys c.insert.new.self.keys c.loop-id.id-index _ c.requires c.loop-id-test.true refl c.loop-id.invariant c.in_ok-insert.ensures.keys
