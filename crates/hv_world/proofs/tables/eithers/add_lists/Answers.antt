use Rattle.std.proofs.Common.{arith, ◌∙◌}
use Rattle.hv_world.proofs.EitherTables.{lists_next}
use Rattle.hv_world.proofs.tables.eithers.add_lists.Goals as goal

pub loop-list-preserved : goal.loop-list-preserved
loop-list-preserved c =
    let l = c.loop-list in (
      lists_next c.args.lists.now l.list-index c.list-item.result l.eithers.keys c.insert.new.self.keys c.in_ok-names.names _ (omega arith) c.list-item.is (c.in_ok-names.ensures ∙ c.deref.ensures.value) c.in_ok-insert.ensures.keys l.invariant.0,
      c.in_ok-insert.ensures.hasher ∙ l.invariant.1,
    )
