use Rattle.std.proofs.Common.{arith}
use Rattle.hv_world.proofs.TableLemmas.{push_next}
use Rattle.hv_world.proofs.tables.sections.push_part.Goals as goal

pub loop-place-preserved : goal.loop-place-preserved
loop-place-preserved c =
    let l = c.loop-place in
    push_next c.args.list.now l.place c.args.to c.index-list-place.result l.merged.items c.push.new.self.items _ (omega arith) c.index-list-place.is (omega arith) c.in_ok-push.ensures.items l.invariant
