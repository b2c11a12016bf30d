use Rattle.std.proofs.Common.{arith, map, ap, ◌∙◌}
use Rattle.hv_text.specs.Seeds.{start_of}
use Rattle.hv_text.specs.Names.{text_of}
use Rattle.hv_world.specs.inside.Seeds.{with_taken_in}
use Rattle.hv_world.proofs.EitherTables.{taken_next}
use Rattle.hv_world.proofs.seed.with_lists.Goals as goal

pub loop-list-preserved : goal.loop-list-preserved
loop-list-preserved c =
    let l = c.loop-list in
    taken_next c.args.lists.now l.list-index c.list-item.result (start_of l.seed) (start_of c.with_names-seed.result) _ (omega arith) c.list-item.is
    (c.with_names-seed.ensures ∙ ap (λ ns. with_taken_in (start_of l.seed) (map text_of ns)) c.deref.ensures.value) l.invariant
