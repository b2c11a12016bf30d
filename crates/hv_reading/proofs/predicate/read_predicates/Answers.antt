use Rattle.std.proofs.Common.{arith}
use Rattle.hv_reading.specs.inside.Declarations.{predicate_of}
use Rattle.hv_syntax.specs.DeclarationViews.{predicate_view}
use Rattle.hv_reading.proofs.Lists.{read_more}
use Rattle.hv_reading.proofs.predicate.read_predicates.Goals as goal

pub loop-e-preserved : goal.loop-e-preserved
loop-e-preserved c =
    let l = c.loop-e in
    rw c.in_ok-push.ensures.items
    (read_more predicate_of predicate_view c.args.es.now l.e-index c.e-item.result l.predicates.items c.in_ok-read_predicate.field-0 _ (omega arith) c.e-item.is c.in_ok-read_predicate.ensures l.invariant)
