use Rattle.std.proofs.Common.{arith}
use Rattle.hv_reading.specs.CanonicalSections.{method_section}
use Rattle.hv_syntax.specs.DeclarationViews.{method_view}
use Rattle.hv_reading.proofs.PrintLemmas.{put_line}
use Rattle.hv_reading.proofs.print.declarations.put_methods.Goals as goal

pub loop-method-preserved : goal.loop-method-preserved
loop-method-preserved c =
    let l = c.loop-method in
    put_line method_section method_view c.args.methods.now l.method-index c.method-item.result l.out.items _ (omega arith) c.method-item.is c.in_ok-put_method.ensures c.in_ok-push.ensures.items l.invariant
