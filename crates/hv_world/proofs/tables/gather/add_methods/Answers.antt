use Rattle.std.proofs.Common.{map, arith, refl}
use Rattle.hv_syntax.specs.DeclarationViews.{method_view}
use Rattle.std.specs.List.{flat_map}
use Rattle.hv_world.specs.Eithers.{method_variables}
use Rattle.hv_world.specs.inside.Gathers.{lists_in}
use Rattle.hv_world.proofs.GatherLemmas.{gathered_next, gathered_end}
use Rattle.hv_world.proofs.tables.gather.add_methods.Goals as goal

pub loop-method-preserved : goal.loop-method-preserved
loop-method-preserved c =
    let l = c.loop-method in
    gathered_next method_view method_variables c.args.methods.now l.method-index (lists_in c.args.lists.now) (lists_in l.lists) c.method-item.result (lists_in c.add_method.new.lists) (omega arith) c.method-item.is l.invariant c.in_ok-add_method.ensures

pub returns : goal.returns
returns c =
    let l = c.loop-method in
    let xs = c.args.methods.now in
    gathered_end method_view method_variables xs l.method-index (lists_in c.args.lists.now) (lists_in l.lists) (flat_map method_variables (map method_view xs)) c.loop-method-test.false refl l.invariant
