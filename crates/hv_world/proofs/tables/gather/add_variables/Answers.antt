use Rattle.std.proofs.Common.{[], ◌∷◌, map, arith}
use Rattle.hv_syntax.specs.Views.{variable_view}
use Rattle.hv_world.specs.inside.Gathers.{lists_in}
use Rattle.hv_world.proofs.GatherLemmas.{gathered_next, gathered_end, one_each}
use Rattle.hv_world.proofs.tables.gather.add_variables.Goals as goal

pub loop-variable-preserved : goal.loop-variable-preserved
loop-variable-preserved c =
    let l = c.loop-variable in
    gathered_next variable_view (λ v. v ∷ []) c.args.variables.now l.variable-index (lists_in c.args.lists.now) (lists_in l.lists) c.variable-item.result (lists_in c.add_variable.new.lists) (omega arith) c.variable-item.is l.invariant c.in_ok-add_variable.ensures

pub returns : goal.returns
returns c =
    let l = c.loop-variable in
    let xs = c.args.variables.now in
    gathered_end variable_view (λ v. v ∷ []) xs l.variable-index (lists_in c.args.lists.now) (lists_in l.lists) (map variable_view xs) c.loop-variable-test.false (one_each (map variable_view xs)) l.invariant
