use Rattle.std.proofs.Common.{sym, ◌∙◌}
use Rattle.hv_world.specs.Bindings.{objects_in, object_of}
use Rattle.hv_world.specs.Views.{term_view}
use Rattle.hv_state.proofs.TermLemmas.{more_objects}
use Rattle.hv_state.proofs.rows.compare_to_terms.Goals as goal

pub returns-in-empty : goal.returns-in-empty
returns-in-empty c =
    sym (more_objects c.args.objects.now c.loop-object.object-index (object_of (objects_in c.args.binding.now)) term_view c.loop-object.left.now c.loop-object-test.true c.in-empty.len_below) ∙ c.loop-object.invariant
