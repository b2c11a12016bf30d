use Rattle.std.proofs.Common.{◌≡◌, ◌++◌, drop, map}
use Rattle.hv_world.specs.Views.{term_view}
use Rattle.hv_world.specs.Bindings.{objects_in, object_of}
use Rattle.hv_state.proofs.rows.push_objects.Given as goal

-- the numbers so far, and what is left
abbrev pub invariant-loop-term : goal.invariant-loop-term
invariant-loop-term l =
    l.row.items ++ map (object_of (objects_in l.binding)) (map term_view (drop l.term-index l.terms)) ≡ l.fn.row.items ++ map (object_of (objects_in l.binding)) (map term_view l.terms)
