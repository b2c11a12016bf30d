use Rattle.std.proofs.Common.{◌≡◌, map, take}
use Rattle.hv_world.specs.Alike.{is_object}
use Rattle.hv_world.specs.Views.{term_view}
use Rattle.hv_world.proofs.alike.object_marks.Given as goal

abbrev pub invariant-loop-term : goal.invariant-loop-term
invariant-loop-term l = l.marks.items ≡ map is_object (map term_view (take l.term-index l.terms))
