use Rattle.std.proofs.Common.{◌≡◌, length, map, take}
use Rattle.hv_world.specs.Bindings.{object_of}
use Rattle.hv_world.specs.Views.{term_view}
use Rattle.hv_match.proofs.possible.write_values.Given as goal

abbrev pub invariant-loop-number : goal.invariant-loop-number
invariant-loop-number l = (length l.into ≡ length l.terms) × (take l.number l.into ≡ map (object_of l.values) (map term_view (take l.number l.terms)))
