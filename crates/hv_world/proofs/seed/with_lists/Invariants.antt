use Rattle.std.proofs.Common.{◌≡◌, drop}
use Rattle.std.specs.List.{flat_map}
use Rattle.hv_text.specs.Seeds.{start_of}
use Rattle.hv_world.specs.inside.Seeds.{with_taken_in}
use Rattle.hv_world.specs.inside.Tables.{names_in}
use Rattle.hv_world.proofs.seed.with_lists.Given as goal

abbrev pub invariant-loop-list : goal.invariant-loop-list
invariant-loop-list l = with_taken_in (start_of l.seed) (flat_map names_in (drop l.list-index l.lists)) ≡ with_taken_in (start_of l.fn.start) (flat_map names_in l.lists)
