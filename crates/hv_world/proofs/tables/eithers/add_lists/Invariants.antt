use Rattle.std.proofs.Common.{◌≡◌, drop, map}
use Rattle.indexmap.specs.IndexSet.{hasher_of}
use Rattle.hv_world.specs.Eithers.{with_lists}
use Rattle.hv_world.specs.inside.Tables.{names_in}
use Rattle.hv_world.proofs.tables.eithers.add_lists.Given as goal

abbrev pub invariant-loop-list : goal.invariant-loop-list
invariant-loop-list l =
    (with_lists (map names_in l.eithers.keys) (map names_in (drop l.list-index l.lists)) ≡ with_lists (map names_in l.initial.eithers.keys) (map names_in l.lists))
    × (hasher_of l.eithers ≡ hasher_of l.initial.eithers)
