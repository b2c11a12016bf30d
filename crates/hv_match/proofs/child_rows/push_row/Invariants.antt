use Rattle.std.proofs.Common.{◌≡◌, ◌++◌, take}
use Rattle.hv_world.specs.Views.{name_view}
use Rattle.hv_match.specs.inside.Tables.{places_named}
use Rattle.hv_match.proofs.child_rows.push_row.Given as goal

abbrev pub invariant-loop-place : goal.invariant-loop-place
invariant-loop-place l = l.row.items ≡ l.fn.row.items ++ places_named (name_view l.name) (take l.place l.children)
