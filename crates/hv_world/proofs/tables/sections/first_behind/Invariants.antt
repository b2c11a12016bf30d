use Rattle.std.proofs.Common.{◌≡◌, ◌+◌, drop, map}
use Rattle.std.specs.List.{prefix_len}
use Rattle.hv_world.specs.inside.Tables.{declaration_view}
use Rattle.hv_world.proofs.TableLemmas.{starts_before}
use Rattle.hv_world.proofs.tables.sections.first_behind.Given as goal

abbrev pub invariant-loop-place : goal.invariant-loop-place
invariant-loop-place l =
    l.place + prefix_len (starts_before (declaration_view l.declared)) (map declaration_view (drop l.place l.list))
    ≡ l.done + prefix_len (starts_before (declaration_view l.declared)) (map declaration_view (drop l.done l.list))
