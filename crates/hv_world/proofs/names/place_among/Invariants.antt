use Rattle.std.proofs.Common.{◌≡◌, map, drop, bytes_eq}
use Rattle.std.specs.List.{position_from}
use Rattle.hv_text.specs.Names.{text_of}
use Rattle.hv_syntax.specs.Views.{variable_view}
use Rattle.hv_world.specs.Names.{place_in}
use Rattle.hv_world.specs.Known.{variables}
use Rattle.hv_world.proofs.names.place_among.Given as goal

abbrev pub invariant-loop-place : goal.invariant-loop-place
invariant-loop-place l =
    position_from (bytes_eq (text_of l.name)) l.place (map (λ t. (variable_view t).name.text) (drop l.place l.list)) ≡ place_in (variables (map variable_view l.list)) (text_of l.name)
