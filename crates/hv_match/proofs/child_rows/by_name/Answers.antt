use Rattle.std.proofs.Common.{ap, map, option_map, ◌∙◌}
use Rattle.hv_world.specs.NetworkViews.{network_view}
use Rattle.hv_match.specs.inside.Tables.{work_view, places_named}
use Rattle.hv_match.proofs.Rows.{named_rows}
use Rattle.hv_match.proofs.child_rows.by_name.Goals as goal

pub returns : goal.returns
returns c =
    named_rows (network_view c.args.network.now).subtasks (map (option_map work_view) c.args.children.now) c.in_ok-rows.rows
    (c.in_ok-rows.ensures ∙ ap (map (λ s. places_named s.name c.args.children.now)) c.subtasks.ensures)
