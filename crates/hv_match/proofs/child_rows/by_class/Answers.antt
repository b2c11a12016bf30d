use Rattle.std.proofs.Common.{◌∙◌, ap, map, option_map}
use Rattle.hv_world.specs.NetworkViews.{network_view}
use Rattle.hv_match.specs.inside.Tables.{work_view}
use Rattle.hv_match.proofs.Rows.{class_rows}
use Rattle.hv_match.proofs.child_rows.by_class.Goals as goal

pub returns : goal.returns
returns c =
    class_rows c.args.network (map (option_map work_view) c.args.children.now) c.in_ok-rows.rows.items c.in_ok-rows-2.rows
    (λ t g there. c.instances_keep_their_key.ensures (network_view c.args.network.now).subtasks t g there) c.classes_are_counted.ensures.each c.in_ok-rows.ensures
    (c.in_ok-rows-2.ensures ∙ ap (map (λ v. v.items)) c.deref.ensures.value)
