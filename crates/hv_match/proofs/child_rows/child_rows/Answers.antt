use Rattle.std.proofs.Common.{map, option_map, subst, arith}
use Rattle.std.proofs.lemmas.List.{length-map}
use Rattle.hv_world.specs.NetworkViews.{network_view}
use Rattle.hv_match.specs.declared.child_rows.ChildRows.TheVariants as kinds
use Rattle.hv_match.specs.inside.Puzzles.{AreRowsOf}
use Rattle.hv_match.specs.inside.Tables.{work_view, row_for}
use Rattle.hv_match.proofs.Rows.{all_rows}
use Rattle.hv_match.proofs.child_rows.child_rows.Goals as goal

pub returns-then-children-le4 : goal.returns-then-children-le4
returns-then-children-le4 c =
    let ss = (network_view c.args.network.now).subtasks in
    let cs = map (option_map work_view) c.args.children.now in
    let size = length-map c.args.children.now (option_map work_view) in
    subst (λ n. AreRowsOf ss cs (row_for (kinds.All n))) size (all_rows ss cs (omega (arith, size, c.if-children-le4.true)))
