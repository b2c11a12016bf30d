use Rattle.std.proofs.Common.{◌≡◌, ◌<◌, ◌∙◌, Some, ap, length, sym, rules, arith}
use Rattle.hv_plan.specs.LineViews.{headed_action, actions_view}
use Rattle.hv_lists.proofs.Heads.{with_length, with_at}
use Rattle.hv_plan.proofs.plan.actions.ActionLines.at.Goals as goal

pub index-head-requires : goal.index-head-requires
index-head-requires c =
    let as' = c.args.self.now in
    let many : length (actions_view as') ≡ length as'.heads.items = with_length headed_action as'.heads.items as'.arguments in
    let lt : c.args.place < length as'.heads.items = omega (arith, many, c.requires) in
    search rules

pub returns : goal.returns
returns c =
    let as' = c.args.self.now in
    let many : length (actions_view as') ≡ length as'.heads.items = with_length headed_action as'.heads.items as'.arguments in
    let lt : c.args.place < length as'.heads.items = omega (arith, many, c.requires) in
    with_at headed_action as'.heads.items as'.arguments c.args.place c.index-head.result.now lt c.index-head.ensures
    ∙ ap (λ names. Some (headed_action c.index-head.result.now names)) (sym c.at.ensures)
