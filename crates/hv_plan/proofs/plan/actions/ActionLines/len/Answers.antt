use Rattle.std.proofs.Common.{◌≡◌, ◌∙◌, length, sym, rules}
use Rattle.hv_plan.specs.LineViews.{headed_action}
use Rattle.hv_lists.proofs.Heads.{with_length}
use Rattle.hv_plan.proofs.plan.actions.ActionLines.len.Goals as goal

pub returns-clause-count : goal.returns-clause-count
returns-clause-count c =
    let as' = c.args.self.now in
    let same : c.len.result ≡ length as'.heads.items = search rules in
    same ∙ sym (with_length headed_action as'.heads.items as'.arguments)
