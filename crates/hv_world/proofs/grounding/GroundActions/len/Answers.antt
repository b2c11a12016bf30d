use Rattle.std.proofs.Common.{◌≡◌, length, sym, ◌∙◌, rules}
use Rattle.hv_world.proofs.GroundingLemmas.{grounded_length}
use Rattle.hv_world.proofs.grounding.GroundActions.len.Goals as goal

pub returns : goal.returns
returns c =
    let g = c.args.self.now in
    let same : c.len.result ≡ length g.actions.items = search rules in
    same ∙ sym (grounded_length g.actions.items g.objects g.as_many)
