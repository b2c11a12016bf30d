use Rattle.std.proofs.Common.{◌++◌, ◌∷◌, [], sym, subst, ap, ◌∙◌}
use Rattle.std.specs.List.{Contains}
use Rattle.hv_state.specs.inside.Rows.{rows_shared}
use Rattle.hv_state.proofs.sorted.SortedStateState.next_possible.Goals as goal

pub returns : goal.returns
returns c os o n e le lt m =
    let same = ap rows_shared c.deref.ensures.value ∙ c.self.view_is in
    c.next_possible.ensures os o n e le lt (subst (λ rows. Contains rows (c.args.atom.now.predicate.0 ∷ os ++ n ∷ [])) (sym same) m)
