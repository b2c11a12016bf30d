use Rattle.std.proofs.Common.{[], ap, ◌∙◌}
use Rattle.std.specs.List.{Contains}
use Rattle.hv_world.specs.WorldViews.{world_view}
use Rattle.hv_state.specs.Atoms.{Same, atoms_under}
use Rattle.hv_state.specs.inside.Rows.{rows_in, rows_under}
use Rattle.hv_state.specs.inside.Bits.{Shown}
use Rattle.hv_state.proofs.LitLemmas.{shown_begun, if_ok}
use Rattle.hv_state.proofs.bit_state.BitStateState.initial_for.Goals as goal

pub returns : goal.returns
returns c =
    let atoms = atoms_under [] (world_view c.args.world.now).init in
    let are = c.in_ok-begun.ensures ∙ ap (rows_under []) c.init.ensures in
    if_ok c.over.result _ (λ s. Same (Shown s) (Contains atoms)) (λ s lit. shown_begun s (rows_in c.in_ok-begun.begun.items) atoms are lit) c.over.ensures.lit
