use Rattle.std.proofs.Common.{◌≡◌, map, drop, Some}
use Rattle.hv_world.specs.Views.{atom_view}
use Rattle.hv_state.specs.Ever.{ever_rows}
use Rattle.hv_match.specs.Possible.{are_possible}
use Rattle.hv_match.proofs.possible.all_possible.Given as goal

abbrev pub invariant-loop-atom : goal.invariant-loop-atom
invariant-loop-atom l =
    are_possible (Some (ever_rows l.ever)) l.values (map (λ a. atom_view a.now) l.atoms)
    ≡ are_possible (Some (ever_rows l.ever)) l.values (map (λ a. atom_view a.now) (drop l.atom-index l.atoms))
