use Rattle.std.proofs.Common.{map, Option, option_map, sym, ap, ◌∙◌}
use Rattle.hv_world.specs.Views.{atom_view}
use Rattle.hv_state.specs.Ever.{ever_rows}
use Rattle.hv_state.specs.declared.ever.EverTrue.{EverTrue}
use Rattle.hv_match.specs.Possible.{are_possible}
use Rattle.hv_match.proofs.PossibleLemmas.{unasked}
use Rattle.hv_match.proofs.possible.are_possible.Goals as goal

pub returns-in-None : goal.returns-in-None
returns-in-None c =
    let atoms = map (λ a. atom_view a.now) c.args.atoms.now in
    sym (ap (λ (o : Option EverTrue). are_possible (option_map ever_rows o) c.args.values.now atoms) c.in-None.is ∙ unasked c.args.values.now atoms)
