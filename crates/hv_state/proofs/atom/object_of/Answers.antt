use Rattle.std.proofs.Common.{◌≡◌, slice_index_or, ap, sym, ◌∙◌}
use Rattle.hv_world.specs.Bindings.{objects_in, object_of}
use Rattle.hv_world.specs.Views.{term_view}
use Rattle.hv_state.proofs.TermLemmas.{object_past}
use Rattle.hv_state.proofs.atom.object_of.Goals as goal

pub returns-in-None : goal.returns-in-None
returns-in-None c =
    let env = objects_in c.args.binding.now in
    let seen : object_of env (term_view c.args.term) ≡ slice_index_or env c.in-Variable.number 0 = ap (λ t. object_of env (term_view t)) c.in-Variable.is in
    sym (seen ∙ object_past env c.in-Variable.number c.object.result c.object.ensures c.in-None.is)
