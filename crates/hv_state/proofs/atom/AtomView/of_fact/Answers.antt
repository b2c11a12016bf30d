use Rattle.std.proofs.Common.{[], ◌∙◌, map, sym, ap, ap₂}
use Rattle.hv_world.specs.Bindings.{ground_atom, object_of}
use Rattle.hv_state.proofs.StateLemmas.{objects_are}
use Rattle.hv_state.proofs.atom.AtomView.of_fact.Goals as goal

pub returns : goal.returns
returns c = ap₂ ground_atom c.predicate.ensures (sym (objects_are [] c.objects.result.now) ∙ ap (map (object_of [])) c.objects.ensures)
