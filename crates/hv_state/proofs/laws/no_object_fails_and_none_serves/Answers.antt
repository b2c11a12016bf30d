use Rattle.hv_state.proofs.laws.no_object_fails_and_none_serves.Goals as goal

pub returns : goal.returns
returns c = record { all = λ w t none s f env o of. absurd (none o of); some = λ w t none s f env m. none m.0 m.1 }
