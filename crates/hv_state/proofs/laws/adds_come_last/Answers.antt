use Rattle.std.specs.List.{Contains}
use Rattle.hv_state.proofs.PlanLemmas.{added_is, deleted_is_not, other_stays}
use Rattle.hv_state.proofs.laws.adds_come_last.Goals as goal

pub returns : goal.returns
returns c =
    record {
      added = λ old deletes adds. added_is (Contains old) (Contains deletes) (Contains adds);
      deleted = λ old deletes adds. deleted_is_not (Contains old) (Contains deletes) (Contains adds);
      other = λ old deletes adds. other_stays (Contains old) (Contains deletes) (Contains adds);
    }
