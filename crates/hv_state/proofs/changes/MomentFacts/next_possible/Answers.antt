use Rattle.std.proofs.Common.{◌<◌, ◌++◌, ◌∷◌, [], inl, inr, subst, arith}
use Rattle.hv_world.specs.Bindings.{ground_atom}
use Rattle.hv_state.specs.Atoms.{row_of}
use Rattle.hv_state.specs.Changes.{Tells}
use Rattle.hv_state.specs.inside.Histories.{rows_of}
use Rattle.hv_state.proofs.HistoryLemmas.{lacking_beside}
use Rattle.hv_state.proofs.NoteLemmas.{row_decided}
use Rattle.hv_state.proofs.changes.MomentFacts.next_possible.Goals as goal

pub returns : goal.returns
returns g c os o n e le lt told =
    let moment = c.args.self.now in
    let table = moment.changes.now in
    let atom = ground_atom c.args.atom.now.predicate.0 (os ++ n ∷ []) in
    let first : n < c.next_possible-known.result = omega (arith, lt, c.least.ensures.0) in
    let touched : n < c.next_touched.result = omega (arith, lt, c.least.ensures.1) in
    elim (row_decided (rows_of table) (row_of atom)) [
      | inl m ↦ c.next_touched.ensures os o n e le touched m
      | inr out ↦ c.next_possible-known.ensures os o n e le first (subst (Tells (g.S.State.atoms moment.first.now atom) moment.index) (lacking_beside table (row_of atom) out) told)
    ]
