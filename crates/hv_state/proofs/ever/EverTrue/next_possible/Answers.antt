use Rattle.std.proofs.Common.{◌<◌, ◌++◌, ◌∷◌, [], inl, inr, arith}
use Rattle.std.proofs.lemmas.List.Elements.{Contains-append_cases}
use Rattle.hv_world.specs.Bindings.{ground_atom}
use Rattle.hv_state.specs.Atoms.{row_of}
use Rattle.hv_state.specs.Ever.{ever_rows}
use Rattle.hv_state.specs.inside.Histories.{rows_of}
use Rattle.hv_state.proofs.EverLemmas.{in_stretch, contained, from_rows}
use Rattle.hv_state.proofs.ever.EverTrue.next_possible.Goals as goal

pub returns : goal.returns
returns c os o n e le lt listed =
    let ever = c.args.self.now in
    let g = ground_atom c.args.atom.now.predicate.0 (os ++ n ∷ []) in
    let known : n < c.next_known-known.result = omega (arith, lt, c.least.ensures.0) in
    let touched : n < c.next_touched.result = omega (arith, lt, c.least.ensures.1) in
    let there = from_rows (in_stretch ever.first.now ever.changes.now ever.from ever.end) (ever.first.now.0 ++ rows_of ever.changes.now) (row_of g) (contained (ever_rows ever) g listed) in
    elim (Contains-append_cases ever.first.now.0 (rows_of ever.changes.now) (row_of g) there) [ inl m ↦ c.next_known-known.ensures os o n e le known m | inr m ↦ c.next_touched.ensures os o n e le touched m ]
