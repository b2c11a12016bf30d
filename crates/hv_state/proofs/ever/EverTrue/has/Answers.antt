use Rattle.std.proofs.Common.{◌∙◌}
use Rattle.hv_lists.proofs.Bools.{same_bools}
use Rattle.hv_state.specs.Atoms.{atom_read, row_of}
use Rattle.hv_state.specs.Ever.{ever_rows, is_listed}
use Rattle.hv_state.specs.inside.Stretches.{is_lit}
use Rattle.hv_state.proofs.EverLemmas.{in_stretch, lit_is, is_listed_in, listed_is_in}
use Rattle.hv_state.proofs.ever.EverTrue.has.Goals as goal

pub returns : goal.returns
returns c =
    let e = c.args.self.now in
    let g = atom_read c.args.atom.now in
    c.is_true_in.ensures (is_lit e.first.now (row_of g)) (lit_is e.first.now (row_of g))
    ∙ same_bools (in_stretch e.first.now e.changes.now e.from e.end (row_of g)) (is_listed (ever_rows e) g)
    (is_listed_in e.first.now e.changes.now e.from e.end g) (listed_is_in e.first.now e.changes.now e.from e.end g)
