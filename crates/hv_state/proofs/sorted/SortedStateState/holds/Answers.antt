use Rattle.std.proofs.Common.{◌≡◌, ◌↔◌, subst, ap, ◌∙◌, true, is_ok}
use Rattle.std.specs.List.{Contains}
use Rattle.hv_state.specs.Atoms.{atom_read, row_of}
use Rattle.hv_state.specs.inside.Rows.{rows_shared}
use Rattle.hv_state.proofs.RowLemmas.{place_tells}
use Rattle.hv_state.proofs.sorted.SortedStateState.holds.Goals as goal

pub returns : goal.returns
returns c =
    let row = row_of (atom_read c.args.atom.now) in
    let was : rows_shared c.deref.result.now ≡ c.args.self.now = ap rows_shared c.deref.ensures.value ∙ c.self.view_is in
    rw (c.is_ok.ensures.value) (subst (λ rows. (is_ok c.find.result ≡ true) ↔ Contains rows row) was (place_tells (rows_shared c.deref.result.now) row c.find.result c.find.ensures))
