use Rattle.std.proofs.Common.{rules, ◌≡◌}
use Rattle.std.specs.Ordering.{nat_cmp}
use Rattle.std.specs.Cmp.Lexicographic.{slice_cmp}
use Rattle.std.proofs.lemmas.Fn.{answers_by}
use Rattle.hv_state.specs.Atoms.{atom_read, row_of}
use Rattle.hv_state.proofs.RowLemmas.{searched}
use Rattle.hv_state.proofs.find.find.Goals as goal

-- the closure compares with the atom's row
pub returns : goal.returns
returns g c =
    let facts = c.binary_search_by.ensures in
    let numbers = g.T.HasRow.numbers in
    let row = row_of (atom_read c.args.atom.now) in
    let compared = facts.position (λ v. slice_cmp nat_cmp (numbers v) row) (answers_by _ _ (λ f. f.0.now ≡ c.args.atom.now) (λ f a r h called i. search rules) _ (search rules)) in
    searched numbers c.args.list.now row c.requires _ facts.bound compared
