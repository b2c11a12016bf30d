use Rattle.std.proofs.Common.{◌≡◌, ◌≤◌, ◌++◌, ◌∷◌, [], map, length, get_or, sym, subst, ap, arith, ◌∙◌}
use Rattle.std.proofs.lemmas.List.{get_or-map, length-map}
use Rattle.hv_state.specs.Atoms.{atom_read, row_of}
use Rattle.hv_state.specs.inside.Rows.{IsGap}
use Rattle.hv_state.proofs.PassedLemmas.{passed_over}
use Rattle.hv_state.proofs.find.next_possible.Goals as goal

pub returns-in-Some-get : goal.returns-in-Some-get
returns-in-Some-get g c os o n e le lt m =
    let list = c.args.list.now in
    let numbers = g.T.HasRow.numbers in
    let rows = map numbers list in
    let p = c.args.atom.now.predicate.0 in
    let row : row_of (atom_read c.args.atom.now) ≡ p ∷ os ++ o ∷ [] = ap (λ xs. p ∷ xs) e in
    let before : c.in-Some.before.now ≡ os = c.in-Some.ensures os o e in
    let at : c.row.result.now ≡ get_or rows c.in-Err.place [] = c.row.ensures ∙ ap numbers c.in-Some-get.ensures.lookup.1 ∙ sym (get_or-map numbers list c.in-Err.place c.in-Some-get.it.now [] (c.in-Some-get.ensures.lookup.3).0) in
    passed_over rows (p ∷ os) o c.in-Err.place c.number_behind.result c.requires (subst (λ r. IsGap rows r c.in-Err.place) row c.in-Err.ensures) (λ within k more same. c.number_behind.ensures k more (at ∙ same ∙ ap (λ xs. p ∷ xs ++ k ∷ more) (sym before))) n le lt m

pub returns-in-None : goal.returns-in-None
returns-in-None g c os o n e le lt m =
    let list = c.args.list.now in
    let numbers = g.T.HasRow.numbers in
    let rows = map numbers list in
    let p = c.args.atom.now.predicate.0 in
    let row : row_of (atom_read c.args.atom.now) ≡ p ∷ os ++ o ∷ [] = ap (λ xs. p ∷ xs) e in
    let past : length list ≤ c.in-Err.place = c.in-None.ensures.lookup.3 in
    passed_over rows (p ∷ os) o c.in-Err.place _ c.requires (subst (λ r. IsGap rows r c.in-Err.place) row c.in-Err.ensures) (λ within k more same. absurd (omega (arith, within, past, length-map list numbers))) n le lt m
