use Rattle.std.proofs.Common.{rules, ◌≡◌, ◌+◌, map, get_or, sym, subst, ap, ◌∙◌, arith, []}
use Rattle.std.proofs.lemmas.List.{length-map}
use Rattle.hv_state.specs.inside.Hashes.{hash, IsNoted, TellRows}
use Rattle.hv_state.proofs.GuessLemmas.{noted_more, noted_all, no_room, row_there}
use Rattle.hv_state.proofs.find.guesses_of.Goals as goal

pub returns-in-Err : goal.returns-in-Err
returns-in-Err g c = subst (λ bs. TellRows bs (map g.T.HasRow.numbers c.args.list.now)) (sym c.none.ensures) (no_room (map g.T.HasRow.numbers c.args.list.now))

pub loop-place-preserved : goal.loop-place-preserved
loop-place-preserved g c =
    let numbers = g.T.HasRow.numbers in
    let list = c.args.list.now in
    let rows = map numbers list in
    let i = c.loop-place.place in
    let old = c.loop-place.guesses.buckets.items in
    let new = c.note.new.self.buckets.items in
    let number : c.in-Ok.number ≡ i + 1 = search rules in
    let (within, at) = row_there numbers list i c.index-list-place.result c.loop-place-test.true c.index-list-place.is in
    let row : c.hash_of_row.result ≡ hash (get_or rows i []) = c.hash_of_row.ensures ∙ ap hash (c.row.ensures ∙ sym at) in
    noted_more old new rows i c.in-Ok.number number c.loop-place.invariant (subst (λ h. IsNoted old h c.in-Ok.number new) row c.note.ensures)

pub returns : goal.returns
returns g c = noted_all c.loop-place.guesses.buckets.items (map g.T.HasRow.numbers c.args.list.now) c.loop-place.place (omega (arith, c.loop-place-test.false, length-map c.args.list.now g.T.HasRow.numbers)) c.loop-place.invariant
