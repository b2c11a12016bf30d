use Rattle.std.proofs.Common.{◌≡◌, Ok, MatchOption, map, length, sym, subst, ap, ◌∙◌}
use Rattle.std.specs.List.{Contains}
use Rattle.hv_state.specs.Atoms.{atom_read, row_of}
use Rattle.hv_state.specs.inside.Rows.{IsPlace}
use Rattle.hv_state.specs.inside.Hashes.{hash, bucket, HasRoom}
use Rattle.hv_state.proofs.GuessLemmas.{AreOthers, not_there, last_free, others_all, found_or_not}
use Rattle.hv_state.proofs.find.look_up.Goals as goal

pub returns-in-Some-eq0 : goal.returns-in-Some-eq0
returns-in-Some-eq0 g c =
    let rows = map g.T.HasRow.numbers c.args.list.now in
    let row = row_of (atom_read c.args.atom.now) in
    let buckets = c.args.guesses.now.buckets.items in
    let guessed = c.of-guessed.result.now in
    let is : guessed ≡ bucket buckets (hash row) = c.of-guessed.ensures ∙ ap (bucket buckets) c.hash_of.ensures in
    let free : HasRoom guessed = last_free guessed c.in-Some-eq0.field-0.now c.in-Some-eq0.ensures.value c.in-Some-eq0.field-0-test in
    let others = others_all rows row guessed c.loop-number.number-index c.loop-number-test.false c.loop-number.invariant in
    not_there buckets rows row c.requires.told (subst HasRoom is free) (subst (λ xs. AreOthers rows row xs (length xs)) is others)

pub returns-in_default : goal.returns-in_default
returns-in_default g c =
    let rows = map g.T.HasRow.numbers c.args.list.now in
    let row = row_of (atom_read c.args.atom.now) in
    subst (λ place. MatchOption place (Contains rows row → ⊥) (λ i. IsPlace rows row (Ok i))) (sym c.ok.ensures.value) (found_or_not rows row c.find.result c.find.ensures)
