use Rattle.std.proofs.Common.{rules, ◌≡◌, ◌<◌, ◌%◌, Some, max, length, set, slice_get, sym, subst, ap, ◌∙◌}
use Rattle.std.proofs.lemmas.Option.{slice_get-get_or}
use Rattle.hv_state.specs.inside.Hashes.{IsNoted}
use Rattle.hv_state.proofs.GuessLemmas.{noted}
use Rattle.hv_state.proofs.guesses.Guesses.note.Goals as goal

pub returns-in-Some : goal.returns-in-Some
returns-in-Some c =
    let old = c.args.self.now.buckets.items in
    let h = c.args.hash in
    let n = c.args.number in
    let was = c.in-Some.numbers.now in
    let size : c.max.result ≡ max (length old) 1 = search rules in
    let within : h % c.max.result < length old = search rules in
    let there : Some was ≡ slice_get old (h % c.max.result) = ap Some c.in-Some.ensures.value ∙ sym (slice_get-get_or old (h % c.max.result) was within) in
    subst (λ m. IsNoted old h n (set old (h % m) c.put.new.numbers)) (sym size) (noted old h n was c.put.new.numbers (subst (λ m. Some was ≡ slice_get old (h % m)) size there) c.put.ensures)
