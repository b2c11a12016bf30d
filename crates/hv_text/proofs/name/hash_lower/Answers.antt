use Rattle.std.proofs.Common.{fold, map, ap, sym, ◌∙◌}
use Rattle.std.proofs.lemmas.List.{drop_all}
use Rattle.hv_text.specs.Bytes.{lower, filled}
use Rattle.hv_text.proofs.NameLemmas.{all_words}
use Rattle.hv_text.proofs.name.hash_lower.Goals as goal

pub returns : goal.returns
returns g c =
    let w = g.H.Hasher.write in
    let none = drop_all c.loop-word.word-index c.as_chunks.result.0.now c.loop-word-test.false in
    all_words w c.args.bytes.now c.as_chunks.result.0.now c.as_chunks.result.1.now c.args.state.now c.loop-word.state c.write-2.new.self
    c.as_chunks.ensures.front c.as_chunks.ensures.back
    (ap (λ ws. fold w c.loop-word.state (map (λ b. filled (lower b)) ws)) (sym none) ∙ c.loop-word.invariant)
    (c.write-2.ensures ∙ ap (w c.loop-word.state) c.lower_word-2.ensures)
