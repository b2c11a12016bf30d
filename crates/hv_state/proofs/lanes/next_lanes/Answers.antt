use Rattle.std.proofs.Common.{◌≡◌, ◌≤◌, ◌+◌, length, take, drop, ap, ◌∙◌, ◌++◌, sym, arith}
use Rattle.std.specs.Simd.Lanes.{put_chunk}
use Rattle.std.proofs.lemmas.Simd.{put_chunk_is}
use Rattle.std.proofs.lemmas.Grind.{common_steps}
use Rattle.hv_state.specs.Words.{next_words}
use Rattle.hv_state.proofs.WordLemmas.{lanes_are, length-next_words}
use Rattle.hv_state.proofs.lanes.next_lanes.Goals as goal

pub returns : goal.returns
returns c =
    let at = c.args.at in
    let r = take 8 (drop at c.args.row.now) in
    let d = take 8 (drop at c.args.deletes.now) in
    let a = take 8 (drop at c.args.adds.now) in
    let eight_r : length r ≡ 8 = grind (arith, common_steps, c.requires.row_in) in
    let eight_d : length d ≡ 8 = grind (arith, common_steps, c.requires.deletes_in) in
    let eight_a : length a ≡ 8 = grind (arith, common_steps, c.requires.adds_in) in
    let long : length (next_words r d a) ≡ 8 = length-next_words r d a (eight_d ∙ sym eight_r) (eight_a ∙ sym eight_r) ∙ eight_r in
    let within : at + length (next_words r d a) ≤ length c.args.row.now = omega (arith, long, c.requires.row_in) in
    let rest : drop (length (next_words r d a)) (drop at c.args.row.now) ≡ drop (at + 8) c.args.row.now = grind (arith, common_steps, long) in
    ap (put_chunk at c.args.row.now) (lanes_are r d a) ∙ put_chunk_is at c.args.row.now (next_words r d a) within ∙ ap (λ t. take at c.args.row.now ++ (next_words r d a ++ t)) rest
