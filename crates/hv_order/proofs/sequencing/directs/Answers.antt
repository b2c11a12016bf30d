use Rattle.std.proofs.Common.{◌≡◌, ℕ, ◌+◌, ◌<◌, List, [], ◌∷◌, ◌++◌, length, sym, ap, ◌∙◌, subst, below_more, length-append}
use Rattle.std.proofs.Math.ListN.{get_or-append}
use Rattle.std.proofs.Math.Seq.{get_or-append_seam}
use Rattle.hv_world.specs.Orders.{Written, AreDirect}
use Rattle.hv_order.specs.inside.Arrangements.{listed_before}
use Rattle.hv_order.proofs.sequencing.directs.Goals as goal

one_more : (xs : List (List ℕ)) (y : List ℕ) → length (xs ++ y ∷ []) ≡ length xs + 1
one_more xs y = length-append xs (y ∷ [])

more : (n : Written) (xs : List (List ℕ)) (y : List ℕ) (k : ℕ) → length xs ≡ k → ((j : ℕ) → j < k → AreDirect n j (listed_before xs j)) → AreDirect n k y → (j : ℕ) → j < k + 1 → AreDirect n j (listed_before (xs ++ y ∷ []) j)
more n xs y k len all here =
    below_more (λ j. AreDirect n j (listed_before (xs ++ y ∷ []) j)) k
    (λ j lt. subst (AreDirect n j) (sym (get_or-append xs (y ∷ []) [] j (subst (λ i. j < i) (sym len) lt))) (all j lt))
    (subst (AreDirect n k) (sym (ap (λ i. listed_before (xs ++ y ∷ []) i) (sym len) ∙ get_or-append_seam xs y [] [])) here)

pub loop-subtask-preserved : goal.loop-subtask-preserved
loop-subtask-preserved c =
    let lists = c.loop-subtask.lists in
    let y = c.directly_before.result.now in
    let before = c.loop-subtask.invariant in
    record {
      as_many = ap length c.in_ok-push.ensures.lists ∙ one_more lists y ∙ ap (λ k. k + 1) before.as_many;
      direct =
          let P : List (List ℕ) → Type 0 = λ ls. (j : ℕ) → j < c.loop-subtask.subtask + 1 → AreDirect c.args.order.now j (listed_before ls j) in
          subst P (sym c.in_ok-push.ensures.lists) (more c.args.order.now lists y c.loop-subtask.subtask before.as_many before.direct c.directly_before.ensures);
    }
