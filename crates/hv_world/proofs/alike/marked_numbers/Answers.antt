use Rattle.std.proofs.Common.{◌++◌, [], ◌∷◌, sym, ap, ◌∙◌}
use Rattle.hv_world.specs.inside.Kept.{is_marked}
use Rattle.hv_world.proofs.AlikeLemmas.{one_kept, none_kept}
use Rattle.hv_world.proofs.alike.marked_numbers.Goals as goal
use Rattle.hv_world.proofs.alike.marked_numbers.Goals.{then-mark+in_ok-push, else-mark}

pub loop-number-preserved : goal.loop-number-preserved
loop-number-preserved c =
    let p = is_marked c.args.marks.now in
    let n = c.loop-number.number in
    elim c.if-mark.branch [
      | then-mark+in_ok-push w ↦ ap (λ v. v.items) w.numbers-is ∙ w.in_ok-push.ensures.items ∙ ap (λ l. l ++ n ∷ []) c.loop-number.invariant ∙ sym (one_kept p n w.if-mark.true)
      | else-mark w ↦ ap (λ v. v.items) w.numbers-is ∙ c.loop-number.invariant ∙ sym (none_kept p n w.if-mark.false)
    ]
