use Rattle.std.proofs.Common.{ap, sym, subst, ◌∙◌}
use Rattle.hv_world.specs.inside.Lines.{AreEntered}
use Rattle.hv_world.proofs.LineLemmas.{entered_more}
use Rattle.hv_world.proofs.nested.tops.Goals.{then-is_top+in_ok-push, else-is_top}
use Rattle.hv_world.proofs.nested.tops.Goals as goal

pub loop-number-preserved : goal.loop-number-preserved
loop-number-preserved c =
    elim c.if-is_top.branch [
      | then-is_top+in_ok-push w ↦ subst AreEntered (sym (ap (λ v. v.items) w.waiting-is ∙ w.in_ok-push.ensures.items)) (entered_more c.loop-number.waiting.items _ c.loop-number.invariant)
      | else-is_top w ↦ subst AreEntered (sym (ap (λ v. v.items) w.waiting-is)) c.loop-number.invariant
    ]
