use Rattle.std.proofs.Common.{◌≡◌, ◌↔◌, Bool, IsTrue, false, sym, ap, ◌∙◌}
use Rattle.hv_lists.proofs.Bools.{same_bools}
use Rattle.hv_state.specs.Changes.{told}
use Rattle.hv_state.specs.inside.Histories.{changes_of}
use Rattle.hv_state.specs.inside.Stretches.{turns_in, or_start}
use Rattle.hv_state.proofs.StretchLemmas.{next_turns, not_begun}
use Rattle.hv_state.proofs.history.History.is_true_in.Goals.{in-Some, in-None}
use Rattle.hv_state.proofs.history.History.is_true_in.Goals as goal

-- two answers to one question agree
agree : {W : Type 0} (a b : Bool) → IsTrue a ↔ W → IsTrue b ↔ W → b ≡ a
agree a b is so = same_bools b a (λ e. is.1 (so.0 e)) (λ e. so.1 (is.0 e))

pub returns-else-is_true : goal.returns-else-is_true
returns-else-is_true g c = λ b is.
    let cs = changes_of c.args.self.now in
    let begun : or_start b (told c.args.from cs) ≡ false =
    elim c.match-told.branch [
      | in-Some w ↦ ap (or_start b) (sym c.told.ensures ∙ w.in-Some.is) ∙ sym w.is_true-is ∙ c.if-is_true.false
      | in-None w ↦ ap (or_start b) (sym c.told.ensures ∙ w.in-None.is) ∙ agree w.holds-is_true.result b w.holds-is_true.ensures is ∙ sym w.is_true-is ∙ c.if-is_true.false
    ] in
    next_turns cs c.args.from c.args.end c.next.result c.next.ensures ∙ not_begun b (told c.args.from cs) (turns_in c.args.from c.args.end cs) begun
