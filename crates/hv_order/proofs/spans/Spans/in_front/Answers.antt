use Rattle.std.proofs.Common.{◌≡◌, ℕ, true, List, Contains, subst}
use Rattle.std.proofs.lemmas.List.{take_all}
use Rattle.hv_plan.specs.TreeViews.{child_view}
use Rattle.hv_order.specs.inside.Children.{child_at}
use Rattle.hv_order.specs.inside.Spans.{is_behind}
use Rattle.hv_order.proofs.SpanLemmas.{all_true}
use Rattle.hv_order.proofs.spans.Spans.in_front.Goals as goal

pub returns : goal.returns
returns c =
    let P : List ℕ → Type 0 = λ is. (i : ℕ) → Contains is i → is_behind c.args.self.now (child_view (child_at c.args.children.now i)) (child_view c.args.latter) ≡ true in
    all_true c.args.self.now c.args.children.now c.args.latter c.args.formers.now
    (subst P (take_all c.loop-former.former-index c.args.formers.now c.loop-former-test.false) c.loop-former.invariant)
