use Rattle.std.proofs.Common.{◌<◌, ◌≤◌, ℕ, All, length, get_or, subst}
use Rattle.hv_world.proofs.OrderMeanings.{none_cyclic, as_written, row_as_written, back_is_cyclic}
use Rattle.hv_world.proofs.order.as_written.Goals as goal

pub returns-then-not-all_go_on : goal.returns-then-not-all_go_on
returns-then-not-all_go_on c =
    let back = subst (λ ps. (k : ℕ) × (k < length ps) × ((get_or ps k (0, 0)).1 ≤ (get_or ps k (0, 0)).0)) c.deref.ensures.value c.if-not-all_go_on.ensures in
    back_is_cyclic c.args.len c.args.pairs.items c.requires back.0 back.1 back.2

pub invariant_of-result : goal.invariant_of-result
invariant_of-result c =
    let on = subst (All (λ (p : ℕ × ℕ). p.0 < p.1)) c.deref.ensures.value c.if-not-all_go_on.ensures in
    let row = c.in_ok-arrangement.arrangement.items in
    record {
      pairs = c.requires;
      acyclic = none_cyclic c.args.len c.args.pairs.items c.requires on;
      arrangement = row_as_written c.args.len c.args.pairs.items c.requires on row c.in_ok-arrangement.ensures.count c.in_ok-arrangement.ensures.each;
      links = as_written c.args.len c.args.pairs.items c.requires on row c.in_ok-arrangement.ensures.count c.in_ok-arrangement.ensures.each;
    }
