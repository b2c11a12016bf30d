use Rattle.std.proofs.Common.{◌<◌, ℕ, get_or}
use Rattle.hv_world.proofs.order.all_go_on.Given as goal

abbrev pub invariant-loop-earlier : goal.invariant-loop-earlier
invariant-loop-earlier l = (k : ℕ) (d : ℕ × ℕ) → k < l.earlier-index → (get_or l.pairs k d).0 < (get_or l.pairs k d).1
