-- How many preconditions the check of a certificate has evaluated after some nodes.
use Rattle.std.proofs.Common.{◌≡◌, ◌<◌, ◌≤◌, ◌+◌, ◌-◌, ℕ, Bool, false, length, sym, subst, arith}
use Rattle.std.proofs.Math.Nat.{min-le_right, min-eq_left, min-eq_right, le-min}
use Rattle.hv_world.specs.Worlds.{World}
use Rattle.hv_plan.specs.PlanTrees.{PlanTree, IsTreeIn}
use Rattle.hv_order.specs.Certified.{CountsTo, line_numbers}
use Rattle.hv_order.specs.inside.Checks.{lines_among}
use Rattle.hv_order.proofs.Members.{not_true}
use Rattle.hv_order.proofs.EntryLemmas.{many}

-- where the answer is no, what was counted has a bound
pub in_part : (n k : ℕ) → k ≤ n → CountsTo n false k
in_part n k h = record { within = h; whole = λ e. not_true e }

-- all were counted, whatever the answer
pub in_full : (n k : ℕ) (b : Bool) → k ≡ n → CountsTo n b k
in_full n k b e = record { within = omega (arith, e); whole = λ on. e }

-- before a node each node with a lower number was counted, as it is that of a decomposition line
pub before : (t : PlanTree) (v : ℕ) → v < length t.nodes → lines_among t v ≡ v
before t v less = min-eq_left (let low : v ≤ length t.nodes - 1 = omega (arith, less) in low)

-- nothing was counted of a node
pub none_more : (t : PlanTree) (v k : ℕ) → v < length t.nodes → k ≡ v
    → CountsTo (lines_among t (v + 1)) false k
none_more t v k less e =
    let one : v ≤ v + 1 = omega arith in
    let low : v ≤ length t.nodes - 1 = omega (arith, less) in
    in_part (lines_among t (v + 1)) k (subst (λ x. x ≤ lines_among t (v + 1)) (sym e) (le-min one low))

-- what was counted up to a node is counted of all lines
pub of_all : (w : World) (t : PlanTree) → IsTreeIn w t → (n k : ℕ) → k ≤ lines_among t n
    → CountsTo (length (line_numbers t)) false k
of_all w t is n k h =
    let most : lines_among t n ≤ length t.nodes - 1 = min-le_right n (length t.nodes - 1) in
    let all : length t.nodes ≡ length (line_numbers t) + 1 = many w t is in
    in_part (length (line_numbers t)) k (omega (arith, h, most, all))

-- behind the last node all lines were counted
pub at_end : (w : World) (t : PlanTree) → IsTreeIn w t → (n k : ℕ) → n ≡ length t.nodes
    → k ≡ lines_among t n → k ≡ length (line_numbers t)
at_end w t is n k e h =
    let low : length t.nodes - 1 ≤ n = omega (arith, e) in
    let most : lines_among t n ≡ length t.nodes - 1 = min-eq_right low in
    let all : length t.nodes ≡ length (line_numbers t) + 1 = many w t is in
    omega (arith, h, most, all)
