-- How many changes are up to an index.
use Rattle.std.proofs.Common.{◌≡◌, ◌<◌, ◌≤◌, ◌-◌, ℕ, true, false, nat_le, List, length, map, get_or, ap, arith}
use Rattle.std.proofs.lemmas.List.{get_or_default}
use Rattle.hv_state.specs.declared.history.Change as code
use Rattle.hv_state.specs.inside.Histories.{Rise, index_of, change_view, ArePast}
use Rattle.hv_state.proofs.ChangeLemmas.{is_from, is_late}
use Rattle.hv_state.proofs.HistoryLemmas.{indices_rise}

-- so many are up to an index, where the last of them is and the next is after it
pub are_past : (cs : List code.Change) (k n : ℕ) (d : code.Change) → Rise (map change_view cs) → 0 < n → n < length cs → index_of (get_or cs (n - 1) d) ≤ k → k < index_of (get_or cs n d) → ArePast cs k n
are_past cs k n d rise some more up_to after = (omega (arith, more), (low, high))
  where
    low : (j : ℕ) (e : code.Change) → 0 ≤ j → j < n → nat_le (index_of (get_or cs j e)) k ≡ true
    low j e from lt =
        let h : index_of (get_or cs j e) ≤ index_of (get_or cs (n - 1) e) = indices_rise cs rise j (n - 1) e (omega (arith, lt)) (omega (arith, more, some)) in
        let is : index_of (get_or cs (n - 1) e) ≡ index_of (get_or cs (n - 1) d) = ap index_of (get_or_default cs (n - 1) e d (omega (arith, more, some))) in
        is_from (index_of (get_or cs j e)) k (omega (arith, h, is, up_to))

    high : (j : ℕ) (e : code.Change) → n ≤ j → j < length cs → nat_le (index_of (get_or cs j e)) k ≡ false
    high j e from lt =
        let h : index_of (get_or cs n e) ≤ index_of (get_or cs j e) = indices_rise cs rise n j e from lt in
        let is : index_of (get_or cs n e) ≡ index_of (get_or cs n d) = ap index_of (get_or_default cs n e d more) in
        is_late (index_of (get_or cs j e)) k (omega (arith, h, is, after))
