-- How the subtasks of the methods of a world are laid out.
use Rattle.std.specs.Prelude.{◌≡◌, ℕ, ◌<◌, List, map, length, MatchOption}
use Rattle.std.specs.List.{AllZip}
use Rattle.std.specs.Rc.{rc_value}
use Rattle.hv_world.specs.Orders.{Written, IsArrangement, AreDirect}
use Rattle.hv_world.specs.Worlds.{World, Method}
use Rattle.hv_world.specs.MethodViews.{method_view}
use Rattle.hv_world.specs.declared.method.Method as code_method
use Rattle.hv_plan.specs.PlanTrees.{PlanTree}
use Rattle.hv_match.specs.Candidates.{method_at}
use Rattle.hv_order.specs.inside.Arrangements.{listed_before}
use Rattle.hv_order.specs.declared.sequencing.Sequencing.{Sequencing}
use Rattle.hv_order.specs.declared.sequencing.Sequencings.{Sequencings}

-- for each subtask the list of those directly before it
pub record AreDirects (n : Written) (lists : List (List ℕ)) : Type 0 where
  pub as_many : length lists ≡ n.len
  pub direct : (j : ℕ) → j < n.len → AreDirect n j (listed_before lists j)

-- the subtasks stand in an order that is allowed, with those directly before each
pub record IsSequencing (n : Written) (s : Sequencing) : Type 0 where
  pub order : IsArrangement n s.order.items
  pub direct : AreDirects n s.direct

-- it is the sequencing of a method
abbrev pub IsSequencingOf : Method → Sequencing → Type 0
IsSequencingOf m s = IsSequencing m.network.order s

-- so of each of the code's methods
abbrev pub AreSequencings : List code_method.Method → List Sequencing → Type 0
AreSequencings ms ss = AllZip IsSequencingOf (map method_view ms) ss

-- so of all methods of a world, and of its initial network
pub record AreSequencingsOf (w : World) (s : Sequencings) : Type 0 where
  pub initial : IsSequencingOf w.top s.top.value
  pub methods : AllZip IsSequencingOf w.methods (map rc_value s.methods.items)

-- it is the sequencing of the method of the node of a number
abbrev pub IsSequencingAt : World → PlanTree → ℕ → Sequencing → Type 0
IsSequencingAt w t v s = MatchOption (method_at w t v) ⊥ (λ m. IsSequencing m.network.order s)
