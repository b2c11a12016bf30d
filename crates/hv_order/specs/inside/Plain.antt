-- Nodes for which no precondition counts: neither their own nor one of a node below them.
use Rattle.std.specs.Prelude.{◌≡◌, ℕ, Bool, List, Contains, MatchOption}
use Rattle.hv_world.specs.Values.{and, no_formulas}
use Rattle.hv_world.specs.Worlds.{World}
use Rattle.hv_plan.specs.Trees.{Item, Task}
use Rattle.hv_plan.specs.PlanTrees.{PlanTree, children_at}
use Rattle.hv_match.specs.Candidates.{method_at}
use Rattle.hv_order.specs.inside.Marks.{IsMarked}

-- each node among these is marked
abbrev pub AllPlain : List Bool → List Item → Type 0
AllPlain plain xs = (u : ℕ) → Contains xs (Task u) → IsMarked plain u

-- the method of a node has no precondition, and each node among its children is marked
pub record IsPlain (w : World) (t : PlanTree) (plain : List Bool) (v : ℕ) : Type 0 where
  pub none : MatchOption (method_at w t v) ⊥ (λ m. m.precondition ≡ and no_formulas)
  pub below : AllPlain plain (children_at t.nodes v)

-- so of each node that is marked
abbrev pub ArePlain : World → PlanTree → List Bool → Type 0
ArePlain w t plain = (v : ℕ) → IsMarked plain v → IsPlain w t plain v
