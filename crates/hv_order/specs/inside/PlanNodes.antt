-- What the parts of a plan's nodes keep.
use Rattle.std.specs.Prelude.{◌≡◌, ℕ, ◌<◌, ◌≤◌, Option, Some, None}
use Rattle.hv_world.specs.Worlds.{World}
use Rattle.hv_world.specs.WorldViews.{world_view}
use Rattle.hv_world.specs.declared.world.World as code
use Rattle.hv_order.specs.Settings.{Setting}
use Rattle.hv_order.specs.inside.Spans.{AreSpans}
use Rattle.hv_order.specs.inside.PlanFacts.{IsSetting}
use Rattle.hv_order.specs.inside.Sequencings.{AreSequencingsOf}
use Rattle.hv_order.specs.declared.sequencing.Sequencings.{Sequencings}
use Rattle.hv_order.specs.declared.spans.Spans.{Spans}
use Rattle.hv_order.specs.declared.trial.Stretch.{Stretch}

-- the plan is one of this world, the matcher and the sequencings are those of the world, and the
-- spans those of the tree
pub record ArePlanNodes
    (world : code.World) (matcher : World) (sequencings : Sequencings) (spans : Spans) (q : Setting)
    : Type 0 where
  pub world_is : q.plan.world ≡ world_view world
  pub matcher_is : matcher ≡ world_view world
  pub sequenced : AreSequencingsOf (world_view world) sequencings
  pub spanned : AreSpans q.tree spans
  pub is_setting : IsSetting q

-- all indices of a range, if it has any
abbrev pub IsRange : ℕ → ℕ → Option Stretch → Type 0
IsRange from upto None = upto < from
IsRange from upto (Some r) = (r.first ≡ from) × (r.last ≡ upto) × (from ≤ upto)
