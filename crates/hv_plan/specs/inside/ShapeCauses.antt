-- The causes for which the lines of a plan form no tree, whatever the world.
use Rattle.std.specs.Prelude.{◌<◌, ℕ, Option}
use Rattle.hv_world.specs.Worlds.{World}
use Rattle.hv_plan.specs.Values.{Plan}
use Rattle.hv_plan.specs.Causes.{number, Qualifies, IsTreeFault}
use Rattle.hv_plan.specs.inside.Shaping.{IsFirst}
use Rattle.hv_plan.specs.declared.cause.CauseKind.{CauseKind}
use Rattle.hv_plan.specs.declared.cause.TreeFault.{TreeFault}

-- no line qualifies for a cause with a number below n
abbrev pub NoneBelow : Plan → ℕ → Type 0
NoneBelow p n = (w : World) (k : CauseKind) (l : ℕ) → number k < n → Qualifies w p k l → ⊥

-- the first line that qualifies for a cause, in any world
abbrev pub IsFirstFor : Plan → CauseKind → Option ℕ → Type 0
IsFirstFor p k o = (w : World) → IsFirst (Qualifies w p k) o

-- why the lines form no tree, in any world
abbrev pub IsFormFault : Plan → TreeFault → Type 0
IsFormFault p f = (w : World) → IsTreeFault w p f
