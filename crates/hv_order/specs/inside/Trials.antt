-- How far a candidate's subtasks are laid out.
use Rattle.std.specs.Prelude.{◌≡◌, ℕ, ◌<◌, ◌≤◌, min, List, [], ◌∷◌, length, drop, Option, Some, None, slice_index}
use Rattle.std.specs.List.{All}
use Rattle.hv_plan.specs.declared.tree.Child.{Child}
use Rattle.hv_order.specs.Tables.{IsLeast}
use Rattle.hv_order.specs.inside.Children.{child_at, ChildFits}
use Rattle.hv_order.specs.inside.Arrangements.{listed_before}
use Rattle.hv_order.specs.inside.Layouts.{Lays}
use Rattle.hv_order.specs.inside.Facts.{Facts}
use Rattle.hv_order.specs.declared.trial.Trial.{Trial}
use Rattle.hv_order.specs.declared.trial.Best.{Best}
use Rattle.hv_order.specs.declared.trial.Progress.{Progress}
use Rattle.hv_order.specs.declared.trial.Progress.TheVariants as progress

-- the numbers are below n
abbrev pub AreWithin : ℕ → List ℕ → Type 0
AreWithin n is = All (λ i. i < n) is

-- the least finish of the child that stands for a subtask, if it is no later than the cap
abbrev pub HasFinish : Facts → ℕ → List Child → ℕ → ℕ → Option ℕ → Type 0
HasFinish q cap children j s r = IsLeast (ChildFits q.fits (child_at children j) s) cap r

-- a start up to which a layout stays alike with a subtask more that finishes alike up to `end`:
-- only one with nothing directly before it begins where the layout does
abbrev pub alike_until : List ℕ → ℕ → ℕ → ℕ
alike_until [] last end = min last end
alike_until (i ∷ is) last end = last

-- what a row says is the same finish from one start to another
abbrev pub IsAlike : (ℕ → Option ℕ → Type 0) → ℕ → ℕ → Type 0
IsAlike Row from upto = (f : ℕ) × ((x : ℕ) → from ≤ x → x ≤ upto → Row x (Some f))

-- What the rest of the layout comes to, the whole does. Those laid out with nothing directly before
-- them finish alike from `at` up to `last`
pub record IsTrial
    (Row : ℕ → ℕ → Option ℕ → Type 0) (direct : ℕ → List ℕ) (order zeros : List ℕ) (t : Trial)
    : Type 0 where
  pub room : length t.finishes.items ≡ length zeros
  pub begun : t.at ≤ t.last
  pub alike :
      (i : ℕ) → i < t.placed → direct (slice_index order i) ≡ []
      → IsAlike (Row (slice_index order i)) t.at t.last
  pub rest :
      (o : Option ℕ) → Lays Row direct t.at t.finishes.items t.latest (drop t.placed order) o
      → Lays Row direct t.at zeros t.at order o

-- nothing of a trial is behind its cap, and the cap is a state of the plan
pub record IsUnderCap (q : Facts) (t : Trial) : Type 0 where
  pub cap : t.cap ≤ q.last
  pub at : t.at ≤ t.cap
  pub finishes : (i : ℕ) → slice_index t.finishes.items i ≤ t.cap

-- it is a trial of these subtasks, each to be over by the cap
abbrev pub IsTrialOf : Facts → ℕ → List Child → List ℕ → List (List ℕ) → List ℕ → Trial → Type 0
IsTrialOf q cap children order direct zeros t =
    IsTrial (HasFinish q cap children) (listed_before direct) order zeros t

-- the whole layout behind `at` comes to o
abbrev pub LaysOut : Facts → ℕ → List Child → List ℕ → List (List ℕ) → ℕ → List ℕ → Option ℕ
    → Type 0
LaysOut q cap children order direct at zeros o =
    Lays (HasFinish q cap children) (listed_before direct) at zeros at order o

-- the finish, if there is a best
abbrev pub finish_of : Option Best → Option ℕ
finish_of None = None
finish_of (Some b) = Some b.finish

-- the layout of which a trial is the first part comes to this finish
abbrev pub ComesTo : Facts → List Child → List ℕ → List (List ℕ) → Trial → Option Best → Type 0
ComesTo q children order direct t o =
    (zeros : List ℕ) → IsTrialOf q t.cap children order direct zeros t
    → LaysOut q t.cap children order direct t.at zeros (finish_of o)

-- where there is a finish, all are laid out, and it is kept as long as the layout stays alike and
-- nothing begins behind it
abbrev pub IsWhole : List ℕ → Trial → Option Best → Type 0
IsWhole order t None = Unit {0}
IsWhole order t (Some b) = (length order ≤ t.placed) × (b.last ≡ min t.last b.finish)

-- a trial is one of the same layout as another
abbrev pub IsTrialAs : Facts → List Child → List ℕ → List (List ℕ) → Trial → Trial → Type 0
IsTrialAs q children order direct t u =
    (zeros : List ℕ) → IsTrialOf q t.cap children order direct zeros t
    → IsTrialOf q t.cap children order direct zeros u

-- where all is over
abbrev pub IfOver : Progress → (Option Best → Type 0) → Type 0
IfOver (progress.Wants c s) P = Unit {0}
IfOver (progress.Over o) P = P o

-- where a child's finish is wanted
abbrev pub IfWants : Progress → Type 0 → Type 0
IfWants (progress.Wants c s) P = P
IfWants (progress.Over o) P = Unit {0}

-- what is wanted is one of these
abbrev pub WantsOnly : (ℕ → ℕ → Type 0) → Progress → Type 0
WantsOnly Is (progress.Wants c s) = Is c s
WantsOnly Is (progress.Over o) = Unit {0}
