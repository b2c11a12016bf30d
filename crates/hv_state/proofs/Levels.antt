-- How deep an evaluation goes.
use Rattle.std.proofs.Common.{ℕ, ◌+◌, length}
use Rattle.hv_world.specs.Values.{Formula, Formulas, holds, and, or, not, imply, forall, exists, equal, no_formulas, more_formulas}

-- how many calls deep an evaluation may go: for each formula three, and one for each variable
abbrev mutual
  pub levels : Formula → ℕ
  levels (holds a) = 1
  levels (and fs) = most_levels fs + 2
  levels (or fs) = most_levels fs + 2
  levels (not f) = levels f + 1
  levels (imply f g) = levels f + levels g + 1
  levels (forall ts f) = levels f + length ts + 3
  levels (exists ts f) = levels f + length ts + 3
  levels (equal s t) = 1

  pub most_levels : Formulas → ℕ
  most_levels no_formulas = 0
  most_levels (more_formulas f fs) = levels f + most_levels fs
