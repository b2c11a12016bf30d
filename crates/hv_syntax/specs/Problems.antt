-- The sections of problems, and what they have said together.
use Rattle.std.specs.Prelude.{List, [], Option, Some, None}
use Rattle.hv_syntax.specs.Values.{WordAt, Typed, Formula, Literal, Htn, Problem}

-- what a section of a problem says
pub data ProblemSection : Type 0 where
  is_for : WordAt → ProblemSection
  has_requirements : List WordAt → ProblemSection
  has_objects : List Typed → ProblemSection
  has_htn : Htn → ProblemSection
  has_init : List Literal → ProblemSection
  has_goal : Formula → ProblemSection

-- what the sections of a problem have said so far
pub record Parts : Type 0 where
  pub domain : Option WordAt
  pub requirements : List WordAt
  pub objects : List Typed
  pub htn : Option Htn
  pub init : Option (List Literal)
  pub goal : Option Formula

-- nothing is said yet
abbrev pub no_parts : Parts
no_parts =
    record { domain = None; requirements = []; objects = []; htn = None; init = None; goal = None }

-- what is known of a problem, and what one more section says
abbrev pub add_part : Parts → ProblemSection → Parts
add_part p (is_for n) = record p { domain = Some n }
add_part p (has_requirements ws) = record p { requirements = ws }
add_part p (has_objects vs) = record p { objects = vs }
add_part p (has_htn h) = record p { htn = Some h }
add_part p (has_init ls) = record p { init = Some ls }
add_part p (has_goal f) = record p { goal = Some f }

-- the problem of this name and these parts: `:domain`, `:htn` and `:init` must be among them
abbrev pub assembled_by : WordAt → Parts → Option WordAt → Option Htn → Option (List Literal)
    → Option Problem
assembled_by n p None h ls = None
assembled_by n p (Some d) None ls = None
assembled_by n p (Some d) (Some h) None = None
assembled_by n p (Some d) (Some h) (Some ls) =
    Some (record {
      name = n;
      domain = d;
      requirements = p.requirements;
      objects = p.objects;
      htn = h;
      init = ls;
      goal = p.goal;
    })

-- the same, by what the parts have
abbrev pub assembled : WordAt → Parts → Option Problem
assembled n p = assembled_by n p p.domain p.htn p.init
