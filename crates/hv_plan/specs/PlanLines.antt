-- What the code's lines of a plan stand for.
use Rattle.std.specs.Prelude.{◌≡◌, ℕ, List, [], ◌∷◌, drop, length, map, slice_index_or}
use Rattle.hv_text.specs.Names.{text_of}
use Rattle.hv_text.specs.declared.name.Name.{Name}
use Rattle.hv_lists.specs.Lists.{with_lists}
use Rattle.hv_plan.specs.Values.{Action, Decomposition, Plan}
use Rattle.hv_plan.specs.declared.plan.actions.ActionHead.{ActionHead}
use Rattle.hv_plan.specs.declared.plan.actions.ActionLine.{ActionLine}
use Rattle.hv_plan.specs.declared.plan.actions.ActionLines.{ActionLines}
use Rattle.hv_plan.specs.declared.plan.decompositions.DecompositionHead.{DecompositionHead}
use Rattle.hv_plan.specs.declared.plan.decompositions.DecompositionLine.{DecompositionLine}
use Rattle.hv_plan.specs.declared.plan.decompositions.DecompositionLines.{DecompositionLines}

abbrev pub action_view : ActionLine → Action
action_view a =
    record {
      id = a.id;
      name = text_of a.name;
      arguments = map text_of a.arguments.now;
      line = a.line;
    }

-- the action line of a head, of these arguments
abbrev pub headed_action : ActionHead → List Name → Action
headed_action h names =
    record { id = h.id; name = text_of h.name; arguments = map text_of names; line = h.line }

abbrev pub actions_view : ActionLines → List Action
actions_view as' = with_lists headed_action as'.heads.items as'.arguments

-- each action line has a list of arguments
pub record AreTidyActions (as' : ActionLines) : Type 0 where
  pub as_many_arguments : length as'.arguments ≡ length as'.heads.items

abbrev pub decomposition_view : DecompositionLine → Decomposition
decomposition_view d = record {
  id = d.id;
  name = text_of d.name;
  arguments = map text_of d.arguments.now;
  method = text_of d.method;
  children = d.children.now;
  line = d.line;
}

-- the line of a head, of these arguments and these children
abbrev pub headed : DecompositionHead → List Name → List ℕ → Decomposition
headed h names is = record {
  id = h.id;
  name = text_of h.name;
  arguments = map text_of names;
  method = text_of h.method;
  children = is;
  line = h.line;
}

-- the lines of heads: each takes the first of the lists that are left, and an empty
-- one where none is
abbrev pub lines_of : List DecompositionHead → List (List Name) → List (List ℕ) → List Decomposition
lines_of [] names is = []
lines_of (h ∷ hs) names is =
    headed h (slice_index_or names 0 []) (slice_index_or is 0 [])
    ∷ lines_of hs (drop 1 names) (drop 1 is)

abbrev pub decompositions_view : DecompositionLines → List Decomposition
decompositions_view ds = lines_of ds.heads.items ds.arguments ds.children

-- each line has a list of arguments and one of children
pub record AreTidy (ds : DecompositionLines) : Type 0 where
  pub as_many_arguments : length ds.arguments ≡ length ds.heads.items
  pub as_many_children : length ds.children ≡ length ds.heads.items

-- the plan of these lines
abbrev pub plan_of : ActionLines → List ℕ → ℕ → DecompositionLines → Plan
plan_of as' is n ds = record {
  actions = actions_view as';
  root = record { ids = is; line = n };
  decompositions = decompositions_view ds;
}
