-- The canonical text of a plan.
use Rattle.std.specs.Prelude.{ℕ, List, [], ◌∷◌, ◌++◌, codes, decimal}
use Rattle.std.specs.List.{flat_map}
use Rattle.hv_plan.specs.Values.{Action, Decomposition, Root, Plan}

-- words, each behind a space
abbrev pub words_text : List (List ℕ) → List ℕ
words_text ws = flat_map (λ w. codes " " ++ w) ws

-- ids, each behind a space
abbrev pub ids_text : List ℕ → List ℕ
ids_text is = flat_map (λ i. codes " " ++ decimal i) is

-- an id, and a task behind it
abbrev pub node_text : ℕ → List ℕ → List (List ℕ) → List ℕ
node_text i w ws = decimal i ++ words_text (w ∷ ws)

-- the line of an action: its id, its name and its arguments
abbrev pub action_text : Action → List ℕ
action_text a = node_text a.id a.name a.arguments ++ codes "\n"

-- the line of a decomposition: its id, its task, an arrow, its method and its children
abbrev pub decomposition_text : Decomposition → List ℕ
decomposition_text d =
    node_text d.id d.name d.arguments
    ++ (codes " ->" ++ (words_text (d.method ∷ []) ++ (ids_text d.children ++ codes "\n")))

-- the line of the root and its ids
abbrev pub root_text : Root → List ℕ
root_text r = codes "root" ++ (ids_text r.ids ++ codes "\n")

-- the canonical text of a plan: the action lines, the root line and the decomposition lines,
-- between the markers
abbrev pub plan_text : Plan → List ℕ
plan_text p =
    codes "==>\n"
    ++ (flat_map action_text p.actions
    ++ (root_text p.root ++ (flat_map decomposition_text p.decompositions ++ codes "<==\n")))
