-- When the lines of a plan form a tree below `root`.
use Rattle.std.specs.Prelude.{ℕ, List, ◌∷◌, ◌++◌, map, flat_map, Contains, Option, None, Some}
use Rattle.std.specs.List.Sorted.{IsStrictlyIncreasing}
use Rattle.hv_lists.specs.Lists.{Once}
use Rattle.hv_plan.specs.Values.{Action, Decomposition, Root, Plan}

-- what a decomposition line says before its arrow, where it is as an action line
abbrev pub head : Decomposition → Action
head d = record { id = d.id; name = d.name; arguments = d.arguments; line = d.line }

-- what the lines say of their ids, the root line aside: the action lines, and then the
-- decomposition lines
abbrev pub heads : Plan → List Action
heads p = p.actions ++ map head p.decompositions

-- the ids that begin lines
abbrev pub ids : Plan → List ℕ
ids p = map (λ a. a.id) (heads p)

-- a line that names children: the root line, or a decomposition line with its method
pub record Parent : Type 0 where
  pub method : Option (List ℕ)
  pub children : List ℕ
  pub line : ℕ

abbrev pub root_parent : Root → Parent
root_parent r = record { method = None; children = r.ids; line = r.line }

abbrev pub line_parent : Decomposition → Parent
line_parent d = record { method = Some d.method; children = d.children; line = d.line }

abbrev pub parents : Plan → List Parent
parents p = root_parent p.root ∷ map line_parent p.decompositions

-- all children, those of `root` first
abbrev pub all_children : Plan → List ℕ
all_children p = flat_map (λ q. q.children) (parents p)

-- the line of this id is reached from `root` by children
pub data IsReached (p : Plan) : ℕ → Type 0 where
  of_root : {i : ℕ} → Contains p.root.ids i → IsReached p i
  of_line : {i : ℕ} (d : Decomposition) → Contains p.decompositions d → IsReached p d.id
      → Contains d.children i → IsReached p i

-- Each id begins one line, each child is the id of a line, each is a child once, those of `root`
-- counted, and every line is reached from `root` by children
pub record FormTree (p : Plan) : Type 0 where
  pub distinct : Once (ids p)
  pub children : (i : ℕ) → Contains (all_children p) i → Contains (ids p) i
  pub once : Once (all_children p)
  pub reached : (i : ℕ) → Contains (ids p) i → IsReached p i

-- the numbers of the lines
abbrev pub line_numbers : Plan → List ℕ
line_numbers p = p.root.line ∷ map (λ a. a.line) (heads p)

-- each kind of lines stands in the order of the text, and no two lines have one number, as in every
-- plan that is read from a text
pub record IsInTextOrder (p : Plan) : Type 0 where
  pub actions : IsStrictlyIncreasing (map (λ a. a.line) p.actions)
  pub decompositions : IsStrictlyIncreasing (map (λ d. d.line) p.decompositions)
  pub once : Once (line_numbers p)
