-- What is written down of a choice for each node.
use Rattle.std.specs.Prelude.{◌≡◌, ℕ, ◌<◌, Bool, List, map, length, slice_get, Some, MatchOption, Option}
use Rattle.std.specs.List.{All, AllZip}
use Rattle.hv_text.specs.Names.{text_of}
use Rattle.hv_text.specs.declared.name.Name.{Name}
use Rattle.hv_world.specs.Worlds.{World}
use Rattle.hv_world.specs.Bindings.{object_number}
use Rattle.hv_world.specs.declared.id.ObjectId.{ObjectId}
use Rattle.hv_plan.specs.Trees.{Item}
use Rattle.hv_plan.specs.TreeViews.{child_view}
use Rattle.hv_plan.specs.declared.tree.Child.{Child}
use Rattle.hv_plan.specs.PlanTrees.{Node, PlanTree, NodeIs, StandsFor, root_number}
use Rattle.hv_match.specs.Candidates.{IsCandidateAt}
use Rattle.hv_order.specs.Meanings as meanings
use Rattle.hv_order.specs.Settings.{Setting, AmountsTo, HaveCandidates, IsFirstWithout}
use Rattle.hv_order.specs.inside.Marks.{IsMarked}
use Rattle.hv_order.specs.Certified.{line_numbers}
use Rattle.hv_certificate.specs.declared.certificate.Choice.{Choice}
use Rattle.hv_certificate.specs.declared.certificate.Certificate.{Certificate}
use Rattle.hv_order.specs.declared.certify.Chosen.{Chosen}

-- the id is that of the line of an item
abbrev pub IsIdOf : PlanTree → Item → ℕ → Type 0
IsIdOf t x i = StandsFor t i x

-- the item's line begins with an id
abbrev pub HasId : PlanTree → Item → Type 0
HasId t x = (i : ℕ) × IsIdOf t x i

-- the name is that of an object of the world
abbrev pub IsNameIn : World → ℕ → Name → Type 0
IsNameIn w o n = slice_get w.objects o ≡ Some (text_of n)

-- the world has the object
abbrev pub IsObjectOf : World → ℕ → Type 0
IsObjectOf w o = o < length w.objects

-- the ids with which the lines of children begin, in their order
abbrev pub AreIdsOf : PlanTree → List Child → List ℕ → Type 0
AreIdsOf t cs ids = AllZip (IsIdOf t) (map child_view cs) ids

-- the names of objects, in their order
abbrev pub AreNamesOf : World → List ObjectId → List Name → Type 0
AreNamesOf w os names = AllZip (IsNameIn w) (map object_number os) names

-- what is chosen for a node can be written down: its children have ids and its objects have names
pub record IsWritable (w : World) (t : PlanTree) (c : Chosen) : Type 0 where
  pub children : All (HasId t) (map child_view c.children.now)
  pub objects : All (IsObjectOf w) (map object_number c.objects.now)

-- so for each node
pub record AreWritable (w : World) (t : PlanTree) (chosen : List Chosen) : Type 0 where
  pub as_many : length chosen ≡ length t.nodes
  pub each : (v : ℕ) (c : Chosen) → slice_get chosen v ≡ Some c → IsWritable w t c

-- what is written is this choice
pub record SaysChosen (w : World) (t : PlanTree) (c : Chosen) (s : Choice) : Type 0 where
  pub children : AreIdsOf t c.children.now s.children.items
  pub objects : AreNamesOf w c.objects.now s.objects.items

-- what is written is the choice for the node of a number
abbrev pub SaysChosenFor : World → PlanTree → List Chosen → ℕ → Choice → Type 0
SaysChosenFor w t chosen v s = (c : Chosen) → slice_get chosen v ≡ Some c → SaysChosen w t c s

-- what is written of a decomposition line: its id, the choice for it and its index
pub record SaysChosenLine
    (w : World) (t : PlanTree) (chosen : List Chosen) (v : ℕ) (l : ℕ × Choice × ℕ)
    : Type 0 where
  pub id : NodeIs t (λ n. n.id ≡ Some l.0) v
  pub choice : SaysChosenFor w t chosen v l.1
  pub index : (c : Chosen) → slice_get chosen v ≡ Some c → l.2 ≡ c.at

-- so of all decomposition lines, in the order of the text
abbrev pub AreLinesOf : World → PlanTree → List Chosen → List (ℕ × Choice × ℕ) → Type 0
AreLinesOf w t chosen lines = AllZip (SaysChosenLine w t chosen) (line_numbers t) lines

-- what is written of the root line and of all decomposition lines
pub record SaysAll
    (w : World) (t : PlanTree) (chosen : List Chosen) (s : Certificate)
    : Type 0 where
  pub root : SaysChosenFor w t chosen (root_number t) s.root
  pub lines : AreLinesOf w t chosen s.lines.items

-- the item stands at place x among the children of the node of number v
pub record IsAtPlace (t : PlanTree) (v x : ℕ) (y : Item) : Type 0 where
  pub node : Node
  pub has_node : slice_get t.nodes v ≡ Some node
  pub has_child : slice_get node.children x ≡ Some y

-- what is chosen for the node of number v is the candidate M and B, with an index
pub record IsChosenFor (t : PlanTree) (v : ℕ) (M B : List ℕ) (at : ℕ) (c : Chosen) : Type 0 where
  pub children : AllZip (IsAtPlace t v) M (map child_view c.children.now)
  pub objects : map object_number c.objects.now ≡ B
  pub index : c.at ≡ at

-- What is chosen for each node is a candidate, which amounts to what the choice takes for it
pub record AreChosen
    (q : Setting) (chosen : List Chosen) (matching binding : ℕ → List ℕ) (at : ℕ → ℕ)
    (o : meanings.Choice)
    : Type 0 where
  pub as_many : length chosen ≡ length q.tree.nodes
  pub each :
      (v : ℕ) (c : Chosen) → slice_get chosen v ≡ Some c
      → IsChosenFor q.tree v (matching v) (binding v) (at v) c
  pub root :
      AmountsTo q (root_number q.tree) (matching (root_number q.tree))
      (binding (root_number q.tree)) o.root
  pub nodes :
      (v : ℕ) → v < root_number q.tree → AmountsTo q v (matching v) (binding v) (o.line v)

-- the node of a number has a candidate
abbrev pub HasOne : World → PlanTree → ℕ → Type 0
HasOne w t v = (M : List ℕ) × (B : List ℕ) × IsCandidateAt w t v M B

-- each node that is marked has a candidate
abbrev pub AreBound : World → PlanTree → List Bool → Type 0
AreBound w t bound = (v : ℕ) → IsMarked bound v → HasOne w t v

-- a setting over this tree of this world
abbrev pub IsSettingOver : World → PlanTree → Setting → Type 0
IsSettingOver w t q = (q.plan.world ≡ w) × (q.tree ≡ t)

-- all nodes have candidates, or the first that has none is the one of this line
abbrev pub TellsFirst : World → PlanTree → Option ℕ → Type 0
TellsFirst w t o =
    (q : Setting) → IsSettingOver w t q → MatchOption o (HaveCandidates q) (IsFirstWithout q)
