-- What the check of a certificate works out, node by node.
use Rattle.std.specs.Prelude.{◌≡◌, ℕ, suc, ◌+◌, ◌-◌, ◌<◌, ◌≤◌, min, Bool, true, false, List, [], map, length, slice_get, slice_index, slice_index_or, Some, Contains}
use Rattle.std.specs.List.{AllZip}
use Rattle.hv_lists.specs.Lists.{Once}
use Rattle.hv_text.specs.declared.name.Name.{Name}
use Rattle.hv_world.specs.Worlds.{World, Method}
use Rattle.hv_world.specs.Orders.{Written, IsDirect}
use Rattle.hv_world.specs.Bindings.{object_number}
use Rattle.hv_world.specs.declared.id.ObjectId.{ObjectId}
use Rattle.hv_plan.specs.Trees.{Item, Act, Task, Pre}
use Rattle.hv_plan.specs.PlanTrees.{PlanTree, NodeIs, StandsFor, children_at}
use Rattle.hv_match.specs.Candidates.{IsCandidateAt, method_at}
use Rattle.hv_order.specs.Settings.{Setting, HoldsAt}
use Rattle.hv_order.specs.Certificates.{subtask_start}
use Rattle.hv_order.specs.Certified.{Says, Certifies, line_numbers}
use Rattle.hv_order.specs.Misfits.{IsPart, IsOther, IsMisfit}
use Rattle.hv_order.specs.inside.PlanFacts.{OfMethod, child_in}
use Rattle.hv_order.specs.inside.Writings.{IsIdOf, IsNameIn}
use Rattle.hv_certificate.specs.declared.certificate.Choice.{Choice}
use Rattle.hv_certificate.specs.declared.certificate.Certificate.{Certificate}
use Rattle.hv_order.specs.declared.entries.Part.{Part}
use Rattle.hv_order.specs.declared.unfit.Unfit.{Unfit}
use Rattle.hv_order.specs.declared.unfit.Unfit.TheVariants as unfit

-- p is the place of an id in a list that has each once; where it is not there, p is behind the list
pub record IsPlaceIn (ids : List ℕ) (i p : ℕ) : Type 0 where
  pub there : p < length ids → slice_get ids p ≡ Some i
  pub only : (x : ℕ) → slice_get ids x ≡ Some i → x ≡ p

-- so of several ids
abbrev pub ArePlacesIn : List ℕ → List ℕ → List ℕ → Type 0
ArePlacesIn own ids ps = AllZip (λ p i. IsPlaceIn own i p) ps ids

-- the child at place x begins with this id
abbrev pub StandsAt : PlanTree → List Item → ℕ → ℕ → Type 0
StandsAt t xs i x = (y : Item) × (slice_get xs x ≡ Some y) × StandsFor t i y

-- p is the place of the child that begins with an id; where none does, p is behind them
pub record IsPlaceOf (t : PlanTree) (xs : List Item) (p i : ℕ) : Type 0 where
  pub there : p < length xs → StandsAt t xs i p
  pub only : (x : ℕ) → StandsAt t xs i x → x ≡ p

abbrev pub ArePlacesOf : PlanTree → List Item → List ℕ → List ℕ → Type 0
ArePlacesOf t xs ids ps = AllZip (IsPlaceOf t xs) ps ids

-- no two children begin with one id
abbrev pub AreToldApart : PlanTree → List Item → Type 0
AreToldApart t xs = (ids : List ℕ) → AllZip (IsIdOf t) xs ids → Once ids

-- the objects of the names that are said of a node
abbrev pub AreNamed : World → List Name → List ObjectId → Type 0
AreNamed w names os = AllZip (IsNameIn w) (map object_number os) names

-- they are these, or some name is that of no object
abbrev pub AreObjectsOf : World → List Name → List ObjectId → Bool → Type 0
AreObjectsOf w names os true = AreNamed w names os
AreObjectsOf w names os false = (B : List ℕ) → AllZip (IsNameIn w) B names → ⊥

-- what a certificate says of the node at a place
abbrev pub IsPartAt : Certificate → ℕ → Part → Type 0
IsPartAt c k p = IsPart c k p.choice.now p.at

-- the certificate's lines have the ids of the decomposition lines, in the order of the text
abbrev pub HasIdOf : PlanTree → ℕ → ℕ × Choice × ℕ → Type 0
HasIdOf t v l = NodeIs t (λ n. n.id ≡ Some l.0) v

abbrev pub HasLines : PlanTree → Certificate → Type 0
HasLines t c = AllZip (HasIdOf t) (line_numbers t) c.lines.items

-- so at one place behind that of the root line, or not so
abbrev pub HasLineAt : PlanTree → Certificate → ℕ → Type 0
HasLineAt t c place = (v : ℕ) × (l : ℕ × Choice × ℕ) × (slice_get t.order place ≡ Some v)
    × (slice_get c.lines.items (place - 1) ≡ Some l) × HasIdOf t v l

abbrev pub IsOtherAt : PlanTree → Certificate → ℕ → Type 0
IsOtherAt t c place = (i : ℕ) × (place ≡ suc i) × IsOther t c i

-- for each node the place at which it stands in their order
pub record ArePlaces (t : PlanTree) (ps : List ℕ) : Type 0 where
  pub as_many : length ps ≡ length t.nodes
  pub each : (v : ℕ) → v < length t.nodes → slice_get t.order (slice_index ps v) ≡ Some v

-- What is said of a node is the candidate M and B, and its precondition is true at the index k
pub record IsRight (q : Setting) (v k : ℕ) (s : Choice) (M B : List ℕ) : Type 0 where
  pub says : Says q v M B s
  pub candidate : IsCandidateAt q.plan.world q.tree v M B
  pub holds : OfMethod q v (λ m. HoldsAt q m B k)

-- what is said of a node is right with this matching; or, where the answer is no, with none
abbrev pub IsEntryFor : Setting → ℕ → ℕ → Choice → List ℕ → Bool → Type 0
IsEntryFor q v k s M true = (B : List ℕ) × IsRight q v k s M B
IsEntryFor q v k s M false = (M B : List ℕ) → IsRight q v k s M B → ⊥

-- What a certificate says of the node of number v is right, with this matching and this index
pub record IsEntryOf
    (q : Setting) (c : Certificate) (place v : ℕ) (M : List ℕ) (k : ℕ)
    : Type 0 where
  pub choice : Choice
  pub binding : List ℕ
  pub part : IsPart c place choice k
  pub right : IsRight q v k choice M binding

-- the matching of a node
abbrev pub matching_in : List (List ℕ) → ℕ → List ℕ
matching_in Ms v = slice_index_or Ms v []

-- so for each node
pub record AreEntries
    (q : Setting) (c : Certificate) (ps : List ℕ) (Ms : List (List ℕ)) (ks : List ℕ)
    : Type 0 where
  pub as_many : length ks ≡ length q.tree.nodes
  pub each :
      (v : ℕ) → v < length q.tree.nodes
      → IsEntryOf q c (slice_index ps v) v (matching_in Ms v) (slice_index ks v)

-- what is said of the node at a place, that of number v, is right with some matching and binding
pub record AreRight (q : Setting) (c : Certificate) (place : ℕ) (v : ℕ) : Type 0 where
  pub choice : Choice
  pub index : ℕ
  pub part : IsPart c place choice index
  pub matching : List ℕ
  pub binding : List ℕ
  pub right : IsRight q v index choice matching binding

-- how many of the nodes with numbers below n are those of decomposition lines
abbrev pub lines_among : PlanTree → ℕ → ℕ
lines_among t n = min n (length t.nodes - 1)

-- what is said of the node of this place is not right
pub record IsWrong (q : Setting) (c : Certificate) (ps : List ℕ) (place : ℕ) : Type 0 where
  pub node : ℕ
  pub is_node : node < length q.tree.nodes
  pub is_place : slice_index ps node ≡ place
  pub choice : Choice
  pub index : ℕ
  pub part : IsPart c place choice index
  pub none : (M B : List ℕ) → IsRight q node index choice M B → ⊥

-- when a child is over, by the finishes of the nodes
abbrev pub finish_in : List ℕ → Item → ℕ
finish_in fs (Act k) = k + 1
finish_in fs (Task v) = slice_index fs v
finish_in fs (Pre v) = 0

-- f is the latest of an index and the finishes of children
pub record IsLatest (at : ℕ) (xs : List Item) (finish : Item → ℕ) (f : ℕ) : Type 0 where
  pub own : at ≤ f
  pub child : (x : Item) → Contains xs x → finish x ≤ f
  pub least : (g : ℕ) → at ≤ g → ((x : Item) → Contains xs x → finish x ≤ g) → f ≤ g

-- the child that stands for a subtask
abbrev pub child_at : List Item → List ℕ → ℕ → Item
child_at xs M j = child_in xs (slice_index M j)

-- the subtasks of a list are over by s
abbrev pub AreOver : List ℕ → List Item → List ℕ → List ℕ → ℕ → Type 0
AreOver fs xs M is s = (i : ℕ) → Contains is i → finish_in fs (child_at xs M i) ≤ s

-- each subtask starts when those directly before it are over
abbrev pub KeepsDirect : List ℕ → List ℕ → List Item → List ℕ → Written → Type 0
KeepsDirect ks fs xs M n =
    (i j : ℕ) → j < length M → IsDirect n i j
    → finish_in fs (child_at xs M i) ≤ subtask_start (slice_index ks) (child_at xs M j)

-- none of these children starts before an index
abbrev pub StartBehind : List ℕ → List Item → ℕ → Type 0
StartBehind ks xs at = (x : Item) → Contains xs x → at ≤ subtask_start (slice_index ks) x

-- the children of a node start behind its precondition and in its order, by the indices and the
-- finishes of all nodes
pub record KeepsNode
    (w : World) (t : PlanTree) (ks fs : List ℕ) (v : ℕ) (M : List ℕ)
    : Type 0 where
  pub behind : StartBehind ks (children_at t.nodes v) (slice_index ks v)
  pub order :
      (m : Method) → method_at w t v ≡ Some m
      → KeepsDirect ks fs (children_at t.nodes v) M m.network.order

abbrev pub KeepNodes : World → PlanTree → List (List ℕ) → List ℕ → List ℕ → Type 0
KeepNodes w t Ms ks fs =
    (v : ℕ) → v < length t.nodes → KeepsNode w t ks fs v (matching_in Ms v)

-- those of this node do not
pub record IsOutOfOrder
    (w : World) (t : PlanTree) (Ms : List (List ℕ)) (ks fs : List ℕ) (v : ℕ)
    : Type 0 where
  pub is_node : v < length t.nodes
  pub not : KeepsNode w t ks fs v (matching_in Ms v) → ⊥

-- the children of all nodes start so, and the root is over when the plan is
pub record KeepAll
    (w : World) (t : PlanTree) (Ms : List (List ℕ)) (ks fs : List ℕ) (n : ℕ)
    : Type 0 where
  pub nodes : KeepNodes w t Ms ks fs
  pub until : slice_index fs (length t.nodes - 1) ≤ n

-- those of the node of this place do not, or the root is not over
pub data IsLate
    (w : World) (t : PlanTree) (Ms : List (List ℕ)) (ks fs ps : List ℕ) (n : ℕ)
    : ℕ → Type 0 where
  late_child :
      (v : ℕ) → IsOutOfOrder w t Ms ks fs v → IsLate w t Ms ks fs ps n (slice_index ps v)
  late_root : n < slice_index fs (length t.nodes - 1) → IsLate w t Ms ks fs ps n 0

-- of the line that does not fit, where there is one
abbrev pub IfLine : (ℕ → Type 0) → Unfit → Type 0
IfLine Is (unfit.Line place) = Is place
IfLine Is unfit.Memory = Unit {0}

-- a certificate is none of a plan, as the line at this place does not fit
abbrev pub IsRefused : Setting → Certificate → Unfit → Type 0
IsRefused q c = IfLine (λ place. (Certifies q c → ⊥) × IsMisfit q c place)
