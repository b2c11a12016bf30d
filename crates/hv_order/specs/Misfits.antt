-- Lines of a certificate that do not fit the plan, and so keep it from being one of the plan.
use Rattle.std.specs.Prelude.{◌≡◌, ◌⊎◌, ℕ, suc, zero, ◌<◌, ◌≤◌, true, List, length, slice_get, Some, Contains}
use Rattle.hv_plan.specs.Trees.{Item, Task}
use Rattle.hv_plan.specs.PlanTrees.{PlanTree, NodeIs, children_at, root_number, tree_of}
use Rattle.hv_order.specs.Meanings.{Meaning}
use Rattle.hv_order.specs.Certificates.{subtask_start, AreFinishes}
use Rattle.hv_order.specs.Settings.{Setting, last, AmountsTo}
use Rattle.hv_order.specs.Certified.{Says, line_numbers}
use Rattle.hv_certificate.specs.declared.certificate.Choice.{Choice}
use Rattle.hv_certificate.specs.declared.certificate.Certificate.{Certificate}

-- What a certificate says of the node at a place in the order of nodes, and the index of its
-- precondition: the root line stands first, and has no index
abbrev pub IsPart : Certificate → ℕ → Choice → ℕ → Type 0
IsPart c zero s k = (s ≡ c.root) × (k ≡ 0)
IsPart c (suc i) s k = (id : ℕ) × (slice_get c.lines.items i ≡ Some (id, s, k))

-- line i of a certificate and decomposition line i do not begin with one id, or there is only one
-- of the two
pub record IsOther (t : PlanTree) (c : Certificate) (i : ℕ) : Type 0 where
  pub there : (i < length (line_numbers t)) ⊎ (i < length c.lines.items)
  pub differ :
      (v : ℕ) (l : ℕ × Choice × ℕ) → slice_get (line_numbers t) i ≡ Some v
      → slice_get c.lines.items i ≡ Some l → NodeIs t (λ n. n.id ≡ Some l.0) v → ⊥

-- what is said of the node of number v is no candidate whose precondition is true at index k
abbrev pub IsNoCandidate : Setting → ℕ → ℕ → Choice → Type 0
IsNoCandidate q v k s =
    (M B : List ℕ) (m : Meaning) → Says q v M B s → AmountsTo q v M B m → m.true_at k ≡ true → ⊥

-- where the nodes start, as a certificate says it, and where they finish then
pub record AreTimes (q : Setting) (c : Certificate) (at : ℕ → ℕ) (finish : Item → ℕ) : Type 0 where
  pub starts :
      (place v : ℕ) → slice_get q.tree.order place ≡ Some v → (s : Choice) × IsPart c place s (at v)
  pub finishes : AreFinishes (tree_of q.tree) at finish

-- no child of a node starts before it, or before another is over that must come before
pub record StartInOrder (q : Setting) (at : ℕ → ℕ) (finish : Item → ℕ) (v : ℕ)
    (m : Meaning) : Type 0 where
  pub from : (x : Item) → Contains (children_at q.tree.nodes v) x → at v ≤ subtask_start at x
  pub order :
      (x y : Item) → Contains (children_at q.tree.nodes v) x
      → Contains (children_at q.tree.nodes v) y
      → m.before x y ≡ true → finish x ≤ subtask_start at y

-- A line of a certificate that does not fit, by its place in the order of nodes. It is not the line
-- of the node at this place; or what it says is no candidate, or one whose precondition is not true
-- at the index; or the children do not start in order; or, for the root line, they are not over
-- when the plan is
pub data IsMisfit (q : Setting) (c : Certificate) : ℕ → Type 0 where
  other_line : (i : ℕ) → IsOther q.tree c i → IsMisfit q c (suc i)
  no_candidate :
      (place v k : ℕ) (s : Choice) → slice_get q.tree.order place ≡ Some v → IsPart c place s k
      → IsNoCandidate q v k s → IsMisfit q c place
  out_of_order :
      (place v : ℕ) (s : Choice) (M B : List ℕ) (m : Meaning) (at : ℕ → ℕ) (finish : Item → ℕ)
      → slice_get q.tree.order place ≡ Some v → IsPart c place s (at v) → Says q v M B s
      → AmountsTo q v M B m → AreTimes q c at finish → (StartInOrder q at finish v m → ⊥)
      → IsMisfit q c place
  too_late :
      (at : ℕ → ℕ) (finish : Item → ℕ) → AreTimes q c at finish
      → last q < finish (Task (root_number q.tree)) → IsMisfit q c 0
