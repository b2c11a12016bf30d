-- Certificates: one candidate for each node, and an index for each precondition, that solve a plan.
use Rattle.std.specs.Prelude.{◌≡◌, ℕ, ◌<◌, ◌≤◌, Bool, true, List, drop, slice_get, Some}
use Rattle.std.specs.List.{AllZip}
use Rattle.hv_text.specs.Names.{text_of}
use Rattle.hv_text.specs.declared.name.Name.{Name}
use Rattle.hv_plan.specs.Trees.{Item}
use Rattle.hv_plan.specs.PlanTrees.{Node, PlanTree, NodeIs, StandsFor, IsTreeIn, tree_of, root_number}
use Rattle.hv_order.specs.Meanings as meanings
use Rattle.hv_order.specs.Sequences.{HasSequenceAt}
use Rattle.hv_order.specs.Settings.{Setting, without_preconditions, last, AmountsTo, IsSolved, HaveCandidates, IsFirstWithout}
use Rattle.hv_certificate.specs.declared.certificate.Choice.{Choice}
use Rattle.hv_certificate.specs.declared.certificate.Certificate.{Certificate}
use Rattle.hv_order.specs.declared.rows.RowFault.{RowFault}
use Rattle.hv_order.specs.declared.rows.RowFault.TheVariants as faults
use Rattle.hv_order.specs.declared.solution.Unsolved.{Unsolved}
use Rattle.hv_order.specs.declared.solution.Unsolved.TheVariants as unsolved

-- the child at place x among the children of the node of number v begins with this id
pub record IsChildId (q : Setting) (v x id : ℕ) : Type 0 where
  pub node : Node
  pub has_node : slice_get q.tree.nodes v ≡ Some node
  pub child : Item
  pub has_child : slice_get node.children x ≡ Some child
  pub stands : StandsFor q.tree id child

-- the name is that of the object of this number
abbrev pub IsNameOf : Setting → ℕ → Name → Type 0
IsNameOf q o n = slice_get q.plan.world.objects o ≡ Some (text_of n)

-- what is said of a node is the candidate M and B: for each subtask in written order the id of its
-- child, and for each parameter the name of its object
pub record Says (q : Setting) (v : ℕ) (M B : List ℕ) (c : Choice) : Type 0 where
  pub children : AllZip (IsChildId q v) M c.children.items
  pub objects : AllZip (IsNameOf q) B c.objects.items

-- the numbers of the nodes of the decomposition lines, in the order of the text
abbrev pub line_numbers : PlanTree → List ℕ
line_numbers t = drop 1 t.order

-- what is said of a decomposition line: its id, its choice, and the index of its precondition
pub record SaysLine
    (q : Setting) (matching binding : ℕ → List ℕ) (at : ℕ → ℕ) (v : ℕ) (l : ℕ × Choice × ℕ)
    : Type 0 where
  pub id : NodeIs q.tree (λ n. n.id ≡ Some l.0) v
  pub choice : Says q v (matching v) (binding v) l.1
  pub index : l.2 ≡ at v

-- A certificate: what it says of the root line and of each decomposition line, in the order of the
-- text, are candidates, and with just these the plan has an executable sequence in which the
-- precondition of each line stands at the index that is said
pub record Certifies (q : Setting) (c : Certificate) : Type 0 where
  pub matching : ℕ → List ℕ
  pub binding : ℕ → List ℕ
  pub at : ℕ → ℕ
  pub choice : meanings.Choice
  pub root :
      AmountsTo q (root_number q.tree) (matching (root_number q.tree))
      (binding (root_number q.tree))
      choice.root
  pub nodes :
      (v : ℕ) → v < root_number q.tree → AmountsTo q v (matching v) (binding v) (choice.line v)
  pub says_root :
      Says q (root_number q.tree) (matching (root_number q.tree))
      (binding (root_number q.tree)) c.root
  pub says_lines : AllZip (SaysLine q matching binding at) (line_numbers q.tree) c.lines.items
  pub sequence : HasSequenceAt (tree_of q.tree) choice at (last q)

-- k of n formulas were evaluated, all of them where the answer is yes
pub record CountsTo (n : ℕ) (yes : Bool) (k : ℕ) : Type 0 where
  pub within : k ≤ n
  pub whole : yes ≡ true → k ≡ n

-- a plan of a tree of its world for which there is a certificate is solved
abbrev pub CertifiedPlans : Type 0
CertifiedPlans =
    (q : Setting) (c : Certificate) → IsTreeIn q.plan.world q.tree → Certifies q c → IsSolved q

-- why it is not said that a plan is solved: the first node without a candidate, or else that it is
-- not solved even where preconditions are taken as true, or is solved only there
abbrev pub IsUnsolvedBy : Setting → Unsolved → Type 0
IsUnsolvedBy q (unsolved.NoBinding line) = IsFirstWithout q line
IsUnsolvedBy q unsolved.OrderBroken =
    HaveCandidates q × (IsSolved (without_preconditions q) → ⊥)
IsUnsolvedBy q unsolved.PreconditionUnplaced =
    HaveCandidates q × IsSolved (without_preconditions q) × (IsSolved q → ⊥)
IsUnsolvedBy q unsolved.Memory = Unit {0}

-- why there are no rows
abbrev pub IsRowFault : Setting → RowFault → Type 0
IsRowFault q (faults.NoBinding line) = IsFirstWithout q line
IsRowFault q faults.Memory = Unit {0}
