use Rattle.std.proofs.Common.{List, Bool, length, sym, subst}
use Rattle.hv_world.specs.Worlds.{World}
use Rattle.hv_plan.specs.BuiltTrees.{tree_view}
use Rattle.hv_plan.specs.PlanTrees.{PlanTree}
use Rattle.hv_order.specs.inside.Writings.{AreBound}
use Rattle.hv_order.proofs.PlainNodes.{bound_by}
use Rattle.hv_order.proofs.PlanWalks.{first_told, none_told}
use Rattle.hv_order.proofs.solution.why_unsolved.Goals as goal

pub first_without-requires-clause-bound : goal.first_without-requires-clause-bound
first_without-requires-clause-bound c =
    let q = c.args.nodes in
    let bound = c.in_ok-bound.bound.items in
    let here : AreBound q.plan.world q.tree bound = λ v on. bound_by q c.requires.setting (length q.tree.nodes) c.args.memo c.requires.memo v (c.in_ok-bound.ensures v on) in
    let t = tree_view c.tree.result.now in
    let Q : PlanTree → Type 0 = λ x. AreBound q.plan.world x bound in
    let P : World → Type 0 = λ w. AreBound w t bound in
    let R : List Bool → Type 0 = λ xs. AreBound c.matcher.result.now t xs in
    subst R (sym c.deref.ensures.value) (subst P (sym c.matcher.ensures) (subst Q c.tree.ensures here))

pub returns-in-Some : goal.returns-in-Some
returns-in-Some c =
    first_told c.matcher.result.now (tree_view c.tree.result.now) c.in_ok-line.field-0 c.in-Some.line c.in_ok-line.ensures c.in-Some.is
    c.args.nodes (sym c.matcher.ensures, c.tree.ensures)

pub returns-then-branch : goal.returns-then-branch
returns-then-branch c = (
  none_told c.matcher.result.now (tree_view c.tree.result.now) c.in_ok-line.field-0 c.in_ok-line.ensures c.in_default.is
      c.args.nodes (sym c.matcher.ensures, c.tree.ensures),
  rw c.if-branch.true at c.in_ok-is_solved_without.ensures,
  c.requires.none,
)

pub returns : goal.returns
returns c = (
  none_told c.matcher.result.now (tree_view c.tree.result.now) c.in_ok-line.field-0 c.in_ok-line.ensures c.in_default.is
      c.args.nodes (sym c.matcher.ensures, c.tree.ensures),
  rw c.if-branch.false at c.in_ok-is_solved_without.ensures,
)
