use Rattle.std.proofs.Common.{List, Bool, length, subst, IfOk}
use Rattle.std.specs.Prelude.{MatchBool}
use Rattle.hv_order.specs.Settings.{Setting, IsSolved}
use Rattle.hv_order.specs.inside.Memos.{KeepsOnly}
use Rattle.hv_order.specs.inside.Plain.{ArePlain}
use Rattle.hv_order.proofs.PlainNodes.{known_without}
use Rattle.hv_order.proofs.solution.is_solved_without.Goals as goal

pub is_solved-requires-clause-memo : goal.is_solved-requires-clause-memo
is_solved-requires-clause-memo c =
    let q = c.args.nodes in
    let plain = c.in_ok-plain.plain.items in
    let are : ArePlain q.plan.world q.tree plain = rw (c.world.ensures, c.tree.ensures) c.in_ok-plain.ensures in
    let P : List Bool → Type 0 = λ xs. KeepsOnly c.args.memo xs c.keep_only.new.self in
    let keeps : KeepsOnly c.args.memo plain c.keep_only.new.self = subst P c.deref.ensures.value c.keep_only.ensures in
    rw c.without_preconditions-nodes.ensures
    (known_without q c.requires.setting plain are (length q.tree.nodes) c.args.memo c.keep_only.new.self keeps c.requires.memo)

pub returns : goal.returns
returns c =
    let P : Setting → Type 0 = λ q. IfOk c.is_solved.result (λ b. MatchBool b (IsSolved q) (IsSolved q → ⊥)) in
    subst P c.without_preconditions-nodes.ensures c.is_solved.ensures.solved
