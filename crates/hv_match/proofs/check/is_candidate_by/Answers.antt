use Rattle.std.proofs.Common.{◌≡◌, ◌∙◌, ℕ, List, true, length, map, sym, ap, subst}
use Rattle.std.proofs.lemmas.List.{length-map}
use Rattle.std.specs.List.{AllZip}
use Rattle.hv_world.specs.Bindings.{object_number}
use Rattle.hv_world.specs.MethodViews.{method_view}
use Rattle.hv_world.specs.Values.{Subtask, Constraint}
use Rattle.hv_world.specs.Views.{subtask_view, constraint_view}
use Rattle.hv_world.specs.Worlds.{Network, terms_of}
use Rattle.hv_world.specs.WorldViews.{world_view}
use Rattle.hv_plan.specs.BuiltTrees.{tree_view}
use Rattle.hv_world.specs.Groundings.{AreOf}
use Rattle.hv_plan.specs.TreeViews.{child_view, node_view}
use Rattle.hv_match.specs.Candidates.{Does, child_task, child_tasks}
use Rattle.hv_match.specs.inside.Checks.{AreAllPlaces}
use Rattle.hv_match.specs.inside.Puzzles.{same_values, all_hold}
use Rattle.hv_match.proofs.Checking.{none, candidate_is, all_places, same_task, constraints_hold}
use Rattle.hv_match.proofs.check.is_candidate_by.Goals as goal
use Rattle.hv_match.proofs.check.is_candidate_by.Goals.{then-is_once, else-is_once, then-are_of, else-are_of, then-are_values, else-are_values}

pub returns-then-all_do : goal.returns-then-all_do
returns-then-all_do c =
    let w = world_view c.args.world.now in
    let m = method_view c.args.method.now in
    let n = node_view c.args.node.now in
    let cs = child_tasks (tree_view c.args.tree.now) n in
    let M = c.args.children.now in
    let B = map object_number c.args.objects.now in
    let many : length c.children.result.now ≡ length cs = sym (length-map c.children.result.now child_view) ∙ ap length c.children.ensures ∙ sym (length-map n.children (child_task (tree_view c.args.tree.now))) in
    let values : c.in_ok-values.values.now ≡ B = c.in_ok-values.ensures in
    let once : c.in_ok-is_once.is_once ≡ true → AreAllPlaces (length cs) M =
    subst (λ (k : ℕ). c.in_ok-is_once.is_once ≡ true → AreAllPlaces k M) many c.in_ok-is_once.ensures.0 in
    let typed : c.if-is_once.value ≡ true → (c.in_ok-is_once.is_once ≡ true) × AreOf w.typing B m.parameters = elim c.if-is_once.branch [
      | then-is_once s ↦ λ e. (s.if-is_once.true, rw s.parameters.ensures at (s.are_of.ensures.0 (sym s.value-is ∙ e)))
      | else-is_once s ↦ λ e. absurd (none (sym s.value-is ∙ e) s.if-is_once.false)
    ] in
    let same : c.if-are_of.value ≡ true → (c.if-is_once.value ≡ true) × (same_values B (terms_of m.task) n.objects ≡ true) = elim c.if-are_of.branch [
      | then-are_of s ↦ let is : s.are_values.result ≡ same_values B (terms_of m.task) n.objects = rw (values, s.terms.ensures, s.objects.ensures) at s.are_values.ensures in λ e. (s.if-are_of.true, sym is ∙ sym s.value-is ∙ e)
      | else-are_of s ↦ λ e. absurd (none (sym s.value-is ∙ e) s.if-are_of.false)
    ] in
    let done : c.if-are_values.value ≡ true → (c.if-are_of.value ≡ true) × AllZip (Does cs B) M m.network.subtasks = elim c.if-are_values.branch [
      | then-are_values s ↦
          let works : map (child_task (tree_view c.args.tree.now)) (map child_view s.children-then-are_values.result.now) ≡ cs = ap (map (child_task (tree_view c.args.tree.now))) s.children-then-are_values.ensures in
          let ss : map subtask_view s.subtasks.result.now ≡ m.network.subtasks = s.subtasks.ensures ∙ ap (λ (z : Network). z.subtasks) c.network-network.ensures in
          let here = rw (works, values) at s.all_do.ensures in
          let is : s.all_do.result ≡ true → AllZip (Does cs B) M m.network.subtasks =
          subst (λ (l : List Subtask). s.all_do.result ≡ true → AllZip (Does cs B) M l) ss here.0 in
          λ e. (s.if-are_values.true, is (sym s.value-is ∙ e))
      | else-are_values s ↦ λ e. absurd (none (sym s.value-is ∙ e) s.if-are_values.false)
    ] in
    let ks : map constraint_view c.constraints.result.now ≡ m.network.constraints = c.constraints.ensures ∙ ap (λ (z : Network). z.constraints) c.network-network.ensures in
    let here = rw values at c.all_hold.ensures in
    let is : c.all_hold.result ≡ all_hold B m.network.constraints = subst (λ (l : List Constraint). c.all_hold.result ≡ all_hold B l) ks here in (
      λ e. (let r = done c.if-all_do.true in let b = same r.0 in let a = typed b.0 in candidate_is w m n.objects cs M B (once a.0) a.1 b.1 r.1 (sym is ∙ e)),
      λ k. is ∙ constraints_hold w m n.objects cs M B k,
    )

pub returns-else-all_do : goal.returns-else-all_do
returns-else-all_do c =
    let w = world_view c.args.world.now in
    let m = method_view c.args.method.now in
    let n = node_view c.args.node.now in
    let cs = child_tasks (tree_view c.args.tree.now) n in
    let M = c.args.children.now in
    let B = map object_number c.args.objects.now in
    let many : length c.children.result.now ≡ length cs = sym (length-map c.children.result.now child_view) ∙ ap length c.children.ensures ∙ sym (length-map n.children (child_task (tree_view c.args.tree.now))) in
    let values : c.in_ok-values.values.now ≡ B = c.in_ok-values.ensures in
    let once : AreAllPlaces (length cs) M → c.in_ok-is_once.is_once ≡ true =
    subst (λ (k : ℕ). AreAllPlaces k M → c.in_ok-is_once.is_once ≡ true) many c.in_ok-is_once.ensures.1 in
    let typed : c.in_ok-is_once.is_once ≡ true → AreOf w.typing B m.parameters → c.if-is_once.value ≡ true = elim c.if-is_once.branch [
      | then-is_once s ↦ λ o a. s.value-is ∙ s.are_of.ensures.1 (rw s.parameters.ensures a)
      | else-is_once s ↦ λ o a. absurd (none o s.if-is_once.false)
    ] in
    let same : c.if-is_once.value ≡ true → same_values B (terms_of m.task) n.objects ≡ true → c.if-are_of.value ≡ true = elim c.if-are_of.branch [
      | then-are_of s ↦ let is : s.are_values.result ≡ same_values B (terms_of m.task) n.objects = rw (values, s.terms.ensures, s.objects.ensures) at s.are_values.ensures in λ o a. s.value-is ∙ is ∙ a
      | else-are_of s ↦ λ o a. absurd (none o s.if-are_of.false)
    ] in
    let done : c.if-are_of.value ≡ true → AllZip (Does cs B) M m.network.subtasks → c.if-are_values.value ≡ true = elim c.if-are_values.branch [
      | then-are_values s ↦
          let works : map (child_task (tree_view c.args.tree.now)) (map child_view s.children-then-are_values.result.now) ≡ cs = ap (map (child_task (tree_view c.args.tree.now))) s.children-then-are_values.ensures in
          let ss : map subtask_view s.subtasks.result.now ≡ m.network.subtasks = s.subtasks.ensures ∙ ap (λ (z : Network). z.subtasks) c.network-network.ensures in
          let here = rw (works, values) at s.all_do.ensures in
          let is : AllZip (Does cs B) M m.network.subtasks → s.all_do.result ≡ true =
          subst (λ (l : List Subtask). AllZip (Does cs B) M l → s.all_do.result ≡ true) ss here.1 in
          λ o a. s.value-is ∙ is a
      | else-are_values s ↦ λ o a. absurd (none o s.if-are_values.false)
    ] in (
      λ e. absurd (none e c.if-all_do.false),
      λ k. done (same (typed (once (all_places w m n.objects cs M B k)) k.typed) (same_task w m n.objects cs M B k)) k.done,
    )
