use Rattle.std.proofs.Common.{◌≡◌, ℕ, ◌+◌, List, length, sym, ap, ◌∙◌, subst, Option, Some, None}
use Rattle.std.specs.Prelude.{map, min}
use Rattle.hv_world.specs.Bindings.{object_number}
use Rattle.hv_world.specs.MethodViews.{method_view}
use Rattle.hv_world.specs.Values.{Formula}
use Rattle.hv_world.specs.Views.{formula_view}
use Rattle.hv_world.specs.Worlds.{World}
use Rattle.hv_world.specs.declared.id.ObjectId.{ObjectId}
use Rattle.hv_state.specs.Changes as changes
use Rattle.hv_plan.specs.BuiltTrees.{tree_view}
use Rattle.hv_match.specs.Candidates.{method_at}
use Rattle.hv_order.specs.Settings.{Setting, setting}
use Rattle.hv_order.specs.inside.Arrangements.{arrangement_of}
use Rattle.hv_order.specs.inside.Facts.{IsFirstTrue}
use Rattle.hv_order.specs.inside.PlanFacts.{HoldsFor}
use Rattle.hv_order.specs.declared.trial.Stretch.{Stretch}
use Rattle.hv_order.proofs.TrueStretches.{nowhere_true, first_true}
use Rattle.hv_order.proofs.plan_nodes.PlanNodesNodes.first_true.Goals as goal

-- what is said of a formula and objects is said of their equals, and so of the ends of a range
said_of : (P : Formula → List ObjectId → ℕ → ℕ → Type 0) (f f' : Formula) (os os' : List ObjectId) (low low' high high' : ℕ) → f ≡ f' → os ≡ os' → low ≡ low' → high ≡ high' → P f os low high → P f' os' low' high'
said_of P f f' os os' low low' high high' e g h k p =
    subst (λ n. P f' os' low' n) k (subst (λ n. P f' os' n high) h (subst (λ os. P f' os low high) g (subst (λ f. P f os low high) e p)))

pub returns-in_err-first : goal.returns-in_err-first
returns-in_err-first c =
    let q : Setting = setting (tree_view c.self.inside.tree.now) c.self.inside.trace.now c.self.inside.is_with in
    let arranged = arrangement_of c.args.candidate.now in
    let m = method_view c.in_ok-method.method.now in
    let has = rw c.in_ok-method.was at c.method_if.ensures in
    let there : method_at q.plan.world q.tree arranged.node ≡ Some m = subst (λ (w : World). method_at w q.tree arranged.node ≡ Some m) (sym c.self.invariant.world_is) (sym has) in
    let end_is : c.len-end.result ≡ length q.plan.actions = c.len-end.ensures ∙ ap length c.actions.ensures ∙ ap length (sym c.self.invariant.is_setting.actions) in
    let told = rw c.in_err-first.was at c.first_true.ensures in
    let none =
    said_of (λ f os low high. changes.AreFalse q.plan f (map object_number os) low (high + 1))
    (formula_view c.precondition.result.now) m.precondition c.as_slice.result.now c.args.candidate.now.objects.items
    c.min.result (min c.args.from (length q.plan.actions)) c.min-2.result (min c.args.upto (length q.plan.actions))
    c.precondition.ensures c.as_slice.ensures.value (c.min.ensures ∙ ap (λ n. min c.args.from n) end_is) (c.min-2.ensures ∙ ap (λ n. min c.args.upto n) end_is) told in
    let P : Setting → Type 0 = λ q. IsFirstTrue (HoldsFor q arranged) c.args.from c.args.upto None in
    let Q : Option Stretch → Type 0 = λ o. IsFirstTrue (HoldsFor c.args.self.now arranged) c.args.from c.args.upto o in
    subst Q (sym c.from_residual-in_err-first.ensures) (subst P c.self.view_is (nowhere_true q arranged c.args.from c.args.upto m there c.if-not-self.false none))

pub returns : goal.returns
returns c =
    let q : Setting = setting (tree_view c.self.inside.tree.now) c.self.inside.trace.now c.self.inside.is_with in
    let arranged = arrangement_of c.args.candidate.now in
    let m = method_view c.in_ok-method.method.now in
    let has = rw c.in_ok-method.was at c.method_if.ensures in
    let there : method_at q.plan.world q.tree arranged.node ≡ Some m = subst (λ (w : World). method_at w q.tree arranged.node ≡ Some m) (sym c.self.invariant.world_is) (sym has) in
    let end_is : c.len-end.result ≡ length q.plan.actions = c.len-end.ensures ∙ ap length c.actions.ensures ∙ ap length (sym c.self.invariant.is_setting.actions) in
    let range = rw c.in_ok-range.was at c.whole.ensures in
    let told = rw c.in_ok-first.was at c.first_true.ensures in
    let found =
    said_of (λ f os low high. changes.IsFirstTrue q.plan f (map object_number os) low high c.in_ok-first.first c.in_ok-first.last)
    (formula_view c.precondition.result.now) m.precondition c.as_slice.result.now c.args.candidate.now.objects.items
    c.min.result (min c.args.from (length q.plan.actions)) c.min-2.result (min c.args.upto (length q.plan.actions))
    c.precondition.ensures c.as_slice.ensures.value (c.min.ensures ∙ ap (λ n. min c.args.from n) end_is) (c.min-2.ensures ∙ ap (λ n. min c.args.upto n) end_is) told in
    let r : Stretch = record { first = c.max.result; last = c.max-2.result } in
    let P : Setting → Type 0 = λ q. IsFirstTrue (HoldsFor q arranged) c.args.from c.args.upto (Some r) in
    subst P c.self.view_is
    (first_true q arranged c.args.from c.args.upto m there c.if-not-self.false range.2 c.in_ok-first.first c.in_ok-first.last r c.max.ensures c.max-2.ensures found)
