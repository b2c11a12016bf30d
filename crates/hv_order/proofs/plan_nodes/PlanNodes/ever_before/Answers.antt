use Rattle.std.proofs.Common.{◌≡◌, Some, ap, ◌∙◌, subst, arith}
use Rattle.hv_state.specs.Ever.{ever_rows}
use Rattle.hv_plan.specs.BuiltTrees.{tree_view}
use Rattle.hv_order.specs.Settings.{Setting, setting}
use Rattle.hv_order.specs.inside.Firsts.{first_of}
use Rattle.hv_order.specs.inside.Listers.{IsEver}
use Rattle.hv_order.specs.declared.spans.Spans.{Spans}
use Rattle.hv_order.proofs.FirstLemmas.{node_before}
use Rattle.hv_order.proofs.plan_nodes.PlanNodes.ever_before.Goals as goal

pub returns-then-self : goal.returns-then-self
returns-then-self c =
    let t = c.self.inside in
    let q : Setting = setting (tree_view t.tree.now) t.trace.now t.is_with in
    let known = c.self.invariant in
    let firsts = t.spans.value.firsts.items in
    let v = c.args.node in
    let first : c.first_at.result ≡ first_of firsts v =
    c.first_at.ensures ∙ ap (λ xs. first_of xs v) (c.deref-then-self.ensures.value ∙ ap (λ (s : Spans). s.firsts.items) c.deref.ensures) in
    let small = known.is_setting.small in
    let latest = c.max-latest.ensures in
    let P : Setting → Type 0 = λ x. IsEver x v c.args.start (Some (ever_rows c.ever_true.result)) in
    subst P c.self.view_is (
      c.if-self.true,
      λ k f g low within fits h.
          let before = node_before q firsts known.spanned.firsts v k k f (omega (arith, within, small)) (omega arith) fits in
          c.ever_true.ensures k g low (omega (arith, before, first, latest)) h,
    )
