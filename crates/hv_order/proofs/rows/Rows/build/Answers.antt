use Rattle.std.proofs.Common.{refl, sym, ap, ◌∙◌, subst}
use Rattle.hv_plan.specs.BuiltTrees.{tree_view}
use Rattle.hv_order.specs.Settings.{Setting, setting, HaveCandidates}
use Rattle.hv_order.proofs.PlanWalks.{first_told, none_told}
use Rattle.hv_order.proofs.rows.Rows.build.Goals as goal

pub rows_of-requires-clause-candidates : goal.rows_of-requires-clause-candidates
rows_of-requires-clause-candidates c =
    let P : Setting → Type 0 = λ q. HaveCandidates q in
    subst P (sym c.in_ok-nodes-in-None.ensures)
    (none_told c.args.matcher.now (tree_view c.args.tree.now) c.in_ok-line.field-0 c.in_ok-line.ensures c.in-None.is
    (setting (tree_view c.args.tree.now) c.args.trace.now c.args.is_with) (ap (λ p. p.world) c.requires.trace ∙ sym c.requires.world, refl))

pub returns-in-Some-clause-fault : goal.returns-in-Some-clause-fault
returns-in-Some-clause-fault c =
    first_told c.args.matcher.now (tree_view c.args.tree.now) c.in_ok-line.field-0 c.in-Some.line c.in_ok-line.ensures c.in-Some.is
    (setting (tree_view c.args.tree.now) c.args.trace.now c.args.is_with) (ap (λ p. p.world) c.requires.trace ∙ sym c.requires.world, refl)
