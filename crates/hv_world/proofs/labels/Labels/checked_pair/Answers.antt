use Rattle.std.proofs.Common.{not, is_some, refl, ap, ◌∙◌}
use Rattle.hv_syntax.specs.NetworkViews.{pair_view}
use Rattle.hv_syntax.specs.Values.{WordAt}
use Rattle.hv_world.specs.Faults.{fault_if}
use Rattle.hv_world.specs.declared.fault.StaticKind.TheVariants as kinds
use Rattle.hv_world.specs.inside.LabelViews.{numbers_by}
use Rattle.hv_world.specs.inside.Tables.{places_by}
use Rattle.hv_world.proofs.CheckLemmas.{pair_is}
use Rattle.hv_world.proofs.LabelLemmas.{pair_numbered}
use Rattle.hv_world.proofs.labels.Labels.checked_pair.Goals as goal

pub returns-clause-value : goal.returns-clause-value
returns-clause-value c xs known =
    pair_numbered (numbers_by c.args.self.now) xs xs (pair_view c.args.pair) _ _ _ _ known refl (ap (λ w. w.text) c.earlier.ensures) (ap (λ w. w.text) c.later.ensures)
    c.checked_number-before.ensures.value c.checked_number-after.ensures.value

pub returns-clause-fault : goal.returns-clause-fault
returns-clause-fault c k ls is =
    let places = places_by c.args.self.now.places in
    let unknown = λ (w : WordAt). fault_if (not (is_some (places w.text))) kinds.UnknownLabel c.args.side w in
    c.earlier-fault.ensures
    ∙ pair_is k c.args.side places ls is (pair_view c.args.pair) _ _ (c.checked_number-before.ensures.fault ∙ ap unknown c.earlier.ensures)
    (c.checked_number-after.ensures.fault ∙ ap unknown c.later.ensures)
