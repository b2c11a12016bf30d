use Rattle.std.proofs.Common.{◌<◌, ◌*◌, ◌++◌, ◌∷◌, [], ℕ, List, length, get_or, ap, sym, ◌∙◌, subst}
use Rattle.hv_world.specs.Alike.{is_free}
use Rattle.hv_world.specs.Worlds.{terms_of}
use Rattle.hv_world.specs.MethodViews.{method_view}
use Rattle.hv_world.specs.WorldViews.{world_view}
use Rattle.hv_match.specs.Counts.{product}
use Rattle.hv_match.specs.inside.Numbers.{in_64_bits}
use Rattle.hv_match.proofs.CountLemmas.{kept_in, one_factor, more_choices}
use Rattle.hv_match.proofs.counts.times_choices.Goals as goal

pub choices-requires : goal.choices-requires
choices-requires c =
    let m = method_view c.args.method.now in
    let i = c.loop-parameter.parameter-index in
    let P : List ℕ → Type 0 = λ is. i < length is → get_or is i 0 < length m.parameters in
    subst P (sym c.free_parameters-parameter-items.ensures) (kept_in (is_free (terms_of m.task) m.network.subtasks) (length m.parameters) i) c.loop-parameter-test.true

pub loop-parameter-preserved : goal.loop-parameter-preserved
loop-parameter-preserved c =
    let w = world_view c.args.world.now in
    let m = method_view c.args.method.now in
    let i = c.loop-parameter.parameter-index in
    let is = c.free_parameters-parameter-items.result.now in
    let ns = c.loop-parameter.invariant.0 in
    let k = c.choices.result in (
      ns ++ k ∷ [],
      more_choices w m is ns i k c.loop-parameter-test.true c.choices.ensures c.loop-parameter.invariant.1,
      λ n e. c.times-product.ensures (n * product ns) (c.loop-parameter.invariant.2 n e) ∙ ap in_64_bits (one_factor n k ns),
    )
