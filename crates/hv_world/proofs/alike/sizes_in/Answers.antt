use Rattle.std.proofs.Common.{◌≡◌, ℕ, map, ◌∙◌, rules}
use Rattle.std.specs.Map.Iter.{deref}
use Rattle.std.proofs.lemmas.Map.Iter.{iter_end}
use Rattle.hv_world.specs.declared.alike.Key as code_key
use Rattle.hv_world.proofs.AlikeLemmas.{sizes_alone}
use Rattle.hv_world.proofs.alike.sizes_in.Goals as goal

pub returns : goal.returns
returns c =
    let e : map deref c.loop-size.yielded ≡ map (λ (e : code_key.Key × ℕ). e.1) c.args.counts.now.entries = search (rules, iter_end) in
    c.loop-size.invariant ∙ e ∙ sizes_alone c.args.counts.now.entries
