use Rattle.std.proofs.Common.{◌≡◌, ◌∙◌, length, true, arith, get_or, ◌<◌}
use Rattle.std.proofs.lemmas.List.{get_or_default, take_all}
use Rattle.hv_lists.proofs.Contained.{contains_at}
use Rattle.hv_match.specs.inside.States.{AreTold}
use Rattle.hv_match.proofs.Told.{stands_nowhere, none_twice}
use Rattle.hv_match.proofs.state.is_made.Goals as goal

pub returns-then-is_distinct-clause-made : goal.returns-then-is_distinct-clause-made
returns-then-is_distinct-clause-made g c = λ t k.
    (let q = c.args.at.now.chosen.items in
    let low : length q < (g.R.Rule.search c.args.rule.now).distinct = omega (arith, c.if-is_distinct.ensures.level, c.len.ensures, c.args.at.now.chosen.ok.0) in
    let there = rw c.deref.ensures.value at c.stands.ensures.0 t in
    none_twice (g.R.Rule.search c.args.rule.now).options (g.R.Rule.search c.args.rule.now).good (g.R.Rule.search c.args.rule.now).distinct q c.args.choice low (contains_at q _ c.args.choice there) c.is_distinct.ensures.wanted k)

pub returns-then-is_distinct-clause-other : goal.returns-then-is_distinct-clause-other
returns-then-is_distinct-clause-other g c = λ f low m.
    (let q = c.args.at.now.chosen.items in
    let told : AreTold c.args.at.now.made_at.items q = rw (take_all (g.R.Rule.search c.args.rule.now).distinct q (omega arith)) at c.requires.place.told in
    let t = c.args.at.now.made_at.items in
    let at : c.index.result.now ≡ get_or t c.args.choice 0 = c.index.ensures ∙ get_or_default t c.args.choice _ 0 (omega (arith, c.requires.within low, c.requires.place.wide)) in
    stands_nowhere t q c.args.choice told (λ e. (let s : c.stands.result ≡ true = c.stands.ensures.1 (rw (c.deref.ensures.value, at) e) in cc)) m)
