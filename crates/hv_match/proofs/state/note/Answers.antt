use Rattle.std.proofs.Common.{◌≡◌, ◌<◌, length, arith}
use Rattle.std.proofs.lemmas.List.{take_all}
use Rattle.hv_match.specs.inside.States.{AreTold}
use Rattle.hv_match.proofs.Told.{take_short, told_more}
use Rattle.hv_match.proofs.state.note.Goals as goal

pub returns-then-is_distinct-clause-told : goal.returns-then-is_distinct-clause-told
returns-then-is_distinct-clause-told g c =
    let q = c.args.at.now.chosen.items in
    let n = (g.R.Rule.search c.args.rule.now).distinct in
    let level : c.len-level.result ≡ length q = omega (arith, c.len-level.ensures, c.args.at.now.chosen.ok.0) in
    let low : length q < n = omega (arith, c.if-is_distinct.ensures.level, level) in
    let told : AreTold c.args.at.now.made_at.items q = rw (take_all n q (omega arith)) at c.requires.place.told in
    rw (take_short n q c.args.choice low, level) (told_more c.args.at.now.made_at.items q c.args.choice told (c.requires.other low) (omega (arith, c.requires.within low, c.requires.place.wide)))
