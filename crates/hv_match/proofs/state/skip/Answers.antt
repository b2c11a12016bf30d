use Rattle.std.proofs.Common.{◌<◌, length, subst, arith}
use Rattle.hv_match.specs.inside.Search.{ArePassed}
use Rattle.hv_match.proofs.Turns.{skipped_coming, skipped_steps}
use Rattle.hv_match.proofs.state.skip.Goals as goal

pub returns-clause-coming : goal.returns-clause-coming
returns-clause-coming g c =
    let s = g.R.Rule.search c.args.rule.now in
    let a = c.args.at.now in
    let short : length a.chosen.items < s.levels = omega (arith, c.requires.place.short, c.if-is_whole.ensures, c.len.ensures) in
    let passed = subst (λ p. ArePassed s p a.next c.skip-at.result) c.deref.ensures.value c.skip-at.ensures in
    rw c.if-at.false (skipped_coming s.options s.good s.levels s.distinct s.width a c.requires.place short a.next c.skip-at.result passed.0 passed.1)

pub returns-clause-steps : goal.returns-clause-steps
returns-clause-steps g c =
    let s = g.R.Rule.search c.args.rule.now in
    let a = c.args.at.now in
    let short : length a.chosen.items < s.levels = omega (arith, c.requires.place.short, c.if-is_whole.ensures, c.len.ensures) in
    let passed = subst (λ p. ArePassed s p a.next c.skip-at.result) c.deref.ensures.value c.skip-at.ensures in
    rw c.if-at.false (skipped_steps s.options s.good s.levels s.distinct s.width a c.requires.place short a.next c.skip-at.result passed.0 passed.1)
