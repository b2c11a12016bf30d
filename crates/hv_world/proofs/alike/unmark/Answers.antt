use Rattle.std.proofs.Common.{◌∙◌}
use Rattle.hv_world.specs.inside.Kept.{is_marked}
use Rattle.hv_world.proofs.AlikeLemmas.{unmark_more}
use Rattle.hv_world.proofs.alike.unmark.Goals as goal

pub loop-term-preserved : goal.loop-term-preserved
loop-term-preserved c = (
  c.unmark_term.ensures.len ∙ c.loop-term.invariant.0,
  λ k. unmark_more k c.args.terms.now c.loop-term.term-index _ (is_marked c.args.marks.now k) (is_marked c.loop-term.marks k) (is_marked c.unmark_term.new.marks k) c.loop-term-test.true
      (c.unmark_term.ensures.marks k) (c.loop-term.invariant.1 k),
)
