use Rattle.std.proofs.Common.{◌++◌, ◌∷◌, [], ap, subst, ◌∙◌}
use Rattle.hv_world.specs.inside.Lines.{IsLeft}
use Rattle.hv_world.proofs.LineLemmas.{walks_in, walks_out}
use Rattle.hv_world.proofs.nested.walk.Goals.{in-Leave, in-Enter+in_ok-enter-in-Enter+else-not-branch}
use Rattle.hv_world.proofs.nested.walk.Goals as goal

pub returns-in_default-clause-parts : goal.returns-in_default-clause-parts
returns-in_default-clause-parts c = λ is w listed waits parts. (c.loop.invariant.1 w listed waits parts).1

pub loop-preserved : goal.loop-preserved
loop-preserved c = (
  c.match-step.auto.spans ∙ c.loop.invariant.0,
  λ v listed waits parts.
      let before = c.loop.invariant.1 v listed waits parts in
      let left = c.pop.new.self.items in
      elim c.match-step.branch [
        | in-Leave w ↦
            let split = c.in-Some.ensures.items ∙ ap (λ x. left ++ x ∷ []) w.in-Leave.is in
            rw (w.line-is, w.waiting-is, w.spans-is)
            (walks_out v c.loop.line c.loop.waiting.items left w.in-Leave.of w.in-Leave.start c.loop.spans w.leave.new.spans split (subst (λ n. IsLeft c.loop.spans w.in-Leave.of.0 w.in-Leave.start n w.leave.new.spans) w.len.ensures w.leave.ensures.span) before)
        | in-Enter+in_ok-enter-in-Enter+else-not-branch w ↦
            let split = c.in-Some.ensures.items ∙ ap (λ x. left ++ x ∷ []) w.in-Enter.is in
            let done = w.in_ok-enter-in-Enter.ensures w.if-not-branch.false in
            rw (w.line-is, w.waiting-is, w.spans-is)
            (walks_in v c.args.graph.now c.args.lists.now listed c.loop.line w.enter.new.line c.loop.waiting.items left w.enter.new.waiting.items w.in-Enter.of _ w.below.result.now c.loop.spans w.own.ensures w.below.ensures split done.0 done.1 before)
      ],
)
