use Rattle.std.proofs.Common.{subst}
use Rattle.std.specs.List.{All}
use Rattle.std.proofs.lemmas.List.Elements.{All-nil, All-more}
use Rattle.hv_world.specs.Bindings.{objects_in}
use Rattle.hv_world.specs.Views.{term_view}
use Rattle.hv_world.specs.declared.formula.Term.{Term}
use Rattle.hv_state.specs.inside.Gaps.{IsBound}
use Rattle.hv_state.proofs.SomeLemmas.{taken}
use Rattle.hv_state.proofs.gap.are_bound.Goals as goal

pub loop-term-init : goal.loop-term-init
loop-term-init c = All-nil (λ (t : Term). IsBound (objects_in c.args.binding.now) (term_view t))

pub loop-term-preserved : goal.loop-term-preserved
loop-term-preserved c = All-more (λ (t : Term). IsBound (objects_in c.args.binding.now) (term_view t)) c.args.terms.now c.loop-term.term-index _ c.loop-term-test.true c.loop-term.invariant (c.is_bound.ensures c.if-not-is_bound.false)

pub returns : goal.returns
returns c t = subst (All (λ (u : Term). IsBound (objects_in c.args.binding.now) (term_view u))) (taken c.args.terms.now c.loop-term.term-index c.loop-term-test.false) c.loop-term.invariant
