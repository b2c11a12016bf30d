use Rattle.std.proofs.Common.{length, subst}
use Rattle.std.specs.List.{All}
use Rattle.std.proofs.lemmas.List.Elements.{All-nil, All-more, All-map}
use Rattle.hv_world.specs.Bindings.{objects_in}
use Rattle.hv_world.specs.Views.{term_view}
use Rattle.hv_world.specs.declared.formula.Term.{Term}
use Rattle.hv_state.specs.inside.Lacks.{IsOther}
use Rattle.hv_state.proofs.SomeLemmas.{taken}
use Rattle.hv_state.proofs.lacks.are_other.Goals as goal

pub loop-term-init : goal.loop-term-init
loop-term-init c = All-nil (λ (t : Term). IsOther (length (objects_in c.args.binding.now)) (term_view t))

pub loop-term-preserved : goal.loop-term-preserved
loop-term-preserved c = All-more (λ (t : Term). IsOther (length (objects_in c.args.binding.now)) (term_view t)) c.args.terms.now c.loop-term.term-index _ c.loop-term-test.true c.loop-term.invariant (c.is_other.ensures c.if-not-is_other.false)

pub returns : goal.returns
returns c t =
    let v = length (objects_in c.args.binding.now) in
    let all = subst (All (λ (u : Term). IsOther v (term_view u))) (taken c.args.terms.now c.loop-term.term-index c.loop-term-test.false) c.loop-term.invariant in
    All-map (IsOther v) term_view c.args.terms.now all
