use Rattle.std.proofs.Common.{arith}
use Rattle.hv_syntax.specs.Views.{term_view as said_term}
use Rattle.hv_world.specs.StaticRules.{term_faults}
use Rattle.hv_world.specs.inside.Tables.{known_by, scope_view}
use Rattle.hv_world.specs.Views.{term_view}
use Rattle.hv_world.specs.Worlds.{term_in}
use Rattle.hv_world.proofs.CheckedLemmas.{one_more}
use Rattle.hv_world.proofs.intern.terms.checked_terms.Goals as goal

pub loop-term-preserved : goal.loop-term-preserved
loop-term-preserved c =
    let l = c.loop-term in
    let a = c.args in
    let k = known_by a.tables.now in
    let scope = scope_view a.scope.now in
    one_more said_term (term_in k scope) term_view (term_faults k a.side scope) a.terms.now l.term-index c.term-item.result l.numbered.items l.found l.invariant (omega arith) c.term-item.is c.in_ok-checked.ensures.value c.in_ok-checked.ensures.fault c.in_ok-push.ensures.ok c.earlier-found.ensures
