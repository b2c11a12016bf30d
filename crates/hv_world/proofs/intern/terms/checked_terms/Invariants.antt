use Rattle.hv_syntax.specs.Views.{term_view as said_term}
use Rattle.hv_world.specs.StaticRules.{term_faults}
use Rattle.hv_world.specs.inside.Tables.{known_by, scope_view}
use Rattle.hv_world.specs.Views.{term_view}
use Rattle.hv_world.specs.Worlds.{term_in}
use Rattle.hv_world.proofs.CheckedLemmas.{AreChecked}
use Rattle.hv_world.proofs.intern.terms.checked_terms.Given as goal

abbrev pub invariant-loop-term : goal.invariant-loop-term
invariant-loop-term l = AreChecked said_term (term_in (known_by l.tables) (scope_view l.scope)) term_view (term_faults (known_by l.tables) l.side (scope_view l.scope)) l.terms l.term-index l.numbered.items l.found
