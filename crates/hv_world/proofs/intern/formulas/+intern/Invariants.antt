use Rattle.hv_syntax.specs.Views.{formula_view as said_formula}
use Rattle.hv_world.specs.StaticRules.{formula_faults}
use Rattle.hv_world.specs.inside.Tables.{known_by, scope_view}
use Rattle.hv_world.specs.Views.{formula_view}
use Rattle.hv_world.specs.Worlds.{formula_in}
use Rattle.hv_world.proofs.CheckedLemmas.{AreChecked}
use Rattle.hv_world.proofs.intern.formulas.+intern.Given as goal

abbrev pub invariant-checked_formulas-loop-formula : goal.invariant-checked_formulas-loop-formula
invariant-checked_formulas-loop-formula l = AreChecked said_formula (formula_in (known_by l.tables) (scope_view l.scope)) formula_view (formula_faults (known_by l.tables) l.side (scope_view l.scope)) l.formulas l.formula-index l.numbered.value.items l.numbered.fault
