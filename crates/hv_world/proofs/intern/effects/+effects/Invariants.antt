use Rattle.hv_syntax.specs.Views.{item_view}
use Rattle.hv_world.specs.StaticRules.{item_faults}
use Rattle.hv_world.specs.inside.Tables.{known_by, scope_view}
use Rattle.hv_world.specs.Views.{effect_view}
use Rattle.hv_world.specs.Worlds.{effect_in}
use Rattle.hv_world.proofs.CheckedLemmas.{AreChecked}
use Rattle.hv_world.proofs.intern.effects.+effects.Given as goal

abbrev pub invariant-checked_effects-loop-item : goal.invariant-checked_effects-loop-item
invariant-checked_effects-loop-item l = AreChecked item_view (effect_in (known_by l.tables) (scope_view l.scope)) effect_view (item_faults (known_by l.tables) l.side (scope_view l.scope)) l.items l.item-index l.numbered.value.items l.numbered.fault
