use Rattle.std.proofs.Common.{ap, ◌∙◌, map, arith}
use Rattle.hv_syntax.specs.Values.{effect}
use Rattle.hv_syntax.specs.Views.{variable_view, item_view}
use Rattle.hv_world.specs.Known.{variables}
use Rattle.hv_world.specs.Scopes.{inside}
use Rattle.hv_world.specs.StaticRules.{variable_faults, item_faults, effect_faults}
use Rattle.hv_world.specs.inside.Tables.{known_by, scope_view}
use Rattle.hv_world.specs.Views.{effect_view}
use Rattle.hv_world.specs.Worlds.{effect_in}
use Rattle.hv_world.specs.Faults.{least}
use Rattle.hv_world.specs.Values.{effects_of}
use Rattle.hv_world.proofs.FaultLemmas.{least-both}
use Rattle.hv_world.proofs.InternLemmas.{each_effect_in, each_effect_fault}
use Rattle.hv_world.proofs.CheckedLemmas.{one_more, all_checked}
use Rattle.hv_world.proofs.intern.effects.+effects.Goals as goal

pub checked_effects-loop-item-preserved : goal.checked_effects-loop-item-preserved
checked_effects-loop-item-preserved t c =
    let l = c.loop-item in
    let a = c.args in
    let k = known_by a.tables.now in
    let scope = scope_view a.scope.now in
    one_more item_view (effect_in k scope) effect_view (item_faults k a.side scope) a.items.now l.item-index c.item-item.result l.numbered.value.items l.numbered.fault l.invariant (omega arith) c.item-item.is c.in_ok-checked_effect.ensures.value c.in_ok-checked_effect.ensures.fault c.in_ok-push.ensures.value c.in_ok-push.ensures.fault

pub checked_effects-returns-clause-value : goal.checked_effects-returns-clause-value
checked_effects-returns-clause-value t c =
    let l = c.loop-item in
    let a = c.args in
    let k = known_by a.tables.now in
    let scope = scope_view a.scope.now in
    let all = all_checked item_view (effect_in k scope) effect_view (item_faults k a.side scope) a.items.now l.item-index l.numbered.value.items l.numbered.fault (omega arith) l.invariant in
    ap effects_of all.0 ∙ each_effect_in k scope (map item_view a.items.now)

pub checked_effects-returns-clause-fault : goal.checked_effects-returns-clause-fault
checked_effects-returns-clause-fault t c =
    let l = c.loop-item in
    let a = c.args in
    let k = known_by a.tables.now in
    let scope = scope_view a.scope.now in
    let all = all_checked item_view (effect_in k scope) effect_view (item_faults k a.side scope) a.items.now l.item-index l.numbered.value.items l.numbered.fault (omega arith) l.invariant in
    all.1 ∙ ap least (each_effect_fault k a.side scope (map item_view a.items.now))

pub checked_quantified-returns-clause-fault : goal.checked_quantified-returns-clause-fault
checked_quantified-returns-clause-fault t c =
    let a = c.args in
    let list = map variable_view a.list.now in
    let k = known_by a.tables.now in
    c.new.ensures.fault ∙ c.earlier-fault.ensures
    ∙ least-both (variable_faults k a.side list) (effect_faults k a.side (inside (scope_view a.scope.now) (variables list)) (effect (map item_view a.items.now))) _ _
    c.in_ok-types.ensures.fault c.in_ok-effects.ensures.fault
