use Rattle.std.proofs.Common.{[], not, ap, ◌∙◌, arith}
use Rattle.hv_syntax.specs.Views.{word_view, constant_view as said_constant}
use Rattle.hv_world.specs.declared.fault.Side.TheVariants as sides
use Rattle.hv_world.specs.Scopes.{parameters}
use Rattle.hv_world.specs.StaticRules.{term_faults}
use Rattle.hv_world.specs.inside.Tables.{known_by}
use Rattle.hv_world.specs.Values.{object}
use Rattle.hv_world.specs.Worlds.{term_in}
use Rattle.hv_world.specs.Names.{is_among}
use Rattle.hv_world.specs.declared.fault.StaticKind.TheVariants as kinds
use Rattle.hv_world.proofs.FaultLemmas.{least-if}
use Rattle.hv_world.proofs.CheckedLemmas.{one_more}
use Rattle.hv_world.proofs.intern.literals.checked_names.Goals as goal

pub loop-name-preserved : goal.loop-name-preserved
loop-name-preserved c =
    let l = c.loop-name in
    let a = c.args in
    let k = known_by a.tables.now in
    let word = word_view c.name-item.result in
    let value = ap object (c.in_ok-short.ensures ∙ c.checked_object-checked.ensures.value) in
    let fault = c.checked_object-checked.ensures.fault ∙ least-if (not (is_among k.objects word.text)) kinds.UnknownObject sides.Problem word in
    one_more said_constant (term_in k (parameters [])) object (term_faults k sides.Problem (parameters [])) a.names.now l.name-index c.name-item.result l.objects.items l.found l.invariant (omega arith) c.name-item.is value fault c.in_ok-push.ensures.items c.earlier-found.ensures
