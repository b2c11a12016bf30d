use Rattle.std.proofs.Common.{arith, map, sym}
use Rattle.std.proofs.lemmas.Result.{err_from_is_err_and}
use Rattle.hv_syntax.specs.Values.{effect}
use Rattle.hv_reading.specs.inside.Effects.{item_of}
use Rattle.hv_syntax.specs.Views.{item_view}
use Rattle.hv_reading.proofs.Lists.{headed_list, two_indexed, read_more}
use Rattle.hv_reading.proofs.Exits.{exits}
use Rattle.hv_reading.proofs.EffectLemmas.{items_read, forall_item, literal_item, item_read, item_fails, forall_read, forall_fails, literal_fails, no_members, quantified_read, not_two, not_and}
use Rattle.hv_reading.proofs.effect.+effect.Goals as goal

pub read_items-loop-e-preserved : goal.read_items-loop-e-preserved
read_items-loop-e-preserved t c =
    let l = c.loop-e in
    rw c.in_ok-push.ensures.items
    (read_more item_of item_view c.args.es.now l.e-index c.e-item.result l.items.items c.in_ok-read_item.field-0 _ (omega arith) c.e-item.is c.in_ok-read_item.ensures l.invariant)

pub read_forall-returns-then-others-ne2 : goal.read_forall-returns-then-others-ne2
read_forall-returns-then-others-ne2 t c = not_two c.args.others.now (λ e. c.if-others-ne2.true e)

pub read_forall-returns : goal.read_forall-returns
read_forall-returns t c =
    quantified_read c.args.others.now _ _ c.in_ok-variables.variables c.in_ok-items.items (two_indexed c.args.others.now _ _ c.if-others-ne2.false c.index-others-0.is c.index-others-1.is)
    c.in_ok-variables.ensures c.in_ok-items.ensures

pub read_item-returns-in-Forall : goal.read_item-returns-in-Forall
read_item-returns-in-Forall t c =
    let is = headed_list c.args.e.now c.head-item.result c.in-List.members _ c.in-List.field-1 c.in-Word.field-1 c.in-Word.name c.in-List.is c.as_slice.ensures.value c.in-len1-up.len_at_least c.head-item.is c.in-Word.is in
    forall_item _ _ _ _ _ _ is c.head_of.ensures (sym c.in-Forall.is) c.read_forall.result c.read_forall.ensures

pub read_item-returns-in_ok-read_literal-in_default-head_of : goal.read_item-returns-in_ok-read_literal-in_default-head_of
read_item-returns-in_ok-read_literal-in_default-head_of t c =
    let is = headed_list c.args.e.now c.head-item.result c.in-List.members _ c.in-List.field-1 c.in-Word.field-1 c.in-Word.name c.in-List.is c.as_slice.ensures.value c.in-len1-up.len_at_least c.head-item.is c.in-Word.is in
    literal_item _ _ _ _ _ _ is c.head_of.ensures (λ e. c.in_default-head_of.not-Forall (sym e)) c.in_ok-read_literal-in_default-head_of.field-0 c.in_ok-read_literal-in_default-head_of.ensures

pub read_item-returns-in_err-read_literal-in_default-head_of : goal.read_item-returns-in_err-read_literal-in_default-head_of
read_item-returns-in_err-read_literal-in_default-head_of t c =
    let is = headed_list c.args.e.now c.head-item.result c.in-List.members _ c.in-List.field-1 c.in-Word.field-1 c.in-Word.name c.in-List.is c.as_slice.ensures.value c.in-len1-up.len_at_least c.head-item.is c.in-Word.is in
    let r = c.from_residual in
    exits item_view _ _ _ _ (err_from_is_err_and r.result r.ensures.1) (literal_fails _ _ _ _ _ _ is c.head_of.ensures (λ e. c.in_default-head_of.not-Forall (sym e))) c.in_err-read_literal-in_default-head_of.ensures

pub read_effect_items-returns-in-empty : goal.read_effect_items-returns-in-empty
read_effect_items-returns-in-empty t c = no_members c.args.e.now c.in-List.members _ c.in-List.field-1 c.in-List.is c.as_slice.ensures.value c.in-empty.len_below c.new.result c.new.ensures.items

pub read_effect_items-returns-in-And : goal.read_effect_items-returns-in-And
read_effect_items-returns-in-And t c =
    let is = headed_list c.args.e.now c.head-item.result c.in-List.members _ c.in-List.field-1 c.in-Word.field-1 c.in-Word.name c.in-List.is c.as_slice.ensures.value c.in-len1-up.len_at_least c.head-item.is c.in-Word.is in
    items_read _ _ _ _ _ _ is c.head_of.ensures (sym c.in-And.is) c.read_items.result c.read_items.ensures

pub read_effect_items-returns-in_ok-read_forall-in-Forall : goal.read_effect_items-returns-in_ok-read_forall-in-Forall
read_effect_items-returns-in_ok-read_forall-in-Forall t c =
    let is = headed_list c.args.e.now c.head-item.result c.in-List.members _ c.in-List.field-1 c.in-Word.field-1 c.in-Word.name c.in-List.is c.as_slice.ensures.value c.in-len1-up.len_at_least c.head-item.is c.in-Word.is in
    let i = c.in_ok-read_forall-in-Forall.field-0 in
    item_read _ _ _ _ _ _ is c.head_of.ensures (not_and c.in-Forall.is) i (forall_read _ _ _ _ _ _ is c.head_of.ensures i (sym c.in-Forall.is) c.in_ok-read_forall-in-Forall.ensures) c.single.result c.single.ensures.ok c.single.ensures.err

pub read_effect_items-returns-in_err-read_forall-in-Forall : goal.read_effect_items-returns-in_err-read_forall-in-Forall
read_effect_items-returns-in_err-read_forall-in-Forall t c =
    let is = headed_list c.args.e.now c.head-item.result c.in-List.members _ c.in-List.field-1 c.in-Word.field-1 c.in-Word.name c.in-List.is c.as_slice.ensures.value c.in-len1-up.len_at_least c.head-item.is c.in-Word.is in
    let r = c.from_residual in
    exits (λ v. effect (map item_view v.items)) _ _ _ _ (err_from_is_err_and r.result r.ensures.1)
    (λ k. item_fails _ _ _ _ _ _ is c.head_of.ensures (not_and c.in-Forall.is) (forall_fails _ _ _ _ _ _ is c.head_of.ensures (sym c.in-Forall.is) k)) c.in_err-read_forall-in-Forall.ensures

pub read_effect_items-returns-in_ok-read_literal-in_default-head_of : goal.read_effect_items-returns-in_ok-read_literal-in_default-head_of
read_effect_items-returns-in_ok-read_literal-in_default-head_of t c =
    let is = headed_list c.args.e.now c.head-item.result c.in-List.members _ c.in-List.field-1 c.in-Word.field-1 c.in-Word.name c.in-List.is c.as_slice.ensures.value c.in-len1-up.len_at_least c.head-item.is c.in-Word.is in
    let l = c.in_ok-read_literal-in_default-head_of.field-0 in
    item_read _ _ _ _ _ _ is c.head_of.ensures (λ e. c.in_default-head_of.not-And (sym e)) _ (literal_item _ _ _ _ _ _ is c.head_of.ensures (λ e. c.in_default-head_of.not-Forall (sym e)) l c.in_ok-read_literal-in_default-head_of.ensures)
    c.single-in_default-head_of.result c.single-in_default-head_of.ensures.ok c.single-in_default-head_of.ensures.err

pub read_effect_items-returns-in_err-read_literal-in_default-head_of : goal.read_effect_items-returns-in_err-read_literal-in_default-head_of
read_effect_items-returns-in_err-read_literal-in_default-head_of t c =
    let is = headed_list c.args.e.now c.head-item.result c.in-List.members _ c.in-List.field-1 c.in-Word.field-1 c.in-Word.name c.in-List.is c.as_slice.ensures.value c.in-len1-up.len_at_least c.head-item.is c.in-Word.is in
    let r = c.from_residual-in_err-read_literal-in_default-head_of in
    exits (λ v. effect (map item_view v.items)) _ _ _ _ (err_from_is_err_and r.result r.ensures.1)
    (λ k. item_fails _ _ _ _ _ _ is c.head_of.ensures (λ e. c.in_default-head_of.not-And (sym e)) (literal_fails _ _ _ _ _ _ is c.head_of.ensures (λ e. c.in_default-head_of.not-Forall (sym e)) k)) c.in_err-read_literal-in_default-head_of.ensures
