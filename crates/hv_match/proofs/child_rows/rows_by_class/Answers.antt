use Rattle.std.proofs.Common.{◌≡◌, ℕ, List, Option, length, map, take, option_map, sym, ap, ◌∙◌, subst, arith}
use Rattle.std.proofs.lemmas.List.{length-map, length-take-le, map_more}
use Rattle.std.specs.Global.{Vec}
use Rattle.hv_world.specs.NetworkViews.{network_view}
use Rattle.hv_match.specs.inside.Puzzles.{Work}
use Rattle.hv_match.specs.inside.Tables.{work_view, is_number, AreClassRows, HasPut}
use Rattle.hv_match.proofs.Rows.{all_empty, child_put, written_back}
use Rattle.hv_match.proofs.child_rows.rows_by_class.Goals as goal

pub loop-place-init : goal.loop-place-init
loop-place-init c =
    let rows = c.in_ok-rows.rows in (
      omega (arith, rows.ok.0, c.in_ok-rows.ensures.len, ap length c.class_sizes.ensures),
      λ i lt. all_empty c.new.result rows.items c.in_ok-rows.ensures.items c.new.ensures.items i,
    )

pub loop-place-preserved : goal.loop-place-preserved
loop-place-preserved c =
    let xs = c.args.children.now in
    let i = c.loop-place.place in
    let ss = (network_view c.args.network.now).subtasks in
    let cs = map (option_map work_view) (take i xs) in
    let old = c.loop-place.rows.items in
    let new = c.put.new.rows in
    let size : length cs ≡ i = length-map (take i xs) (option_map work_view) ∙ length-take-le i xs (omega (arith, c.loop-place-test.true)) in
    let more = map_more (option_map work_view) xs i _ c.loop-place-test.true in
    let was : c.deref_mut.result.now ≡ old = c.deref_mut.ensures.value in
    let as_long : length new ≡ length old = subst (λ l. length new ≡ length l) was c.in_ok-put.ensures.size in
    let put : HasPut c.in_ok-class.class i old new = subst (λ (l : List (Vec ℕ)). HasPut c.in_ok-class.class i l new) was c.in_ok-put.ensures.rows in
    let after = child_put ss cs _ c.in_ok-class.class i old new size c.loop-place.invariant.0 (λ n. ap (is_number n) c.in_ok-class.ensures) put c.loop-place.invariant.1 in
    let after' = subst (λ (cs : List (Option Work)). AreClassRows ss cs new) (sym more) after in
    rw (written_back c.loop-place.rows.len new old as_long (omega (arith, c.loop-place.rows.ok.0))) (as_long ∙ c.loop-place.invariant.0, after')
