use Rattle.std.proofs.Common.{◌≡◌, Some, [], ◌∷◌, ◌++◌, map, take, sym, ap, ◌∙◌, length, ◌<◌, arith, rules}
use Rattle.std.proofs.lemmas.List.{map-append}
use Rattle.hv_world.specs.Alike.{key, classes, number_in}
use Rattle.hv_world.specs.inside.Kept.{counted, counts_in, key_view}
use Rattle.hv_world.specs.Views.{subtask_view}
use Rattle.hv_world.proofs.AlikeLemmas.{take_more, take_whole, seen_there, classes_more, room_left, taken_within}
use Rattle.hv_world.proofs.ClassLemmas.{counted_keeps, numbers_more}
use Rattle.hv_world.proofs.alike.Classes.new.Goals as goal

pub loop-subtask-preserved : goal.loop-subtask-preserved
loop-subtask-preserved c =
    let l = c.loop-subtask in
    let s = c.subtask-item.result in
    let xs = c.args.subtasks.now in
    let all = map subtask_view xs in
    let ss = map subtask_view (take l.subtask-index xs) in
    let k = key all (subtask_view s) in
    let more = take_more subtask_view xs l.subtask-index s c.loop-subtask-test.true ∙ ap (λ z. ss ++ subtask_view z ∷ []) (sym c.subtask-item.is) in
    let is = c.in_ok-key.ensures all c.in_ok-fixed.ensures (seen_there subtask_view xs l.subtask-index s c.loop-subtask-test.true c.subtask-item.is) in
    let one_more : counts_in c.count.new.sizes ≡ counted k (counts_in l.counts) = c.in_ok-number.ensures.counted ∙ ap (λ j. counted j (counts_in l.counts)) is in
    let found : number_in k (counts_in c.count.new.sizes) ≡ Some c.in_ok-number.number = ap (λ j. number_in j (counts_in c.count.new.sizes)) (sym is) ∙ c.in_ok-number.ensures.number in (
      one_more ∙ ap (counted k) l.invariant.0
          ∙ sym (classes_more (map (key all) ss) k) ∙ ap classes (sym (map-append (key all) ss (subtask_view s ∷ []))) ∙ ap (λ zs. classes (map (key all) zs)) (sym more),
      ap (map (λ s. number_in (key all s) (counts_in c.count.new.sizes))) more
          ∙ numbers_more (key all) (counts_in l.counts) (counts_in c.count.new.sizes) (λ j i e. ap (number_in j) one_more ∙ counted_keeps j k (counts_in l.counts) i e) ss l.numbers.items (subtask_view s) c.in_ok-number.number l.invariant.1 found
          ∙ ap (map Some) (sym c.in_ok-push.ensures.items),
    )

pub returns : goal.returns
returns c =
    let l = c.loop-subtask in
    let all = map subtask_view c.args.subtasks.now in
    let whole = take_whole l.subtask-index c.args.subtasks.now c.loop-subtask-test.false in
    let counts : counts_in l.counts ≡ classes (map (key all) all) = l.invariant.0 ∙ ap (λ xs. classes (map (key all) (map subtask_view xs))) whole in
    let kept : counts_in c.shrink_to_fit.new.self ≡ classes (map (key all) all) = ap (λ es. map (λ e. (key_view e.0, e.1)) es) c.shrink_to_fit.ensures.entries ∙ counts in
    record {
      fixed = c.in_ok-fixed.ensures;
      counts = kept;
      sizes = c.in_ok-sizes.ensures ∙ ap (map (λ c. c.1)) kept;
      numbers = ap (λ cs. map (λ s. number_in (key all s) cs) all) (sym counts) ∙ ap (λ xs. map (λ s. number_in (key all s) (counts_in l.counts)) (map subtask_view xs)) (sym whole) ∙ l.invariant.1;
    }

pub count-requires : goal.count-requires
count-requires c =
    let l = c.loop-subtask in
    let xs = c.args.subtasks.now in
    let ks = map (key (map subtask_view xs)) (map subtask_view (take l.subtask-index xs)) in
    let end : length xs < 18446744073709551616 = search rules in
    record { small = room_left 18446744073709551616 l.subtask-index ks (counts_in l.counts) l.invariant.0 (taken_within _ subtask_view l.subtask-index xs) (omega (arith, end, c.loop-subtask-test.true)) }
