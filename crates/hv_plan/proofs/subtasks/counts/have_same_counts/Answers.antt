use Rattle.std.proofs.Common.{◌≡◌, ◌≤◌, get_or, arith}
use Rattle.std.proofs.lemmas.List.Elements.{All-contains}
use Rattle.hv_plan.specs.inside.Tallies.{times}
use Rattle.hv_plan.proofs.TallyLemmas.{emptied, same_or_not, counted_left}
use Rattle.hv_plan.proofs.subtasks.counts.have_same_counts.Goals as goal

pub returns-then-covers-clause-same : goal.returns-then-covers-clause-same
returns-then-covers-clause-same c =
    same_or_not c.args.one.now c.args.other.now (λ n. get_or c.take_all-covers.new.counts n 0) c.are_spent-are_spent.result
    (counted_left c.args.one.now c.args.other.now c.add_all.new.counts c.take_all-covers.new.counts c.add_all.ensures.counted c.if-covers.ensures.taken) c.are_spent-are_spent.ensures

pub returns-then-covers-clause-empty : goal.returns-then-covers-clause-empty
returns-then-covers-clause-empty c n =
    let counted : get_or c.add_all.new.counts n 0 ≡ times n c.args.one.now = c.add_all.ensures.counted n in
    let fewer : get_or c.take_all-covers.new.counts n 0 ≤ get_or c.add_all.new.counts n 0 = c.take_all-covers.ensures.fewer n in
    emptied n c.args.one.now (get_or c.clear_all.new.counts n 0) (get_or c.take_all-covers.new.counts n 0) (c.clear_all.ensures.fewer n) (omega arith)
    (λ in'. All-contains (λ n. get_or c.clear_all.new.counts n 0 ≡ 0) c.args.one.now n c.clear_all.ensures.cleared in')

pub returns-else-covers-clause-empty : goal.returns-else-covers-clause-empty
returns-else-covers-clause-empty c n =
    let counted : get_or c.add_all.new.counts n 0 ≡ times n c.args.one.now = c.add_all.ensures.counted n in
    let fewer : get_or c.take_all-covers.new.counts n 0 ≤ get_or c.add_all.new.counts n 0 = c.take_all-covers.ensures.fewer n in
    emptied n c.args.one.now (get_or c.clear_all.new.counts n 0) (get_or c.take_all-covers.new.counts n 0) (c.clear_all.ensures.fewer n) (omega arith)
    (λ in'. All-contains (λ n. get_or c.clear_all.new.counts n 0 ≡ 0) c.args.one.now n c.clear_all.ensures.cleared in')
