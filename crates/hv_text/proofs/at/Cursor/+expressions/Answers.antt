use Rattle.std.proofs.Common.{arith}
use Rattle.hv_text.specs.Trees.{tree, trees}
use Rattle.hv_text.specs.Cursors.{rest_at}
use Rattle.hv_text.proofs.RestLemmas.{one_more, list_read, no_list}
use Rattle.hv_text.proofs.at.Cursor.+expressions.Goals as goal

pub read_rest-members-preserved : goal.read_rest-members-preserved
read_rest-members-preserved t c =
    let n = rw (c.in-Some.is) at c.in_ok-e.ensures.some in
    let l = rw (c.in-Some.is) at c.in_ok-e.ensures.less in
    (one_more c.members.members.items c.push.new.self.items c.in-Some.e (rest_at c.args.self) (rest_at c.members.cursor) (rest_at c.in-Some.after) c.in_ok-push.ensures.items c.members.invariant.0 n, omega (arith, l, c.members.invariant.1))

pub read_one-returns-in-Some-leave-clause-some : goal.read_one-returns-in-Some-leave-clause-some
read_one-returns-in-Some-leave-clause-some t c =
    let first = rw (c.in-Left.is) at c.in-Some.ensures.some in
    list_read c.in-Left.place c.in-Some-leave.past (trees c.in_ok-members-in-Left.members.items) (tree c.list_of.result) (rest_at c.args.self) (rest_at c.in-Some.after) (rest_at c.in_ok-members-in-Left.end) (rest_at c.in-Some-leave.behind)
    first c.in_ok-members-in-Left.ensures.all c.in-Some-leave.ensures.some c.list_of.ensures

pub read_one-returns-clause-none : goal.read_one-returns-clause-none
read_one-returns-clause-none t c =
    let first = rw (c.in-Left.is) at c.in-Some.ensures.some in
    no_list c.in-Left.place (trees c.in_ok-members-in-Left.members.items) (rest_at c.args.self) (rest_at c.in-Some.after) (rest_at c.in_ok-members-in-Left.end)
    first c.in_ok-members-in-Left.ensures.all (c.in-None-leave.ensures.none c.in_ok-members-in-Left.ensures.end)
