use Rattle.std.proofs.Common.{refl}
use Rattle.hv_order.specs.declared.memo.Pair.{Pair}
use Rattle.hv_order.specs.declared.solve.Pending.TheVariants as pending
use Rattle.hv_order.specs.inside.Tasks.{pair_of, IsWaitingFor}
use Rattle.hv_order.specs.inside.Memos.{Keeps}
use Rattle.hv_order.proofs.Stacks.{IsFirst, pair_is, top_pending, asked_stack, asked_less, over_stack, over_less}
use Rattle.hv_order.proofs.solve.solve.Goals as goal

pub loop-room-init : goal.loop-room-init
loop-room-init g c =
    let q = g.N.Nodes.facts c.args.nodes.now in
    let size = g.N.Nodes.size c.args.nodes.now in
    let left = g.N.Left.Candidates.left in
    let a : Pair = record { node = c.args.node; start = c.args.start } in
    let first : IsFirst left q size a (pending.Asked a) = record { same = refl; pending = record { node = c.requires.node; start = c.requires.start } } in (
      c.requires.memo,
      rw c.new-below.ensures.items first,
    )

pub resume-requires-clause-pending : goal.resume-requires-clause-pending
resume-requires-clause-pending g c =
    let q = g.N.Nodes.facts c.args.nodes.now in
    let size = g.N.Nodes.size c.args.nodes.now in
    let left = g.N.Left.Candidates.left in
    let a : Pair = record { node = c.args.node; start = c.args.start } in
    top_pending left q size c.loop-room.memo a c.loop-room.below.items c.loop-room.top c.loop-room.invariant.1

-- where a child's finish is wanted
pub loop-room-smaller-in-Wants : goal.loop-room-smaller-in-Wants
loop-room-smaller-in-Wants g c =
    let q = g.N.Nodes.facts c.args.nodes.now in
    let size = g.N.Nodes.size c.args.nodes.now in
    let left = g.N.Left.Candidates.left in
    let a : Pair = record { node = c.args.node; start = c.args.start } in
    let m = c.loop-room.memo in
    let t = c.loop-room.top in
    let is : IsWaitingFor left q size m (pair_of t) c.in-Wants.waits c.in-Wants.child = rw c.in-Wants.is at c.in_ok-waits.ensures in
    asked_less left q size m a c.loop-room.below.items t c.in-Wants.waits c.in-Wants.child c.loop-room.invariant.1 is.waits is.wanted

pub loop-room-preserved-in-Wants : goal.loop-room-preserved-in-Wants
loop-room-preserved-in-Wants g c =
    let q = g.N.Nodes.facts c.args.nodes.now in
    let size = g.N.Nodes.size c.args.nodes.now in
    let left = g.N.Left.Candidates.left in
    let a : Pair = record { node = c.args.node; start = c.args.start } in
    let m = c.loop-room.memo in
    let t = c.loop-room.top in
    let is : IsWaitingFor left q size m (pair_of t) c.in-Wants.waits c.in-Wants.child = rw c.in-Wants.is at c.in_ok-waits.ensures in (
      c.loop-room.invariant.0,
      rw c.in_ok-push-in-Wants.ensures.items (asked_stack left q size m a c.loop-room.below.items t c.in-Wants.waits c.in-Wants.child c.loop-room.invariant.1 is.waits is.wanted),
    )

-- where the one on top is over
pub keep-requires-clause-node : goal.keep-requires-clause-node
keep-requires-clause-node g c =
    let q = g.N.Nodes.facts c.args.nodes.now in
    let size = g.N.Nodes.size c.args.nodes.now in
    let left = g.N.Left.Candidates.left in
    let a : Pair = record { node = c.args.node; start = c.args.start } in
    let t = c.loop-room.top in
    rw c.pair-pair.ensures (pair_is left q size t (top_pending left q size c.loop-room.memo a c.loop-room.below.items t c.loop-room.invariant.1)).node

pub loop-room-smaller : goal.loop-room-smaller
loop-room-smaller g c =
    let q = g.N.Nodes.facts c.args.nodes.now in
    let size = g.N.Nodes.size c.args.nodes.now in
    let left = g.N.Left.Candidates.left in
    let a : Pair = record { node = c.args.node; start = c.args.start } in
    let m = c.loop-room.memo in
    let t = c.loop-room.top in
    let m' = c.keep.new.memo in
    let r = c.in-Over.settled.run in
    let keeps : Keeps m m' (pair_of t).node (pair_of t).start r = rw c.pair-pair.ensures at c.in_ok-keep-in-Some.ensures.keeps in
    over_less left q size m m' a c.loop-room.below.items c.pop.new.self.items t c.in-Some.waiting r c.loop-room.invariant.1 c.in-Some.ensures.items keeps
    (rw c.pair-pair.ensures at c.in_ok-keep-in-Some.ensures.known)

pub loop-room-preserved : goal.loop-room-preserved
loop-room-preserved g c =
    let q = g.N.Nodes.facts c.args.nodes.now in
    let size = g.N.Nodes.size c.args.nodes.now in
    let left = g.N.Left.Candidates.left in
    let a : Pair = record { node = c.args.node; start = c.args.start } in
    let m = c.loop-room.memo in
    let t = c.loop-room.top in
    let m' = c.keep.new.memo in
    let r = c.in-Over.settled.run in
    let keeps : Keeps m m' (pair_of t).node (pair_of t).start r = rw c.pair-pair.ensures at c.in_ok-keep-in-Some.ensures.keeps in (
      c.in_ok-keep-in-Some.ensures.memo,
      over_stack left q size m m' a c.loop-room.below.items c.pop.new.self.items t c.in-Some.waiting r c.loop-room.invariant.1 c.in-Some.ensures.items keeps,
    )
