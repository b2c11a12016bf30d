use Rattle.std.proofs.Common.{rules, ◌≡◌, ◌<◌, ◌≤◌, ◌∙◌, length, replicate, arith}
use Rattle.std.specs.Prelude.{slice_index}
use Rattle.hv_plan.specs.declared.tree.Child.TheVariants as children
use Rattle.hv_order.specs.inside.Layouts.{start_behind}
use Rattle.hv_order.specs.inside.Children.{child_at}
use Rattle.hv_order.specs.inside.Arrangements.{arrangement_of, listed_before}
use Rattle.hv_order.proofs.Framing.{zeros_under}
use Rattle.hv_order.proofs.RunLemmas.{same_or}
use Rattle.hv_order.proofs.LayingOut.{no_part, whole_part, is_next, start_small, some_finish, more_part}
use Rattle.hv_order.proofs.walk.lay_out.Goals as goal

pub loop-subtask-init : goal.loop-subtask-init
loop-subtask-init g c =
    let q = g.N.Nodes.facts c.args.nodes.now in
    let made : c.in_ok-finishes.finishes.items ≡ replicate c.len-count.result 0 = search rules in (
      no_part q (arrangement_of c.args.candidate.now) c.args.at c.args._finish c.in_ok-starts.starts.items c.in_ok-finishes.finishes.items
          (omega (arith, c.in_ok-starts.starts.ok.0, c.args.candidate.now.children.ok.0, c.in_ok-starts.ensures.len, c.len-count.ensures))
          (omega (arith, c.in_ok-finishes.finishes.ok.0, c.args.candidate.now.children.ok.0, c.in_ok-finishes.ensures.len, c.len-count.ensures))
          (λ j. rw made (zeros_under c.len-count.result j)),
      c.requires.memo,
    )

pub finish_of_child-requires-clause-start : goal.finish_of_child-requires-clause-start
finish_of_child-requires-clause-start g c =
    let q = g.N.Nodes.facts c.args.nodes.now in
    let a = arrangement_of c.args.candidate.now in
    let i = c.loop-subtask.subtask-index in
    let ss = c.loop-subtask.starts.items in
    let fs = c.loop-subtask.finishes.items in
    let lt : i < length a.order = rw (c.deref-subtask-items.ensures.value, c.deref-sequencing.ensures) at c.loop-subtask-test.true in
    let start : c.start_of-start.result ≡ start_behind fs c.args.at (listed_before a.direct (slice_index a.order i)) =
    rw (c.deref.ensures.value, c.at.ensures, c.deref-subtask-items.ensures.value, c.deref-sequencing.ensures) at c.start_of-start.ensures
    in
    rw start (start_small q a c.requires.nodes.fits c.requires.arranged c.args.at c.args._finish i lt ss fs c.loop-subtask.invariant.0 c.requires.over)

pub unreachable-requires : goal.unreachable-requires
unreachable-requires g c =
    let q = g.N.Nodes.facts c.args.nodes.now in
    let a = arrangement_of c.args.candidate.now in
    let i = c.loop-subtask.subtask-index in
    let ss = c.loop-subtask.starts.items in
    let fs = c.loop-subtask.finishes.items in
    let lt : i < length a.order = rw (c.deref-subtask-items.ensures.value, c.deref-sequencing.ensures) at c.loop-subtask-test.true in
    let next = slice_index a.order i in
    let within = is_next q a c.requires.nodes.fits c.requires.arranged c.args.at c.args._finish i lt ss fs c.loop-subtask.invariant.0 in
    let start : c.start_of-start.result ≡ start_behind fs c.args.at (listed_before a.direct next) =
    rw (c.deref.ensures.value, c.at.ensures, c.deref-subtask-items.ensures.value, c.deref-sequencing.ensures) at c.start_of-start.ensures
    in
    let child : c.index.result.now ≡ child_at a.children next =
    (rw (c.deref-subtask-items.ensures.value, c.deref-sequencing.ensures) at c.index.ensures) ∙ same_or a.children next c.index.result.now (children.Action 0) within
    in
    some_finish q a c.requires.nodes.fits c.requires.arranged c.args.at c.args._finish i lt ss fs c.loop-subtask.invariant.0 c.requires.over
    (rw (c.in-None.is, start, child) at c.in_ok-finish_of_child.ensures.finish)

pub loop-subtask-preserved : goal.loop-subtask-preserved
loop-subtask-preserved g c =
    let q = g.N.Nodes.facts c.args.nodes.now in
    let a = arrangement_of c.args.candidate.now in
    let i = c.loop-subtask.subtask-index in
    let ss = c.loop-subtask.starts.items in
    let fs = c.loop-subtask.finishes.items in
    let lt : i < length a.order = rw (c.deref-subtask-items.ensures.value, c.deref-sequencing.ensures) at c.loop-subtask-test.true in
    let next = slice_index a.order i in
    let within = is_next q a c.requires.nodes.fits c.requires.arranged c.args.at c.args._finish i lt ss fs c.loop-subtask.invariant.0 in
    let start : c.start_of-start.result ≡ start_behind fs c.args.at (listed_before a.direct next) =
    rw (c.deref.ensures.value, c.at.ensures, c.deref-subtask-items.ensures.value, c.deref-sequencing.ensures) at c.start_of-start.ensures
    in
    let child : c.index.result.now ≡ child_at a.children next =
    (rw (c.deref-subtask-items.ensures.value, c.deref-sequencing.ensures) at c.index.ensures) ∙ same_or a.children next c.index.result.now (children.Action 0) within
    in (
      rw (c.deref-subtask-items.ensures.value, c.deref-sequencing.ensures, start)
          (more_part q a c.requires.nodes.fits c.requires.arranged c.args.at c.args._finish i lt ss fs c.loop-subtask.invariant.0 c.in-Some.finish
          (rw (c.in-Some.is, start, child) at c.in_ok-finish_of_child.ensures.finish)),
      c.in_ok-finish_of_child.ensures.memo,
    )

pub returns-clause-laid : goal.returns-clause-laid
returns-clause-laid g c =
    let q = g.N.Nodes.facts c.args.nodes.now in
    let a = arrangement_of c.args.candidate.now in
    let all : length a.order ≤ c.loop-subtask.subtask-index = rw (c.deref-subtask-items.ensures.value, c.deref-sequencing.ensures) at c.loop-subtask-test.false in
    whole_part q a c.requires.nodes.fits c.requires.arranged c.args.at c.args._finish c.loop-subtask.subtask-index c.loop-subtask.starts.items c.loop-subtask.finishes.items c.loop-subtask.invariant.0 all c.requires.over
