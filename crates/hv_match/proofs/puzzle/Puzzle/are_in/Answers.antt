use Rattle.std.proofs.Common.{ℕ, ◌≡◌, ◌<◌, length, get_or, nat_eq, ap, sym, ◌∙◌, arith, inl, inr}
use Rattle.hv_world.specs.Ranges.{range_view}
use Rattle.hv_match.specs.inside.Puzzles.{has}
use Rattle.hv_match.proofs.Steps.{allowed_no, allowed_yes, allowed_end}
use Rattle.hv_match.proofs.puzzle.Puzzle.are_in.Goals as goal
use Rattle.hv_match.proofs.puzzle.Puzzle.are_in.Goals.{then-loop-at-test+else-at-len, else-loop-at-test}

pub returns-then-not-is_in : goal.returns-then-not-is_in
returns-then-not-is_in c =
    let vs = c.args.values.now in
    let rs = c.args.self.now.table.now.ranges.items in
    let i = c.loop-at.at in
    let k : i < length rs = omega (arith, c.if-at-len.true, c.len.ensures, c.args.self.now.table.now.ranges.ok.0) in
    let is = c.is_in.ensures ∙ ap (λ r. has (get_or vs i 0) (range_view r)) c.index-range.ensures in
    sym (c.loop-at.invariant.2 ∙ allowed_no range_view vs rs i c.index-range.result.now c.loop-at-test.true k c.is_in.result is c.if-not-is_in.true)

pub loop-at-preserved : goal.loop-at-preserved
loop-at-preserved c =
    let vs = c.args.values.now in
    let rs = c.args.self.now.table.now.ranges.items in
    let i = c.loop-at.at in
    let k : i < length rs = omega (arith, c.if-at-len.true, c.len.ensures, c.args.self.now.table.now.ranges.ok.0) in
    let is = c.is_in.ensures ∙ ap (λ r. has (get_or vs i 0) (range_view r)) c.index-range.ensures in (
      omega (arith, c.loop-at-test.true),
      omega (arith, k),
      c.loop-at.invariant.2 ∙ allowed_yes range_view vs rs i c.index-range.result.now c.loop-at-test.true k c.is_in.result is c.if-not-is_in.false,
    )

pub returns : goal.returns
returns c =
    let vs = c.args.values.now in
    let rs = c.args.self.now.table.now.ranges.items in
    let i = c.loop-at.at in
    let end = allowed_end range_view vs rs i c.loop-at.invariant.0 c.loop-at.invariant.1 in
    let size : c.len-2.result ≡ length rs = omega (arith, c.len-2.ensures, c.args.self.now.table.now.ranges.ok.0) in
    ap (λ (n : ℕ). nat_eq (length vs) n) size ∙ elim c.loop-at-test.branch [
      | then-loop-at-test+else-at-len w ↦ sym (c.loop-at.invariant.2 ∙ end (inr (omega (arith, w.if-at-len.false, w.len.ensures, c.args.self.now.table.now.ranges.ok.0))))
      | else-loop-at-test w ↦ sym (c.loop-at.invariant.2 ∙ end (inl w.loop-at-test.false))
    ]
