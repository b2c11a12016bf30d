use Rattle.std.proofs.Common.{None, ◌≡◌, ◌<◌, ◌+◌, ◌/◌, ℕ, length, ◌-◌, arith, subst}
use Rattle.hv_order.specs.LeastFinishes.{HasDigits}
use Rattle.hv_order.proofs.RunLemmas.{behind_middle, same_or}
use Rattle.hv_order.proofs.Halving.{one_step, digits_below, fits_in_bits, found}
use Rattle.hv_order.proofs.runs.run_at.Goals as goal

pub loop-low-preserved-then-runs-middle : goal.loop-low-preserved-then-runs-middle
loop-low-preserved-then-runs-middle c =
    let low = c.loop-low.low in
    let high = c.loop-low.high in
    let inv = c.loop-low.invariant in
    let lt : low < high = c.loop-low-test.true in
    let w = inv.within in
    record {
      order = omega arith;
      within = w;
      behind = behind_middle c.args.runs.now c.args.start (low + (high - low) / 2) c.requires.rise (omega arith) (λ d. rw (same_or c.args.runs.now (low + (high - low) / 2) d (record { last = 0; finish = None }) (omega arith)) c.if-runs-middle.true);
      here = inv.here;
      digits = λ k has. one_step (high - low) (high - (low + (high - low) / 2 + 1)) (length c.args.runs.now) c.loop-low.looked k (omega arith) (omega arith) inv.digits has;
      begun = λ e. absurd (omega arith);
    }

pub loop-low-preserved : goal.loop-low-preserved
loop-low-preserved c =
    let low = c.loop-low.low in
    let high = c.loop-low.high in
    let inv = c.loop-low.invariant in
    let lt : low < high = c.loop-low-test.true in
    let w = inv.within in
    record {
      order = omega arith;
      within = omega arith;
      behind = inv.behind;
      here = λ k d. rw (same_or c.args.runs.now (low + (high - low) / 2) d (record { last = 0; finish = None }) k) c.if-runs-middle.false;
      digits = λ k has. one_step (high - low) (low + (high - low) / 2 - low) (length c.args.runs.now) c.loop-low.looked k (omega arith) (omega arith) inv.digits has;
      begun = λ e. absurd (omega arith);
    }

pub overflow_add-looked : goal.overflow_add-looked
overflow_add-looked c =
    let inv = c.loop-low.invariant in
    let lt : c.loop-low.low < c.loop-low.high = c.loop-low-test.true in
    let a = digits_below (c.loop-low.looked + 1) (length c.args.runs.now) (inv.digits 1 (omega arith, tt)) in
    omega arith

pub returns-clause-place : goal.returns-clause-place
returns-clause-place c =
    let inv = c.loop-low.invariant in
    let P : ℕ → Type 0 = λ k. HasDigits (length c.args.runs.now) k in
    let e : c.loop-low.looked + 0 ≡ c.loop-low.looked = omega arith in
    found c.args.runs.now c.args.start c.loop-low.low c.loop-low.high c.loop-low.looked c.requires.some c.requires.end inv.order c.loop-low-test.false inv.within inv.behind inv.here (subst P e (inv.digits 0 tt)) inv.begun

pub returns-clause-small : goal.returns-clause-small
returns-clause-small c =
    let inv = c.loop-low.invariant in
    let P : ℕ → Type 0 = λ k. HasDigits (length c.args.runs.now) k in
    let e : c.loop-low.looked + 0 ≡ c.loop-low.looked = omega arith in
    fits_in_bits c.loop-low.looked (length c.args.runs.now) (omega arith) (subst P e (inv.digits 0 tt))
