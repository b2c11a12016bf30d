use Rattle.std.proofs.Common.{◌≡◌, ◌∙◌, ◌-◌, true, false, length, sym, refl, inl, inr, arith}
use Rattle.hv_order.proofs.runs.trim.Goals as goal

pub returns-then-not-ends_with : goal.returns-then-not-ends_with
returns-then-not-ends_with c =
    inl (record { other = λ w. absurd (let k : true ≡ false = sym (c.ends_with.ensures.1 (rw c.deref.ensures.value w)) ∙ c.if-not-ends_with.true in cc); runs_are = refl })

pub returns : goal.returns
returns c =
    let e : length c.args.runs.now.items - 1 ≡ c.len-kept.result - 1 = omega (arith, c.args.runs.now.ok.0, c.len-kept.ensures) in
    inr (record { last = rw c.deref.ensures.value at (c.ends_with.ensures.0 c.if-not-ends_with.false); runs_are = rw e c.truncate.ensures.items })
