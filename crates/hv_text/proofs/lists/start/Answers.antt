use Rattle.std.proofs.Common.{◌≡◌, ◌<◌, ◌≤◌, ◌-◌, suc, length, get_or, sym, subst, arith}
use Rattle.hv_text.specs.inside.Lists.{start_of}
use Rattle.hv_text.proofs.ListLemmas.{start_after}
use Rattle.hv_text.proofs.lists.start.Goals as goal

pub returns-in-Some : goal.returns-in-Some
returns-in-Some c =
    let ends = c.args.ends.now in
    let some : 1 ≤ c.args.place = c.in-Some.ensures.0 in
    let before : c.in-Some.before ≡ c.args.place - 1 = c.in-Some.ensures.1 in
    let place : c.args.place ≡ suc c.in-Some.before = omega (arith, some, before) in
    let lt : c.in-Some.before < length ends = omega (arith, place, c.requires) in
    subst (λ k. get_or ends c.in-Some.before 0 ≡ start_of 0 ends k) (sym place) (start_after 0 ends c.in-Some.before lt)
