use Rattle.std.proofs.Common.{◌<◌, ℕ, length, refl, sym, subst}
use Rattle.hv_world.specs.Orders.{Leads, IsRow, HasCycle}
use Rattle.hv_world.specs.inside.OrderWalks.{AreEarlier, IsListed, lists_of}
use Rattle.hv_world.proofs.OrderMeanings.{listed_is_paired, listed_known, listed_cyclic, row_by_pairs, pairs_acyclic}
use Rattle.hv_world.proofs.order.by_pairs.Goals as goal

pub row_of-requires : goal.row_of-requires
row_of-requires c =
    let vs = c.in_ok-direct.direct.items in
    let h = subst (λ ps. AreEarlier c.args.len ps (lists_of vs)) c.deref.ensures.value c.in_ok-direct.ensures in
    let known = listed_known c.args.len c.args.pairs.items c.requires vs h in
    record { known = subst (λ ws. (i j : ℕ) → IsListed (lists_of ws) i j → i < length ws) (sym c.deref-2.ensures.value) known }

pub returns-in_default : goal.returns-in_default
returns-in_default c =
    let vs = c.in_ok-direct.direct.items in
    let h = subst (λ ps. AreEarlier c.args.len ps (lists_of vs)) c.deref.ensures.value c.in_ok-direct.ensures in
    let cyclic : HasCycle (IsListed (lists_of c.deref-2.result.now)) = rw c.in_default.is at c.in_ok-arrangement.ensures in
    listed_cyclic c.args.len c.args.pairs.items c.requires vs h (subst (λ ws. HasCycle (IsListed (lists_of ws))) c.deref-2.ensures.value cyclic)

pub invariant_of-result : goal.invariant_of-result
invariant_of-result c =
    let n = c.args.len in
    let pairs = c.args.pairs.items in
    let vs = c.in_ok-direct.direct.items in
    let list = c.in-Some.arrangement.items in
    let h = subst (λ ps. AreEarlier n ps (lists_of vs)) c.deref.ensures.value c.in_ok-direct.ensures in
    let found : IsRow (Leads (IsListed (lists_of c.deref-2.result.now))) (length c.deref-2.result.now) list = rw c.in-Some.is at c.in_ok-arrangement.ensures in
    let row = subst (λ ws. IsRow (Leads (IsListed (lists_of ws))) (length ws) list) c.deref-2.ensures.value found in
    record {
      pairs = c.requires;
      acyclic = pairs_acyclic n pairs c.requires vs h list row;
      arrangement = row_by_pairs n pairs c.requires vs h list row;
      links = (refl, listed_is_paired n pairs (lists_of vs) h);
    }
