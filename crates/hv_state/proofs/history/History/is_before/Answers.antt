use Rattle.std.proofs.Common.{◌↔◌, IsTrue, nat_lt, map, sym, subst}
use Rattle.std.proofs.lemmas.Bool.{ltb-true, lt-ltb}
use Rattle.hv_state.specs.inside.Histories.{index_of, change_view, in_order}
use Rattle.hv_state.specs.inside.Notes.{Before}
use Rattle.hv_state.proofs.GrowLemmas.{all_before, last_before}
use Rattle.hv_state.proofs.history.History.is_before.Goals as goal

pub returns-in-Some : goal.returns-in-Some
returns-in-Some c =
    let cs = in_order c.args.self.now in
    let k = c.args.index in
    let last = c.in-Some.last in
    let is : IsTrue (nat_lt (index_of last) k) ↔ Before k (map change_view cs) = (λ t. all_before cs k last c.requires c.in-Some.ensures (ltb-true (index_of last) k t), λ h. lt-ltb (index_of last) k (last_before cs k last c.requires c.in-Some.ensures h)) in
    subst (λ n. IsTrue (nat_lt n k) ↔ Before k (map change_view cs)) (sym c.index.ensures) is
