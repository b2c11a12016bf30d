use Rattle.std.proofs.Common.{◌↔◌, IsTrue, nat_eq, map, sym, subst, ap, true≢false}
use Rattle.std.proofs.lemmas.Bool.{eqb-true}
use Rattle.hv_state.specs.inside.Histories.{index_of, change_view, in_order}
use Rattle.hv_state.specs.inside.Notes.{EndsAt}
use Rattle.hv_state.proofs.GrowLemmas.{ends_there, ends_elsewhere, empty_ends, no_last, is_equal}
use Rattle.hv_state.proofs.history.History.ends_at.Goals as goal

pub returns-in-Some : goal.returns-in-Some
returns-in-Some c =
    let cs = in_order c.args.self.now in
    let k = c.args.index in
    let last = c.in-Some.last in
    let is : IsTrue (nat_eq (index_of last) k) ↔ EndsAt k (map change_view cs) = (λ t. ends_there cs k last c.in-Some.ensures (eqb-true (index_of last) k t), λ e. is_equal (index_of last) k (ends_elsewhere cs k last c.in-Some.ensures e)) in
    subst (λ n. IsTrue (nat_eq n k) ↔ EndsAt k (map change_view cs)) (sym c.index.ensures) is

pub returns-in-None : goal.returns-in-None
returns-in-None c =
    let k = c.args.index in
    let none = ap (map change_view) (no_last (in_order c.args.self.now) c.in-None.ensures) in
    (λ t. absurd (true≢false (sym t)), λ e. absurd (empty_ends k (subst (EndsAt k) none e)))
