use Rattle.std.proofs.Common.{◌↔◌, IsTrue, map, sym, subst}
use Rattle.hv_state.specs.Atoms.{atom_read}
use Rattle.hv_state.specs.Changes.{told}
use Rattle.hv_state.specs.inside.Histories.{change_view, in_order}
use Rattle.hv_state.proofs.GrowLemmas.{last_told, no_last}
use Rattle.hv_state.proofs.NoteLemmas.{Said}
use Rattle.hv_state.proofs.history.History.says.Goals as goal

pub returns-in-Some : goal.returns-in-Some
returns-in-Some g c = λ k room.
    let last = c.in-Some.last in
    let start = g.S.State.atoms c.args.first.now (atom_read c.args.atom.now) in
    subst (λ o. IsTrue c.is_true.result ↔ Said start o) (sym (last_told (in_order c.args.self.now) k last c.in-Some.ensures room))
    (subst (λ b. IsTrue c.is_true.result ↔ IsTrue b) c.is_true.ensures (λ m. m, λ m. m))

pub returns-in-None : goal.returns-in-None
returns-in-None g c = λ k room.
    let start = g.S.State.atoms c.args.first.now (atom_read c.args.atom.now) in
    subst (λ cs. IsTrue c.holds.result ↔ Said start (told k (map change_view cs))) (sym (no_last (in_order c.args.self.now) c.in-None.ensures)) c.holds.ensures
