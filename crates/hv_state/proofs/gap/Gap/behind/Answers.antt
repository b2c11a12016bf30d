use Rattle.std.proofs.Common.{◌≤◌, ◌<◌, ◌++◌, ◌∷◌, [], ℕ, List, IfSome, IsSomeAnd, option_map, sym, subst, arith}
use Rattle.hv_world.specs.Bindings.{objects_in, atom_under}
use Rattle.hv_world.specs.Views.{atom_view}
use Rattle.hv_state.specs.Atoms.{atom_read}
use Rattle.hv_state.specs.inside.Gaps.{EndsIn}
use Rattle.hv_state.proofs.GapLemmas.{behind_object}
use Rattle.hv_state.proofs.gap.Gap.behind.Goals as goal

pub returns : goal.returns
returns g c n le lt =
    let S = g.F.Facts.facts c.args.facts.now in
    let env = objects_in c.args.binding.now in
    let ends = subst (λ o. IfSome o (λ a. EndsIn env (atom_view a.now))) c.in-Some.is c.requires in
    let from : c.args.object.0 ≤ n = omega (arith, le, c.between.ensures.from) in
    let under : n < c.next_possible-until.result = omega (arith, lt, c.between.ensures.until) in
    subst (λ o. IsSomeAnd (option_map (λ a. atom_view a.now) o) (λ a. (more : List ℕ) → S (atom_under ((env ++ n ∷ []) ++ more) a) → ⊥)) (sym c.in-Some.is)
    (behind_object S env (atom_view c.in-Some.atom.now) c.args.object.0 c.next_possible-until.result (atom_read c.resolved.result) ends c.resolved.ensures c.next_possible-until.ensures n from under)
