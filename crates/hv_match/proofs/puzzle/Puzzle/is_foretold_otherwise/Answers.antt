use Rattle.std.proofs.Common.{◌≡◌, ◌<◌, ◌≤◌, ◌∙◌, ◌⊎◌, inl, inr, ℕ, [], None, Some, true, false, length, nat_eq, eq-eqb, sym}
use Rattle.std.proofs.lemmas.Bool.{cases_lt}
use Rattle.hv_match.specs.inside.Search.{below}
use Rattle.hv_match.specs.inside.Puzzles.{options, is_good}
use Rattle.hv_match.specs.inside.PuzzleViews.{puzzle_view}
use Rattle.hv_match.proofs.Foretelling.{none_otherwise}
use Rattle.hv_match.proofs.Hope.{not_true}
use Rattle.hv_match.proofs.puzzle.Puzzle.is_foretold_otherwise.Goals as goal

pub returns-in-Some-Some : goal.returns-in-Some-Some
returns-in-Some-Some c = λ e. by (not_true (nat_eq c.in-Some-Some.object c.in-Some-Some.other) e) (cases_lt c.args.parameter (length c.args.self.now.table.now.ranges.items))
  where
    apart : nat_eq c.in-Some-Some.object c.in-Some-Some.other ≡ false → c.in-Some-Some.object ≡ c.in-Some-Some.other → ⊥
    apart e same =
        let t : nat_eq c.in-Some-Some.object c.in-Some-Some.other ≡ true = eq-eqb c.in-Some-Some.object c.in-Some-Some.other same in
        let clash : false ≡ true = sym e ∙ t in cc

    by : nat_eq c.in-Some-Some.object c.in-Some-Some.other ≡ false
        → (c.args.parameter < length c.args.self.now.table.now.ranges.items) ⊎ (length c.args.self.now.table.now.ranges.items ≤ c.args.parameter)
        → (k : ℕ) → below (options (puzzle_view c.args.self.now)) (is_good (puzzle_view c.args.self.now)) k c.args.chosen.now 0 ≡ []
    by e (inl lt) =
        none_otherwise (puzzle_view c.args.self.now) c.args.chosen.now c.args.parameter c.in-Some-Some.other c.in-Some-Some.object
        (sym (c.bound.ensures.bound lt) ∙ c.in-Some-Some.is-1) c.in-Some-Some.ensures (apart e)
    by e (inr ge) = let clash : None ≡ Some c.in-Some-Some.other = sym (c.bound.ensures.other ge) ∙ c.in-Some-Some.is-1 in absurd cc
