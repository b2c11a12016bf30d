use Rattle.std.proofs.Common.{◌≡◌, ◌≢◌, ◌≤◌, ◌∙◌, [], AllPairs, Contains, length, ap, sym, subst, arith}
use Rattle.std.proofs.lemmas.List.{length-map}
use Rattle.hv_plan.specs.TreeViews.{node_view}
use Rattle.hv_plan.specs.BuiltTrees.{tree_view}
use Rattle.hv_state.specs.Needed.{needed}
use Rattle.hv_match.specs.Possible.{are_possible}
use Rattle.hv_match.specs.Candidates.{child_tasks}
use Rattle.hv_match.specs.inside.Search.{below}
use Rattle.hv_match.specs.inside.Puzzles.{options, is_good, levels, ways}
use Rattle.hv_match.specs.inside.PuzzleViews.{puzzle_view}
use Rattle.hv_match.specs.inside.Parts.{parts}
use Rattle.hv_match.specs.inside.Ranges.{IsPuzzleOf}
use Rattle.hv_match.proofs.Bridge.{listed_match, match_listed, listed_once, ranges_once, candidate_of, match_of, possible_of, puzzle_of}
use Rattle.hv_match.proofs.Fitting.{good_match}
use Rattle.hv_match.proofs.candidates.Candidates.of_table.Goals as goal

pub returns : goal.returns
returns c = λ w m by.
    let n = node_view c.args.node.now in
    let cs = child_tasks (tree_view c.args.tree.now) n in
    let code = c.in_ok-puzzle.puzzle in
    let p = puzzle_view code in
    let is : IsPuzzleOf w m n.objects cs p = puzzle_of w m n.objects cs c.args.table.now code by c.in_ok-puzzle.ensures.table c.in_ok-puzzle.ensures.given c.in_ok-puzzle.ensures.works in
    let each = ranges_once w.typing p.ranges m.parameters is.ranges in
    let e = c.in_ok-candidates.ensures each in
    let ever = c.in_ok-puzzle.ensures.ever in
    let l = below (options p) (is_good p) (levels p) [] 0 in
    let size : length c.in_ok-candidates.candidates.coming ≡ length l = ap length e ∙ length-map l (parts (length p.subtasks)) in
    let most : length l ≤ ways p = c.ways_are_enough.ensures p code.placed each (is_good p) (good_match p) in
    record {
      exact = λ M B. (
        (λ k.
            let found = listed_match p M B (subst (λ z. Contains z (M, B)) e k) in
            (candidate_of w m n.objects cs p is M B found, ap (λ rows. are_possible rows B (needed m.precondition)) (sym ever) ∙ possible_of w m n.objects cs p is M B found)),
        (λ k. subst (λ z. Contains z (M, B)) (sym e) (match_listed p code.placed M B (match_of w m n.objects cs p is M B k.0 (ap (λ rows. are_possible rows B (needed m.precondition)) ever ∙ k.1)))),
      );
      once = subst (λ z. AllPairs ◌≢◌ z) (sym e) (listed_once p code.placed each);
      few = λ k d. (let f : ways p ≡ k = c.ways_are_counts.ensures w m n.objects cs p k is d in omega (arith, size, most, f));
    }
