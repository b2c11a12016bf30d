use Rattle.std.proofs.Common.{refl, subst, arith}
use Rattle.std.specs.Borrow.{Bor}
use Rattle.hv_world.specs.Views.{atom_view}
use Rattle.hv_world.specs.declared.formula.Atom.{Atom}
use Rattle.hv_match.specs.inside.Puzzles.{CannotBeTrue}
use Rattle.hv_match.specs.inside.PuzzleViews.{puzzle_view}
use Rattle.hv_match.proofs.Hope.{none_possible}
use Rattle.hv_match.proofs.puzzle.Puzzle.lacks_one.Goals as goal

pub returns-then-is_impossible : goal.returns-then-is_impossible
returns-then-is_impossible c = λ e k.
    (let pz = puzzle_view c.args.self.now in
    let cannot = subst (λ (a : Bor Atom). CannotBeTrue pz c.args.chosen.now (atom_view a.now)) c.index.ensures (c.is_impossible.ensures c.if-is_impossible.true) in
    none_possible (λ (a : Bor Atom). atom_view a.now) pz c.args.chosen.now c.args.self.now.table.now.needed.items _ c.index.result.now refl (omega (arith, c.if-number-len.true, c.len.ensures)) cannot k)
