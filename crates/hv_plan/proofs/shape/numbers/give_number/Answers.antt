use Rattle.std.proofs.Common.{◌≡◌, ◌+◌, ◌<◌, ◌≤◌, ◌++◌, ◌∷◌, [], sym, subst, arith, length, slice_index}
use Rattle.hv_plan.specs.inside.Shaping.{IsNumbering}
use Rattle.hv_plan.proofs.ShapeNumbers.{no_number, one_number}
use Rattle.hv_plan.proofs.shape.numbers.give_number.Goals as goal

pub number_line-requires : goal.number_line-requires
number_line-requires c =
    let le : c.args.actions ≤ slice_index c.args.met.now c.args.at = c.in-Some.ensures.0 in
    omega (arith, le, c.in-Some.ensures.1, c.requires.within)

pub returns-in_ok-number_line-clause-so_far : goal.returns-in_ok-number_line-clause-so_far
returns-in_ok-number_line-clause-so_far c =
    let met = c.args.met.now in
    let at = c.args.at in
    let lines = c.args.numbering.now.lines.items in
    let numbers = c.args.numbering.now.numbers.items in
    let line = c.in-Some.line in
    let le : c.args.actions ≤ slice_index met at = c.in-Some.ensures.0 in
    let is : slice_index met at ≡ c.args.actions + line = omega (arith, le, c.in-Some.ensures.1) in
    let within : line < length numbers = omega (arith, is, c.requires.within) in
    subst (λ ls. IsNumbering c.args.actions at met ls c.number_line.new.numbering.numbers.items) (sym c.in_ok-number_line.ensures.lines)
    (subst (IsNumbering c.args.actions at met (lines ++ line ∷ [])) (sym c.in_ok-number_line.ensures.numbers)
    (one_number c.args.actions at met lines numbers line c.requires.at c.requires.once is within c.requires.so_far))

pub returns-in_default-clause-so_far : goal.returns-in_default-clause-so_far
returns-in_default-clause-so_far c =
    let met = c.args.met.now in
    let at = c.args.at in
    let less : slice_index met at < c.args.actions = omega (arith, c.in_default.ensures) in
    no_number c.args.actions at met c.args.numbering.now.lines.items c.args.numbering.now.numbers.items c.requires.at less c.requires.so_far
