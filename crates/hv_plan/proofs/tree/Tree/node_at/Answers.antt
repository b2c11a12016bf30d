use Rattle.std.proofs.Common.{◌≡◌, ◌<◌, ℕ, List, Option, Some, None, arith, slice_get, slice_index, All}
use Rattle.std.specs.Prelude.{IfSome}
use Rattle.std.proofs.lemmas.Option.{slice_get_within, get_or_from_slice_get}
use Rattle.hv_plan.specs.inside.FitViews.{decomposed_lines}
use Rattle.hv_plan.specs.inside.ShapeViews.{shape_view}
use Rattle.hv_plan.proofs.AssemblyLemmas.{as_many_nodes}
use Rattle.hv_plan.proofs.tree.Tree.node_at.Goals as goal

-- a number of the list is below what all are below
listed_below : (xs : List ℕ) (n m k : ℕ) (o : Option ℕ) → All (λ x. x < n) xs → n < m → o ≡ slice_get xs k → IfSome o (λ v. v < m)
listed_below xs n m k None all le e = tt
listed_below xs n m k (Some v) all le e =
    let at : slice_get xs k ≡ Some v = cc in
    let lt : slice_index xs k < n = all k 0 (slice_get_within xs k v at) in
    let is : slice_index xs k ≡ v = get_or_from_slice_get xs k v 0 at in
    omega (arith, lt, is, le)

pub returns-in-None-clause-within : goal.returns-in-None-clause-within
returns-in-None-clause-within c =
    let r = c.args.self.now.root_line in
    let os = c.args.self.now.line_origins.items in
    let s = shape_view c.args.self.now.shape in
    omega (arith, as_many_nodes r os s (decomposed_lines c.args.self.now.said), c.args.self.now.shape.last)

pub returns-in-Some-clause-within : goal.returns-in-Some-clause-within
returns-in-Some-clause-within c =
    let r = c.args.self.now.root_line in
    let os = c.args.self.now.line_origins.items in
    let s = shape_view c.args.self.now.shape in
    listed_below c.args.self.now.shape.numbers.items c.args.self.now.shape.root _ c.in-Some.line c.number_of.result c.args.self.now.shape.below
    (omega (arith, as_many_nodes r os s (decomposed_lines c.args.self.now.said), c.args.self.now.shape.last)) c.number_of.ensures
