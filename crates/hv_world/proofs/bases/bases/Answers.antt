use Rattle.std.proofs.Common.{◌≡◌, ◌<◌, ℕ, List, length, sym, ◌∙◌, subst, arith, Contains}
use Rattle.std.proofs.lemmas.List.{length-map, get_or-map}
use Rattle.std.proofs.lemmas.List.Elements.{All-contains}
use Rattle.hv_world.specs.declared.id.TypeId.{TypeId}
use Rattle.hv_world.specs.Types.{Typing, IsInRange, typing}
use Rattle.hv_world.specs.inside.TypeLists.{type_numbers}
use Rattle.hv_world.specs.inside.Bases.{AreBased, IsGraph, TellsBases, sole_in}
use Rattle.hv_world.specs.declared.bases.Graph.{Graph}
use Rattle.hv_world.proofs.BaseLemmas.{shared}
use Rattle.hv_world.proofs.BaseSteps.{are_sole}
use Rattle.hv_world.proofs.bases.bases.Goals as goal

-- the bases are those of the graph's typing
based : (w : Typing) (g : Graph) (bases : List TypeId) → IsGraph w g → length g.above.items ≡ w.types → TellsBases bases g → AreBased w (sole_in g) (type_numbers bases)
based w g bases graph size tells = tells w graph (length-map g.above.items (λ v. type_numbers v.items) ∙ size)

pairs_within : (w : Typing) → IsInRange w → (x y : ℕ) → Contains w.parents (x, y) → (x < w.types) × (y < w.types)
pairs_within w range x y m = All-contains (λ p. (p.0 < w.types) × (p.1 < w.types)) w.parents (x, y) range.parents m

declared_within : (w : Typing) → IsInRange w → (o a : ℕ) → Contains w.declared (o, a) → a < w.types
declared_within w range o a m = (All-contains (λ p. (p.0 < w.objects) × (p.1 < w.types)) w.declared (o, a) range.declared m).1

pub returns-clause-size : goal.returns-clause-size
returns-clause-size c =
    let w = typing c.args.types c.args.objects c.args.parents.now c.args.declared.now in
    let bases = c.in_ok-bases.bases.items in
    let told = based w c.in_ok-graph.graph bases c.in_ok-graph.ensures.graph c.in_ok-graph.ensures.size c.in_ok-bases.ensures in
    sym (length-map bases (λ (t : TypeId). t.0)) ∙ told.size

pub returns-clause-shared : goal.returns-clause-shared
returns-clause-shared c =
    let w = typing c.args.types c.args.objects c.args.parents.now c.args.declared.now in
    let g = c.in_ok-graph.graph in
    let bases = c.in_ok-bases.bases.items in
    let graph = c.in_ok-graph.ensures.graph in
    let told = based w g bases graph c.in_ok-graph.ensures.size c.in_ok-bases.ensures in
    λ pairs lists contracted members. shared w (sole_in g) (are_sole w g graph) (type_numbers bases) told (pairs_within w graph.range) (declared_within w graph.range) pairs contracted lists members

pub returns-clause-within : goal.returns-clause-within
returns-clause-within c =
    let w = typing c.args.types c.args.objects c.args.parents.now c.args.declared.now in
    let bases = c.in_ok-bases.bases.items in
    let told = based w c.in_ok-graph.graph bases c.in_ok-graph.ensures.graph c.in_ok-graph.ensures.size c.in_ok-bases.ensures in
    λ k d lt.
    let long = length-map bases (λ (t : TypeId). t.0) in
    let k_in : k < w.types = omega (arith, lt, long, told.size) in
    subst (λ n. n < c.args.types) (get_or-map (λ (t : TypeId). t.0) bases k d 0 lt) (told.each k k_in).within
