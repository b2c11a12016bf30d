use Rattle.std.proofs.Common.{get_or, ◌≡◌, ◌+◌, ◌<◌, ℕ, List, ap, sym, subst, ◌∙◌, arith, map, length, Contains}
use Rattle.std.proofs.lemmas.List.{length-map}
use Rattle.hv_plan.specs.LineViews.{plan_view}
use Rattle.hv_plan.specs.Shapes.{ids}
use Rattle.hv_plan.specs.Trees.{Item}
use Rattle.hv_plan.specs.TreeViews.{child_view}
use Rattle.hv_plan.specs.Ids.{place_of}
use Rattle.hv_plan.specs.inside.Shaping.{IsNumbering, children_by_number}
use Rattle.hv_plan.specs.inside.ShapeViews.{IsShape}
use Rattle.hv_plan.proofs.ShapeTrees.{ids_long, form_tree, root_within, kids_within, kids_behind}
use Rattle.hv_plan.proofs.ShapeMade.{is_shape, numbers_below}
use Rattle.hv_plan.proofs.shape.numbered.Goals as goal

pub node_children-requires-clause-root : goal.node_children-requires-clause-root
node_children-requires-clause-root c = λ x h.
    let p = plan_view c.args.plan.now in
    let P : List ℕ → Type 0 = λ xs. Contains xs x in
    let w : x < length (ids p) = root_within p c.args.below.now.root.items c.requires.root c.requires.known x (subst P c.deref.ensures.value h) in
    let b : length (map (λ d. map (place_of (ids p)) d.children) p.decompositions) ≡ length p.decompositions = length-map p.decompositions (λ d. map (place_of (ids p)) d.children) in
    let f : length c.args.below.now.lists ≡ length (map (λ d. map (place_of (ids p)) d.children) p.decompositions) = ap length c.requires.lists in
    let l : length (ids p) ≡ length p.actions + length p.decompositions = ids_long p in
    omega (arith, w, b, f, l, c.len-actions.ensures.count, c.in_ok-numbering.ensures.count, c.len.ensures)

pub node_children-requires-clause-lists : goal.node_children-requires-clause-lists
node_children-requires-clause-lists c = λ k x h.
    let p = plan_view c.args.plan.now in
    let P : List ℕ → Type 0 = λ xs. Contains xs x in
    let w : x < length (ids p) =
    kids_within p c.args.below.now.lists c.requires.lists c.requires.known (length p.actions + k) x
    (subst P (sym (kids_behind (length p.actions) c.args.below.now.lists k)) h) in
    let b : length (map (λ d. map (place_of (ids p)) d.children) p.decompositions) ≡ length p.decompositions = length-map p.decompositions (λ d. map (place_of (ids p)) d.children) in
    let f : length c.args.below.now.lists ≡ length (map (λ d. map (place_of (ids p)) d.children) p.decompositions) = ap length c.requires.lists in
    let l : length (ids p) ≡ length p.actions + length p.decompositions = ids_long p in
    omega (arith, w, b, f, l, c.len-actions.ensures.count, c.in_ok-numbering.ensures.count, c.len.ensures)

pub invariant_of-result-clause-last : goal.invariant_of-result-clause-last
invariant_of-result-clause-last c = omega (arith, c.in_ok-count.ensures, c.saturating_add.ensures, c.len-2.ensures, c.in_ok-numbering.numbering.lines.ok)

pub invariant_of-result-clause-short : goal.invariant_of-result-clause-short
invariant_of-result-clause-short c = omega (arith, c.in_ok-count.ensures, c.saturating_add.ensures, c.len-2.ensures, c.in_ok-numbering.numbering.lines.ok)

pub invariant_of-result-clause-below : goal.invariant_of-result-clause-below
invariant_of-result-clause-below c = λ k d w.
    let p = plan_view c.args.plan.now in
    let root = c.args.below.now.root.items in
    let lists = c.args.below.now.lists in
    let met = c.args.met.items in
    let marks = c.requires.met.marks in
    let lines = c.in_ok-numbering.numbering.lines.items in
    let numbers = c.in_ok-numbering.numbering.numbers.items in
    let b : length (map (λ d. map (place_of (ids p)) d.children) p.decompositions) ≡ length p.decompositions = length-map p.decompositions (λ d. map (place_of (ids p)) d.children) in
    let f : length lists ≡ length (map (λ d. map (place_of (ids p)) d.children) p.decompositions) = ap length c.requires.lists in
    let many : length numbers ≡ length p.decompositions = omega (arith, c.in_ok-numbering.ensures.count, c.len.ensures, b, f) in
    let numbering : IsNumbering (length p.actions) 0 met lines numbers = subst (λ n. IsNumbering n 0 met lines numbers) c.len-actions.ensures.count c.in_ok-numbering.ensures.numbering in
    let less : get_or numbers k d < length lines =
    numbers_below p (record { lines = lines; numbers = numbers; children = children_by_number (length p.actions) lines numbers root lists })
    (is_shape p root lists met lines numbers marks c.requires.root c.requires.lists c.requires.once c.requires.known c.requires.single c.requires.met.walk c.requires.met.count_is c.requires.met.all
    numbering many) k d w in
    omega (arith, less, c.in_ok-count.ensures, c.saturating_add.ensures, c.len-2.ensures, c.in_ok-numbering.numbering.lines.ok)

pub returns : goal.returns
returns c =
    let p = plan_view c.args.plan.now in
    let root = c.args.below.now.root.items in
    let lists = c.args.below.now.lists in
    let met = c.args.met.items in
    let marks = c.requires.met.marks in
    let lines = c.in_ok-numbering.numbering.lines.items in
    let numbers = c.in_ok-numbering.numbering.numbers.items in
    let b : length (map (λ d. map (place_of (ids p)) d.children) p.decompositions) ≡ length p.decompositions = length-map p.decompositions (λ d. map (place_of (ids p)) d.children) in
    let f : length lists ≡ length (map (λ d. map (place_of (ids p)) d.children) p.decompositions) = ap length c.requires.lists in
    let many : length numbers ≡ length p.decompositions = omega (arith, c.in_ok-numbering.ensures.count, c.len.ensures, b, f) in
    let numbering : IsNumbering (length p.actions) 0 met lines numbers = subst (λ n. IsNumbering n 0 met lines numbers) c.len-actions.ensures.count c.in_ok-numbering.ensures.numbering in
    let made : map (map child_view) c.in_ok-children.children ≡ children_by_number (length p.actions) lines numbers root lists =
    c.in_ok-children.ensures ∙ (λ j. children_by_number (c.len-actions.ensures.count j) lines numbers (c.deref.ensures.value j) lists) in
    let P : List (List Item) → Type 0 = λ cs. IsShape p (record { lines = lines; numbers = numbers; children = cs }) in (
      form_tree p root lists met marks c.requires.root c.requires.lists c.requires.once c.requires.known c.requires.met.walk c.requires.single c.requires.met.all,
      subst P (sym made)
          (is_shape p root lists met lines numbers marks c.requires.root c.requires.lists c.requires.once c.requires.known c.requires.single c.requires.met.walk c.requires.met.count_is c.requires.met.all
          numbering many),
    )
