-- The first node of a tree whose count is above a limit.
use Rattle.std.proofs.Common.{◌≡◌, ◌<◌, ◌≤◌, ◌+◌, ℕ, Some, length, slice_get, sym, ap, inl, inr, ◌∙◌, arith}
use Rattle.hv_lists.proofs.Numbers.{below_next}
use Rattle.hv_lists.proofs.Contained.{place_of}
use Rattle.hv_world.specs.Worlds.{World}
use Rattle.hv_plan.specs.PlanTrees.{PlanTree, IsTreeIn}
use Rattle.hv_judge.specs.Causes.{IsCountWithin, IsFirstAbove, IsWithinLimit}
use Rattle.hv_judge.specs.inside.Ends.{IsAboveAt, IsWithinAt}

module _ (w : World) (t : PlanTree) (limit : ℕ) where
  -- the first place whose node has a count above the limit
  pub first_above : (place line : ℕ)
      → ((i v : ℕ) → i < place → slice_get t.order i ≡ Some v → IsCountWithin w t limit v)
      → IsAboveAt w t limit place line → IsFirstAbove w t limit line
  first_above place line earlier h =
      record {
        place = place;
        number = h.number;
        stands = h.stands;
        node = h.node;
        has_node = h.has_node;
        above = h.above;
        earlier = earlier;
        on_line = h.on_line;
      }

  -- one place more
  pub one_more : (place : ℕ)
      → ((i v : ℕ) → i < place → slice_get t.order i ≡ Some v → IsCountWithin w t limit v)
      → IsWithinAt w t limit place
      → (i v : ℕ) → i < place + 1 → slice_get t.order i ≡ Some v → IsCountWithin w t limit v
  one_more place earlier here i v less at =
      elim (below_next i place less) [
        | inl before ↦ earlier i v before at
        | inr same ↦ here v (sym (ap (slice_get t.order) same) ∙ at)
      ]

  -- there are as many places as nodes
  pub as_many : IsTreeIn w t → length t.order ≡ length t.nodes
  as_many tree = rw (tree.is_tree.order, tree.is_tree.last, tree.is_tree.as_many) (omega arith)

  -- all places
  pub none_above : (place : ℕ) → IsTreeIn w t → length t.nodes ≤ place
      → ((i v : ℕ) → i < place → slice_get t.order i ≡ Some v → IsCountWithin w t limit v)
      → IsWithinLimit w t limit
  none_above place tree behind all v is =
      let at = place_of t.order v (tree.is_tree.every v is) in
      let many = as_many tree in
      all at.0 v (omega (arith, at.1, many, behind)) at.3
