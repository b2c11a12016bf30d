-- Every node of a tree of a world has a method.
use Rattle.std.proofs.Common.{◌≡◌, ℕ, ◌<◌, ◌≢◌, length, refl, sym, arith, subst, ◌⊎◌, inl, inr, Option, Some, None, slice_get, option_and_then, IsSome, MatchOption}
use Rattle.hv_world.specs.Worlds.{World}
use Rattle.hv_plan.specs.Values.{Decomposition, Root}
use Rattle.hv_plan.specs.Fits.{FitsDecomposition}
use Rattle.hv_plan.specs.PlanTrees.{Node, PlanTree, IsNodeOf, IsRootOf, IsTreeIn}
use Rattle.hv_plan.proofs.Cited.{line_of}
use Rattle.hv_match.specs.Candidates.{node_method, IsNode}

module _ (w : World) (t : PlanTree) where
  root_has : (r : Root) (o : Option Node) → MatchOption o ⊥ (IsRootOf t r) → IsSome (option_and_then (node_method w) o)
  root_has r None is = absurd is
  root_has r (Some n) is = rw is.method refl

  line_has : (d : Decomposition) (o : Option Node) → FitsDecomposition w d → MatchOption o ⊥ (IsNodeOf w t d) → IsSome (option_and_then (node_method w) o)
  line_has d None fit is = absurd is
  line_has d (Some n) fit is = rw (is.method, fit.named, fit.numbered) refl

  pub has_method : IsTreeIn w t → (v : ℕ) → v < length t.nodes → IsNode w t v
  has_method is v lt = go (root_or_line v is.is_tree.root)
    where
      root_or_line : (v root : ℕ) → (v ≡ root) ⊎ (v ≢ root)
      root_or_line v root = grind arith

      go : (v ≡ is.is_tree.root) ⊎ (v ≢ is.is_tree.root) → IsNode w t v
      go (inl e) = let P : ℕ → Type 0 = λ x. IsNode w t x in subst P (sym e) (root_has is.plan.root (slice_get t.nodes is.is_tree.root) is.is_tree.root_node)
      go (inr d) =
          let (line, among, node) = line_of w is.plan t is.is_tree v (omega (arith, lt, d, is.is_tree.last)) in
          line_has line (slice_get t.nodes v) (subst (λ (z : Decomposition). FitsDecomposition w z) among.2 (is.fits.decompositions among.0 line among.1)) node

  -- its node is there
  pub has_node : IsTreeIn w t → (v : ℕ) → v < length t.nodes → slice_get t.nodes v ≡ None → ⊥
  has_node is v lt e = by (slice_get t.nodes v) e (has_method is v lt)
    where
      by : (o : Option Node) → o ≡ None → IsSome (option_and_then (node_method w) o) → ⊥
      by None e s = cc
      by (Some n) e s = cc

  pub no_method : IsTreeIn w t → (v : ℕ) (n : Node) → v < length t.nodes → slice_get t.nodes v ≡ Some n → node_method w n ≡ None → ⊥
  no_method is v n lt e f = by (slice_get t.nodes v) e (has_method is v lt)
    where
      by : (o : Option Node) → o ≡ Some n → IsSome (option_and_then (node_method w) o) → ⊥
      by None e s = cc
      by (Some m) e s = let g : m ≡ n = cc in (let s' = rw (g, f) at s in cc)
