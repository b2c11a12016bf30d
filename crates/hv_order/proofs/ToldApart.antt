-- No two children of a node begin with one id, no two objects have one name, and no node stands at two
-- places in the order of nodes: so a certificate says one candidate of each node.
use Rattle.std.proofs.Common.{◌≡◌, ◌≢◌, ℕ, ◌<◌, ◌⊎◌, inl, inr, List, [], ◌∷◌, Option, Some, None, length, map, slice_get, refl, sym, ap, ◌∙◌, subst, arith, Contains, MatchOption}
use Rattle.std.specs.List.{AllZip, flat_map}
use Rattle.std.proofs.lemmas.Option.{MatchOption-at_some, get_or_from_slice_get, slice_get_within}
use Rattle.hv_lists.specs.Lists.{Once}
use Rattle.hv_lists.proofs.Pairs.{zip_back}
use Rattle.hv_lists.proofs.Contained.{contains_cases}
use Rattle.hv_lists.proofs.EachOnce.{same_place, once_left, once_right}
use Rattle.hv_text.specs.Names.{text_of}
use Rattle.hv_text.specs.declared.name.Name.{Name}
use Rattle.hv_world.specs.Bounds.{IsSound}
use Rattle.hv_world.specs.Worlds.{World}
use Rattle.hv_world.proofs.Cited.{found_at}
use Rattle.hv_plan.specs.Values.{Decomposition}
use Rattle.hv_plan.specs.Shapes.{line_parent}
use Rattle.hv_plan.specs.Trees.{Item, Act, Task, Pre}
use Rattle.hv_plan.specs.PlanTrees.{Node, PlanTree, IsNodeOf, IsRootOf, IsTreeIn, StandsFor}
use Rattle.hv_plan.proofs.Cited.{line_of}
use Rattle.hv_order.specs.Settings.{Setting}
use Rattle.hv_order.specs.Certified.{IsChildId}
use Rattle.hv_order.specs.inside.Writings.{IsIdOf, IsNameIn}
use Rattle.hv_order.specs.inside.Checks.{AreToldApart}

-- a number that stands at two places of a list with each once stands at one
pub one_stand : (xs : List ℕ) → Once xs → (i j v : ℕ) → slice_get xs i ≡ Some v → slice_get xs j ≡ Some v → i ≡ j
one_stand xs once i j v e f =
    same_place xs once i j (slice_get_within xs i v e) (slice_get_within xs j v f)
    (get_or_from_slice_get xs i v 0 e ∙ sym (get_or_from_slice_get xs j v 0 f))

-- lists that are zipped with one list, where each of its members tells its partner, are one
pub same_firsts : {A B : Type 0} (R : A → B → Type 0) (xs ys : List A) (zs : List B) → ((x y : A) (z : B) → R x z → R y z → x ≡ y)
    → AllZip R xs zs → AllZip R ys zs → xs ≡ ys
same_firsts R [] [] zs one r s = refl
same_firsts R [] (y ∷ ys) [] one r s = absurd s
same_firsts R [] (y ∷ ys) (z ∷ zs) one r s = absurd r
same_firsts R (x ∷ xs) [] [] one r s = absurd r
same_firsts R (x ∷ xs) [] (z ∷ zs) one r s = absurd s
same_firsts R (x ∷ xs) (y ∷ ys) [] one r s = absurd r
same_firsts R (x ∷ xs) (y ∷ ys) (z ∷ zs) one r s =
    let first : x ≡ y = one x y z r.0 s.0 in
    let rest : xs ≡ ys = same_firsts R xs ys zs one r.1 s.1 in
    cc

pub zip_flip : {A B : Type 0} (R : A → B → Type 0) (xs : List A) (ys : List B) → AllZip R xs ys → AllZip (λ y x. R x y) ys xs
zip_flip R [] [] r = tt
zip_flip R [] (y ∷ ys) r = absurd r
zip_flip R (x ∷ xs) [] r = absurd r
zip_flip R (x ∷ xs) (y ∷ ys) r = (r.0, zip_flip R xs ys r.1)

-- an item's line begins with one id
pub one_id : (t : PlanTree) (i j : ℕ) (x : Item) → StandsFor t i x → StandsFor t j x → i ≡ j
one_id t i j (Act k) a b = let both : Some i ≡ Some j = sym a ∙ b in cc
one_id t i j (Task v) a b = by (slice_get t.nodes v) a b
  where
    by : (o : Option Node) → MatchOption o ⊥ (λ n. n.id ≡ Some i) → MatchOption o ⊥ (λ n. n.id ≡ Some j) → i ≡ j
    by None c d = absurd c
    by (Some n) c d = let both : Some i ≡ Some j = sym c ∙ d in cc
one_id t i j (Pre v) a b = absurd a

once_of_line : (ds : List Decomposition) (d : Decomposition) → Once (flat_map (λ q. q.children) (map line_parent ds)) → Contains ds d → Once d.children
once_of_line [] d once c = absurd (let lt : c.0 < 0 = c.1 in omega (arith, lt))
once_of_line (x ∷ ds) d once c = by (contains_cases x ds d c) (λ m. once_of_line ds d (once_right x.children (flat_map (λ q. q.children) (map line_parent ds)) once) m)
  where
    by : (d ≡ x) ⊎ Contains ds d → (Contains ds d → Once d.children) → Once d.children
    by (inl e) rest = subst (λ (y : Decomposition). Once y.children) (sym e) (once_left x.children (flat_map (λ q. q.children) (map line_parent ds)) once)
    by (inr m) rest = rest m

-- the ids that a node's line names, each once
pub record HasIds (t : PlanTree) (xs : List Item) : Type 0 where
  pub ids : List ℕ
  pub stand : AllZip (StandsFor t) ids xs
  pub once : Once ids

module _ (w : World) (t : PlanTree) (is : IsTreeIn w t) where
  of_root : Once is.plan.root.ids
  of_root = once_left is.plan.root.ids (flat_map (λ q. q.children) (map line_parent is.plan.decompositions)) is.forms.once

  of_lines : Once (flat_map (λ q. q.children) (map line_parent is.plan.decompositions))
  of_lines = once_right is.plan.root.ids (flat_map (λ q. q.children) (map line_parent is.plan.decompositions)) is.forms.once

  pub node_ids : (v : ℕ) (n : Node) → slice_get t.nodes v ≡ Some n → HasIds t n.children
  node_ids v n e = by_side (root_or_line v is.is_tree.root)
    where
      root_or_line : (v root : ℕ) → (v ≡ root) ⊎ (v ≢ root)
      root_or_line v root = grind arith

      by_side : (v ≡ is.is_tree.root) ⊎ (v ≢ is.is_tree.root) → HasIds t n.children
      by_side (inl same) =
          let at : slice_get t.nodes is.is_tree.root ≡ Some n = ap (slice_get t.nodes) (sym same) ∙ e in
          let root : IsRootOf t is.plan.root n = MatchOption-at_some ⊥ (IsRootOf t is.plan.root) n at is.is_tree.root_node in
          record { ids = is.plan.root.ids; stand = root.children; once = of_root }
      by_side (inr other) =
          let lt : v < length t.nodes = slice_get_within t.nodes v n e in
          let (d, among, node) = line_of w is.plan t is.is_tree v (omega (arith, lt, other, is.is_tree.last)) in
          let line : IsNodeOf w t d n = MatchOption-at_some ⊥ (IsNodeOf w t d) n e node in
          record { ids = d.children; stand = line.children; once = once_of_line is.plan.decompositions d of_lines among }

  -- no two children of a node begin with one id
  pub told_apart : (v : ℕ) (n : Node) (xs : List Item) → slice_get t.nodes v ≡ Some n → xs ≡ n.children → AreToldApart t xs
  told_apart v n xs e f = λ ids zip.
      let h = node_ids v n e in
      let P : List Item → Type 0 = λ ys. AllZip (IsIdOf t) ys ids in
      let own : AllZip (StandsFor t) ids n.children = zip_flip (IsIdOf t) n.children ids (subst P f zip) in
      let same : h.ids ≡ ids = same_firsts (StandsFor t) h.ids ids n.children (λ i j x a b. one_id t i j x a b) h.stand own in
      let Q : List ℕ → Type 0 = λ is. Once is in
      subst Q same h.once

  -- an id stands at one place among a node's
  pub one_child : (v : ℕ) (n : Node) (x y i : ℕ) (c d : Item) → slice_get t.nodes v ≡ Some n → slice_get n.children x ≡ Some c
      → slice_get n.children y ≡ Some d → StandsFor t i c → StandsFor t i d → x ≡ y
  one_child v n x y i c d e f g a b =
      let h = node_ids v n e in
      let (j, at, first) = zip_back (StandsFor t) h.ids n.children x c h.stand f in
      let (k, there, second) = zip_back (StandsFor t) h.ids n.children y d h.stand g in
      let P : ℕ → Type 0 = λ z. slice_get h.ids x ≡ Some z in
      let Q : ℕ → Type 0 = λ z. slice_get h.ids y ≡ Some z in
      one_stand h.ids h.once x y i (subst P (one_id t j i c first a) at) (subst Q (one_id t k i d second b) there)

-- of each node one matching is said
module _ (q : Setting) (is : IsTreeIn q.plan.world q.tree) where
  pub one_child_id : (v x y i : ℕ) → IsChildId q v x i → IsChildId q v y i → x ≡ y
  one_child_id v x y i a b =
      let same : Some a.node ≡ Some b.node = sym a.has_node ∙ b.has_node in
      let node : b.node ≡ a.node = cc in
      let P : Node → Type 0 = λ n. slice_get n.children y ≡ Some b.child in
      one_child q.plan.world q.tree is v a.node x y i a.child b.child a.has_node a.has_child (subst P node b.has_child) a.stands b.stands

-- and one binding
pub one_object : (w : World) → IsSound w → (o p : ℕ) (n : Name) → IsNameIn w o n → IsNameIn w p n → o ≡ p
one_object w sound o p n a b =
    let first = found_at w.objects sound.named.objects o (text_of n) a in
    let second = found_at w.objects sound.named.objects p (text_of n) b in
    let both : Some o ≡ Some p = sym first ∙ second in
    cc
