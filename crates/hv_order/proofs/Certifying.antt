-- What is chosen for all nodes can be written down, and what is written certifies the plan.
use Rattle.std.proofs.Common.{◌≡◌, ℕ, ◌<◌, ◌⊎◌, inl, inr, List, Option, Some, None, length, map, slice_get, refl, sym, subst, arith, All, MatchOption}
use Rattle.std.specs.List.{AllZip}
use Rattle.std.proofs.lemmas.Option.{slice_get_within}
use Rattle.hv_lists.proofs.Places.{member_at}
use Rattle.hv_lists.proofs.Numbers.{below_next}
use Rattle.hv_world.specs.Bounds.{IsSound}
use Rattle.hv_world.specs.Types.{Of}
use Rattle.hv_plan.specs.TreeViews.{child_view}
use Rattle.hv_plan.specs.PlanTrees.{Node, IsTreeIn, root_number, tree_of}
use Rattle.hv_order.specs.Meanings as meanings
use Rattle.hv_order.specs.Sequences.{HasSequenceAt}
use Rattle.hv_order.specs.Settings.{Setting, AmountsTo, last}
use Rattle.hv_order.specs.Certified.{IsChildId, IsNameOf, Says, SaysLine, Certifies, line_numbers}
use Rattle.hv_order.specs.inside.Writings.{IsIdOf, HasId, IsObjectOf, IsAtPlace, IsChosenFor, AreChosen, IsWritable, AreWritable, SaysChosen, SaysChosenLine, SaysAll}
use Rattle.hv_certificate.specs.declared.certificate.Choice.{Choice}
use Rattle.hv_certificate.specs.declared.certificate.Certificate.{Certificate}
use Rattle.hv_order.specs.declared.certify.Chosen.{Chosen}
use Rattle.hv_order.proofs.Writing.{zip_through, zip_weaker, seconds, firsts}
use Rattle.hv_order.proofs.TreeLines.{child_has_id}

module _ (q : Setting) (is : IsTreeIn q.plan.world q.tree) where
  -- what is chosen can be written down
  writable : IsSound q.plan.world → (v : ℕ) (M B : List ℕ) (at : ℕ) (c : Chosen) (m : meanings.Meaning)
      → AmountsTo q v M B m → IsChosenFor q.tree v M B at c → IsWritable q.plan.world q.tree c
  writable sound v M B at c m amounts chosen =
      let P : List ℕ → Type 0 = λ os. All (IsObjectOf q.plan.world) os in
      record {
        children = seconds (IsAtPlace q.tree v) (HasId q.tree) (λ x y child. child_has_id q.plan.world q.tree is v child.node x y child.has_node child.has_child)
            M (map child_view c.children.now) chosen.children;
        objects = subst P (sym chosen.objects)
            (firsts (Of q.plan.world.typing) (IsObjectOf q.plan.world) (λ o t of. omega (arith, of.0, sound.object_count)) B amounts.method.parameters amounts.candidate.typed);
      }

  module _ (chosen : List Chosen) (matching binding : ℕ → List ℕ) (at : ℕ → ℕ) (o : meanings.Choice)
      (are : AreChosen q chosen matching binding at o) where
    pub writables : IsSound q.plan.world → AreWritable q.plan.world q.tree chosen
    writables sound = record { as_many = are.as_many; each = each }
      where
        root_or_below : (v : ℕ) → v < length q.tree.nodes → (v ≡ root_number q.tree) ⊎ (v < root_number q.tree)
        root_or_below v lt = by (below_next v (root_number q.tree) (omega (arith, lt, is.is_tree.last)))
          where
            by : (v < root_number q.tree) ⊎ (v ≡ root_number q.tree) → (v ≡ root_number q.tree) ⊎ (v < root_number q.tree)
            by (inl a) = inr a
            by (inr b) = inl b

        each : (v : ℕ) (c : Chosen) → slice_get chosen v ≡ Some c → IsWritable q.plan.world q.tree c
        each v c e = by_side (root_or_below v (let lt = slice_get_within chosen v c e in omega (arith, lt, are.as_many)))
          where
            by_side : (v ≡ root_number q.tree) ⊎ (v < root_number q.tree) → IsWritable q.plan.world q.tree c
            by_side (inl same) =
                let P : ℕ → Type 0 = λ u. AmountsTo q u (matching u) (binding u) o.root in
                writable sound v (matching v) (binding v) (at v) c o.root (subst P (sym same) are.root) (are.each v c e)
            by_side (inr below) = writable sound v (matching v) (binding v) (at v) c (o.line v) (are.nodes v below) (are.each v c e)

    chosen_at : (v : ℕ) → v < length q.tree.nodes → (c : Chosen) × (slice_get chosen v ≡ Some c)
    chosen_at v lt = member_at chosen v (omega (arith, lt, are.as_many))

    says : (v : ℕ) (c : Chosen) (s : Choice) → slice_get chosen v ≡ Some c → SaysChosen q.plan.world q.tree c s → Says q v (matching v) (binding v) s
    says v c s e said =
        let for = are.each v c e in
        let P : List ℕ → Type 0 = λ os. AllZip (IsNameOf q) os s.objects.items in
        record {
          children = zip_through (IsAtPlace q.tree v) (IsIdOf q.tree) (IsChildId q v)
              (λ x y i child stands. record { node = child.node; has_node = child.has_node; child = y; has_child = child.has_child; stands = stands })
              (matching v) (map child_view c.children.now) s.children.items for.children said.children;
          objects = subst P for.objects said.objects;
        }

    says_line : (v : ℕ) (l : ℕ × Choice × ℕ) → SaysChosenLine q.plan.world q.tree chosen v l → SaysLine q matching binding at v l
    says_line v l said = by (slice_get q.tree.nodes v) refl said.id
      where
        by : (n : Option Node) → slice_get q.tree.nodes v ≡ n → MatchOption n ⊥ (λ n. n.id ≡ Some l.0) → SaysLine q matching binding at v l
        by None e id = absurd id
        by (Some n) e id =
            let (c, f) = chosen_at v (slice_get_within q.tree.nodes v n e) in
            record { id = said.id; choice = says v c l.1 f (said.choice c f); index = cc (said.index c f, (are.each v c f).index) }

    -- with an executable sequence in which each precondition stands at its index, it is a certificate
    pub certifies : (s : Certificate) → HasSequenceAt (tree_of q.tree) o at (last q) → SaysAll q.plan.world q.tree chosen s → Certifies q s
    certifies s sequence said =
        let root_within : root_number q.tree < length q.tree.nodes = omega (arith, is.is_tree.last) in
        let (c, e) = chosen_at (root_number q.tree) root_within in
        record {
          matching = matching;
          binding = binding;
          at = at;
          choice = o;
          root = are.root;
          nodes = are.nodes;
          says_root = says (root_number q.tree) c s.root e (said.root c e);
          says_lines = zip_weaker (SaysChosenLine q.plan.world q.tree chosen) (SaysLine q matching binding at) says_line (line_numbers q.tree) s.lines.items said.lines;
          sequence = sequence;
        }
