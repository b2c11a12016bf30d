-- A node fits between two states exactly where its steps can be placed between them, so both have the
-- same least finishes.
use Rattle.std.proofs.Common.{◌≡◌, ◌↔◌, ◌⊎◌, ℕ, suc, ◌<◌, ◌≤◌, inl, inr, List, length, sym, subst, arith, Option}
use Rattle.std.proofs.lemmas.Bool.{cases_lt}
use Rattle.std.proofs.lemmas.Option.{slice_get_within}
use Rattle.hv_plan.specs.PlanTrees.{root_number, tree_of}
use Rattle.hv_order.specs.LeastFinishes.{NodeCanBePlaced, LineCanBePlaced, IsLeastFinishOf, IsNumberOfAnswers, IsCounted}
use Rattle.hv_order.specs.Settings.{Setting, last, IsMeaning, HaveCandidates}
use Rattle.hv_order.specs.Tables.{IsLeast}
use Rattle.hv_order.specs.inside.PlanFacts.{IsSetting, FitsNode, plan_facts}
use Rattle.hv_order.specs.inside.Runs.{AreRows, ArePlanRows, runs_of}
use Rattle.hv_order.specs.declared.runs.Row.{Row}
use Rattle.hv_order.proofs.Different.{number_is}
use Rattle.hv_order.proofs.Judgement.{line_placed}
use Rattle.hv_order.proofs.Leasts.{least_iff}
use Rattle.hv_order.proofs.NodeFits.{plan_nodes}
use Rattle.hv_order.proofs.NodeParts.{meanings_are_orders}
use Rattle.hv_order.proofs.RootNode.{root_placed}

-- the same finishes give as many answers
number_iff :
    (Fit Fit' : ℕ → ℕ → Type 0) (n count : ℕ) → ((s f : ℕ) → Fit s f ↔ Fit' s f)
    → IsNumberOfAnswers Fit n count → IsNumberOfAnswers Fit' n count
number_iff Fit Fit' n count same number = record {
  answers = number.answers;
  as_many = number.as_many;
  once = number.once;
  has = λ s o le least. number.has s o le (back s o least);
  only = λ o m. let (s, le, least) = number.only o m in (s, le, there s o least);
}
  where
    there : (s : ℕ) (o : Option ℕ) → IsLeast (Fit s) n o → IsLeast (Fit' s) n o
    there s o least = least_iff (Fit s) (Fit' s) n o (λ f h. (same s f).0 h) (λ f h. (same s f).1 h) least

    back : (s : ℕ) (o : Option ℕ) → IsLeast (Fit' s) n o → IsLeast (Fit s) n o
    back s o least = least_iff (Fit' s) (Fit s) n o (λ f h. (same s f).1 h) (λ f h. (same s f).0 h) least

module _ (q : Setting) (is : IsSetting q) (v : ℕ) (below : v < length q.tree.nodes) where
  line_both : (s f : ℕ) → FitsNode q v s f ↔ LineCanBePlaced q v s f
  line_both s f =
      line_placed (tree_of q.tree) (IsMeaning q) (suc v) v s f is.tree.is_tree.shape.tree
      (λ u c m. meanings_are_orders q is u c m) (omega arith)

  fits_placed : (s f : ℕ) → FitsNode q v s f → NodeCanBePlaced q v s f
  fits_placed s f fits = record {
    root = λ e. (root_placed q is s f).0 (let P : ℕ → Type 0 = λ u. FitsNode q u s f in subst P e fits);
    line = λ lt. (line_both s f).0 fits;
  }

  placed_fits : (s f : ℕ) → NodeCanBePlaced q v s f → FitsNode q v s f
  placed_fits s f placed = by_place (cases_lt v (root_number q.tree))
    where
      by_place : (v < root_number q.tree) ⊎ (root_number q.tree ≤ v) → FitsNode q v s f
      by_place (inl lt) = (line_both s f).1 (placed.line lt)
      by_place (inr le) =
          let e : v ≡ root_number q.tree = omega arith in
          let P : ℕ → Type 0 = λ u. FitsNode q u s f in
          subst P (sym e) ((root_placed q is s f).1 (placed.root e))

  node_both : (s f : ℕ) → FitsNode q v s f ↔ NodeCanBePlaced q v s f
  node_both s f = ((λ fits. fits_placed s f fits), (λ placed. placed_fits s f placed))

  pub least_placed : (s : ℕ) (o : Option ℕ) → IsLeast (FitsNode q v s) (last q) o → IsLeastFinishOf q v s o
  least_placed s o least =
      least_iff (FitsNode q v s) (NodeCanBePlaced q v s) (last q) o
      (λ f fits. fits_placed s f fits) (λ f placed. placed_fits s f placed) least

  pub number_placed :
      (count : ℕ) → IsNumberOfAnswers (FitsNode q v) (last q) count
      → IsNumberOfAnswers (NodeCanBePlaced q v) (last q) count
  number_placed count number = number_iff (FitsNode q v) (NodeCanBePlaced q v) (last q) count (λ s f. node_both s f) number

  pub counted_placed :
      (looked : ℕ) → IsCounted (FitsNode q v) (last q) looked
      → IsCounted (NodeCanBePlaced q v) (last q) looked
  counted_placed looked counted = record {
    answers = counted.answers;
    is_number = number_placed counted.answers counted.is_number;
    one = counted.one;
    few = counted.few;
  }

-- the rows of the facts of a plan are those of its nodes
pub plan_rows :
    (q : Setting) (rows : List Row) → IsSetting q → HaveCandidates q
    → length rows ≡ length q.tree.nodes → AreRows (plan_facts q) rows → ArePlanRows q rows
plan_rows q rows is candidates as_many are = record {
  setting = is;
  candidates = candidates;
  as_many = as_many;
  each = are;
  as_many_runs = λ v r e.
      let row = are v r e in
      let lt = slice_get_within rows v r e in
      number_placed q is v (omega arith) (length (runs_of (last q) r))
      (number_is (FitsNode q v) (λ s s' f le fits. (plan_nodes q is).fits.earlier v s s' f le fits) (last q) (runs_of (last q) r) row.runs row.apart);
}
