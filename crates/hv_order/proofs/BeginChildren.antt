-- The children of a node are begun one after another, behind the first index at which it can be over.
use Rattle.std.proofs.Common.{◌≡◌, ◌≢◌, ℕ, ◌+◌, ◌≤◌, ◌<◌, List, refl, sym, ap, ◌∙◌, inl, inr, arith, ◌⊎◌, Option, Some, None, length, get_or-set_same, get_or-set_other}
use Rattle.std.specs.Prelude.{slice_index}
use Rattle.std.specs.List.{slice_set}
use Rattle.std.proofs.lemmas.Bool.{cases_lt}
use Rattle.hv_plan.specs.declared.tree.Child.{Child}
use Rattle.hv_plan.specs.declared.tree.Child.TheVariants as children
use Rattle.hv_order.specs.inside.Children.{child_at, IsNodeBelow, AreNodesBelow}
use Rattle.hv_order.specs.inside.Arrangements.{Arrangement}
use Rattle.hv_order.specs.inside.Facts.{Facts, FitsWith, IsFirstStretch}
use Rattle.hv_order.specs.inside.Walks.{said_of, IsChildAt, AreApartNodes}
use Rattle.hv_order.specs.inside.Begun.{CanBeOver}
use Rattle.hv_order.specs.declared.trial.Stretch.{Stretch}
use Rattle.hv_order.proofs.Members.{SameNumber, equal_numbers, other_numbers, number_cases}

-- the nodes among the first i children are begun
pub record AreSetTo (starts : List (Option ℕ)) (cs : List Child) (begins : List ℕ) (i : ℕ) (starts' : List (Option ℕ)) : Type 0 where
  pub begun : (j u : ℕ) → j < i → IsChildAt cs j u → said_of starts' u ≡ Some (slice_index begins j)
  pub kept : (u : ℕ) → ((j : ℕ) × IsChildAt cs j u) ⊎ (said_of starts' u ≡ said_of starts u)

pub none_set : (starts : List (Option ℕ)) (cs : List Child) (begins : List ℕ) → AreSetTo starts cs begins 0 starts
none_set starts cs begins = record { begun = λ j u lt child. absurd (omega (arith, lt)); kept = λ u. inr refl }

not_both : (k u : ℕ) → children.Action k ≡ children.Node u → ⊥
not_both k u e = cc

same_node : (u w : ℕ) → children.Node u ≡ children.Node w → u ≡ w
same_node u w e = cc

-- an action is no node
pub set_action : (starts : List (Option ℕ)) (cs : List Child) (begins : List ℕ) (i : ℕ) (starts' : List (Option ℕ)) (k : ℕ) → child_at cs i ≡ children.Action k → AreSetTo starts cs begins i starts' → AreSetTo starts cs begins (i + 1) starts'
set_action starts cs begins i starts' k is set = record { begun = λ j u lt child. begun j u child (cases_lt j i) lt; kept = set.kept }
  where
    begun : (j u : ℕ) → IsChildAt cs j u → (j < i) ⊎ (i ≤ j) → j < i + 1 → said_of starts' u ≡ Some (slice_index begins j)
    begun j u child (inl a) lt = set.begun j u a child
    begun j u child (inr a) lt = let same : i ≡ j = omega (arith, a, lt) in absurd (not_both k u (sym is ∙ (ap (child_at cs) same ∙ child.1)))

-- a node is begun
pub set_node : (starts : List (Option ℕ)) (cs : List Child) (begins : List ℕ) (i : ℕ) (starts' : List (Option ℕ)) (v : ℕ) → i < length cs → child_at cs i ≡ children.Node v → v < length starts' → AreApartNodes cs → AreSetTo starts cs begins i starts' → AreSetTo starts cs begins (i + 1) (slice_set starts' v (Some (slice_index begins i)))
set_node starts cs begins i starts' v within is room apart set = record { begun = λ j u lt child. begun j u child (cases_lt j i) lt; kept = λ u. kept u (number_cases u v) }
  where
    elsewhere : (u : ℕ) → u ≢ v → said_of (slice_set starts' v (Some (slice_index begins i))) u ≡ said_of starts' u
    elsewhere u other = get_or-set_other starts' v u (Some (slice_index begins i)) None other

    here : said_of (slice_set starts' v (Some (slice_index begins i))) v ≡ Some (slice_index begins i)
    here = get_or-set_same starts' v (Some (slice_index begins i)) None room

    begun : (j u : ℕ) → IsChildAt cs j u → (j < i) ⊎ (i ≤ j) → j < i + 1 → said_of (slice_set starts' v (Some (slice_index begins i))) u ≡ Some (slice_index begins j)
    begun j u child (inl a) lt =
        elsewhere u (λ e. let same = apart j i u child (within, is ∙ ap children.Node (sym e)) in absurd (omega (arith, a, same)))
        ∙ set.begun j u a child
    begun j u child (inr a) lt =
        let same : i ≡ j = omega (arith, a, lt) in
        let node : v ≡ u = same_node v u (sym is ∙ (ap (child_at cs) same ∙ child.1)) in
        ap (said_of (slice_set starts' v (Some (slice_index begins i)))) (sym node) ∙ (here ∙ ap (λ k. Some (slice_index begins k)) same)

    kept : (u : ℕ) → SameNumber u v → ((j : ℕ) × IsChildAt cs j u) ⊎ (said_of (slice_set starts' v (Some (slice_index begins i))) u ≡ said_of starts u)
    kept u (equal_numbers e t) = inl (i, (within, is ∙ ap children.Node (sym e)))
    kept u (other_numbers e t) = by_kept (set.kept u)
      where
        by_kept : ((j : ℕ) × IsChildAt cs j u) ⊎ (said_of starts' u ≡ said_of starts u) → ((j : ℕ) × IsChildAt cs j u) ⊎ (said_of (slice_set starts' v (Some (slice_index begins i))) u ≡ said_of starts u)
        by_kept (inl child) = inl child
        by_kept (inr same) = inr (elsewhere u e ∙ same)

-- behind the first index at which its precondition is true a candidate can be over where it fits
pub can_be_over : (q : Facts) (c : Arrangement) (s last f : ℕ) (r : Stretch) → FitsWith q last c f → s ≤ last → f ≤ q.last → IsFirstStretch (q.holds c) s f r → CanBeOver q c r.first f
can_be_over q c s last f r fits le within first = record { index = fits.at; late = by_order (cases_lt fits.at r.first); early = fits.early; within = within; together = fits.together }
  where
    by_order : (fits.at < r.first) ⊎ (r.first ≤ fits.at) → r.first ≤ fits.at
    by_order (inl a) = let b = fits.late in absurd (first.none_before fits.at (omega (arith, le)) a fits.holds)
    by_order (inr a) = a

-- numbers below one bound are below a higher one
node_below : (m n : ℕ) (x : Child) → m ≤ n → IsNodeBelow m x → IsNodeBelow n x
node_below m n (children.Action k) le h = tt
node_below m n (children.Node v) le h = let lt : v < m = h in omega arith

pub nodes_below : (m n : ℕ) (cs : List Child) → m ≤ n → AreNodesBelow m cs → AreNodesBelow n cs
nodes_below m n cs le are = λ k d lt. node_below m n _ le (are k d lt)
