-- Split: what stands outside a line precedes all items at and below the line or none, and comes
-- behind all or none.
use Rattle.std.proofs.Common.{ℕ, sym, subst}
use Rattle.hv_plan.specs.Trees.{Item, Task, Tree, AtOrBelow, its_pre, its_child, Reached, IsTree}
use Rattle.hv_order.specs.Meanings.{Choice}
use Rattle.hv_order.specs.Laws.{SplitLaw}
use Rattle.hv_order.proofs.Ancestry.{under}
use Rattle.hv_order.proofs.Precedence.{Line, Meet, meet_same, meet_over, meet_under, Order, by_pre, by_node, to_order, from_order, meet, above_kid, above_pre_step, parent_of}

module _ (t : Tree) (tree : IsTree t) (o : Choice) where
  pub split_before : (v : ℕ) (x y z : Item) → Reached t (Task v) → (AtOrBelow t (Task v) x → ⊥) → AtOrBelow t (Task v) y → AtOrBelow t (Task v) z → Order t o x y → Order t o x z
  split_before v x y z rv out p q (by_pre {v = w} {c = c} e r m h) =
      let up = parent_of t tree v rv in by_meet (meet t tree (Line w) up.node c (Task v) y r up.in_tree m up.kid h p)
    where
      by_meet : Meet t (Line w) (parent_of t tree v rv).node c (Task v) → Order t o x z
      by_meet (meet_same i i') = by_pre e r m (subst (λ u. AtOrBelow t u z) (sym i') q)
      by_meet (meet_over u) = by_pre e r m (above_kid t tree (parent_of t tree v rv).node c (Task v) z u (parent_of t tree v rv).kid q)
      by_meet (meet_under u) = absurd (out (subst (AtOrBelow t (Task v)) (sym e) (its_pre u)))
  split_before v x y z rv out p q (by_node a {c = c} {d = d} r m k h h1 h2) =
      let up = parent_of t tree v rv in by_meet (meet t tree a up.node d (Task v) y r up.in_tree k up.kid h2 p)
    where
      by_meet : Meet t a (parent_of t tree v rv).node d (Task v) → Order t o x z
      by_meet (meet_same i i') = by_node a r m k h h1 (subst (λ u. AtOrBelow t u z) (sym i') q)
      by_meet (meet_over u) = by_node a r m k h h1 (above_kid t tree (parent_of t tree v rv).node d (Task v) z u (parent_of t tree v rv).kid q)
      by_meet (meet_under u) = absurd (out (above_kid t tree a (Task v) c x u m h1))

  pub split_behind : (v : ℕ) (x y z : Item) → Reached t (Task v) → (AtOrBelow t (Task v) y → ⊥) → AtOrBelow t (Task v) x → AtOrBelow t (Task v) z → Order t o x y → Order t o z y
  split_behind v x y z rv out p q (by_pre {v = w} {c = c} e r m h) =
      absurd (out (under t (Task v) c (its_child (above_pre_step t tree (Task v) w tt (subst (AtOrBelow t (Task v)) e p)) m) h))
  split_behind v x y z rv out p q (by_node a {c = c} {d = d} r m k h h1 h2) =
      let up = parent_of t tree v rv in by_meet (meet t tree a up.node c (Task v) x r up.in_tree m up.kid h1 p)
    where
      by_meet : Meet t a (parent_of t tree v rv).node c (Task v) → Order t o z y
      by_meet (meet_same i i') = (by_node a r m k h (subst (λ u. AtOrBelow t u z) (sym i') q) h2)
      by_meet (meet_over u) = (by_node a r m k h (above_kid t tree (parent_of t tree v rv).node c (Task v) z u (parent_of t tree v rv).kid q) h2)
      by_meet (meet_under u) = absurd (out (above_kid t tree a (Task v) d y u k h2))

pub split_law : SplitLaw
split_law t o v x tree r out = record {
  before_all = λ y z p q h. from_order t o x z (split_before t tree o v x y z r out p q (to_order t o x y h));
  behind_all = λ y z p q h. from_order t o z x (split_behind t tree o v y x z r out p q (to_order t o y x h));
}
