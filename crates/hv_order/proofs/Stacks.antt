-- Nodes that wait for one another: each is before the one below it, and of none but the first is it known
-- what it comes to.
use Rattle.std.proofs.Common.{◌≡◌, ℕ, ◌+◌, ◌<◌, ◌⊎◌, inl, inr, ◌∙◌, List, [], ◌∷◌, ◌++◌, refl, sym, subst, arith, Option, Some, None, is_some, true}
use Rattle.hv_order.specs.inside.Arrangements.{Arrangement}
use Rattle.hv_order.specs.inside.Facts.{Facts, IsNodeRun}
use Rattle.hv_order.specs.inside.Memos.{found, IsSmall, Keeps, LiesIn, IsWanted, to_learn}
use Rattle.hv_order.specs.inside.Tasks.{pair_of, IsPair, IsPending, Waits}
use Rattle.hv_order.specs.declared.memo.Memo.{Memo}
use Rattle.hv_order.specs.declared.memo.Pair.{Pair}
use Rattle.hv_order.specs.declared.solve.Pending.{Pending}
use Rattle.hv_order.specs.declared.solve.Pending.TheVariants as pending
use Rattle.hv_order.specs.declared.trial.Run.{Run}
use Rattle.hv_order.proofs.Learning.{less_left}
use Rattle.hv_order.proofs.Standing.{least_of}

-- what a node comes to from a start on is no greater than a state
pub small_run : (q : Facts) (v s : ℕ) (r : Run) → q.last < 4294967295 → IsNodeRun q v s r → IsSmall r.finish
small_run q v s r small is f e = let within = (least_of q v s f r is e).within in omega (arith, within, small)

-- what was unknown of a later node still is
still_unknown : (m m' : Memo) (v s : ℕ) (r : Run) (w x : ℕ) → Keeps m m' v s r → v < w → found m w x ≡ None → found m' w x ≡ None
still_unknown m m' v s r w x keeps lt was = tell (found m' w x) refl
  where
    none : (u : Run) → (found m w x ≡ Some u) ⊎ (LiesIn v s r w x × (u ≡ r)) → ⊥
    none u (inl there) = let k : None ≡ Some u = sym was ∙ there in cc
    none u (inr (lies, same)) = let e = lies.node in omega (arith, lt, e)

    tell : (o : Option Run) → found m' w x ≡ o → o ≡ None
    tell None e = refl
    tell (Some u) e = absurd (none u (keeps.only w x u e))

module _ {L : Type 0} (left : L → List Arrangement) (q : Facts) (size : ℕ) where
  -- one that waits is of a node of the plan, from one of its states on
  pub pair_is : (p : Pending L) → IsPending left q size p → IsPair q size (pair_of p)
  pair_is (pending.Asked p) is = is
  pair_is (pending.Ready p) is = is
  pair_is (pending.Begun t) is = record { node = is.within; start = is.start }

  -- one of a node before another, from a start on of which nothing is known
  pub record IsAbove (m : Memo) (u : ℕ) (p : Pending L) : Type 0 where
    pub below : (pair_of p).node < u
    pub unknown : found m (pair_of p).node (pair_of p).start ≡ None
    pub pending : IsPending left q size p

  -- the one that is asked for
  pub record IsFirst (a : Pair) (p : Pending L) : Type 0 where
    pub same : pair_of p ≡ a
    pub pending : IsPending left q size p

  -- those that wait for one another above node u, the last of them for the one on top
  abbrev pub AreAbove : Memo → ℕ → List (Pending L) → Pending L → Type 0
  AreAbove m u [] t = IsAbove m u t
  AreAbove m u (b ∷ bs) t = IsAbove m u b × AreAbove m (pair_of b).node bs t

  -- so they do from the one that is asked for on
  abbrev pub IsStack : Memo → Pair → List (Pending L) → Pending L → Type 0
  IsStack m a [] t = IsFirst a t
  IsStack m a (b ∷ bs) t = IsFirst a b × AreAbove m (pair_of b).node bs t

  above_pending : (m : Memo) (u : ℕ) (bs : List (Pending L)) (t : Pending L) → AreAbove m u bs t → IsPending left q size t
  above_pending m u [] t is = is.pending
  above_pending m u (b ∷ bs) t is = above_pending m (pair_of b).node bs t is.1

  pub top_pending : (m : Memo) (a : Pair) (bs : List (Pending L)) (t : Pending L) → IsStack m a bs t → IsPending left q size t
  top_pending m a [] t is = is.pending
  top_pending m a (b ∷ bs) t is = above_pending m (pair_of b).node bs t is.1

  -- another one stands for the one on top, of the same node and start
  above_waits : (m : Memo) (u : ℕ) (bs : List (Pending L)) (t t' : Pending L) → AreAbove m u bs t → Waits left q size (pair_of t) t' → AreAbove m u bs t'
  above_waits m u [] t t' is w = record {
    below = subst (λ (p : Pair). p.node < u) (sym w.same) is.below;
    unknown = subst (λ (p : Pair). found m p.node p.start ≡ None) (sym w.same) is.unknown;
    pending = w.pending;
  }
  above_waits m u (b ∷ bs) t t' is w = (is.0, above_waits m (pair_of b).node bs t t' is.1 w)

  waits : (m : Memo) (a : Pair) (bs : List (Pending L)) (t t' : Pending L) → IsStack m a bs t → Waits left q size (pair_of t) t' → IsStack m a bs t'
  waits m a [] t t' is w = record { same = w.same ∙ is.same; pending = w.pending }
  waits m a (b ∷ bs) t t' is w = (is.0, above_waits m (pair_of b).node bs t t' is.1 w)

  -- a run of a node before that of the one on top was learned
  above_learned : (m m' : Memo) (w x : ℕ) (r : Run) → Keeps m m' w x r → (u : ℕ) (bs : List (Pending L)) (t : Pending L) → AreAbove m u bs t → w < (pair_of t).node → AreAbove m' u bs t × (w < u)
  above_learned m m' w x r keeps u [] t is lt = (
    record {
      below = is.below;
      unknown = still_unknown m m' w x r (pair_of t).node (pair_of t).start keeps lt is.unknown;
      pending = is.pending;
    },
    (let below = is.below in omega (arith, lt, below)),
  )
  above_learned m m' w x r keeps u (b ∷ bs) t is lt =
      let (rest, before) = above_learned m m' w x r keeps (pair_of b).node bs t is.1 lt in (
        (
          record {
            below = is.0.below;
            unknown = still_unknown m m' w x r (pair_of b).node (pair_of b).start keeps before is.0.unknown;
            pending = is.0.pending;
          },
          rest,
        ),
        (let below = is.0.below in omega (arith, before, below)),
      )

  learned_under : (m m' : Memo) (w x : ℕ) (r : Run) → Keeps m m' w x r → (a : Pair) (bs : List (Pending L)) (t : Pending L) → IsStack m a bs t → w < (pair_of t).node → IsStack m' a bs t
  learned_under m m' w x r keeps a [] t is lt = is
  learned_under m m' w x r keeps a (b ∷ bs) t is lt = (is.0, (above_learned m m' w x r keeps (pair_of b).node bs t is.1 lt).0)

  -- one more is asked for
  above_pushed : (m : Memo) (u : ℕ) (bs : List (Pending L)) (t t' : Pending L) → AreAbove m u bs t → IsAbove m (pair_of t).node t' → AreAbove m u (bs ++ t ∷ []) t'
  above_pushed m u [] t t' is more = (is, more)
  above_pushed m u (b ∷ bs) t t' is more = (is.0, above_pushed m (pair_of b).node bs t t' is.1 more)

  pushed : (m : Memo) (a : Pair) (bs : List (Pending L)) (t t' : Pending L) → IsStack m a bs t → IsAbove m (pair_of t).node t' → IsStack m a (bs ++ t ∷ []) t'
  pushed m a [] t t' is more = (is, more)
  pushed m a (b ∷ bs) t t' is more = (is.0, above_pushed m (pair_of b).node bs t t' is.1 more)

  -- the one on top is over
  above_popped : (m : Memo) (u : ℕ) (bs : List (Pending L)) (b t : Pending L) → AreAbove m u (bs ++ b ∷ []) t → AreAbove m u bs b × IsAbove m (pair_of b).node t
  above_popped m u [] b t is = is
  above_popped m u (c ∷ bs) b t is = let (rest, top) = above_popped m (pair_of c).node bs b t is.1 in ((is.0, rest), top)

  popped : (m : Memo) (a : Pair) (bs : List (Pending L)) (b t : Pending L) → IsStack m a (bs ++ b ∷ []) t → IsStack m a bs b × IsAbove m (pair_of b).node t
  popped m a [] b t is = is
  popped m a (c ∷ bs) b t is = let (rest, top) = above_popped m (pair_of c).node bs b t is.1 in ((is.0, rest), top)

  -- a child's finish is wanted: the one on top waits, and the child is asked for
  module _ (m : Memo) (a : Pair) (bs : List (Pending L)) (t t' : Pending L) (child : Pair) (is : IsStack m a bs t) (w : Waits left q size (pair_of t) t') (wanted : IsWanted q m (pair_of t).node child.node child.start) where
    child_above : IsAbove m (pair_of t').node (pending.Asked child)
    child_above = record {
      below = subst (λ (p : Pair). child.node < p.node) (sym w.same) wanted.below;
      unknown = wanted.unknown;
      pending = record {
        node = (let below = wanted.below in let within = (pair_is t (top_pending m a bs t is)).node in omega (arith, below, within));
        start = wanted.within;
      };
    }

    pub asked_stack : IsStack m a (bs ++ t' ∷ []) (pending.Asked child)
    asked_stack = pushed m a bs t' (pending.Asked child) (waits m a bs t t' is w) child_above

    pub asked_less : to_learn q.last size m + child.node < to_learn q.last size m + (pair_of t).node
    asked_less = let below = wanted.below in omega (arith, below)

  -- the one on top is over: what it came to is learned, and the one below it goes on
  module _ (m m' : Memo) (a : Pair) (bs bs' : List (Pending L)) (t b : Pending L) (r : Run) (is : IsStack m a bs t) (rest : bs ≡ bs' ++ b ∷ []) (keeps : Keeps m m' (pair_of t).node (pair_of t).start r) where
    both : IsStack m a bs' b × IsAbove m (pair_of b).node t
    both = popped m a bs' b t (subst (λ k. IsStack m a k t) rest is)

    pub over_stack : IsStack m' a bs' b
    over_stack = learned_under m m' (pair_of t).node (pair_of t).start r keeps a bs' b both.0 both.1.below

    pub over_less : is_some (found m' (pair_of t).node (pair_of t).start) ≡ true → to_learn q.last size m' + (pair_of b).node < to_learn q.last size m + (pair_of t).node
    over_less known =
        let top = pair_is t (top_pending m a bs t is) in
        let within = (pair_is b (top_pending m a bs' b both.0)).node in
        let less = less_left q.last size m m' (pair_of t).node (pair_of t).start keeps.kept top.node top.start both.1.unknown known in
        omega (arith, less, within)
