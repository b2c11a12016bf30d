-- Every choice has a derivation: the lines from the greatest number down.
use Rattle.std.proofs.Common.{◌≡◌, ℕ, zero, suc, ◌<◌, List, [], ◌∷◌, refl, sym, subst, inl, inr, arith, ◌⊎◌, Contains}
use Rattle.hv_lists.specs.Lists.{Once}
use Rattle.hv_lists.proofs.Contained.{at_head, in_tail, none_in_empty}
use Rattle.hv_lists.proofs.EachOnce.{once_more}
use Rattle.hv_plan.specs.Trees.{Item, Act, Task, Pre, Tree, IsPrimitive, IsTree, IsWithin}
use Rattle.hv_order.specs.Meanings.{Choice, AreOrders}
use Rattle.hv_order.specs.Networks.{Network, initial_network, decomposition, Leads, HasDerivation}
use Rattle.hv_order.specs.Laws.{DerivationLaw}
use Rattle.hv_order.proofs.Members.{pre_same, is_member, once_none}
use Rattle.hv_order.proofs.Ancestry.{reached_pre}
use Rattle.hv_order.proofs.Decomposing.{Origin, old, fresh, origin}
use Rattle.hv_order.proofs.End

module _ (t : Tree) (tree : IsTree t) (o : Choice) where
  -- a derivation from a network on, of lines with numbers below m
  record Completed (n : Network) (m : ℕ) : Type 0 where
    lines : List ℕ
    end : Network
    leads : Leads t o n lines end
    done : (x : Item) → Contains end.items x → IsPrimitive x
    once : Once lines
    below : (u : ℕ) → Contains lines u → u < m

  smaller : (m : ℕ) (n : Network) → ((u : ℕ) → Contains n.items (Task u) → u < suc m) → (u : ℕ) → Contains (decomposition t o m n).items (Task u) → u < m
  smaller m n all_below u k = by_origin (origin m (Pre m ∷ t.children m) (Task u) n.items k)
    where
      by_origin : Origin m (Pre m ∷ t.children m) (Task u) n.items → u < m
      by_origin (old k f) =
          let a = all_below u k in
          let other : u ≡ m → ⊥ = λ e. f (let same : Task u ≡ Task m = cc in same) in
          omega arith
      by_origin (fresh k (zero, lt, e)) = absurd (let clash : Task u ≡ Pre m = sym e in cc)
      by_origin (fresh k (suc i, lt, e)) = tree.lower m u (i, omega (arith, lt), e)

  complete : (m : ℕ) (n : Network) → ((u : ℕ) → Contains n.items (Task u) → u < m) → Completed n m
  complete zero n all_below = record {
    lines = [];
    end = n;
    leads = refl;
    done = primitive;
    once = once_none;
    below = λ u m. absurd (none_in_empty u m);
  }
    where
      primitive : (x : Item) → Contains n.items x → IsPrimitive x
      primitive (Act k) m = tt
      primitive (Pre k) m = tt
      primitive (Task u) m = absurd (let a = all_below u m in omega arith)
  complete (suc m) n all_below = by_line (is_member (Task m) n.items) (λ h. complete m (decomposition t o m n) h) (λ h. complete m n h)
    where
      with_line : Contains n.items (Task m) → Completed (decomposition t o m n) m → Completed n (suc m)
      with_line here rest = record {
        lines = m ∷ rest.lines;
        end = rest.end;
        leads = (here, rest.leads);
        done = rest.done;
        once = once_more m rest.lines (λ j. let a = rest.below m j in omega arith) rest.once;
        below = λ u j. still_below u j;
      }
        where
          still_below : (u : ℕ) → Contains (m ∷ rest.lines) u → u < suc m
          still_below u (zero, lt, e) = let same : m ≡ u = e in omega arith
          still_below u (suc k, lt, e) = let a = rest.below u (k, omega (arith, lt), e) in omega arith

      without_line : Completed n m → Completed n (suc m)
      without_line rest = record {
        lines = rest.lines;
        end = rest.end;
        leads = rest.leads;
        done = rest.done;
        once = rest.once;
        below = λ u j. let a = rest.below u j in omega arith;
      }

      fewer : (Contains n.items (Task m) → ⊥) → (u : ℕ) → Contains n.items (Task u) → u < m
      fewer absent u j =
          let a = all_below u j in
          let other : u ≡ m → ⊥ = λ e. absent (subst (λ w. Contains n.items (Task w)) e j) in
          omega arith

      by_line :
          Contains n.items (Task m) ⊎ (Contains n.items (Task m) → ⊥)
          → (((u : ℕ) → Contains (decomposition t o m n).items (Task u) → u < m) → Completed (decomposition t o m n) m)
          → (((u : ℕ) → Contains n.items (Task u) → u < m) → Completed n m)
          → Completed n (suc m)
      by_line (inl here) step skip = with_line here (step (smaller m n all_below))
      by_line (inr absent) step skip = without_line (skip (fewer absent))

  -- a precondition step that came is that of a line that was decomposed
  used : (v : ℕ) (from to : Network) (lines : List ℕ) → Leads t o from lines to → Contains to.items (Pre v) → Contains lines v ⊎ Contains from.items (Pre v)
  used v from to [] same m = inr (subst (λ n. Contains n.items (Pre v)) (sym same) m)
  used v from to (w ∷ lines) leads m = let (here, rest) = leads in later (used v (decomposition t o w from) to lines rest m)
    where
      new : Contains (Pre w ∷ t.children w) (Pre v) → Contains (w ∷ lines) v ⊎ Contains from.items (Pre v)
      new (zero, lt, e) = inl (at_head w lines v (pre_same v w (sym e)))
      new (suc k, lt, e) = absurd (tree.child_kind w (Pre v) (k, omega (arith, lt), e))

      by_origin : Origin w (Pre w ∷ t.children w) (Pre v) from.items → Contains (w ∷ lines) v ⊎ Contains from.items (Pre v)
      by_origin (old k h) = inr k
      by_origin (fresh k h) = new h

      later : Contains lines v ⊎ Contains (decomposition t o w from).items (Pre v) → Contains (w ∷ lines) v ⊎ Contains from.items (Pre v)
      later (inl k) = inl (in_tail w lines v k)
      later (inr k) = by_origin (origin w (Pre w ∷ t.children w) (Pre v) from.items k)

  pub derivation : AreOrders t o → (m : ℕ) → IsWithin t m → HasDerivation t o
  derivation orders m within =
      let d = complete m (initial_network t o) within in
      let end = End.is_end t tree o orders d.end d.lines d.leads d.done in
      record {
        lines = d.lines;
        end = d.end;
        derives = record {
          leads = d.leads;
          once = d.once;
          all = λ v r. decomposed v d.lines (used v (initial_network t o) d.end d.lines d.leads (end.complete (Pre v) tt (reached_pre t v r)));
          done = d.done;
        };
      }
    where
      decomposed : (v : ℕ) (lines : List ℕ) → Contains lines v ⊎ Contains t.initial_tasks (Pre v) → Contains lines v
      decomposed v lines (inl k) = k
      decomposed v lines (inr k) = absurd (tree.initial_kind (Pre v) k)

pub derivation_law : DerivationLaw
derivation_law t o depth tree orders within = derivation t tree o orders depth within
