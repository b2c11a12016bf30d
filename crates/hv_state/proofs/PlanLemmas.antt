-- The states that a plan passes, as the code finds them.
use Rattle.std.proofs.Common.{◌≡◌, ◌<◌, ◌+◌, ◌++◌, ◌↔◌, inl, inr, ℕ, zero, suc, List, [], ◌∷◌, length, take, get_or, slice_get, Option, None, Some, IsSomeAnd, sym, ap, ◌∙◌, subst, arith}
use Rattle.std.proofs.lemmas.List.{take_more}
use Rattle.hv_world.specs.Values.{Formula, Formulas, holds, and, or, not, imply, forall, exists, equal, no_formulas, more_formulas}
use Rattle.hv_world.specs.Types.{Typing}
use Rattle.hv_world.specs.Bindings.{GroundAtom, GroundAction, atom_under}
use Rattle.hv_world.specs.Effects.{Adds, Deletes}
use Rattle.hv_world.specs.Worlds.{World, Action}
use Rattle.hv_state.specs.Atoms.{Atoms, Same, After}
use Rattle.hv_state.specs.Truth.{ForEach, ForSome, True, AllTrue, SomeTrue}
use Rattle.hv_state.specs.Plans.{Plan, IsApplicableIn, AfterAction, AfterActions, Start, StateAt, IsApplicable}

-- sets with the same atoms
pub same_itself : (S : Atoms) → Same S S
same_itself S g = (λ m. m, λ m. m)

pub same_back : (S T : Atoms) → Same S T → Same T S
same_back S T e g = ((e g).1, (e g).0)

pub same_through : (S T U : Atoms) → Same S T → Same T U → Same S U
same_through S T U e f g = (λ m. (f g).0 ((e g).0 m), λ m. (e g).1 ((f g).1 m))

after_half : (S T deletes adds : Atoms) → Same S T → (g : GroundAtom) → After S deletes adds g → After T deletes adds g
after_half S T deletes adds e g (inl (m, out)) = inl ((e g).0 m, out)
after_half S T deletes adds e g (inr m) = inr m

after_sets : (S T deletes adds : Atoms) → Same S T → Same (After S deletes adds) (After T deletes adds)
after_sets S T deletes adds e g = (after_half S T deletes adds e g, after_half T S deletes adds (same_back S T e) g)

-- the same deletes and the same adds
after_changes_half : (S deletes adds gone come : Atoms) → Same deletes gone → Same adds come → (g : GroundAtom) → After S deletes adds g → After S gone come g
after_changes_half S deletes adds gone come ds as' g (inl (m, out)) = inl (m, λ d. out ((ds g).1 d))
after_changes_half S deletes adds gone come ds as' g (inr m) = inr ((as' g).0 m)

after_changes : (S deletes adds gone come : Atoms) → Same deletes gone → Same adds come → Same (After S deletes adds) (After S gone come)
after_changes S deletes adds gone come ds as' g =
    (after_changes_half S deletes adds gone come ds as' g, after_changes_half S gone come deletes adds (same_back deletes gone ds) (same_back adds come as') g)

pub after_same : (w : World) (S T : Atoms) (a : GroundAction) → Same S T → Same (AfterAction w S a) (AfterAction w T a)
after_same w S T a e = by (slice_get w.actions a.action)
  where
    after : Option Action → Atoms → Atoms
    after found U = elim found [ None ↦ U | Some b ↦ After U (Deletes w.typing a.objects b.effect) (Adds w.typing a.objects b.effect) ]

    by : (found : Option Action) → Same (after found S) (after found T)
    by None = e
    by (Some b) = after_sets S T (Deletes w.typing a.objects b.effect) (Adds w.typing a.objects b.effect) e

-- truth is a matter of which atoms are in the state
each_half : (w : Typing) (P Q : List ℕ → Type 0) → ((env : List ℕ) → P env → Q env) → (ts : List ℕ) (env : List ℕ) → ForEach w P ts env → ForEach w Q ts env
each_half w P Q h [] env m = h env m
each_half w P Q h (t ∷ ts) env m = λ o of. each_half w P Q h ts (env ++ o ∷ []) (m o of)

some_half : (w : Typing) (P Q : List ℕ → Type 0) → ((env : List ℕ) → P env → Q env) → (ts : List ℕ) (env : List ℕ) → ForSome w P ts env → ForSome w Q ts env
some_half w P Q h [] env m = h env m
some_half w P Q h (t ∷ ts) env (o, of, m) = (o, of, some_half w P Q h ts (env ++ o ∷ []) m)

module _ (w : Typing) (S T : Atoms) (same : Same S T) where
  mutual
    pub true_same : (f : Formula) (env : List ℕ) → True w S f env ↔ True w T f env
    true_same (holds a) env = same (atom_under env a)
    true_same (and fs) env = all_same fs env
    true_same (or fs) env = some_same fs env
    true_same (not f) env = (λ m n. m ((true_same f env).1 n), λ m n. m ((true_same f env).0 n))
    true_same (imply f g) env = (λ m n. (true_same g env).0 (m ((true_same f env).1 n)), λ m n. (true_same g env).1 (m ((true_same f env).0 n)))
    true_same (forall ts f) env =
        (each_half w (True w S f) (True w T f) (λ e. (true_same f e).0) ts env, each_half w (True w T f) (True w S f) (λ e. (true_same f e).1) ts env)
    true_same (exists ts f) env =
        (some_half w (True w S f) (True w T f) (λ e. (true_same f e).0) ts env, some_half w (True w T f) (True w S f) (λ e. (true_same f e).1) ts env)
    true_same (equal s t) env = (λ m. m, λ m. m)

    all_same : (fs : Formulas) (env : List ℕ) → AllTrue w S fs env ↔ AllTrue w T fs env
    all_same no_formulas env = (λ m. m, λ m. m)
    all_same (more_formulas f fs) env = (λ m. ((true_same f env).0 m.0, (all_same fs env).0 m.1), λ m. ((true_same f env).1 m.0, (all_same fs env).1 m.1))

    some_same : (fs : Formulas) (env : List ℕ) → SomeTrue w S fs env ↔ SomeTrue w T fs env
    some_same no_formulas env = (λ m. m, λ m. m)
    some_same (more_formulas f fs) env =
        (λ m. elim m [ inl p ↦ inl ((true_same f env).0 p) | inr q ↦ inr ((some_same fs env).0 q) ], λ m. elim m [ inl p ↦ inl ((true_same f env).1 p) | inr q ↦ inr ((some_same fs env).1 q) ])

-- an action is applicable as well where the same atoms are true
pub applicable_same : (w : World) (S T : Atoms) (a : GroundAction) → Same S T → IsApplicableIn w S a → IsApplicableIn w T a
applicable_same w S T a e = by (slice_get w.actions a.action)
  where
    by : (found : Option Action) → IsSomeAnd found (λ b. True w.typing S b.precondition a.objects) → IsSomeAnd found (λ b. True w.typing T b.precondition a.objects)
    by None m = absurd m
    by (Some b) m = (true_same w.typing S T e b.precondition a.objects).0 m

-- an action that the world has
module _ (w : World) (S : Atoms) (g : GroundAction) (a : Action) (there : slice_get w.actions g.action ≡ Some a) where
  pub applies : (f : Formula) (env : List ℕ) → f ≡ a.precondition → env ≡ g.objects → True w.typing S f env → IsApplicableIn w S g
  applies f env fs os h = subst (λ o. IsSomeAnd o (λ b. True w.typing S b.precondition g.objects)) (sym there) (subst (λ x. True w.typing S x g.objects) fs (subst (True w.typing S f) os h))

  pub acted : (T deletes adds : Atoms) → Same deletes (Deletes w.typing g.objects a.effect) → Same adds (Adds w.typing g.objects a.effect) → Same T (After S deletes adds) → Same T (AfterAction w S g)
  acted T deletes adds ds as' h =
      let gone = Deletes w.typing g.objects a.effect in
      let come = Adds w.typing g.objects a.effect in
      subst (λ o. Same T (elim o [ None ↦ S | Some b ↦ After S (Deletes w.typing g.objects b.effect) (Adds w.typing g.objects b.effect) ])) (sym there)
      (same_through T (After S deletes adds) (After S gone come) h (after_changes S deletes adds gone come ds as'))

-- one action more
after_push : (w : World) (xs : List GroundAction) (a : GroundAction) (S : Atoms) → Same (AfterActions w S (xs ++ a ∷ [])) (AfterAction w (AfterActions w S xs) a)
after_push w [] a S = same_itself (AfterAction w S a)
after_push w (x ∷ xs) a S = after_push w xs a (AfterAction w S x)

pub read_there : {X : Type 0} (xs : List X) (k : ℕ) (x : X) → slice_get xs k ≡ Some x → (k < length xs) × (get_or xs k x ≡ x)
read_there [] k x e = absurd cc
read_there (y ∷ ys) zero x e = (omega arith, cc)
read_there (y ∷ ys) (suc k) x e = let rest = read_there ys k x e in (omega (arith, rest.0), rest.1)

module _ (p : Plan) (k : ℕ) (a : GroundAction) (there : slice_get p.actions k ≡ Some a) where
  pub applicable_if : IsApplicableIn p.world (StateAt p k) a → IsApplicable p k
  applicable_if h = subst (λ o. IsSomeAnd o (IsApplicableIn p.world (StateAt p k))) (sym there) h

  pub only_if : IsApplicable p k → IsApplicableIn p.world (StateAt p k) a
  only_if h = subst (λ o. IsSomeAnd o (IsApplicableIn p.world (StateAt p k))) there h

  next_taken : take (k + 1) p.actions ≡ take k p.actions ++ a ∷ []
  next_taken = let read = read_there p.actions k a there in take_more p.actions k a read.0 ∙ ap (λ b. take k p.actions ++ b ∷ []) read.1

  pub next_state : Same (StateAt p (k + 1)) (AfterAction p.world (StateAt p k) a)
  next_state = subst (λ xs. Same (AfterActions p.world (Start p.world) xs) (AfterAction p.world (StateAt p k) a)) (sym next_taken) (after_push p.world (take k p.actions) a (Start p.world))

-- what holds of each element and its place, after one more
pub push_at : {X : Type 0} (P : ℕ → X → Type 0) (xs : List X) (y : X) → ((j : ℕ) (d : X) → j < length xs → P j (get_or xs j d)) → P (length xs) y → (j : ℕ) (d : X) → j < length (xs ++ y ∷ []) → P j (get_or (xs ++ y ∷ []) j d)
push_at P [] y h q zero d lt = q
push_at P [] y h q (suc j) d lt = absurd (omega arith)
push_at P (x ∷ xs) y h q zero d lt = h 0 d (omega arith)
push_at P (x ∷ xs) y h q (suc j) d lt = push_at (λ n. P (suc n)) xs y (λ n e l. h (suc n) e (omega arith)) q j d (omega arith)

-- what is true after deletes and adds
module _ (old deletes adds : Atoms) (g : GroundAtom) where
  pub added_is : adds g → After old deletes adds g
  added_is m = inr m

  pub deleted_is_not : deletes g → (adds g → ⊥) → After old deletes adds g → ⊥
  deleted_is_not gone out (inl m) = m.1 gone
  deleted_is_not gone out (inr m) = out m

  still : (adds g → ⊥) → After old deletes adds g → old g
  still out (inl m) = m.0
  still out (inr m) = absurd (out m)

  pub other_stays : (deletes g → ⊥) → (adds g → ⊥) → After old deletes adds g ↔ old g
  other_stays kept out = (still out, λ m. inl (m, kept))
