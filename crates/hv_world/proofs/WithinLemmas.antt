-- Where the labels of a network are sound, each pair is one of subtasks.
use Rattle.std.proofs.Common.{◌≡◌, ℕ, suc, ◌+◌, ◌<◌, Bool, true, false, not, ◌||◌, List, [], ◌∷◌, ◌++◌, map, length, Option, Some, None, bytes_eq, if◌then◌else◌, refl, ap, sym, subst, ◌∙◌, arith}
use Rattle.std.specs.Prelude.{MatchOption}
use Rattle.std.specs.List.{flat_map, All}
use Rattle.std.proofs.lemmas.List.{length-map}
use Rattle.hv_syntax.specs.declared.network.SubtaskText.{SubtaskText}
use Rattle.hv_syntax.specs.NetworkViews.{subtask_view}
use Rattle.std.proofs.lemmas.List.Elements.{All-cons, All-nil}
use Rattle.hv_syntax.specs.Values.{WordAt, Subtask, Pair, Network}
use Rattle.hv_world.specs.declared.fault.StaticKind.{StaticKind}
use Rattle.hv_world.specs.declared.fault.StaticKind.TheVariants as kinds
use Rattle.hv_world.specs.declared.fault.Side.{Side}
use Rattle.hv_world.specs.Names.{is_among, names, repeated}
use Rattle.hv_world.specs.Known.{Known}
use Rattle.hv_world.specs.Networks.{labels, label_names, labelled, labelled_from, numbered_pair, written_by}
use Rattle.hv_world.specs.Orders.{Written, written, IsCyclic}
use Rattle.hv_world.specs.Cycles.{is_cyclic}
use Rattle.hv_world.specs.Faults.{faults_at}
use Rattle.hv_world.specs.StaticRules.{at_word_if, pair_faults, label_faults}
use Rattle.hv_world.proofs.CycleLemmas.{cycle_found, cycle_there}

nothing : {X : Type 0} (xs ys : List X) → xs ++ ys ≡ [] → (xs ≡ []) × (ys ≡ [])
nothing [] ys e = (refl, e)
nothing (x ∷ xs) ys e = absurd (cc)

no_fault : (b : Bool) (k : StaticKind) (s : Side) (w : WordAt) → at_word_if (not b) k s w ≡ [] → b ≡ true
no_fault true k s w e = refl
no_fault false k s w e = absurd (cc)

holder_or : (b r : Bool) (k n m : ℕ) → (b || r) ≡ true → (r ≡ true → m < suc k + n) → (if b then k else m) < k + suc n
holder_or true r k n m e rest = omega arith
holder_or false r k n m e rest = let h = rest e in omega arith

holder : (o : Option WordAt) (ws : List WordAt) (l : List ℕ) (k n m : ℕ) → is_among (names (elim o [ None ↦ ws | Some w ↦ w ∷ ws ])) l ≡ true
    → (is_among (names ws) l ≡ true → m < suc k + n) → (if elim o [ None ↦ false | Some w ↦ bytes_eq l w.text ] then k else m) < k + suc n
holder None ws l k n m e rest = let h = rest e in omega arith
holder (Some w) ws l k n m e rest = holder_or (bytes_eq l w.text) (is_among (names ws) l) k n m e rest

labelled_within : (k : ℕ) (xs : List Subtask) (l : List ℕ) → is_among (label_names xs) l ≡ true → labelled_from k xs l < k + length xs
labelled_within k [] l e = absurd (cc)
labelled_within k (x ∷ xs) l e = holder x.label (labels xs) l k (length xs) (labelled_from (suc k) xs l) e (labelled_within (suc k) xs l)

module _ (k : Known) (s : Side) (n : Network) where
  abbrev Within : ℕ × ℕ → Type 0
  Within p = (p.0 < length n.subtasks) × (p.1 < length n.subtasks)

  pair_within : (p : Pair) → pair_faults k s (label_names n.subtasks) p ≡ [] → Within (numbered_pair n.subtasks p)
  pair_within p e =
      let ls = label_names n.subtasks in
      let both = nothing (at_word_if (not (is_among ls p.earlier.text)) kinds.UnknownLabel s p.earlier) (at_word_if (not (is_among ls p.later.text)) kinds.UnknownLabel s p.later) e in
      let a : labelled n.subtasks p.earlier.text < 0 + length n.subtasks = labelled_within 0 n.subtasks p.earlier.text (no_fault _ kinds.UnknownLabel s p.earlier both.0) in
      let b : labelled n.subtasks p.later.text < 0 + length n.subtasks = labelled_within 0 n.subtasks p.later.text (no_fault _ kinds.UnknownLabel s p.later both.1) in
      (omega (arith, a), omega (arith, b))

  pairs_within : (ps : List Pair) → flat_map (pair_faults k s (label_names n.subtasks)) ps ≡ [] → All Within (map (numbered_pair n.subtasks) ps)
  pairs_within [] e = All-nil Within
  pairs_within (p ∷ ps) e =
      let both = nothing (pair_faults k s (label_names n.subtasks) p) (flat_map (pair_faults k s (label_names n.subtasks)) ps) e in
      All-cons Within (numbered_pair n.subtasks p) (map (numbered_pair n.subtasks) ps) (pair_within p both.0) (pairs_within ps both.1)

  pub sound_within : label_faults k s n ≡ [] → All Within (written_by n).pairs
  sound_within e =
      pairs_within n.pairs
      (nothing (faults_at kinds.DuplicateLabel s (repeated (labels n.subtasks))) (flat_map (pair_faults k s (label_names n.subtasks)) n.pairs) e).1

-- a Known of no names
pub nothing_known : Known
nothing_known = record { types = []; eithers = []; objects = []; predicate = λ n. None; task = λ n. None }

not_cyclic : (b : Bool) → (b ≡ true → ⊥) → b ≡ false
not_cyclic true h = absurd (h refl)
not_cyclic false h = refl

module _ (w : Written) where
  pub is_acyclic : (IsCyclic w → ⊥) → false ≡ is_cyclic w
  is_acyclic h = sym (not_cyclic (is_cyclic w) (λ e. h (cycle_found w e)))

  pub has_cycle : All (λ p. (p.0 < w.len) × (p.1 < w.len)) w.pairs → IsCyclic w → true ≡ is_cyclic w
  has_cycle within c = sym (cycle_there w within c)

-- an order is there just where there is no cycle
pub order_is : (v w : Written) (o : Option Written) → v ≡ w → All (λ p. (p.0 < w.len) × (p.1 < w.len)) w.pairs
    → MatchOption o (IsCyclic v) (λ x. (x ≡ v) × (IsCyclic v → ⊥)) → MatchOption o (is_cyclic w ≡ true) (λ x. (x ≡ w) × (is_cyclic w ≡ false))
order_is v w None same within h = sym (has_cycle w within (subst IsCyclic same h))
order_is v w (Some x) same within h = (h.0 ∙ same, sym (is_acyclic w (λ c. h.1 (subst IsCyclic (sym same) c))))

pub written_is : (subtasks : List SubtaskText) (b : Bool) (ps : List (ℕ × ℕ)) (n : Network) → map subtask_view subtasks ≡ n.subtasks → b ≡ n.is_ordered
    → ps ≡ (written_by n).pairs → written (length subtasks) b ps ≡ written_by n
written_is subtasks b ps n are ordered paired =
    let long : length subtasks ≡ length n.subtasks = sym (length-map subtasks subtask_view) ∙ ap length are in
    λ i. written (long i) (ordered i) (paired i)
