-- How the bases of types are found: one type more is given its base.
use Rattle.std.proofs.Common.{◌≡◌, ◌≢◌, ◌<◌, ◌⊎◌, inl, inr, ℕ, suc, Bool, true, false, List, [], ◌∷◌, ◌++◌, length, set, slice_index, slice_index_or, Option, Some, None, refl, sym, ap, ◌∙◌, subst, arith, if◌then◌else◌, Contains}
use Rattle.std.proofs.lemmas.Bool.{cases_eq}
use Rattle.std.proofs.lemmas.List.{length-set, get_or-set_same, get_or-set_other}
use Rattle.std.proofs.lemmas.List.Elements.{Contains-push, Contains-push_cases, Contains-append_left}
use Rattle.hv_lists.proofs.Contained.{at_head, contains_cases, none_in_empty, mem_map, map_mem}
use Rattle.hv_world.specs.Types.{Typing, Reaches, same}
use Rattle.hv_world.specs.inside.TypeLists.{list_of, type_lists}
use Rattle.hv_world.specs.inside.Bases.{only, sole_in, AreSole, IsBased, AreBased, IsGraph, AreWaiting, AreContracted, turned}
use Rattle.hv_world.specs.declared.bases.Graph.{Graph}
use Rattle.hv_world.proofs.BaseLemmas.{reaches_further}

turned_mem : (pairs : List (ℕ × ℕ)) (x y : ℕ) → Contains pairs (x, y) → Contains (turned pairs) (y, x)
turned_mem pairs x y m = mem_map (λ p. (p.1, p.0)) pairs (x, y) m

mem_turned : (pairs : List (ℕ × ℕ)) (x y : ℕ) → Contains (turned pairs) (y, x) → Contains pairs (x, y)
mem_turned pairs x y m =
    let r = map_mem (λ (p : ℕ × ℕ). (p.1, p.0)) pairs (y, x) m in
    subst (λ p. Contains pairs p) (λ i. ((r.2 i).1, (r.2 i).0)) r.1

one_alone : (l : List ℕ) (c : ℕ) → only l ≡ Some c → l ≡ c ∷ []
one_alone [] c e = absurd (let clash : None ≡ Some c = e in cc)
one_alone (x ∷ []) c e = let here : x ≡ c = cc in ap (λ y. y ∷ []) here
one_alone (x ∷ y ∷ l) c e = absurd (let clash : None ≡ Some c = e in cc)

not_marked : (b : Bool) (o : Option ℕ) (c : ℕ) → (if b then None else o) ≡ Some c → (b ≡ false) × (o ≡ Some c)
not_marked true o c e = absurd (let clash : None ≡ Some c = e in cc)
not_marked false o c e = (refl, e)

pub are_sole : (w : Typing) (g : Graph) → IsGraph w g → AreSole w (sole_in g)
are_sole w g is t c told =
    let (plain, alone) = not_marked (slice_index_or g.marks.items t true) (only (list_of (type_lists g.below.items) t)) c told in
    let list = one_alone (list_of (type_lists g.below.items) t) c alone in
    record {
      other = λ zero_is. let marked : slice_index_or g.marks.items t true ≡ true = ap (λ k. slice_index_or g.marks.items k true) zero_is ∙ is.object in let clash : true ≡ false = sym marked ∙ plain in cc;
      below = mem_turned w.parents c t ((is.below t c).0 (subst (λ l. Contains l c) (sym list) (at_head c [] c refl)));
      alone = λ x m. by x (contains_cases c [] x (subst (λ l. Contains l x) list ((is.below t x).1 (turned_mem w.parents x t m))));
      none = λ o m. let marked = is.declared o t m in let clash : true ≡ false = sym marked ∙ plain in cc;
    }
  where
    by : (x : ℕ) → (x ≡ c) ⊎ Contains [] x → x ≡ c
    by x (inl e) = e
    by x (inr m) = absurd (none_in_empty x m)

-- a type of which none is the one below is its own base
pub own_base : (w : Typing) (sole : ℕ → Option ℕ) (bases : List ℕ) (t : ℕ) → IsBased w sole bases t → sole t ≡ None → slice_index bases t ≡ t
own_base w sole bases t is none = by is.by
  where
    by : (slice_index bases t ≡ t) ⊎ ((c : ℕ) × (sole t ≡ Some c) × (slice_index bases t ≡ slice_index bases c)) → slice_index bases t ≡ t
    by (inl own) = own
    by (inr (c, told, further)) = absurd (let clash : None ≡ Some c = sym none ∙ told in cc)

module _ (w : Typing) (g : Graph) (is : IsGraph w g) (bases : List ℕ) (b at p : ℕ) (ts : List ℕ) (wait : AreWaiting w g bases b (at ∷ ts)) (told : sole_in g p ≡ Some at) (own : slice_index bases p ≡ p) (p_in : p < length bases) where
  sole : ℕ → Option ℕ
  sole = sole_in g

  at_has : (at < length bases) × (slice_index bases at ≡ b)
  at_has = wait.have at (at_head at ts at refl)

  at_based : IsBased w (sole_in g) bases at
  at_based = wait.based.each at (let size = wait.based.size in let lt = at_has.0 in omega (arith, size, lt))

  other : at ≢ p
  other e =
      let b_is : b ≡ p = sym at_has.1 ∙ ap (slice_index bases) e ∙ own in
      let clash : None ≡ Some at = sym wait.last ∙ ap (sole_in g) b_is ∙ told in
      cc

  here : slice_index (set bases p b) p ≡ b
  here = get_or-set_same bases p b 0 p_in

  there : (t : ℕ) → t ≢ p → slice_index (set bases p b) t ≡ slice_index bases t
  there t ne = get_or-set_other bases p t b 0 ne

  at_there : slice_index (set bases p b) at ≡ b
  at_there = there at other ∙ at_has.1

  new_based : (t : ℕ) → t ≡ p → IsBased w (sole_in g) (set bases p b) t
  new_based t e =
      let is_b : slice_index (set bases p b) t ≡ b = ap (slice_index (set bases p b)) e ∙ here in
      record {
        within = subst (λ k. k < w.types) (at_has.1 ∙ sym is_b) at_based.within;
        reaches =
            subst (λ k. Reaches w.parents k t) (sym is_b)
            (subst (λ k. Reaches w.parents b k) (sym e)
            (reaches_further w.parents (subst (λ k. Reaches w.parents k at) at_has.1 at_based.reaches) (are_sole w g is p at told).below));
        by = inr (at, ap (sole_in g) e ∙ told, is_b ∙ sym at_there);
        last = λ ne. ap (sole_in g) is_b ∙ wait.last;
        object = λ zero_is. absurd (wait.other (sym is_b ∙ zero_is));
      }

  old_based : (t : ℕ) → t ≢ p → IsBased w (sole_in g) bases t → IsBased w (sole_in g) (set bases p b) t
  old_based t ne old = record {
    within = subst (λ k. k < w.types) (sym (there t ne)) old.within;
    reaches = subst (λ k. Reaches w.parents k t) (sym (there t ne)) old.reaches;
    by = by old.by;
    last = λ far. ap (sole_in g) (there t ne) ∙ old.last (λ e. far (there t ne ∙ e));
    object = λ zero_is. old.object (sym (there t ne) ∙ zero_is);
  }
    where
      through : (c : ℕ) → c ≡ p → slice_index bases t ≡ slice_index bases c → (slice_index bases t ≡ t) ⊎ (slice_index bases t ≡ t → ⊥) → slice_index (set bases p b) t ≡ t
      through c c_is e (inl same_t) = there t ne ∙ same_t
      through c c_is e (inr far) =
          let is_p : slice_index bases t ≡ p = e ∙ ap (slice_index bases) c_is ∙ own in
          absurd (let clash : None ≡ Some at = sym (old.last far) ∙ ap (sole_in g) is_p ∙ told in cc)

      further : (c : ℕ) → sole_in g t ≡ Some c → slice_index bases t ≡ slice_index bases c → (c ≡ p) ⊎ (c ≡ p → ⊥)
          → (slice_index (set bases p b) t ≡ t) ⊎ ((d : ℕ) × (sole_in g t ≡ Some d) × (slice_index (set bases p b) t ≡ slice_index (set bases p b) d))
      further c told_c e (inl c_is) = inl (through c c_is e (cases_eq (slice_index bases t) t))
      further c told_c e (inr c_not) = inr (c, told_c, there t ne ∙ e ∙ sym (there c c_not))

      by : (slice_index bases t ≡ t) ⊎ ((c : ℕ) × (sole_in g t ≡ Some c) × (slice_index bases t ≡ slice_index bases c))
          → (slice_index (set bases p b) t ≡ t) ⊎ ((c : ℕ) × (sole_in g t ≡ Some c) × (slice_index (set bases p b) t ≡ slice_index (set bases p b) c))
      by (inl same_t) = inl (there t ne ∙ same_t)
      by (inr (c, told_c, e)) = further c told_c e (cases_eq c p)

  has_base : (t : ℕ) → (t < length bases) × (slice_index bases t ≡ b) → (t ≡ p) ⊎ (t ≡ p → ⊥) → (t < length (set bases p b)) × (slice_index (set bases p b) t ≡ b)
  has_base t (lt, e) (inl t_is) = (subst (λ n. t < n) (sym (length-set bases p b)) lt, ap (slice_index (set bases p b)) t_is ∙ here)
  has_base t (lt, e) (inr t_not) = (subst (λ n. t < n) (sym (length-set bases p b)) lt, there t t_not ∙ e)

  pub one_taken : AreWaiting w g (set bases p b) b (at ∷ (ts ++ p ∷ []))
  one_taken = record {
    based = record {
      size = length-set bases p b ∙ wait.based.size;
      each = λ t lt. each t lt (cases_eq t p);
    };
    have = λ t m. have t (contains_cases at (ts ++ p ∷ []) t m);
    last = wait.last;
    other = wait.other;
  }
    where
      each : (t : ℕ) → t < w.types → (t ≡ p) ⊎ (t ≡ p → ⊥) → IsBased w (sole_in g) (set bases p b) t
      each t lt (inl e) = new_based t e
      each t lt (inr ne) = old_based t ne (wait.based.each t lt)

      later : (t : ℕ) → Contains ts t ⊎ (p ≡ t) → (t < length (set bases p b)) × (slice_index (set bases p b) t ≡ b)
      later t (inl m) = has_base t (wait.have t (in_rest m)) (cases_eq t p)
        where
          in_rest : Contains ts t → Contains (at ∷ ts) t
          in_rest m = (suc m.0, (let lt = m.1 in omega (arith, lt)), m.2)
      later t (inr e) = (subst (λ k. k < length (set bases p b)) e (subst (λ n. p < n) (sym (length-set bases p b)) p_in), ap (slice_index (set bases p b)) (sym e) ∙ here)

      have : (t : ℕ) → (t ≡ at) ⊎ Contains (ts ++ p ∷ []) t → (t < length (set bases p b)) × (slice_index (set bases p b) t ≡ b)
      have t (inl e) = has_base t (subst (λ k. (k < length bases) × (slice_index bases k ≡ b)) (sym e) at_has) (cases_eq t p)
      have t (inr m) = later t (Contains-push_cases ts p t m)

-- fewer that wait
pub fewer_wait : (w : Typing) (g : Graph) (bases : List ℕ) (b : ℕ) (ts ts' : List ℕ) → ((t : ℕ) → Contains ts' t → Contains ts t) → AreWaiting w g bases b ts → AreWaiting w g bases b ts'
fewer_wait w g bases b ts ts' among wait = record { based = wait.based; have = λ t m. wait.have t (among t m); last = wait.last; other = wait.other }

-- a type that is its own base and has none below it alone waits at first
pub begins_waiting : (w : Typing) (g : Graph) (bases : List ℕ) (b : ℕ) → AreBased w (sole_in g) bases → b < w.types → 0 < b → sole_in g b ≡ None → AreWaiting w g bases b (b ∷ [])
begins_waiting w g bases b based lt some none = record {
  based = based;
  have = λ t m. have t (contains_cases b [] t m);
  last = none;
  other = λ e. omega (arith, e, some);
}
  where
    have : (t : ℕ) → (t ≡ b) ⊎ Contains [] t → (t < length bases) × (slice_index bases t ≡ b)
    have t (inl e) = subst (λ k. (k < length bases) × (slice_index bases k ≡ b)) (sym e) ((let size = based.size in omega (arith, size, lt)), own_base w (sole_in g) bases b (based.each b lt) none)
    have t (inr m) = absurd (none_in_empty t m)

-- where each type is its own base
pub all_own : (w : Typing) (sole : ℕ → Option ℕ) (bases : List ℕ) → length bases ≡ w.types → ((t : ℕ) → t < w.types → slice_index bases t ≡ t) → AreBased w sole bases
all_own w sole bases size own = record {
  size = size;
  each = λ t lt. record {
    within = subst (λ k. k < w.types) (sym (own t lt)) lt;
    reaches = subst (λ k. Reaches w.parents k t) (sym (own t lt)) same;
    by = inl (own t lt);
    last = λ far. absurd (far (own t lt));
    object = λ e. sym (own t lt) ∙ e;
  };
}

-- one pair more, of which the parent is its own base, or is not
module _ (parents : List (ℕ × ℕ)) (bases : List ℕ) (pairs : List (ℕ × ℕ)) (are : AreContracted parents bases pairs) (child parent : ℕ) where
  pub pair_contracted : slice_index bases parent ≡ parent → AreContracted (parents ++ (child, parent) ∷ []) bases (pairs ++ (slice_index bases child, parent) ∷ [])
  pair_contracted own x y = (λ m. to (Contains-push_cases pairs (slice_index bases child, parent) (x, y) m), λ h. from h.0 (Contains-push_cases parents (child, parent) (h.0, y) h.1) h.2 h.3)
    where
      to : Contains pairs (x, y) ⊎ ◌≡◌ {A = ℕ × ℕ} (slice_index bases child, parent) (x, y)
          → (c : ℕ) × Contains (parents ++ (child, parent) ∷ []) (c, y) × (slice_index bases c ≡ x) × (slice_index bases y ≡ y)
      to (inl m) = let (c, has, is, mine) = (are x y).0 m in (c, Contains-append_left parents ((child, parent) ∷ []) (c, y) has, is, mine)
      to (inr e) =
          let second : parent ≡ y = ap (λ (p : ℕ × ℕ). p.1) e in
          (child, subst (λ k. Contains (parents ++ (child, parent) ∷ []) (child, k)) second (Contains-push parents (child, parent)), ap (λ (p : ℕ × ℕ). p.0) e, subst (λ k. slice_index bases k ≡ k) second own)

      from : (c : ℕ) → Contains parents (c, y) ⊎ ◌≡◌ {A = ℕ × ℕ} (child, parent) (c, y) → slice_index bases c ≡ x → slice_index bases y ≡ y
          → Contains (pairs ++ (slice_index bases child, parent) ∷ []) (x, y)
      from c (inl m) is mine = Contains-append_left pairs ((slice_index bases child, parent) ∷ []) (x, y) ((are x y).1 (c, m, is, mine))
      from c (inr e) is mine =
          let first : child ≡ c = ap (λ (p : ℕ × ℕ). p.0) e in
          let second : parent ≡ y = ap (λ (p : ℕ × ℕ). p.1) e in
          let same : ◌≡◌ {A = ℕ × ℕ} (slice_index bases child, parent) (x, y) = λ i. ((ap (slice_index bases) first ∙ is) i, second i) in
          subst (λ p. Contains (pairs ++ (slice_index bases child, parent) ∷ []) p) same (Contains-push pairs (slice_index bases child, parent))

  pub pair_dropped : slice_index bases parent ≢ parent → AreContracted (parents ++ (child, parent) ∷ []) bases pairs
  pair_dropped other x y = (
    λ m. let (c, has, is, mine) = (are x y).0 m in (c, Contains-append_left parents ((child, parent) ∷ []) (c, y) has, is, mine),
    λ h. from h.0 (Contains-push_cases parents (child, parent) (h.0, y) h.1) h.2 h.3,
  )
    where
      from : (c : ℕ) → Contains parents (c, y) ⊎ ◌≡◌ {A = ℕ × ℕ} (child, parent) (c, y) → slice_index bases c ≡ x → slice_index bases y ≡ y → Contains pairs (x, y)
      from c (inl m) is mine = (are x y).1 (c, m, is, mine)
      from c (inr e) is mine =
          let second : parent ≡ y = ap (λ (p : ℕ × ℕ). p.1) e in
          absurd (other (subst (λ k. slice_index bases k ≡ k) (sym second) mine))
