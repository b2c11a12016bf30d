-- Which of several causes is reported.
use Rattle.std.proofs.Common.{◌≡◌, ℕ, ◌<◌, ◌≤◌, ◌⊎◌, inl, inr, nat_eq, nat_lt, nat_le, Bool, true, false, ◌&&◌, ◌||◌, List, [], ◌∷◌, ◌++◌, map, Option, Some, None, refl, ap, sym, subst, ◌∙◌, arith, if◌then◌else◌}
use Rattle.std.specs.Prelude.{Contains, Result, Ok, Err, MatchResult}
use Rattle.std.proofs.lemmas.List.{append-nil, append_assoc, map-append}
use Rattle.std.proofs.lemmas.List.Elements.{Contains-append_cases, Contains-append_left, Contains-append_right}
use Rattle.std.proofs.lemmas.Bool.{ltb-true, ltb-false, leb-true, leb-false, eqb-true, eqb-false}
use Rattle.hv_lists.proofs.Contained.{contains_first}
use Rattle.hv_lists.proofs.Numbers.{either_side, below_next}
use Rattle.hv_lists.proofs.Pairs.{zip_end}
use Rattle.hv_world.specs.Worlds.{World}
use Rattle.hv_plan.specs.Causes.{number}
use Rattle.hv_plan.specs.inside.LineFaults.{Entry, IsAtFault, IsLineFault, IsSmallest, ComesBefore, comes_before, earlier, IsEarliest, FaultIn}
use Rattle.hv_plan.specs.inside.FitViews.{kept, cause_at, AreFitted, IsTold}
use Rattle.hv_plan.specs.declared.fit.LineFault.{LineFault}
use Rattle.hv_plan.specs.declared.fit.LineFault.TheVariants as faults
use Rattle.hv_plan.specs.declared.cause.CauseKind.{CauseKind}
use Rattle.hv_plan.specs.declared.cause.Cause.{Cause}
use Rattle.hv_plan.proofs.FitLemmas.{contains_cons}

-- what the test of two causes says
module _ (m n a b : ℕ) where
  test : Bool
  test = nat_lt m n || (nat_eq m n && nat_le a b)

  test_true : (p q r : Bool) → nat_lt m n ≡ p → nat_eq m n ≡ q → nat_le a b ≡ r → p || (q && r) ≡ true → (m < n) ⊎ ((m ≡ n) × (a ≤ b))
  test_true true q r ep eq er is = inl (ltb-true m n ep)
  test_true false true true ep eq er is = inr (eqb-true m n eq, leb-true a b er)
  test_true false true false ep eq er is = cc
  test_true false false r ep eq er is = cc

  test_false : (p q r : Bool) → nat_lt m n ≡ p → nat_eq m n ≡ q → nat_le a b ≡ r → p || (q && r) ≡ false → (n < m) ⊎ ((n ≡ m) × (b ≤ a))
  test_false true q r ep eq er is = cc
  test_false false true true ep eq er is = cc
  test_false false true false ep eq er is =
      let gt : b < a = leb-false a b er in
      inr (sym (eqb-true m n eq), omega arith)
  test_false false false r ep eq er is =
      let le : n ≤ m = ltb-false m n ep in
      let differ : m ≡ n → ⊥ = eqb-false m n eq in
      elim (order n m le) [ inl less ↦ inl less | inr same ↦ absurd (differ (sym same)) ]
    where
      order : (i j : ℕ) → i ≤ j → (i < j) ⊎ (i ≡ j)
      order i j le = elim (below_next i j (omega arith)) [ inl l ↦ inl l | inr e ↦ inr e ]

module _ (c d : Cause) where
  is_before : comes_before c d ≡ true → ComesBefore c d.kind d.line
  is_before e = test_true (number c.kind) (number d.kind) c.line d.line _ _ _ refl refl refl e

  is_after : comes_before c d ≡ false → ComesBefore d c.kind c.line
  is_after e = test_false (number c.kind) (number d.kind) c.line d.line _ _ _ refl refl refl e

before_both : (c d : Cause) (k : CauseKind) (l : ℕ) → ComesBefore c d.kind d.line → ComesBefore d k l → ComesBefore c k l
before_both c d k l (inl a) (inl b) = inl (omega arith)
before_both c d k l (inl a) (inr (e, le)) = inl (omega arith)
before_both c d k l (inr (e, le)) (inl b) = inl (omega arith)
before_both c d k l (inr (e, le)) (inr (e', le')) = inr (e ∙ e', omega arith)

-- of two sets of causes
module _ (Q R : CauseKind → ℕ → Type 0) where
  abbrev pub Both : CauseKind → ℕ → Type 0
  Both k l = Q k l ⊎ R k l

  pub earlier_of : (f g : Option Cause) → IsEarliest Q f → IsEarliest R g → IsEarliest Both (earlier f g)
  earlier_of None None a b = λ k l q. elim q [ inl x ↦ a k l x | inr x ↦ b k l x ]
  earlier_of None (Some d) a b = (inr b.0, λ k l q. elim q [ inl x ↦ absurd (a k l x) | inr x ↦ b.1 k l x ])
  earlier_of (Some c) None a b = (inl a.0, λ k l q. elim q [ inl x ↦ a.1 k l x | inr x ↦ absurd (b k l x) ])
  earlier_of (Some c) (Some d) a b = go (comes_before c d) refl
    where
      go : (t : Bool) → comes_before c d ≡ t → IsEarliest Both (if t then Some c else Some d)
      go true e = (inl a.0, λ k l q. elim q [ inl x ↦ a.1 k l x | inr x ↦ before_both c d k l (is_before c d e) (b.1 k l x) ])
      go false e = (inr b.0, λ k l q. elim q [ inl x ↦ before_both d c k l (is_after c d e) (a.1 k l x) | inr x ↦ b.1 k l x ])

  pub earliest_same : ((k : CauseKind) (l : ℕ) → Q k l → R k l) → ((k : CauseKind) (l : ℕ) → R k l → Q k l) → (f : Option Cause)
      → IsEarliest Q f → IsEarliest R f
  earliest_same to from None none = λ k l r. none k l (from k l r)
  earliest_same to from (Some c) (is, first) = (to c.kind c.line is, λ k l r. first k l (from k l r))

-- of the causes at members of lists
module _ {X : Type 0} (At : X → CauseKind → Type 0) (line : X → ℕ) where
  abbrev pub FaultOf : List X → CauseKind → ℕ → Type 0
  FaultOf xs k l = (x : X) × Contains xs x × At x k × (line x ≡ l)

  no_member : (x : X) → Contains [] x → ⊥
  no_member x (n, lt, is) = omega arith

  pub earliest_of_no_line : IsEarliest (FaultOf []) None
  earliest_of_no_line = λ k l (x, in', f, is). no_member x in'

  pub earliest_at : (x : X) (k : CauseKind) → At x k → ((j : CauseKind) → number j < number k → At x j → ⊥)
      → IsEarliest (FaultOf (x ∷ [])) (Some (record { kind = k; line = line x }))
  earliest_at x k at smallest = (
    (x, contains_first x [], at, refl),
    λ j l (y, in', f, is). elim (contains_cons x [] y in') [ inl same ↦ before j l (subst (λ z. At z j) (sym same) f) (ap line same ∙ is) | inr rest ↦ absurd (no_member y rest) ],
  )
    where
      before : (j : CauseKind) (l : ℕ) → At x j → line x ≡ l → ComesBefore (record { kind = k; line = line x }) j l
      before j l f same = elim (either_side (number j) (number k)) [ inl less ↦ absurd (smallest j less f) | inr more ↦ elim (below_next (number k) (number j) (omega arith)) [ inl lt ↦ inl lt | inr eq ↦ inr (eq, omega arith) ] ]

  pub earliest_at_none : (x : X) → ((k : CauseKind) → At x k → ⊥) → IsEarliest (FaultOf (x ∷ [])) None
  earliest_at_none x none =
      λ k l (y, in', f, is). elim (contains_cons x [] y in') [ inl same ↦ none k (subst (λ z. At z k) (sym same) f) | inr rest ↦ no_member y rest ]

  pub earliest_of_lists : (xs ys : List X) (c d : Option Cause) → IsEarliest (FaultOf xs) c → IsEarliest (FaultOf ys) d → IsEarliest (FaultOf (xs ++ ys)) (earlier c d)
  earliest_of_lists xs ys c d a b =
      earliest_same (λ k l. FaultOf xs k l ⊎ FaultOf ys k l) (FaultOf (xs ++ ys)) to from (earlier c d) (earlier_of (FaultOf xs) (FaultOf ys) c d a b)
    where
      to : (k : CauseKind) (l : ℕ) → FaultOf xs k l ⊎ FaultOf ys k l → FaultOf (xs ++ ys) k l
      to k l (inl (x, in', f, is)) = (x, Contains-append_left xs ys x in', f, is)
      to k l (inr (x, in', f, is)) = (x, Contains-append_right xs ys x in', f, is)

      from : (k : CauseKind) (l : ℕ) → FaultOf (xs ++ ys) k l → FaultOf xs k l ⊎ FaultOf ys k l
      from k l (x, in', f, is) = elim (Contains-append_cases xs ys x in') [ inl y ↦ inl (x, y, f, is) | inr y ↦ inr (x, y, f, is) ]

-- of the causes of one line, and of two lists of lines
module _ (w : World) where
  pub earliest_of_one : (e : Entry) (k : CauseKind) → IsSmallest w e k → IsEarliest (FaultIn w (e ∷ [])) (Some (record { kind = k; line = e.said.line }))
  earliest_of_one e k s = earliest_at (IsAtFault w) (λ e. e.said.line) e k s.applies s.smallest

  pub earliest_of_none : (e : Entry) → ((k : CauseKind) → IsAtFault w e k → ⊥) → IsEarliest (FaultIn w (e ∷ [])) None
  earliest_of_none e none = earliest_at_none (IsAtFault w) (λ e. e.said.line) e none

  pub earliest_of_both : (es fs : List Entry) (c d : Option Cause) → IsEarliest (FaultIn w es) c → IsEarliest (FaultIn w fs) d → IsEarliest (FaultIn w (es ++ fs)) (earlier c d)
  earliest_of_both es fs c d a b = earliest_of_lists (IsAtFault w) (λ e. e.said.line) es fs c d a b

-- a pair more
pub earlier_none : (c d : Option Cause) → earlier c d ≡ None → (c ≡ None) × (d ≡ None)
earlier_none None None e = (refl, refl)
earlier_none None (Some d) e = cc
earlier_none (Some c) None e = cc
earlier_none (Some c) (Some d) e = go (comes_before c d) e
  where
    go : (t : Bool) → (if t then Some c else Some d) ≡ None → (Some c ≡ None) × (Some d ≡ None)
    go true e = cc
    go false e = cc

-- what was found of the first of the lines, where these are left
pub record AreFittedBefore {D N : Type 0} (w : World) (entry : D → Entry) (Is : D → N → Type 0) (all left : List D) (ns : List N) (c : Option Cause) : Type 0 where
  pub front : List D
  pub split : front ++ left ≡ all
  pub fitted : AreFitted w entry Is front ns c

-- a line more
module _ {D N : Type 0} (w : World) (entry : D → Entry) (Is : D → N → Type 0) (sound : (d : D) (n : N) → Is d n → (k : CauseKind) → IsAtFault w (entry d) k → ⊥) where
  pub none_fitted : AreFitted w entry Is [] [] None
  none_fitted = record { cause = λ k l (e, (n, lt, same), f, is). omega arith; said = λ e. tt }

  pub fitted_more : {Y : Type 0} (view : Y → N) (ds : List D) (ns : List N) (c : Option Cause) (d : D) (r : Result Y LineFault)
      → AreFitted w entry Is ds ns c → MatchResult r (λ y. Is d (view y)) (IsLineFault (IsSmallest w (entry d))) → IsTold r
      → AreFitted w entry Is (ds ++ d ∷ []) (ns ++ map view (kept r)) (earlier c (cause_at r (entry d).said.line))
  fitted_more view ds ns c d (Ok y) before is told =
      record {
        cause = rw (map-append entry ds (d ∷ [])) (earliest_of_both w (map entry ds) (entry d ∷ []) c None before.cause (earliest_of_none w (entry d) (sound d (view y) is)));
        said = λ e. zip_end Is ds ns d (view y) (before.said (earlier_none c None e).0) is;
      }
  fitted_more view ds ns c d (Err faults.Memory) before is told = absurd told
  fitted_more view ds ns c d (Err (faults.Cause k)) before is told =
      record {
        cause = rw (map-append entry ds (d ∷ [])) (earliest_of_both w (map entry ds) (entry d ∷ []) c (Some (record { kind = k; line = (entry d).said.line })) before.cause (earliest_of_one w (entry d) k is));
        said = λ e. absurd (no_cause (earlier_none c (Some (record { kind = k; line = (entry d).said.line })) e).1);
      }
    where
      no_cause : {x : Cause} → Some x ≡ None → ⊥
      no_cause e = cc

  -- the step of a loop over lines
  pub fitted_item : {Y : Type 0} (view : Y → N) (all left rest : List D) (d : D) (items items' : List N) (c c' : Option Cause) (r : Result Y LineFault)
      → left ≡ d ∷ rest → AreFittedBefore w entry Is all left items c
      → MatchResult r (λ y. Is d (view y)) (IsLineFault (IsSmallest w (entry d))) → IsTold r → items' ≡ items ++ map view (kept r)
      → c' ≡ earlier c (cause_at r (entry d).said.line) → AreFittedBefore w entry Is all rest items' c'
  fitted_item view all left rest d items items' c c' r next before fits told more now =
      let step = fitted_more view before.front items c d r before.fitted fits told in
      record {
        front = before.front ++ d ∷ [];
        split = append_assoc before.front (d ∷ []) rest ∙ ap (λ ds. before.front ++ ds) (sym next) ∙ before.split;
        fitted = subst (λ z. AreFitted w entry Is (before.front ++ d ∷ []) items' z) (sym now)
            (subst (λ ns. AreFitted w entry Is (before.front ++ d ∷ []) ns (earlier c (cause_at r (entry d).said.line))) (sym more) step);
      }

  pub fitted_first : (all left : List D) (ns : List N) (c : Option Cause) → left ≡ all → ns ≡ [] → c ≡ None → AreFittedBefore w entry Is all left ns c
  fitted_first all left ns c same none no_cause =
      record {
        front = [];
        split = same;
        fitted = subst (λ z. AreFitted w entry Is [] ns z) (sym no_cause) (subst (λ xs. AreFitted w entry Is [] xs None) (sym none) none_fitted);
      }

  pub fitted_all : (all left : List D) (ns : List N) (c : Option Cause) → left ≡ [] → AreFittedBefore w entry Is all left ns c → AreFitted w entry Is all ns c
  fitted_all all left ns c none before =
      subst (λ ds. AreFitted w entry Is ds ns c) (sym (append-nil before.front) ∙ ap (λ ds. before.front ++ ds) (sym none) ∙ before.split) before.fitted
