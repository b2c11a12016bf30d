-- What is learned is kept, and nothing is forgotten.
use Rattle.std.proofs.Common.{◌≡◌, ℕ, zero, suc, ◌+◌, ◌<◌, ◌≤◌, ◌⊎◌, inl, inr, ◌∙◌, List, [], ◌∷◌, ◌++◌, Bool, true, false, cond, length, length-set, refl, sym, ap, subst, arith, Option, Some, None, is_some, slice_get, slice_set, leb, if◌then◌else◌}
use Rattle.std.proofs.lemmas.Bool.Decides.{leb_tells}
use Rattle.std.proofs.lemmas.Map.Lookups.{CmpEqualImpliesEq, exact_pairs, exact_unsigned}
use Rattle.std.specs.declared.cmp.Ordering.{Ordering}
use Rattle.std.specs.declared.cmp.Ordering.TheVariants.{Less, Equal, Greater}
use Rattle.std.specs.Ordering.{nat_cmp, is_eq}
use Rattle.std.specs.BTreeMap.{BTreeMap, get, is_at}
use Rattle.std.specs.Vec.{with_item}
use Rattle.hv_order.proofs.Members.{SameNumber, equal_numbers, other_numbers, number_cases}
use Rattle.hv_order.specs.inside.Memos.{pair_cmp, finish_from, in_span, spanned, or_else, found, IsEmptyList, Keeps, LiesIn}
use Rattle.hv_order.specs.inside.Walks.{said_of}
use Rattle.hv_order.specs.declared.trial.Run.{Run}
use Rattle.hv_order.specs.declared.memo.Memo.{Memo}
use Rattle.hv_order.specs.declared.memo.Pair.{Pair}
use Rattle.hv_order.specs.declared.memo.Span.{Span}
use Rattle.hv_order.specs.declared.memo.Won.{Won}

pub same_place : {X : Type 0} (xs : List X) (i : ℕ) (x : X) → i < length xs → slice_get (slice_set xs i x) i ≡ Some x
same_place [] i x lt = absurd (omega (arith, lt))
same_place (y ∷ ys) zero x lt = refl
same_place (y ∷ ys) (suc i) x lt = same_place ys i x (omega (arith, lt))

pub other_place : {X : Type 0} (xs : List X) (i j : ℕ) (x : X) → (j ≡ i → ⊥) → slice_get (slice_set xs i x) j ≡ slice_get xs j
other_place [] i j x other = refl
other_place (y ∷ ys) zero zero x other = absurd (other refl)
other_place (y ∷ ys) zero (suc j) x other = refl
other_place (y ∷ ys) (suc i) zero x other = refl
other_place (y ∷ ys) (suc i) (suc j) x other = other_place ys i j x (λ e. other (ap suc e))

-- what an interval says of a start
pub data InSpan (p : Span) (s : ℕ) (o : Option Run) : Type 0 where
  inside : p.first ≤ s → s ≤ p.last → o ≡ Some (record { last = p.last; finish = finish_from p.finish }) → InSpan p s o
  outside : (p.first ≤ s → s ≤ p.last → ⊥) → o ≡ None → InSpan p s o

pub span_cases : (p : Span) (s : ℕ) → InSpan p s (in_span p s)
span_cases p s = tell (leb p.first s) (leb s p.last) (leb_tells p.first s) (leb_tells s p.last)
  where
    says : Bool → Bool → Option Run
    says a b = if a then (if b then Some (record { last = p.last; finish = finish_from p.finish }) else None) else None

    tell : (a b : Bool) → ((a ≡ true) × (p.first ≤ s)) ⊎ ((a ≡ false) × (s < p.first)) → ((b ≡ true) × (s ≤ p.last)) ⊎ ((b ≡ false) × (p.last < s)) → InSpan p s (says a b)
    tell a b (inl (e, le)) (inl (f, within)) = inside le within (ap (λ x. says x b) e ∙ ap (says true) f)
    tell a b (inl (e, le)) (inr (f, past)) = outside (λ x y. omega (arith, y, past)) (ap (λ x. says x b) e ∙ ap (says true) f)
    tell a b (inr (e, early)) k = outside (λ x y. omega (arith, x, early)) (ap (λ x. says x b) e)

-- a pair is as before, or it is one that the new run lies on
abbrev IsOldOrNew : Option Run → Option Run → ℕ → ℕ → Run → ℕ → ℕ → Type 0
IsOldOrNew o o' v s r w x = (o' ≡ o) ⊎ (LiesIn v s r w x × (o' ≡ Some r))

still_there : (o o' : Option Run) (v s : ℕ) (r : Run) (w x : ℕ) → IsOldOrNew o o' v s r w x → is_some o ≡ true → is_some o' ≡ true
still_there o o' v s r w x (inl same) was = ap is_some same ∙ was
still_there o o' v s r w x (inr (lies, new)) was = ap is_some new

only_new : (o o' : Option Run) (v s : ℕ) (r : Run) (w x : ℕ) → IsOldOrNew o o' v s r w x → (u : Run) → o' ≡ Some u → (o ≡ Some u) ⊎ (LiesIn v s r w x × (u ≡ r))
only_new o o' v s r w x (inl same) u is = inl (sym same ∙ is)
only_new o o' v s r w x (inr (lies, new)) u is = inr (lies, (let k : Some u ≡ Some r = sym is ∙ new in cc))

keeps_from : (m m' : Memo) (v s : ℕ) (r : Run) → length m'.spans.items ≡ length m.spans.items → ((w x : ℕ) → IsOldOrNew (found m w x) (found m' w x) v s r w x) → Keeps m m' v s r
keeps_from m m' v s r room each = record {
  room = room;
  kept = λ w x. still_there (found m w x) (found m' w x) v s r w x (each w x);
  only = λ w x. only_new (found m w x) (found m' w x) v s r w x (each w x);
}

-- pairs that compare alike are one
exact_pair : CmpEqualImpliesEq pair_cmp
exact_pair a b h = ap (λ (p : ℕ × ℕ). record { node = p.0; start = p.1 }) (exact_pairs nat_cmp nat_cmp exact_unsigned exact_unsigned (a.node, a.start) (b.node, b.start) h)

-- the tree, after a pair was put in
is_equal : (o : Ordering) → is_eq o ≡ true → o ≡ Equal
is_equal Less e = absurd (let k : false ≡ true = e in cc)
is_equal Equal e = refl
is_equal Greater e = absurd (let k : false ≡ true = e in cc)

put_case : (b : Bool) (o : Option Run) (v s : ℕ) (r : Run) (w x : ℕ) → s ≤ r.last → (b ≡ true → (v ≡ w) × (s ≡ x)) → IsOldOrNew o (cond b (Some r) o) v s r w x
put_case true o v s r w x le here = let (node, start) = here refl in inr (record { node = sym node; late = omega (arith, start); early = omega (arith, start, le) }, refl)
put_case false o v s r w x le here = inl refl

else_case : (o g g' : Option Run) (v s : ℕ) (r : Run) (w x : ℕ) → IsOldOrNew g g' v s r w x → IsOldOrNew (or_else o g) (or_else o g') v s r w x
else_case None g g' v s r w x is = is
else_case (Some k) g g' v s r w x is = inl refl

else_some : (o g : Option Run) (r : Run) → g ≡ Some r → is_some (or_else o g) ≡ true
else_some None g r e = ap is_some e
else_some (Some k) g r e = refl

-- a further start is put into the tree
module _ (m : Memo) (more : BTreeMap Pair Run) (v s : ℕ) (r : Run) (le : s ≤ r.last)
    (updates : (q : Pair) → get pair_cmp more q ≡ cond (is_at (pair_cmp (record { node = v; start = s })) q) (Some r) (get pair_cmp m.more q)) where
  abbrev with_more : Memo
  with_more = record { spans = m.spans; more = more; won = m.won }

  pub put_keeps : Keeps m with_more v s r
  put_keeps = keeps_from m with_more v s r refl each
    where
      each : (w x : ℕ) → IsOldOrNew (found m w x) (found with_more w x) v s r w x
      each w x =
          let q : Pair = record { node = w; start = x } in
          let b = is_at (pair_cmp (record { node = v; start = s })) q in
          let here : b ≡ true → (v ≡ w) × (s ≡ x) = λ e.
          let one = exact_pair (record { node = v; start = s }) q (is_equal (pair_cmp (record { node = v; start = s }) q) e) in
          (ap (λ (k : Pair). k.node) one, ap (λ (k : Pair). k.start) one) in
          else_case (spanned (slice_get m.spans.items w) x) (get pair_cmp m.more q) (get pair_cmp more q) v s r w x
          (subst (λ o. IsOldOrNew (get pair_cmp m.more q) o v s r w x) (sym (updates q)) (put_case b (get pair_cmp m.more q) v s r w x le here))

  pub put_known : get pair_cmp more (record { node = v; start = s }) ≡ Some r → is_some (found with_more v s) ≡ true
  put_known e = else_some (spanned (slice_get m.spans.items v) s) (get pair_cmp more (record { node = v; start = s })) r e

-- the interval of a node, which had no start, is written
module _ (m : Memo) (v s : ℕ) (r : Run) (p : Span) (f : ℕ) (lt : v < length m.spans.items) (le : s ≤ r.last)
    (was : slice_get m.spans.items v ≡ Some p) (empty : p.last < p.first) (finish : finish_from f ≡ r.finish) where
  abbrev span : Span
  span = record { first = s; last = r.last; finish = f }

  abbrev with_span : Memo
  with_span = record { spans = with_item m.spans v span; more = m.more; won = m.won }

  abbrev at_pair : ℕ → ℕ → Option Run
  at_pair w x = get pair_cmp m.more (record { node = w; start = x })

  before : (x : ℕ) → found m v x ≡ at_pair v x
  before x = ap (λ o. or_else (spanned o x) (at_pair v x)) was ∙ none (span_cases p x)
    where
      none : InSpan p x (in_span p x) → or_else (in_span p x) (at_pair v x) ≡ at_pair v x
      none (inside a b e) = absurd (omega (arith, a, b, empty))
      none (outside off e) = ap (λ o. or_else o (at_pair v x)) e

  after : (x : ℕ) → found with_span v x ≡ or_else (in_span span x) (at_pair v x)
  after x = ap (λ o. or_else (spanned o x) (at_pair v x)) (same_place m.spans.items v span lt)

  within : (x : ℕ) → s ≤ x → x ≤ r.last → in_span span x ≡ Some r
  within x late early = tell (span_cases span x)
    where
      tell : InSpan span x (in_span span x) → in_span span x ≡ Some r
      tell (inside a b e) = e ∙ ap (λ k. Some (record { last = r.last; finish = k })) finish
      tell (outside off e) = absurd (off late early)

  here : (x : ℕ) → IsOldOrNew (found m v x) (found with_span v x) v s r v x
  here x = tell (span_cases span x)
    where
      tell : InSpan span x (in_span span x) → IsOldOrNew (found m v x) (found with_span v x) v s r v x
      tell (inside a b e) = inr (record { node = refl; late = a; early = b }, after x ∙ ap (λ o. or_else o (at_pair v x)) (within x a b))
      tell (outside off e) = inl (after x ∙ ap (λ o. or_else o (at_pair v x)) e ∙ sym (before x))

  each_span : (w x : ℕ) → SameNumber w v → IsOldOrNew (found m w x) (found with_span w x) v s r w x
  each_span w x (equal_numbers e t) = subst (λ k. IsOldOrNew (found m k x) (found with_span k x) v s r k x) (sym e) (here x)
  each_span w x (other_numbers e t) = inl (ap (λ o. or_else (spanned o x) (at_pair w x)) (other_place m.spans.items v w span e))

  pub span_keeps : Keeps m with_span v s r
  span_keeps = keeps_from m with_span v s r (length-set m.spans.items v span) (λ w x. each_span w x (number_cases w v))

  pub span_known : is_some (found with_span v s) ≡ true
  span_known = ap is_some (after s ∙ ap (λ o. or_else o (at_pair v s)) (within s (omega arith) le))

-- a list that says nothing
pub none_said : IsEmptyList 0 []
none_said = record { as_many = refl; none = λ v. refl }

pub one_none_more : (n : ℕ) (won : List (Option Won)) → IsEmptyList n won → IsEmptyList (n + 1) (won ++ None ∷ [])
one_none_more n won is = record { as_many = more won ∙ ap (λ k. k + 1) is.as_many; none = none won is.none }
  where
    more : (xs : List (Option Won)) → length (xs ++ None ∷ []) ≡ length xs + 1
    more [] = refl
    more (x ∷ xs) = let rest = more xs in omega (arith, rest)

    none : (xs : List (Option Won)) → ((v : ℕ) → said_of xs v ≡ None) → (v : ℕ) → said_of (xs ++ None ∷ []) v ≡ None
    none [] h zero = refl
    none [] h (suc v) = refl
    none (x ∷ xs) h zero = h zero
    none (x ∷ xs) h (suc v) = none xs (λ u. h (suc u)) v
