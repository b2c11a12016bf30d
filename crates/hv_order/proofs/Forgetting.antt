-- What is known of nodes that are to be kept is kept, and nothing else.
use Rattle.std.proofs.Common.{◌≡◌, ℕ, zero, suc, ◌+◌, ◌<◌, ◌≤◌, ◌⊎◌, inl, inr, ◌∙◌, List, [], ◌∷◌, ◌++◌, Bool, true, false, length, refl, sym, ap, subst, arith, Option, Some, None, is_some, slice_get, slice_set}
use Rattle.std.specs.BTreeMap.{BTreeMap, get, is_at}
use Rattle.std.specs.Map.{lookup}
use Rattle.std.proofs.lemmas.Bool.{cases_lt}
use Rattle.hv_order.proofs.Members.{SameNumber, equal_numbers, other_numbers, number_cases}
use Rattle.hv_order.proofs.MarkLemmas.{marked_cases}
use Rattle.hv_order.proofs.Memos.{InSpan, inside, outside, span_cases, same_place, other_place}
use Rattle.hv_order.specs.inside.Marks.{IsMarked}
use Rattle.hv_order.specs.inside.Memos.{pair_cmp, finish_from, in_span, spanned, or_else, found, KeepsSpans, KeepsOnly, KnowsFinish, TellsFinishes}
use Rattle.hv_order.specs.inside.Walks.{said_of}
use Rattle.hv_order.specs.declared.trial.Run.{Run}
use Rattle.hv_order.specs.declared.memo.Memo.{Memo}
use Rattle.hv_order.specs.declared.memo.Pair.{Pair}
use Rattle.hv_order.specs.declared.memo.Span.{Span}

-- so of the first nodes; the others are as they were
abbrev pub KeepsUpto : ℕ → List Span → List Bool → List Span → Type 0
KeepsUpto n old kept new =
    (v s : ℕ) (r : Run) → spanned (slice_get new v) s ≡ Some r
    → (v < n → IsMarked kept v) × (spanned (slice_get old v) s ≡ Some r)

pub none_forgotten : (old : List Span) (kept : List Bool) → KeepsUpto 0 old kept old
none_forgotten old kept v s r e = (λ lt. absurd (omega (arith, lt)), e)

pub one_kept : (n : ℕ) (old : List Span) (kept : List Bool) (new : List Span) → IsMarked kept n → KeepsUpto n old kept new → KeepsUpto (n + 1) old kept new
one_kept n old kept new on keeps v s r e = let before = keeps v s r e in (λ lt. by (number_cases v n) before.0 lt, before.1)
  where
    by : SameNumber v n → (v < n → IsMarked kept v) → v < n + 1 → IsMarked kept v
    by (equal_numbers same t) earlier lt = subst (λ k. IsMarked kept k) (sym same) on
    by (other_numbers other t) earlier lt = earlier (omega (arith, lt, other))

pub one_forgotten : (n : ℕ) (old : List Span) (kept : List Bool) (new : List Span) (none : Span) → n < length new → none.last < none.first
    → KeepsUpto n old kept new → KeepsUpto (n + 1) old kept (slice_set new n none)
one_forgotten n old kept new none within empty keeps v s r e = by (number_cases v n) e
  where
    nothing : InSpan none s (in_span none s) → in_span none s ≡ Some r → ⊥
    nothing (inside a b f) g = omega (arith, a, b, empty)
    nothing (outside off f) g = let clash : None ≡ Some r = sym f ∙ g in cc

    by : SameNumber v n → spanned (slice_get (slice_set new n none) v) s ≡ Some r → (v < n + 1 → IsMarked kept v) × (spanned (slice_get old v) s ≡ Some r)
    by (equal_numbers same t) is =
        let P : ℕ → Type 0 = λ k. spanned (slice_get (slice_set new n none) k) s ≡ Some r in
        let here : in_span none s ≡ Some r = ap (λ o. spanned o s) (sym (same_place new n none within)) ∙ subst P same is in
        absurd (nothing (span_cases none s) here)
    by (other_numbers other t) is =
        let before = keeps v s r (ap (λ o. spanned o s) (sym (other_place new n v none other)) ∙ is) in
        (λ lt. before.0 (omega (arith, lt, other)), before.1)

none_behind : (new : List Span) (v s : ℕ) (r : Run) → length new ≤ v → spanned (slice_get new v) s ≡ Some r → ⊥
none_behind [] v s r le e = let clash : None ≡ Some r = e in cc
none_behind (x ∷ xs) zero s r le e = omega (arith, le)
none_behind (x ∷ xs) (suc v) s r le e = none_behind xs v s r (omega (arith, le)) e

pub all_forgotten : (n : ℕ) (old : List Span) (kept : List Bool) (new : List Span) → length new ≤ n → KeepsUpto n old kept new → KeepsSpans old kept new
all_forgotten n old kept new le keeps v s r e = let before = keeps v s r e in (before.0 (by (cases_lt v n)), before.1)
  where
    by : (v < n) ⊎ (n ≤ v) → v < n
    by (inl lt) = lt
    by (inr past) = absurd (none_behind new v s r (omega (arith, le, past)) e)

-- the further starts and the winners are gone
no_more : (o : Option Run) (more : BTreeMap Pair Run) (p : Pair) (r : Run) → more.entries ≡ [] → or_else o (get pair_cmp more p) ≡ Some r → o ≡ Some r
no_more None more p r none e = absurd (let clash : None ≡ Some r = sym (ap (λ es. lookup (is_at (pair_cmp p)) es) none) ∙ e in cc)
no_more (Some k) more p r none e = e

some_first : (o g : Option Run) (r : Run) → o ≡ Some r → or_else o g ≡ Some r
some_first o g r e = ap (λ k. or_else k g) e

pub keeps_only : (m m' : Memo) (kept : List Bool) → length m'.spans.items ≡ length m.spans.items → KeepsSpans m.spans.items kept m'.spans.items → m'.more.entries ≡ [] → m'.won.items ≡ []
    → KeepsOnly m kept m'
keeps_only m m' kept room spans more won = record {
  room = room;
  only = λ v s r e.
      let p : Pair = record { node = v; start = s } in
      let before = spans v s r (no_more (spanned (slice_get m'.spans.items v) s) m'.more p r more e) in
      (before.0, some_first (spanned (slice_get m.spans.items v) s) (get pair_cmp m.more p) r before.1);
  won = λ v. ap (λ xs. said_of xs v) won;
}

-- an interval that has a start tells a finish, if it has one
pub span_tells : (m : Memo) (v : ℕ) (p : Span) → slice_get m.spans.items v ≡ Some p → p.first ≤ p.last → is_some (finish_from p.finish) ≡ true → KnowsFinish m v
span_tells m v p at le some = by (finish_from p.finish) refl some
  where
    run : Run
    run = record { last = p.last; finish = finish_from p.finish }

    here : InSpan p p.first (in_span p p.first) → in_span p p.first ≡ Some run
    here (inside a b e) = e
    here (outside off e) = absurd (off (omega arith) le)

    known : found m v p.first ≡ Some run
    known =
        some_first (spanned (slice_get m.spans.items v) p.first) (get pair_cmp m.more (record { node = v; start = p.first })) run
        (ap (λ o. spanned o p.first) at ∙ here (span_cases p p.first))

    by : (o : Option ℕ) → finish_from p.finish ≡ o → is_some o ≡ true → KnowsFinish m v
    by None e on = absurd (let clash : false ≡ true = on in cc)
    by (Some f) e on = record { start = p.first; run = run; finish = f; known = known; is = e }

-- one node more, of which it is told
pub record TellsUpto (m : Memo) (told : List Bool) (n : ℕ) : Type 0 where
  pub as_many : length told ≡ n
  pub each : TellsFinishes m told

pub none_told : (m : Memo) → TellsUpto m [] 0
none_told m = record { as_many = refl; each = λ v says. absurd (let clash : false ≡ true = says in cc) }

pub told_more : (m : Memo) (told : List Bool) (n : ℕ) (b : Bool) → TellsUpto m told n → (b ≡ true → KnowsFinish m n) → TellsUpto m (told ++ b ∷ []) (n + 1)
told_more m told n b tells here = record {
  as_many = more told ∙ ap (λ k. k + 1) tells.as_many;
  each = λ v says. by v (marked_cases told b v says);
}
  where
    more : (xs : List Bool) → length (xs ++ b ∷ []) ≡ length xs + 1
    more [] = refl
    more (x ∷ xs) = let rest = more xs in omega (arith, rest)

    by : (v : ℕ) → IsMarked told v ⊎ ((v ≡ length told) × (b ≡ true)) → KnowsFinish m v
    by v (inl says) = tells.each v says
    by v (inr (e, on)) = subst (λ u. KnowsFinish m u) (sym (e ∙ tells.as_many)) (here on)
