-- A text says a value or has one fault, never both.
use Rattle.std.proofs.Common.{◌≡◌, ◌⊎◌, inl, inr, ℕ, List, refl, ap, subst}
use Rattle.hv_text.specs.Trees.{Tree, Trees}
use Rattle.hv_text.specs.Sexps.{AreExpressions, HasExpressions, IsOwnFault, HasOwnFault}
use Rattle.hv_text.specs.declared.span.Span.{Span}
use Rattle.hv_text.specs.declared.fault.TextKind.{TextKind}
use Rattle.hv_reading.specs.declared.fault.SyntaxKind.{SyntaxKind}
use Rattle.hv_reading.specs.declared.fault.SyntaxKind.TheVariants as kinds
use Rattle.hv_reading.specs.declared.section.Standing.{Standing}
use Rattle.hv_reading.specs.Texts.{IsSpelledBy, IsFaultBy, IsOwnFaultBy, SaysSome, HasFaultBy}
use Rattle.hv_reading.specs.FirstFaults.{IsSectionFault, no_head, unknown_head, unsupported_head, a_second_time, unsupported_inside, no_spelling, IsFirstFault, it_is_here, it_comes_later, IsFaultyDomain, no_definition, faulty_section, IsFaultyProblem, no_definition_of_it, a_faulty_section, a_missing_section}

-- a fault of expressions, and not of what they stand in
abbrev pub IsOfExpressions : SyntaxKind → Type 0
IsOfExpressions (kinds.Text t) = ⊥
IsOfExpressions kinds.NotDefine = Unit {0}
IsOfExpressions kinds.UnknownSection = Unit {0}
IsOfExpressions kinds.RepeatedSection = Unit {0}
IsOfExpressions kinds.MissingSection = Unit {0}
IsOfExpressions kinds.BadShape = Unit {0}
IsOfExpressions kinds.Unsupported = Unit {0}

in_section : {S : Type 0} (standing : List ℕ → Standing) (Spells : List ℕ → Span → Trees → S → Type 0) (before : List Tree) (t : Tree) (k : SyntaxKind)
    → IsSectionFault standing Spells before t k → IsOfExpressions k
in_section standing Spells before _ _ (no_head t e) = tt
in_section standing Spells before _ _ (unknown_head t w ts e is) = tt
in_section standing Spells before _ _ (unsupported_head t w ts e is) = tt
in_section standing Spells before _ _ (a_second_time t w ts e is again) = tt
in_section standing Spells before _ _ (unsupported_inside t w ts e may unread holds) = tt
in_section standing Spells before _ _ (no_spelling t w ts e may unread holds) = tt

in_first : {S : Type 0} (standing : List ℕ → Standing) (Spells : List ℕ → Span → Trees → S → Type 0) (before : List Tree) (ts : Trees) (k : SyntaxKind) (s : Span)
    → IsFirstFault standing Spells before ts k s → IsOfExpressions k
in_first standing Spells _ _ _ _ (it_is_here before t ts k h) = in_section standing Spells before t k h
in_first standing Spells _ _ _ _ (it_comes_later before t ts x k s first h) = in_first standing Spells _ ts k s h

pub in_domain : (es : Trees) (k : SyntaxKind) (s : Span) → IsFaultyDomain es k s → IsOfExpressions k
in_domain _ _ _ (no_definition es none) = tt
in_domain _ _ _ (faulty_section es n ts s k p is h) = in_first _ _ _ ts k p h

pub in_problem : (es : Trees) (k : SyntaxKind) (s : Span) → IsFaultyProblem es k s → IsOfExpressions k
in_problem _ _ _ (no_definition_of_it es none) = tt
in_problem _ _ _ (a_faulty_section es n ts s k p is h) = in_first _ _ _ ts k p h
in_problem _ _ _ (a_missing_section es n ts s p is all lacks) = tt

module _ (one_reading : (text : List ℕ) (ts us : Trees) → AreExpressions text ts → AreExpressions text us → ts ≡ us)
    (read_or_not : (text : List ℕ) → HasExpressions text ⊎ HasOwnFault text)
    (never_read : (text : List ℕ) (ts : Trees) (k : TextKind) (s : Span) → AreExpressions text ts → IsOwnFault text k s → ⊥)
    (one_own : (text : List ℕ) (k l : TextKind) (s t : Span) → IsOwnFault text k s → IsOwnFault text l t → (k ≡ l) × (s ≡ t))
    {V : Type 0} (Spells : Trees → V → Type 0) (Faulty : Trees → SyntaxKind → Span → Type 0)
    (some : (es : Trees) → ((v : V) × Spells es v) ⊎ ((f : SyntaxKind × Span) × Faulty es f.0 f.1))
    (never : (es : Trees) (v : V) (k : SyntaxKind) (s : Span) → Spells es v → Faulty es k s → ⊥)
    (one : (es : Trees) (k l : SyntaxKind) (s p : Span) → Faulty es k s → Faulty es l p → (k ≡ l) × (s ≡ p))
    (of_expressions : (es : Trees) (k : SyntaxKind) (s : Span) → Faulty es k s → IsOfExpressions k) where
  faulty : (text : List ℕ) (ts : Trees) (k : SyntaxKind) (s : Span) → AreExpressions text ts → Faulty ts k s → IsOwnFaultBy (IsFaultBy Faulty) text k s
  faulty text ts (kinds.Text t) s read h = absurd (of_expressions ts (kinds.Text t) s h)
  faulty text ts kinds.NotDefine s read h = ((λ e. cc), (ts, read, h))
  faulty text ts kinds.UnknownSection s read h = ((λ e. cc), (ts, read, h))
  faulty text ts kinds.RepeatedSection s read h = ((λ e. cc), (ts, read, h))
  faulty text ts kinds.MissingSection s read h = ((λ e. cc), (ts, read, h))
  faulty text ts kinds.BadShape s read h = ((λ e. cc), (ts, read, h))
  faulty text ts kinds.Unsupported s read h = ((λ e. cc), (ts, read, h))

  pub says_or_has : (text : List ℕ) → SaysSome (IsSpelledBy Spells) text ⊎ HasFaultBy (IsFaultBy Faulty) text
  says_or_has text = go (read_or_not text) where
    read : (ts : Trees) → AreExpressions text ts → ((v : V) × Spells ts v) ⊎ ((f : SyntaxKind × Span) × Faulty ts f.0 f.1)
        → SaysSome (IsSpelledBy Spells) text ⊎ HasFaultBy (IsFaultBy Faulty) text
    read ts are (inl (v, h)) = inl (v, (ts, are, h))
    read ts are (inr ((k, s), h)) = inr (k, s, faulty text ts k s are h)

    go : HasExpressions text ⊎ HasOwnFault text → SaysSome (IsSpelledBy Spells) text ⊎ HasFaultBy (IsFaultBy Faulty) text
    go (inl (ts, are)) = read ts are (some ts)
    go (inr (k, s, (sober, h))) = inr (kinds.Text k, s, ((λ e. sober (cc)), h))

  -- how a text says no value: it has no expressions, or they are faulty
  data Unread (text : List ℕ) (k : SyntaxKind) (s : Span) : Type 0 where
    by_text : (t : TextKind) → k ≡ kinds.Text t → IsOwnFault text t s → Unread text k s
    by_expressions : (ts : Trees) → AreExpressions text ts → Faulty ts k s → Unread text k s

  unread : (text : List ℕ) (k : SyntaxKind) (s : Span) → IsOwnFaultBy (IsFaultBy Faulty) text k s → Unread text k s
  unread text (kinds.Text t) s (sober, h) = by_text t refl ((λ e. sober (ap kinds.Text e)), h)
  unread text kinds.NotDefine s (sober, (ts, read, h)) = by_expressions ts read h
  unread text kinds.UnknownSection s (sober, (ts, read, h)) = by_expressions ts read h
  unread text kinds.RepeatedSection s (sober, (ts, read, h)) = by_expressions ts read h
  unread text kinds.MissingSection s (sober, (ts, read, h)) = by_expressions ts read h
  unread text kinds.BadShape s (sober, (ts, read, h)) = by_expressions ts read h
  unread text kinds.Unsupported s (sober, (ts, read, h)) = by_expressions ts read h

  pub says_and_has : (text : List ℕ) (v : V) (k : SyntaxKind) (s : Span) → IsSpelledBy Spells text v → IsOwnFaultBy (IsFaultBy Faulty) text k s → ⊥
  says_and_has text v k s (ts, read, is) bad = go (unread text k s bad) where
    go : Unread text k s → ⊥
    go (by_text t e h) = never_read text ts t s read h
    go (by_expressions us read' h) = never ts v k s is (subst (λ es. Faulty es k s) (one_reading text us ts read' read) h)

  pub one_fault : (text : List ℕ) (k l : SyntaxKind) (s p : Span) → IsOwnFaultBy (IsFaultBy Faulty) text k s → IsOwnFaultBy (IsFaultBy Faulty) text l p → (k ≡ l) × (s ≡ p)
  one_fault text k l s p bad worse = go (unread text k s bad) (unread text l p worse) where
    go : Unread text k s → Unread text l p → (k ≡ l) × (s ≡ p)
    go (by_text t e h) (by_text u e' h') = let same = one_own text t u s p h h' in let kinds_agree = same.0 in (cc, same.1)
    go (by_text t e h) (by_expressions us read h') = absurd (never_read text us t s read h)
    go (by_expressions ts read h) (by_text u e h') = absurd (never_read text ts u p read h')
    go (by_expressions ts read h) (by_expressions us read' h') =
        one ts k l s p h (subst (λ es. Faulty es l p) (one_reading text us ts read' read) h')
