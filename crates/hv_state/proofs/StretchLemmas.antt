-- Changes in a stretch of states.
use Rattle.std.proofs.Common.{◌≡◌, ◌≤◌, ◌<◌, ◌↔◌, ◌⊎◌, ◌∷◌, [], ℕ, List, Option, Some, None, IsTrue, Bool, true, false, nat_lt, nat_le, inl, inr, true≢false, refl, sym, ap, ◌∙◌, subst, arith, if◌then◌else◌}
use Rattle.std.specs.Prelude.{◌||◌, ◌&&◌}
use Rattle.std.specs.List.{Contains}
use Rattle.std.proofs.lemmas.Bool.{lt-ltb, ltb-true, le-leb, leb-true, cases_lt}
use Rattle.hv_lists.proofs.Bools.{both_true, and_both, or_left, or_right, or_cases, same_bools}
use Rattle.hv_lists.proofs.Contained.{at_head, in_tail, contains_cases, none_in_empty}
use Rattle.hv_state.specs.Changes.{Change, told_from, told, Tells}
use Rattle.hv_state.specs.inside.Histories.{IsNextIn}
use Rattle.hv_state.specs.inside.Stretches.{turns_in, or_start, is_true_in}
use Rattle.hv_state.proofs.NoteLemmas.{Said}

-- whether there is a change in a stretch
pub turns_where : (from end : ℕ) (cs : List Change) (c : Change) → Contains cs c → from < c.0 → c.0 < end → turns_in from end cs ≡ true
turns_where from end [] c m low high = absurd (none_in_empty c m)
turns_where from end (d ∷ cs) c m low high =
    elim (contains_cases d cs c m) [
      | inl e ↦ or_left _ _ (subst (λ (x : Change). (nat_lt from x.0 && nat_lt x.0 end) ≡ true) e (and_both _ _ (lt-ltb from c.0 low) (lt-ltb c.0 end high)))
      | inr l ↦ or_right _ _ (turns_where from end cs c l low high)
    ]

pub turns_never : (from end : ℕ) (cs : List Change) → ((c : Change) → Contains cs c → from < c.0 → end ≤ c.0) → turns_in from end cs ≡ true → ⊥
turns_never from end [] quiet e = true≢false (sym e)
turns_never from end (d ∷ cs) quiet e =
    elim (or_cases _ _ e) [
      | inl h ↦ (
          let both = both_true (nat_lt from d.0) (nat_lt d.0 end) h in
          let low = ltb-true from d.0 both.0 in
          let high = ltb-true d.0 end both.1 in
          let late = quiet d (at_head d cs d refl) low in
          omega (arith, high, late)
          )
      | inr h ↦ turns_never from end cs (λ c m low. quiet c (in_tail d cs c m) low) h
    ]

not_le : (a b : ℕ) → b < a → nat_le a b ≡ false
not_le a b lt = by (nat_le a b) refl
  where
    by : (c : Bool) → nat_le a b ≡ c → nat_le a b ≡ false
    by true e = let le = leb-true a b e in absurd (omega (arith, le, lt))
    by false e = e

-- up to an index of the stretch the same is told as at its beginning, or there is a change
same_or_turns : (from end k : ℕ) → from ≤ k → k < end → (o : Option Bool) (cs : List Change) → (told_from o k cs ≡ told_from o from cs) ⊎ (turns_in from end cs ≡ true)
same_or_turns from end k low high o [] = inl refl
same_or_turns from end k low high o (c ∷ cs) = by (λ p. same_or_turns from end k low high p cs) (cases_lt from c.0) (cases_lt k c.0)
  where
    at : (n : ℕ) (b : Bool) → nat_le c.0 n ≡ b → told_from o n (c ∷ cs) ≡ told_from (if b then Some c.1 else o) n cs
    at n b e = ap (λ (x : Bool). told_from (if x then Some c.1 else o) n cs) e

    both : ((p : Option Bool) → (told_from p k cs ≡ told_from p from cs) ⊎ (turns_in from end cs ≡ true)) → (b : Bool) → nat_le c.0 from ≡ b → nat_le c.0 k ≡ b → (told_from o k (c ∷ cs) ≡ told_from o from (c ∷ cs)) ⊎ (turns_in from end (c ∷ cs) ≡ true)
    both rest b e f = elim (rest (if b then Some c.1 else o)) [
      | inl same ↦ inl (at k b f ∙ same ∙ sym (at from b e))
      | inr turns ↦ inr (or_right _ _ turns)
    ]

    by : ((p : Option Bool) → (told_from p k cs ≡ told_from p from cs) ⊎ (turns_in from end cs ≡ true)) → (from < c.0) ⊎ (c.0 ≤ from) → (k < c.0) ⊎ (c.0 ≤ k) → (told_from o k (c ∷ cs) ≡ told_from o from (c ∷ cs)) ⊎ (turns_in from end (c ∷ cs) ≡ true)
    by rest (inl behind) (inl later) = both rest false (not_le c.0 from behind) (not_le c.0 k later)
    by rest (inl behind) (inr within) = inr (or_left _ _ (and_both _ _ (lt-ltb from c.0 behind) (lt-ltb c.0 end (omega (arith, within, high)))))
    by rest (inr before) other = both rest true (le-leb c.0 from before) (le-leb c.0 k (omega (arith, before, low)))

-- what is true at an index of the stretch is true at its beginning, or turns in it
pub true_somewhere : (S : Type 0) (b : Bool) → IsTrue b ↔ S → (from end k : ℕ) → from ≤ k → k < end → (cs : List Change) → Tells S k cs → is_true_in b from end cs ≡ true
true_somewhere S b is from end k low high cs tells =
    elim (same_or_turns from end k low high None cs) [
      | inl same ↦ or_left _ _ (by (told from cs) (subst (Said S) same tells))
      | inr turns ↦ or_right _ _ turns
    ]
  where
    by : (o : Option Bool) → Said S o → or_start b o ≡ true
    by None h = is.1 h
    by (Some c) h = h

-- the next change is in the stretch, or there is none
pub next_turns : (cs : List Change) (from end j : ℕ) → IsNextIn cs from end j → nat_lt j end ≡ turns_in from end cs
next_turns cs from end j next = same_bools (nat_lt j end) (turns_in from end cs) there back
  where
    there : nat_lt j end ≡ true → turns_in from end cs ≡ true
    there e =
        let lt = ltb-true j end e in
        let found = next.change lt in
        let after = next.after in
        turns_where from end cs found.0 found.1 (omega (arith, after, found.2)) (omega (arith, lt, found.2))

    by : (j < end) ⊎ (end ≤ j) → turns_in from end cs ≡ true → nat_lt j end ≡ true
    by (inl lt) e = lt-ltb j end lt
    by (inr le) e = absurd (turns_never from end cs (λ c m low. let late = next.quiet c m low in omega (arith, late, le)) e)

    back : turns_in from end cs ≡ true → nat_lt j end ≡ true
    back = by (cases_lt j end)

-- where an atom is not true at the beginning of a stretch, it is true in it where it turns
pub not_begun : (b : Bool) (o : Option Bool) (t : Bool) → or_start b o ≡ false → t ≡ (or_start b o || t)
not_begun b o t e = ap (λ x. x || t) (sym e)
