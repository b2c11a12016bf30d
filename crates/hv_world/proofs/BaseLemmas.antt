-- A type has the objects of its base, and the bases have theirs where each type is taken for its base.
use Rattle.std.proofs.Common.{◌≡◌, ◌<◌, ◌⊎◌, inl, inr, ℕ, List, slice_index, Option, Some, None, refl, sym, ap, ◌∙◌, subst, arith, Contains}
use Rattle.std.proofs.lemmas.Bool.{cases_eq}
use Rattle.hv_world.specs.Types.{Typing, Reaches, same, up, Of}
use Rattle.hv_world.specs.inside.TypeLists.{AreMembersBelow}
use Rattle.hv_world.specs.inside.Bases.{AreSole, AreBased, AreContracted, AreShared, with_parents}

-- a chain of pairs, and a pair behind it
pub reaches_further : (parents : List (ℕ × ℕ)) {a b c : ℕ} → Reaches parents a b → Contains parents (b, c) → Reaches parents a c
reaches_further parents same m = up m same
reaches_further parents (up k r) m = up k (reaches_further parents r m)

reaches_on : (parents : List (ℕ × ℕ)) {a b c : ℕ} → Reaches parents a b → Reaches parents b c → Reaches parents a c
reaches_on parents same s = s
reaches_on parents (up k r) s = up k (reaches_on parents r s)

module _ (w : Typing) (sole : ℕ → Option ℕ) (are_sole : AreSole w sole) (bases : List ℕ) (are : AreBased w sole bases) (in_range : (x y : ℕ) → Contains w.parents (x, y) → (x < w.types) × (y < w.types)) where
  -- what a chain leads to is led to at its base, or the chain begins on the way from there
  enters : {a t : ℕ} → t < w.types → Reaches w.parents a t → Reaches w.parents a (slice_index bases t) ⊎ (slice_index bases a ≡ slice_index bases t)
  enters lt same = inr refl
  enters {t} lt (up {a} {b} m r) = by (enters lt r)
    where
      entered : (slice_index bases b ≡ b) ⊎ ((c : ℕ) × (sole b ≡ Some c) × (slice_index bases b ≡ slice_index bases c)) → slice_index bases b ≡ slice_index bases t
          → Reaches w.parents a (slice_index bases t) ⊎ (slice_index bases a ≡ slice_index bases t)
      entered (inl own) e = inl (subst (λ x. Reaches w.parents a x) (sym own ∙ e) (up m same))
      entered (inr (c, told, further)) e =
          let c_is : a ≡ c = (are_sole b c told).alone a m in
          inr (ap (slice_index bases) c_is ∙ sym further ∙ e)

      by : Reaches w.parents b (slice_index bases t) ⊎ (slice_index bases b ≡ slice_index bases t) → Reaches w.parents a (slice_index bases t) ⊎ (slice_index bases a ≡ slice_index bases t)
      by (inl s) = inl (up m s)
      by (inr e) = entered (are.each b (in_range a b m).1).by e

  -- a type that an object is declared of is its own base
  declared_own : {o a : ℕ} → a < w.types → Contains w.declared (o, a) → slice_index bases a ≡ a
  declared_own {o} {a} lt m = by (are.each a lt).by
    where
      by : (slice_index bases a ≡ a) ⊎ ((c : ℕ) × (sole a ≡ Some c) × (slice_index bases a ≡ slice_index bases c)) → slice_index bases a ≡ a
      by (inl own) = own
      by (inr (c, told, further)) = absurd ((are_sole a c told).none o m)

  object_own : (t : ℕ) → t < w.types → t ≡ 0 → slice_index bases t ≡ 0
  object_own t lt zero_is = by (are.each t lt).by
    where
      by : (slice_index bases t ≡ t) ⊎ ((c : ℕ) × (sole t ≡ Some c) × (slice_index bases t ≡ slice_index bases c)) → slice_index bases t ≡ 0
      by (inl own) = own ∙ zero_is
      by (inr (c, told, further)) = absurd ((are_sole t c told).other zero_is)

  -- the base of a type is its own
  base_own : (t : ℕ) → t < w.types → slice_index bases (slice_index bases t) ≡ slice_index bases t
  base_own t lt = cases (cases_eq (slice_index bases t) t)
    where
      by : sole (slice_index bases t) ≡ None → (slice_index bases (slice_index bases t) ≡ slice_index bases t) ⊎ ((c : ℕ) × (sole (slice_index bases t) ≡ Some c) × (slice_index bases (slice_index bases t) ≡ slice_index bases c))
          → slice_index bases (slice_index bases t) ≡ slice_index bases t
      by none (inl own) = own
      by none (inr (c, told, further)) = absurd (let clash : None ≡ Some c = sym none ∙ told in cc)

      cases : (slice_index bases t ≡ t) ⊎ (slice_index bases t ≡ t → ⊥) → slice_index bases (slice_index bases t) ≡ slice_index bases t
      cases (inl own) = ap (slice_index bases) own
      cases (inr other) = by ((are.each t lt).last other) (are.each (slice_index bases t) (are.each t lt).within).by

  module _ (declared_in : (o a : ℕ) → Contains w.declared (o, a) → a < w.types) where
    -- a type has the objects of its base
    to_base : (o t : ℕ) → Of w o t → Of w o (slice_index bases t)
    to_base o t (o_in, t_in, inl zero_is) = (o_in, (are.each t t_in).within, inl (object_own t t_in zero_is))
    to_base o t (o_in, t_in, inr (a, m, r)) = (o_in, (are.each t t_in).within, inr (a, m, by (enters t_in r)))
      where
        by : Reaches w.parents a (slice_index bases t) ⊎ (slice_index bases a ≡ slice_index bases t) → Reaches w.parents a (slice_index bases t)
        by (inl s) = s
        by (inr e) = subst (λ x. Reaches w.parents a x) (sym (declared_own (declared_in o a m) m) ∙ e) same

    from_base : (o t : ℕ) → t < w.types → Of w o (slice_index bases t) → Of w o t
    from_base o t t_in (o_in, b_in, inl zero_is) = (o_in, t_in, inl ((are.each t t_in).object zero_is))
    from_base o t t_in (o_in, b_in, inr (a, m, r)) = (o_in, t_in, inr (a, m, reaches_on w.parents r (are.each t t_in).reaches))

    -- the pairs where each type is taken for its base
    module _ (pairs : List (ℕ × ℕ)) (contracted : AreContracted w.parents bases pairs) where
      contracts : {a t : ℕ} → Reaches w.parents a t → Reaches pairs (slice_index bases a) (slice_index bases t)
      contracts same = same
      contracts {t} (up {a} {b} m r) = by (are.each b (in_range a b m).1).by (contracts r)
        where
          by : (slice_index bases b ≡ b) ⊎ ((c : ℕ) × (sole b ≡ Some c) × (slice_index bases b ≡ slice_index bases c)) → Reaches pairs (slice_index bases b) (slice_index bases t)
              → Reaches pairs (slice_index bases a) (slice_index bases t)
          by (inl own) s = up ((contracted (slice_index bases a) b).1 (a, m, refl, own)) (subst (λ x. Reaches pairs x (slice_index bases t)) own s)
          by (inr (c, told, further)) s =
              let c_is : a ≡ c = (are_sole b c told).alone a m in
              subst (λ x. Reaches pairs x (slice_index bases t)) (further ∙ ap (slice_index bases) (sym c_is)) s

      expands : {a t : ℕ} → Reaches pairs a t → Reaches w.parents a t
      expands same = same
      expands {t} (up {a} {b} m r) =
          let (c, has, is, own) = (contracted a b).0 m in
          let first : Reaches w.parents a b = subst (λ x. Reaches w.parents x b) is (reaches_further w.parents (are.each c (in_range c b has).0).reaches has) in
          reaches_on w.parents first (expands r)

      to_contracted : (o b : ℕ) → slice_index bases b ≡ b → Of w o b → Of (with_parents w pairs) o b
      to_contracted o b own (o_in, b_in, inl zero_is) = (o_in, b_in, inl zero_is)
      to_contracted o b own (o_in, b_in, inr (a, m, r)) =
          let a_own = declared_own (declared_in o a m) m in
          (o_in, b_in, inr (a, m, subst (λ x. Reaches pairs x b) a_own (subst (λ y. Reaches pairs (slice_index bases a) y) own (contracts r))))

      from_contracted : (o b : ℕ) → Of (with_parents w pairs) o b → Of w o b
      from_contracted o b (o_in, b_in, inl zero_is) = (o_in, b_in, inl zero_is)
      from_contracted o b (o_in, b_in, inr (a, m, r)) = (o_in, b_in, inr (a, m, expands r))

      pub shared : (lists : List (List ℕ)) → AreMembersBelow w.objects (with_parents w pairs) lists → AreShared w bases lists
      shared lists members = record {
        size = are.size;
        within = λ t lt. let b = (are.each t lt).within in omega (arith, b, members.size);
        ascend = members.ascend;
        members = λ t o lt. (
          λ m. from_base o t lt (from_contracted o (slice_index bases t) ((members.members (slice_index bases t) o).0 m).1),
          λ of. (members.members (slice_index bases t) o).1 (of.0, to_contracted o (slice_index bases t) (base_own t lt) (to_base o t of)),
        );
      }
