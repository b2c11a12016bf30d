-- The objects of terms.
use Rattle.std.proofs.Common.{◌≡◌, ℕ, List, [], ◌∷◌, zero, suc, Option, None, slice_get, slice_index_or, refl, ap, sym, ◌∙◌, option_map, map, drop, length, take, set, get_or, ◌<◌, ◌≤◌, arith}
use Rattle.std.specs.Ordering.{nat_cmp}
use Rattle.std.specs.Cmp.Lexicographic.{slice_cmp}
use Rattle.std.specs.declared.cmp.Ordering.TheVariants.{Greater}
use Rattle.hv_world.specs.declared.id.ObjectId.{ObjectId}
use Rattle.hv_world.specs.declared.formula.Term.{Term}
use Rattle.hv_world.specs.Views.{term_view}
use Rattle.hv_world.specs.Bindings.{object_number, object_of}

nothing_there : (env : List ℕ) (v : ℕ) → slice_get env v ≡ None → slice_index_or env v 0 ≡ 0
nothing_there [] v e = refl
nothing_there (o ∷ env) zero e = absurd cc
nothing_there (o ∷ env) (suc v) e = nothing_there env v e

-- what is read where a binding has no object
pub object_past : (env : List ℕ) (v : ℕ) (found : Option ObjectId) → option_map object_number found ≡ slice_get env v → found ≡ None → slice_index_or env v 0 ≡ 0
object_past env v found e none = nothing_there env v (sym e ∙ ap (option_map object_number) none)

-- objects are left, and no others
pub more_numbers : (objects : List ℕ) (i : ℕ) (others : List ℕ) → i < length objects → length others < 1 → slice_cmp nat_cmp (drop i objects) others ≡ Greater
more_numbers objects i (n ∷ ns) lt few = absurd (omega arith)
more_numbers [] i [] lt few = absurd (omega arith)
more_numbers (o ∷ os) zero [] lt few = refl
more_numbers (o ∷ os) (suc i) [] lt few = more_numbers os i [] (omega arith) few

-- the same of terms
pub more_objects : {X Y : Type 0} (objects : List ℕ) (i : ℕ) (f : Y → ℕ) (g : X → Y) (terms : List X) → i < length objects → length terms < 1 → slice_cmp nat_cmp (drop i objects) (map f (map g terms)) ≡ Greater
more_objects objects i f g (t ∷ ts) lt few = absurd (omega arith)
more_objects objects i f g [] lt few = more_numbers objects i [] lt few

-- one to three terms, and a list of three numbers
module _ (env : List ℕ) where
  pub one_term : (ts : List Term) (ns : List ℕ) (a : ℕ) (d : Term) → length ns ≡ 3 → 1 ≤ length ts → length ts < 2 → a ≡ object_of env (term_view (get_or ts 0 d)) → take 1 (set ns 0 a) ≡ map (object_of env) (map term_view ts)
  one_term [] ns a d room some few is = absurd (omega (arith, some))
  one_term (t ∷ []) [] a d room some few is = absurd (omega (arith, room))
  one_term (t ∷ []) (n ∷ ns) a d room some few is = λ i. is i ∷ []
  one_term (t ∷ u ∷ ts) ns a d room some few is = absurd (omega (arith, few))

  pub two_terms : (ts : List Term) (ns : List ℕ) (a b : ℕ) (d e : Term) → length ns ≡ 3 → 2 ≤ length ts → length ts < 3 → a ≡ object_of env (term_view (get_or ts 0 d)) → b ≡ object_of env (term_view (get_or ts 1 e))
      → take 2 (set (set ns 0 a) 1 b) ≡ map (object_of env) (map term_view ts)
  two_terms [] ns a b d e room some few is so = absurd (omega (arith, some))
  two_terms (t ∷ []) ns a b d e room some few is so = absurd (omega (arith, some))
  two_terms (t ∷ u ∷ []) [] a b d e room some few is so = absurd (omega (arith, room))
  two_terms (t ∷ u ∷ []) (n ∷ []) a b d e room some few is so = absurd (omega (arith, room))
  two_terms (t ∷ u ∷ []) (n ∷ m ∷ ns) a b d e room some few is so = λ i. is i ∷ so i ∷ []
  two_terms (t ∷ u ∷ v ∷ ts) ns a b d e room some few is so = absurd (omega (arith, few))

  pub three_terms : (ts : List Term) (ns : List ℕ) (a b c : ℕ) (d e f : Term) → length ns ≡ 3 → 3 ≤ length ts → length ts < 4 → a ≡ object_of env (term_view (get_or ts 0 d)) → b ≡ object_of env (term_view (get_or ts 1 e)) → c ≡ object_of env (term_view (get_or ts 2 f))
      → set (set (set ns 0 a) 1 b) 2 c ≡ map (object_of env) (map term_view ts)
  three_terms [] ns a b c d e f room some few is so on = absurd (omega (arith, some))
  three_terms (t ∷ []) ns a b c d e f room some few is so on = absurd (omega (arith, some))
  three_terms (t ∷ u ∷ []) ns a b c d e f room some few is so on = absurd (omega (arith, some))
  three_terms (t ∷ u ∷ v ∷ []) [] a b c d e f room some few is so on = absurd (omega (arith, room))
  three_terms (t ∷ u ∷ v ∷ []) (n ∷ []) a b c d e f room some few is so on = absurd (omega (arith, room))
  three_terms (t ∷ u ∷ v ∷ []) (n ∷ m ∷ []) a b c d e f room some few is so on = absurd (omega (arith, room))
  three_terms (t ∷ u ∷ v ∷ []) (n ∷ m ∷ l ∷ []) a b c d e f room some few is so on = λ i. is i ∷ so i ∷ on i ∷ []
  three_terms (t ∷ u ∷ v ∷ []) (n ∷ m ∷ l ∷ k ∷ ns) a b c d e f room some few is so on = absurd (omega (arith, room))
  three_terms (t ∷ u ∷ v ∷ x ∷ ts) ns a b c d e f room some few is so on = absurd (omega (arith, few))
