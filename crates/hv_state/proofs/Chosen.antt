-- One variable of a quantifier: the objects of its type in turn.
use Rattle.std.proofs.Common.{◌≡◌, ◌↔◌, ℕ, ◌<◌, ◌-◌, take, drop, arith, List, [], ◌∷◌, ◌++◌, length, map, sym, subst, ◌∙◌, get_or}
use Rattle.std.specs.List.{Contains}
use Rattle.std.proofs.lemmas.List.{get_or-map, length-map}
use Rattle.std.proofs.lemmas.List.Elements.{Contains-get_or}
use Rattle.std.proofs.lemmas.Grind.{common_steps}
use Rattle.hv_world.specs.declared.id.TypeId.{TypeId}
use Rattle.hv_world.specs.declared.id.ObjectId.{ObjectId}
use Rattle.hv_world.specs.Types.{Typing, Of, object_numbers}
use Rattle.hv_world.specs.Views.{type_number}
use Rattle.hv_state.specs.Truth.{ForEach, ForSome}

-- the k-th number is that of the k-th object
number_at : (objects : List ObjectId) (k o : ℕ) (d : ObjectId) → k < length objects → get_or (object_numbers objects) k o ≡ (get_or objects k d).0
number_at objects k o d lt = get_or-map (λ x. x.0) objects k d o lt

module _ (w : Typing) (t : ℕ) (objects : List ObjectId) (exact : (o : ℕ) → Contains (object_numbers objects) o ↔ Of w o t) where
  pub is_of_type : (k : ℕ) (d : ObjectId) → k < length objects → Of w (get_or objects k d).0 t
  is_of_type k d lt =
      let in_range : k < length (object_numbers objects) = omega (arith, length-map objects (λ x. x.0), lt) in
      subst (λ o. Of w o t) (number_at objects k 0 d lt) ((exact _).0 (Contains-get_or (object_numbers objects) k 0 in_range))

  module _ (P : List ℕ → Type 0) (ts : List ℕ) (env : List ℕ) where
    pub each_of : ((k : ℕ) (d : ObjectId) → k < length objects → ForEach w P ts (env ++ (get_or objects k d).0 ∷ [])) → ForEach w P (t ∷ ts) env
    each_of h o of =
        let place = (exact o).1 of in
        let lt : place.0 < length objects = omega (arith, length-map objects (λ x. x.0), place.1) in
        let d : ObjectId = record { 0 = 0 } in
        subst (λ n. ForEach w P ts (env ++ n ∷ [])) (sym (number_at objects place.0 o d lt) ∙ place.2) (h place.0 d lt)

    pub none_of : ((k : ℕ) (d : ObjectId) → k < length objects → ForSome w P ts (env ++ (get_or objects k d).0 ∷ []) → ⊥) → ForSome w P (t ∷ ts) env → ⊥
    none_of h (o, of, p) =
        let place = (exact o).1 of in
        let lt : place.0 < length objects = omega (arith, length-map objects (λ x. x.0), place.1) in
        let d : ObjectId = record { 0 = 0 } in
        h place.0 d lt (subst (λ n. ForSome w P ts (env ++ n ∷ [])) (sym (sym (number_at objects place.0 o d lt) ∙ place.2)) p)

-- a list that is not empty, from its first element and the others
pub front : (xs : List TypeId) (d : TypeId) → 0 < length xs → map type_number xs ≡ (get_or xs 0 d).0 ∷ map type_number (take (length xs - 1) (drop 1 xs))
front [] d lt = absurd (omega arith)
front (x ∷ xs) d lt = grind (arith, common_steps)
