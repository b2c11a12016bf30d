-- Objects for parameters.
use Rattle.std.proofs.Common.{◌≡◌, ℕ, zero, suc, ◌<◌, List, [], ◌∷◌, ◌++◌, length, map, drop, get_or, refl, sym, ap, arith}
use Rattle.std.specs.Prelude.{Some, slice_get, slice_index_or}
use Rattle.hv_world.specs.declared.id.ActionId.{ActionId}
use Rattle.hv_world.specs.declared.id.TypeId.{TypeId}
use Rattle.hv_world.specs.declared.id.ObjectId.{ObjectId}
use Rattle.hv_world.specs.Types.{Typing}
use Rattle.hv_world.specs.Views.{type_number}
use Rattle.hv_world.specs.Bindings.{object_number, ground_action, grounded}
use Rattle.hv_world.specs.Groundings.{AreOf}

-- objects are left, and no types
pub more_objects : (w : Typing) (objects : List ObjectId) (i : ℕ) (types : List TypeId) → i < length objects → length types < 1 → AreOf w (map object_number (drop i objects)) (map type_number types) → ⊥
more_objects w objects i (t ∷ ts) lt few m = absurd (omega arith)
more_objects w [] i [] lt few m = absurd (omega arith)
more_objects w (o ∷ os) zero [] lt few m = m
more_objects w (o ∷ os) (suc i) [] lt few m = more_objects w os i [] (omega arith) few m

-- actions with as many lists of objects
pub grounded_length : (xs : List ActionId) (oss : List (List ObjectId)) → length oss ≡ length xs → length (grounded xs oss) ≡ length xs
grounded_length [] oss many = refl
grounded_length (x ∷ xs) [] many = absurd (omega arith)
grounded_length (x ∷ xs) (os ∷ oss) many = ap suc (grounded_length xs oss (omega arith))

pub grounded_at : (xs : List ActionId) (oss : List (List ObjectId)) (k : ℕ) (x : ActionId) → length oss ≡ length xs → k < length xs → x ≡ get_or xs k x
    → slice_get (grounded xs oss) k ≡ Some (ground_action x.0 (map object_number (slice_index_or oss k [])))
grounded_at [] oss k x many lt is = absurd (omega arith)
grounded_at (y ∷ xs) [] k x many lt is = absurd (omega arith)
grounded_at (y ∷ xs) (os ∷ oss) zero x many lt is = ap (λ a. Some (ground_action a.0 (map object_number os))) (sym is)
grounded_at (y ∷ xs) (os ∷ oss) (suc k) x many lt is = grounded_at xs oss k x (omega arith) (omega arith) is

pub grounded_pushed : (xs : List ActionId) (oss : List (List ObjectId)) (x : ActionId) (os : List ObjectId) → length oss ≡ length xs
    → grounded (xs ++ x ∷ []) (oss ++ os ∷ []) ≡ grounded xs oss ++ ground_action x.0 (map object_number os) ∷ []
grounded_pushed [] [] x os many = refl
grounded_pushed [] (y ∷ oss) x os many = absurd (omega arith)
grounded_pushed (y ∷ xs) [] x os many = absurd (omega arith)
grounded_pushed (y ∷ xs) (ps ∷ oss) x os many = ap (λ l. ground_action y.0 (map object_number ps) ∷ l) (grounded_pushed xs oss x os (omega arith))
