-- What the table of a node's method says of the node.
use Rattle.std.proofs.Common.{◌≡◌, ◌<◌, ◌+◌, ◌++◌, ℕ, zero, suc, List, [], ◌∷◌, length, map, refl, subst, Option, Some, None, option_map, slice_get, MatchOption, Bor, take, get_or}
use Rattle.std.specs.List.{AllZip}
use Rattle.hv_lists.specs.Lists.{Once}
use Rattle.hv_lists.proofs.Places.{take_one, map_end}
use Rattle.hv_lists.proofs.Pairs.{zip_end}
use Rattle.hv_world.specs.Worlds.{World, Method}
use Rattle.hv_world.specs.MethodViews.{method_view}
use Rattle.hv_world.specs.declared.method.Method as code_method
use Rattle.hv_plan.specs.PlanTrees.{Node, PlanTree}
use Rattle.hv_match.specs.Candidates.{HasAllAt, Listing, node_method}
use Rattle.hv_match.specs.Counts.{CountIsAt, IsInCountAt}
use Rattle.hv_match.specs.inside.Numbers.{in_64_bits}
use Rattle.hv_match.specs.inside.Parts.{IsWhole, IsWholeBy}
use Rattle.hv_match.specs.inside.Ranges.{AreTablesOf, HasTable, IsTableAt, IsTableOf}
use Rattle.hv_match.specs.declared.table.MethodTable.{MethodTable}

-- a list of candidates by the table of the node's method
pub record IsListingAt (w : World) (t : PlanTree) (v : ℕ) (ever : Option (List (List ℕ))) (l : Listing) : Type 0 where
  pub exact : HasAllAt w t v ever l
  pub once : Once l.coming
  pub few : IsInCountAt w t v l

pub listing_at : (w : World) (t : PlanTree) (v : ℕ) (n : Node) (table : MethodTable) (ever : Option (List (List ℕ))) (l : Listing)
    → slice_get t.nodes v ≡ Some n → IsTableAt w n table → IsWholeBy table t n ever l → IsListingAt w t v ever l
listing_at w t v n table ever l e at by = go (node_method w n) refl at
  where
    go : (o : Option Method) → node_method w n ≡ o → MatchOption o ⊥ (λ m. IsTableOf w m table) → IsListingAt w t v ever l
    go None f at = absurd at
    go (Some m) f at =
        let is : IsWhole w m t n ever l = by w m at in
        let exact : HasAllAt w t v ever l = rw (e, f) is.exact in
        let few : IsInCountAt w t v l = rw (e, f) is.few in
        record { exact = exact; once = is.once; few = few }

pub count_at : (w : World) (t : PlanTree) (v : ℕ) (n : Node) (table : MethodTable) (P : ℕ → Type 0)
    → slice_get t.nodes v ≡ Some n → IsTableAt w n table → ((k : ℕ) → table.count ≡ in_64_bits k → P k) → CountIsAt w t v P
count_at w t v n table P e at by = go (node_method w n) refl at
  where
    go : (o : Option Method) → node_method w n ≡ o → MatchOption o ⊥ (λ m. IsTableOf w m table) → CountIsAt w t v P
    go None f at = absurd at
    go (Some m) f at = (at.count.0, rw (e, f) at.count.1, by at.count.0 at.count.2)

-- the table of a number is that of the method of the number
pub table_is : {M T : Type 0} (R : M → T → Type 0) (ms : List M) (ts : List T) (i : ℕ) (o : Option (Bor T)) → AllZip R ms ts
    → option_map (λ t. t.now) o ≡ slice_get ts i → MatchOption o (slice_get ms i ≡ None) (λ t. MatchOption (slice_get ms i) ⊥ (λ m. R m t.now))
table_is R [] [] i None a e = refl
table_is R [] [] i (Some t) a e = cc
table_is R [] (u ∷ ts) i o a e = absurd a
table_is R (m ∷ ms) [] i o a e = absurd a
table_is R (m ∷ ms) (u ∷ ts) zero None a e = cc
table_is R (m ∷ ms) (u ∷ ts) zero (Some t) a e = let f : u ≡ t.now = cc in subst (λ z. R m z) f a.0
table_is R (m ∷ ms) (u ∷ ts) (suc i) o a e = table_is R ms ts i o a.1 e

-- one method more, and its table
pub more_tables : (w : World) (ms : List code_method.Method) (i : ℕ) (d : code_method.Method) (ts : List MethodTable) (t : MethodTable) → i < length ms
    → AllZip (IsTableOf w) (map method_view (take i ms)) ts → IsTableOf w (method_view (get_or ms i d)) t → AllZip (IsTableOf w) (map method_view (take (i + 1) ms)) (ts ++ t ∷ [])
more_tables w ms i d ts t h a is =
    rw (take_one ms i d h, map_end method_view (take i ms) (get_or ms i d)) (zip_end (IsTableOf w) (map method_view (take i ms)) ts (method_view (get_or ms i d)) t a is)

-- the table of the initial network is that of a node that has no method
pub top_table : (w : World) (n : Node) (top : MethodTable) (ts : List MethodTable) → n.method ≡ None → AreTablesOf w top ts → IsTableAt w n top
top_table w n top ts e are = rw e are.initial

-- the table of a number is that of a node that has the method of the number
pub numbered_table : (w : World) (n : Node) (k : ℕ) (top : MethodTable) (ts : List MethodTable) (o : Option (Bor MethodTable)) → n.method ≡ Some k → AreTablesOf w top ts
    → option_map (λ t. t.now) o ≡ slice_get ts k → HasTable w n o
numbered_table w n k top ts o e are h = rw e (table_is (IsTableOf w) w.methods ts k o are.methods h)
