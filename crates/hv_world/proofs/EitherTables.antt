-- Tables of the types that several names make.
use Rattle.std.proofs.Common.{◌≡◌, ℕ, suc, ◌+◌, ◌<◌, ◌≤◌, Bool, true, false, not, cond, ◌&&◌, ◌||◌, List, [], ◌∷◌, ◌++◌, map, length, drop, get_or, position, Some, None, bytes_eq, nat_lt, if◌then◌else◌, refl, ap, sym, ◌∙◌, arith}
use Rattle.std.specs.Global.{Vec}
use Rattle.std.specs.List.{list_any, position_or_len, flat_map}
use Rattle.std.specs.Prelude.{fold}
use Rattle.std.specs.Hash.DefaultHasher as sip
use Rattle.std.specs.declared.hash.DefaultHasher.{DefaultHasher}
use Rattle.std.specs.Cmp.Lexicographic.{pointwise}
use Rattle.std.proofs.lemmas.List.{map-append, append-nil, append_assoc, length-map, drop_more, drop_all}
use Rattle.indexmap.specs.IndexSet.{insert_key}
use Rattle.hv_text.specs.Names.{text_of}
use Rattle.hv_text.specs.declared.name.Name.{Name}
use Rattle.hv_world.specs.Eithers.{are_same, is_listed, with_lists, either_place}
use Rattle.hv_world.specs.inside.Tables.{names_in}
use Rattle.hv_text.specs.Bytes.{words_of}
use Rattle.hv_world.specs.inside.Seeds.{with_taken_in}
use Rattle.hv_world.specs.Known.{Known}
use Rattle.hv_world.specs.Worlds.{either_pairs, eithers_pairs}
use Rattle.hv_world.proofs.GatherLemmas.{with_list}

-- the code's test of lists
abbrev pub is_same_key : Vec Name → Vec Name → Bool
is_same_key a b = pointwise (λ x y. bytes_eq (text_of x) (text_of y)) a.items b.items

pointwise_map : (xs ys : List Name) → pointwise (λ x y. bytes_eq (text_of x) (text_of y)) xs ys ≡ are_same (map text_of xs) (map text_of ys)
pointwise_map [] [] = refl
pointwise_map [] (y ∷ ys) = refl
pointwise_map (x ∷ xs) [] = refl
pointwise_map (x ∷ xs) (y ∷ ys) = ap (λ b. bytes_eq (text_of x) (text_of y) && b) (pointwise_map xs ys)

any_same : (k : Vec Name) (xs : List (Vec Name)) → list_any (is_same_key k) xs ≡ is_listed (map names_in xs) (names_in k)
any_same k [] = refl
any_same k (x ∷ xs) = λ i. pointwise_map k.items x.items i || any_same k xs i

pub inserted_list : (k : Vec Name) (xs : List (Vec Name)) → map names_in (insert_key is_same_key xs k) ≡ with_list (map names_in xs) (names_in k)
inserted_list k xs = picked (list_any (is_same_key k) xs) (is_listed (map names_in xs) (names_in k)) (any_same k xs)
  where
    picked : (b c : Bool) → b ≡ c → map names_in (if b then xs else xs ++ k ∷ []) ≡ (if c then map names_in xs else map names_in xs ++ names_in k ∷ [])
    picked true true e = refl
    picked false false e = map-append names_in xs (k ∷ [])
    picked true false e = absurd (cc)
    picked false true e = absurd (cc)

first_same : (k : Vec Name) (xs : List (Vec Name)) → position_or_len (is_same_key k) xs ≡ position_or_len (are_same (names_in k)) (map names_in xs)
first_same k [] = refl
first_same k (x ∷ xs) = λ i. cond (not (pointwise_map k.items x.items i)) (1 + first_same k xs i) 0

pub placed_same : (k : Vec Name) (xs : List (Vec Name)) → position (is_same_key k) xs ≡ either_place (map names_in xs) (names_in k)
placed_same k xs = λ i. cond (nat_lt (first_same k xs i) (sym (length-map xs names_in) i)) (Some (first_same k xs i)) None

-- the step of a loop that adds lists
pub lists_next : (list : List (Vec Name)) (i : ℕ) (x : Vec Name) (old new : List (Vec Name)) (key : Vec Name) (all : List (List (List ℕ))) → i < length list → x ≡ get_or list i x → key.items ≡ x.items
    → new ≡ insert_key is_same_key old key → with_lists (map names_in old) (map names_in (drop i list)) ≡ all → with_lists (map names_in new) (map names_in (drop (i + 1) list)) ≡ all
lists_next list i x old new key all lt is copied grown so_far =
    let split : drop i list ≡ x ∷ drop (i + 1) list = drop_more list i x lt ∙ ap (λ y. y ∷ drop (i + 1) list) (sym is) in
    ap (λ ns. with_lists ns (map names_in (drop (i + 1) list))) (ap (map names_in) grown ∙ inserted_list key old ∙ ap (λ ns. with_list (map names_in old) (map text_of ns)) copied)
    ∙ ap (λ ys. with_lists (map names_in old) (map names_in ys)) (sym split) ∙ so_far

-- the steps of a loop that adds the pairs of either types, of which the first has number t
module _ (k : Known) (t : ℕ) (list : List (Vec Name)) (i : ℕ) where
  pub pairs_next : (x : Vec Name) (front new all : List (ℕ × ℕ)) → i < length list → x ≡ get_or list i x → new ≡ front ++ either_pairs k (t + i) (names_in x)
      → front ++ eithers_pairs k (t + i) (map names_in (drop i list)) ≡ all → new ++ eithers_pairs k (t + (i + 1)) (map names_in (drop (i + 1) list)) ≡ all
  pairs_next x front new all lt is pushed so_far =
      let split : drop i list ≡ x ∷ drop (i + 1) list = drop_more list i x lt ∙ ap (λ y. y ∷ drop (i + 1) list) (sym is) in
      let next : t + (i + 1) ≡ suc (t + i) = omega arith in
      let rest = map names_in (drop (i + 1) list) in
      (λ j. pushed j ++ eithers_pairs k (next j) rest)
      ∙ append_assoc front (either_pairs k (t + i) (names_in x)) (eithers_pairs k (suc (t + i)) rest)
      ∙ ap (λ ys. front ++ eithers_pairs k (t + i) (map names_in ys)) (sym split) ∙ so_far

  pub pairs_end : (front all : List (ℕ × ℕ)) → length list ≤ i → front ++ eithers_pairs k (t + i) (map names_in (drop i list)) ≡ all → front ≡ all
  pairs_end front all le so_far = sym (append-nil front) ∙ ap (λ ys. front ++ eithers_pairs k (t + i) (map names_in ys)) (sym (drop_all i list le)) ∙ so_far

-- names taken in, list by list
taken_append : (s : DefaultHasher) (xs ys : List (List ℕ)) → with_taken_in s (xs ++ ys) ≡ with_taken_in (with_taken_in s xs) ys
taken_append s [] ys = refl
taken_append s (x ∷ xs) ys = taken_append (fold sip.write s (words_of x)) xs ys

pub taken_next : (list : List (Vec Name)) (i : ℕ) (x : Vec Name) (old new all : DefaultHasher) → i < length list → x ≡ get_or list i x → new ≡ with_taken_in old (names_in x)
    → with_taken_in old (flat_map names_in (drop i list)) ≡ all → with_taken_in new (flat_map names_in (drop (i + 1) list)) ≡ all
taken_next list i x old new all lt is taken so_far =
    let split : drop i list ≡ x ∷ drop (i + 1) list = drop_more list i x lt ∙ ap (λ y. y ∷ drop (i + 1) list) (sym is) in
    ap (λ s. with_taken_in s (flat_map names_in (drop (i + 1) list))) taken ∙ sym (taken_append old (names_in x) (flat_map names_in (drop (i + 1) list)))
    ∙ ap (λ ys. with_taken_in old (flat_map names_in ys)) (sym split) ∙ so_far

pub flat_names : (xs : List (Vec Name)) → flat_map names_in xs ≡ flat_map (λ ns. ns) (map names_in xs)
flat_names [] = refl
flat_names (x ∷ xs) = ap (λ ys. names_in x ++ ys) (flat_names xs)
