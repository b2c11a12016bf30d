-- How the types that several names make are gathered.
use Rattle.std.proofs.Common.{◌≡◌, ℕ, ◌+◌, ◌-◌, ◌<◌, ◌≤◌, Bool, true, false, cond, ◌||◌, List, [], ◌∷◌, ◌++◌, length, map, filter, take, get_or, if◌then◌else◌, refl, ap, sym, subst, ◌∙◌, arith}
use Rattle.std.specs.Bool.{Decides}
use Rattle.std.specs.List.{flat_map}
use Rattle.std.specs.Cmp.Lexicographic.{pointwise_decides, bytes_decides}
use Rattle.std.proofs.lemmas.List.{map-append, append-nil}
use Rattle.std.proofs.lemmas.List.Elements.{filter-append}
use Rattle.std.specs.Global.{Vec, Box}
use Rattle.hv_text.specs.declared.name.Name.{Name}
use Rattle.hv_syntax.specs.declared.formula.FormulaText.{FormulaText, Imply}
use Rattle.hv_syntax.specs.Views.{formula_view}
use Rattle.hv_syntax.specs.Values.{Variable, Formula, formulas_of, Item, effect}
use Rattle.hv_world.specs.Names.{names}
use Rattle.hv_world.specs.Eithers.{formula_variables, formulas_variables, item_variables, effect_variables, is_either, are_same, is_listed, with_lists, either_lists}
use Rattle.hv_world.specs.inside.Tables.{names_in}
use Rattle.hv_world.specs.inside.Gathers.{EndsWith, AreGathered}
use Rattle.hv_world.proofs.AlikeLemmas.{take_more, take_whole}
use Rattle.hv_world.proofs.CheckLemmas.{view-Imply}

pub same_decides : (ms ns : List (List ℕ)) → Decides (are_same ms ns) (ms ≡ ns)
same_decides ms ns = pointwise_decides bytes_decides ms ns

pub same_lists : (ns : List (List ℕ)) → are_same ns ns ≡ true
same_lists ns = (same_decides ns ns).1 refl

abbrev pub with_list : List (List (List ℕ)) → List (List ℕ) → List (List (List ℕ))
with_list seen ns = if is_listed seen ns then seen else seen ++ ns ∷ []

pub with_lists-append : (seen xs ys : List (List (List ℕ))) → with_lists seen (xs ++ ys) ≡ with_lists (with_lists seen xs) ys
with_lists-append seen [] ys = refl
with_lists-append seen (x ∷ xs) ys = with_lists-append (with_list seen x) xs ys

pub listed_last : (seen : List (List (List ℕ))) (ns : List (List ℕ)) → is_listed (seen ++ ns ∷ []) ns ≡ true
listed_last [] ns = go (are_same ns ns) (same_lists ns)
  where
    go : (b : Bool) → b ≡ true → (b || false) ≡ true
    go b e = rw e refl
listed_last (x ∷ seen) ns = go (are_same ns x) (listed_last seen ns)
  where
    go : (b : Bool) → is_listed (seen ++ ns ∷ []) ns ≡ true → (b || is_listed (seen ++ ns ∷ []) ns) ≡ true
    go true e = refl
    go false e = e

pub listed_itself : (seen : List (List (List ℕ))) (ns : List (List ℕ)) → is_listed (with_list seen ns) ns ≡ true
listed_itself seen ns = go (is_listed seen ns) refl
  where
    go : (b : Bool) → is_listed seen ns ≡ b → is_listed (if b then seen else seen ++ ns ∷ []) ns ≡ true
    go true e = e
    go false e = listed_last seen ns

either_append : (us vs : List Variable) → either_lists (us ++ vs) ≡ either_lists us ++ either_lists vs
either_append us vs = ap (filter is_either) (map-append (λ (v : Variable). names v.of) us vs) ∙ filter-append is_either (map (λ v. names v.of) us) (map (λ v. names v.of) vs)

pub gathered_none : (a : List (List (List ℕ))) → AreGathered a [] a
gathered_none a seen = refl

pub gathered_both : (a b c : List (List (List ℕ))) (us vs : List Variable) → AreGathered a us b → AreGathered b vs c → AreGathered a (us ++ vs) c
gathered_both a b c us vs first next seen =
    next seen ∙ ap (λ s. with_lists s (either_lists vs)) (first seen) ∙ sym (with_lists-append (with_lists seen a) (either_lists us) (either_lists vs))
    ∙ ap (with_lists (with_lists seen a)) (sym (either_append us vs))

-- one variable more
module _ (old : List (List (List ℕ))) (v : Variable) where
  abbrev those : Bool → List (List (List ℕ))
  those b = cond b (names v.of ∷ []) []

  pub gathered_more : (new : List (List (List ℕ))) → is_either (names v.of) ≡ true → new ≡ old ++ names v.of ∷ [] → AreGathered old (v ∷ []) new
  gathered_more new e pushed seen =
      ap (with_lists seen) pushed ∙ with_lists-append seen old (names v.of ∷ []) ∙ ap (λ b. with_lists (with_lists seen old) (those b)) (sym e)

  pub gathered_plain : is_either (names v.of) ≡ false → AreGathered old (v ∷ []) old
  gathered_plain e seen = ap (λ b. with_lists (with_lists seen old) (those b)) (sym e)

  pub gathered_again : EndsWith old (names v.of) → AreGathered old (v ∷ []) old
  gathered_again ends seen = by (is_either (names v.of)) where
    seen_is : is_listed (with_lists seen old) (names v.of) ≡ true
    seen_is =
        subst (λ xs. is_listed xs (names v.of) ≡ true) (sym (ap (with_lists seen) ends.1 ∙ with_lists-append seen ends.0 (names v.of ∷ [])))
        (listed_itself (with_lists seen ends.0) (names v.of))

    by : (b : Bool) → with_lists seen old ≡ with_lists (with_lists seen old) (those b)
    by false = refl
    by true = ap (λ b. if b then with_lists seen old else with_lists seen old ++ names v.of ∷ []) (sym seen_is)

-- the steps of a loop over what has variables
flat_more : {X : Type 0} (f : X → List Variable) (xs : List X) (x : X) → flat_map f (xs ++ x ∷ []) ≡ flat_map f xs ++ f x
flat_more f [] x = append-nil (f x)
flat_more f (y ∷ xs) x = ap (λ vs. f y ++ vs) (flat_more f xs x) ∙ sym (assoc (f y) (flat_map f xs) (f x))
  where
    assoc : (us vs ws : List Variable) → (us ++ vs) ++ ws ≡ us ++ (vs ++ ws)
    assoc [] vs ws = refl
    assoc (u ∷ us) vs ws = ap (λ zs. u ∷ zs) (assoc us vs ws)

module _ {X Y : Type 0} (view : X → Y) (f : Y → List Variable) (xs : List X) (i : ℕ) (a b : List (List (List ℕ))) where
  pub gathered_next : (x : X) (c : List (List (List ℕ))) → i < length xs → x ≡ get_or xs i x → AreGathered a (flat_map f (map view (take i xs))) b → AreGathered b (f (view x)) c
      → AreGathered a (flat_map f (map view (take (i + 1) xs))) c
  gathered_next x c lt is so_far next =
      let more : map view (take (i + 1) xs) ≡ map view (take i xs) ++ view x ∷ [] = take_more view xs i x lt ∙ ap (λ y. map view (take i xs) ++ view y ∷ []) (sym is) in
      subst (λ vs. AreGathered a vs c) (sym (ap (flat_map f) more ∙ flat_more f (map view (take i xs)) (view x))) (gathered_both a b c (flat_map f (map view (take i xs))) (f (view x)) so_far next)

  pub gathered_end : (vs : List Variable) → length xs ≤ i → flat_map f (map view xs) ≡ vs → AreGathered a (flat_map f (map view (take i xs))) b → AreGathered a vs b
  gathered_end vs le are so_far = subst (λ us. AreGathered a us b) (ap (λ ys. flat_map f (map view ys)) (take_whole i xs le) ∙ are) so_far

pub one_each : (vs : List Variable) → flat_map (λ v. v ∷ []) vs ≡ vs
one_each [] = refl
one_each (v ∷ vs) = ap (λ us. v ∷ us) (one_each vs)

pub formulas_flat : (fs : List Formula) → flat_map formula_variables fs ≡ formulas_variables (formulas_of fs)
formulas_flat [] = refl
formulas_flat (f ∷ fs) = ap (λ vs. formula_variables f ++ vs) (formulas_flat fs)

pub items_flat : (xs : List Item) → flat_map item_variables xs ≡ effect_variables (effect xs)
items_flat [] = refl
items_flat (x ∷ xs) = ap (λ vs. item_variables x ++ vs) (items_flat xs)

-- lists end with the last of them
pub ends_with : (lists : List (Vec Name)) (last : Vec Name) (ns : List (List ℕ)) → 0 < length lists → ((d : Vec Name) → last ≡ get_or lists (length lists - 1) d) → are_same (names_in last) ns ≡ true
    → EndsWith (map names_in lists) ns
ends_with lists last ns some is e =
    let n = length lists - 1 in
    let long : length lists ≤ n + 1 = omega arith in
    let whole : take (n + 1) lists ≡ lists = take_whole (n + 1) lists long in
    let end : map names_in lists ≡ map names_in (take n lists) ++ names_in (get_or lists n last) ∷ [] =
    ap (map names_in) (sym whole) ∙ take_more names_in lists n last (omega arith) in
    (map names_in (take n lists), end ∙ ap (λ v. map names_in (take n lists) ++ names_in v ∷ []) (sym (is last)) ∙ ap (λ ms. map names_in (take n lists) ++ ms ∷ []) ((same_decides (names_in last) ns).0 e))

-- the variables of both parts of an implication
pub imply_variables : (f : FormulaText) (b c : Box FormulaText) (g h : FormulaText) → f ≡ Imply b c → g ≡ b.value → h ≡ c.value
    → formula_variables (formula_view g) ++ formula_variables (formula_view h) ≡ formula_variables (formula_view f)
imply_variables f b c g h is left right =
    (λ i. formula_variables (formula_view (left i)) ++ formula_variables (formula_view (right i)))
    ∙ ap formula_variables (sym (view-Imply b c)) ∙ ap (λ e. formula_variables (formula_view e)) (sym is)
