-- Lists that are changed member by member.
use Rattle.std.proofs.Common.{◌≡◌, ℕ, ◌+◌, ◌<◌, ◌≤◌, List, [], ◌∷◌, ◌++◌, length, map, drop, get_or, Option, All, refl, ap, sym, subst, ◌∙◌}
use Rattle.std.specs.List.{flat_map}
use Rattle.std.proofs.lemmas.List.{map-append, append-nil, append_assoc, drop_more, drop_all}
use Rattle.std.proofs.lemmas.List.Elements.{All-get_or}
use Rattle.hv_syntax.specs.Values as text
use Rattle.hv_world.specs.Values.{Subtask, Formula, formulas_of, more_formulas, effects_of, more_effects}
use Rattle.hv_world.specs.declared.fault.Side.{Side}
use Rattle.hv_world.specs.Scopes.{Scope}
use Rattle.hv_world.specs.StaticRules.{formula_faults, all_formula_faults, item_faults, effect_faults}
use Rattle.hv_world.specs.Known.{Known}
use Rattle.hv_world.specs.Worlds.{Network, method, formula_in, formulas_in, effect_in, effects_in}

-- one more member of a list, seen and changed
pub map_more : {X A B : Type 0} (f : A → B) (view : X → A) (xs : List X) (i : ℕ) (x : X) (front : List B) (y : B) (all : List B) → i < length xs → x ≡ get_or xs i x → y ≡ f (view x)
    → front ++ map f (map view (drop i xs)) ≡ all → (front ++ y ∷ []) ++ map f (map view (drop (i + 1) xs)) ≡ all
map_more f view xs i x front y all lt is e so_far =
    let here : drop i xs ≡ x ∷ drop (i + 1) xs = drop_more xs i x lt ∙ ap (λ z. z ∷ drop (i + 1) xs) (sym is) in
    append_assoc front (y ∷ []) (map f (map view (drop (i + 1) xs)))
    ∙ ap (λ z. front ++ z ∷ map f (map view (drop (i + 1) xs))) e
    ∙ sym (ap (λ zs. front ++ map f (map view zs)) here)
    ∙ so_far

-- behind the last member
pub map_all : {X A B : Type 0} (f : A → B) (view : X → A) (xs : List X) (i : ℕ) (front : List B) (all : List B) → length xs ≤ i
    → front ++ map f (map view (drop i xs)) ≡ all → front ≡ all
map_all f view xs i front all le so_far = sym (append-nil front) ∙ sym (ap (λ zs. front ++ map f (map view zs)) (drop_all i xs le)) ∙ so_far

-- formulas, one after another
pub each_formula_in : (k : Known) (s : Scope) (fs : List text.Formula) → formulas_of (map (formula_in k s) fs) ≡ formulas_in k s (text.formulas_of fs)
each_formula_in k s [] = refl
each_formula_in k s (f ∷ fs) = ap (more_formulas (formula_in k s f)) (each_formula_in k s fs)

-- effects, one after another
pub each_effect_in : (k : Known) (s : Scope) (is : List text.Item) → effects_of (map (effect_in k s) is) ≡ effects_in k s (text.effect is)
each_effect_in k s [] = refl
each_effect_in k s (i ∷ is) = ap (more_effects (effect_in k s i)) (each_effect_in k s is)

-- their faults
module _ (k : Known) (side : Side) (s : Scope) where
  pub each_formula_fault : (fs : List text.Formula) → flat_map (formula_faults k side s) fs ≡ all_formula_faults k side s (text.formulas_of fs)
  each_formula_fault [] = refl
  each_formula_fault (f ∷ fs) = ap (λ gs. formula_faults k side s f ++ gs) (each_formula_fault fs)

  pub each_effect_fault : (is : List text.Item) → flat_map (item_faults k side s) is ≡ effect_faults k side s (text.effect is)
  each_effect_fault [] = refl
  each_effect_fault (i ∷ is) = ap (λ gs. item_faults k side s i ++ gs) (each_effect_fault is)

-- methods of the same parts
pub method_is : {n m : Option (List ℕ)} {ts us : List ℕ} {x y : Option Subtask} {f g : Formula} {w v : Network} → n ≡ m → ts ≡ us → x ≡ y → f ≡ g → w ≡ v → method n ts x f w ≡ method m us y g v
method_is a b c d e = rw (a, b, c, d, e) refl

-- two arguments, each the same
pub of_both : {A B C : Type 0} (f : A → B → C) {a b : A} {x y : B} → a ≡ b → x ≡ y → f a x ≡ f b y
of_both f e g = rw (e, g) refl

-- one more member of a list, seen and changed, behind others that are seen
pub map_more_seen : {X Y A B : Type 0} (f : A → B) (view : X → A) (seen : Y → B) (xs : List X) (i : ℕ) (x : X) (front : List Y) (y : Y) (all : List B) → i < length xs → x ≡ get_or xs i x → seen y ≡ f (view x)
    → map seen front ++ map f (map view (drop i xs)) ≡ all → map seen (front ++ y ∷ []) ++ map f (map view (drop (i + 1) xs)) ≡ all
map_more_seen f view seen xs i x front y all lt is e so_far =
    ap (λ zs. zs ++ map f (map view (drop (i + 1) xs))) (map-append seen front (y ∷ [])) ∙ map_more f view xs i x (map seen front) (seen y) all lt is e so_far

-- what holds of all members holds of each
pub at_member : {X : Type 0} (P : X → Type 0) (xs : List X) (i : ℕ) (x : X) → All P xs → i < length xs → x ≡ get_or xs i x → P x
at_member P xs i x all lt is = subst P (sym is) (All-get_or P xs i x lt all)
