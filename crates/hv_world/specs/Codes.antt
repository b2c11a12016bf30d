-- Formulas and effects as trees of numbers, which give them back: so a proof tells
-- two worlds apart.
use Rattle.std.specs.Prelude.{◌≡◌, ℕ, Bool, true, false, nat_eq, List, [], ◌∷◌, if◌then◌else◌}
use Rattle.std.specs.Coded.{Coded, code_by}
use Rattle.std.proofs.Math.Path.{refl, ap, ◌∙◌}
use base.Stored.{Gv, gnil, gnum, gcons, num}
use denote.Struct.Codes.{itself}
use Rattle.hv_world.specs.Values.{Term, object, variable, Atom, atom, Formula, Formulas, holds, and, or, not, imply, forall, exists, equal, no_formulas, more_formulas, Effect, Effects, becomes, for_each, no_effects, more_effects}

abbrev node : ℕ → Gv → Gv → Gv
node k a b = gcons (gnum k) (gcons a b)

abbrev term_tree : Term → Gv
term_tree (object o) = gcons (gnum 0) (gnum o)
term_tree (variable v) = gcons (gnum 1) (gnum v)

abbrev terms_tree : List Term → Gv
terms_tree [] = gnil
terms_tree (x ∷ xs) = gcons (term_tree x) (terms_tree xs)

abbrev types_tree : List ℕ → Gv
types_tree [] = gnil
types_tree (t ∷ ts) = gcons (gnum t) (types_tree ts)

abbrev mutual
  pub formula_tree : Formula → Gv
  formula_tree (holds a) = node 0 (gnum a.predicate) (terms_tree a.terms)
  formula_tree (and fs) = node 1 (formulas_tree fs) gnil
  formula_tree (or fs) = node 2 (formulas_tree fs) gnil
  formula_tree (not f) = node 3 (formula_tree f) gnil
  formula_tree (imply f g) = node 4 (formula_tree f) (formula_tree g)
  formula_tree (forall ts f) = node 5 (types_tree ts) (formula_tree f)
  formula_tree (exists ts f) = node 6 (types_tree ts) (formula_tree f)
  formula_tree (equal x y) = node 7 (term_tree x) (term_tree y)

  pub formulas_tree : Formulas → Gv
  formulas_tree no_formulas = gnil
  formulas_tree (more_formulas f fs) = gcons (formula_tree f) (formulas_tree fs)

abbrev bool_tree : Bool → Gv
bool_tree false = gnum 0
bool_tree true = gnum 1

abbrev mutual
  pub effect_tree : Effect → Gv
  effect_tree (becomes b a) = node 0 (bool_tree b) (gcons (gnum a.predicate) (terms_tree a.terms))
  effect_tree (for_each ts es) = node 1 (types_tree ts) (effects_tree es)

  pub effects_tree : Effects → Gv
  effects_tree no_effects = gnil
  effects_tree (more_effects e es) = gcons (effect_tree e) (effects_tree es)

abbrev term_in : Gv → Term
term_in gnil = object 0
term_in (gnum n) = object 0
term_in (gcons k n) = if nat_eq (num k) 0 then object (num n) else variable (num n)

abbrev terms_in : Gv → List Term
terms_in gnil = []
terms_in (gnum n) = []
terms_in (gcons x xs) = term_in x ∷ terms_in xs

abbrev types_in : Gv → List ℕ
types_in gnil = []
types_in (gnum n) = []
types_in (gcons t ts) = num t ∷ types_in ts

abbrev mutual
  pub formula_in : Gv → Formula
  formula_in gnil = and no_formulas
  formula_in (gnum n) = and no_formulas
  formula_in (gcons k gnil) = and no_formulas
  formula_in (gcons k (gnum n)) = and no_formulas
  formula_in (gcons k (gcons a b)) =
      if nat_eq (num k) 0 then holds (atom (num a) (terms_in b))
      else (if nat_eq (num k) 1 then and (formulas_in a)
      else (if nat_eq (num k) 2 then or (formulas_in a)
      else (if nat_eq (num k) 3 then not (formula_in a)
      else (if nat_eq (num k) 4 then imply (formula_in a) (formula_in b)
      else (if nat_eq (num k) 5 then forall (types_in a) (formula_in b)
      else (if nat_eq (num k) 6 then exists (types_in a) (formula_in b)
      else equal (term_in a) (term_in b)))))))

  pub formulas_in : Gv → Formulas
  formulas_in gnil = no_formulas
  formulas_in (gnum n) = no_formulas
  formulas_in (gcons f fs) = more_formulas (formula_in f) (formulas_in fs)

abbrev bool_in : Gv → Bool
bool_in t = nat_eq (num t) 1

abbrev atom_in : Gv → Atom
atom_in gnil = atom 0 []
atom_in (gnum n) = atom 0 []
atom_in (gcons p xs) = atom (num p) (terms_in xs)

abbrev mutual
  pub effect_in : Gv → Effect
  effect_in gnil = for_each [] no_effects
  effect_in (gnum n) = for_each [] no_effects
  effect_in (gcons k gnil) = for_each [] no_effects
  effect_in (gcons k (gnum n)) = for_each [] no_effects
  effect_in (gcons k (gcons a b)) =
      if nat_eq (num k) 0 then becomes (bool_in a) (atom_in b) else for_each (types_in a)
      (effects_in b)

  pub effects_in : Gv → Effects
  effects_in gnil = no_effects
  effects_in (gnum n) = no_effects
  effects_in (gcons e es) = more_effects (effect_in e) (effects_in es)

term_again : (x : Term) → term_in (term_tree x) ≡ x
term_again (object o) = refl
term_again (variable v) = refl

terms_again : (xs : List Term) → terms_in (terms_tree xs) ≡ xs
terms_again [] = refl
terms_again (x ∷ xs) =
    ap (λ y. y ∷ terms_in (terms_tree xs)) (term_again x) ∙ ap (λ ys. x ∷ ys) (terms_again xs)

types_again : (ts : List ℕ) → types_in (types_tree ts) ≡ ts
types_again [] = refl
types_again (t ∷ ts) = ap (λ us. t ∷ us) (types_again ts)

mutual
  pub formula_again : (f : Formula) → formula_in (formula_tree f) ≡ f
  formula_again (holds a) = ap (λ xs. holds (atom a.predicate xs)) (terms_again a.terms)
  formula_again (and fs) = ap and (formulas_again fs)
  formula_again (or fs) = ap or (formulas_again fs)
  formula_again (not f) = ap not (formula_again f)
  formula_again (imply f g) =
      ap (λ h. imply h (formula_in (formula_tree g))) (formula_again f)
      ∙ ap (imply f) (formula_again g)
  formula_again (forall ts f) =
      ap (λ us. forall us (formula_in (formula_tree f))) (types_again ts)
      ∙ ap (forall ts) (formula_again f)
  formula_again (exists ts f) =
      ap (λ us. exists us (formula_in (formula_tree f))) (types_again ts)
      ∙ ap (exists ts) (formula_again f)
  formula_again (equal x y) =
      ap (λ z. equal z (term_in (term_tree y))) (term_again x) ∙ ap (equal x) (term_again y)

  pub formulas_again : (fs : Formulas) → formulas_in (formulas_tree fs) ≡ fs
  formulas_again no_formulas = refl
  formulas_again (more_formulas f fs) =
      ap (λ g. more_formulas g (formulas_in (formulas_tree fs))) (formula_again f)
      ∙ ap (more_formulas f) (formulas_again fs)

abbrev pub formula_code : Coded Formula
formula_code = code_by Gv itself formula_tree formula_in formula_again

bool_again : (b : Bool) → bool_in (bool_tree b) ≡ b
bool_again false = refl
bool_again true = refl

mutual
  pub effect_again : (e : Effect) → effect_in (effect_tree e) ≡ e
  effect_again (becomes b a) =
      ap (λ c. becomes c (atom a.predicate (terms_in (terms_tree a.terms)))) (bool_again b)
      ∙ ap (λ xs. becomes b (atom a.predicate xs)) (terms_again a.terms)
  effect_again (for_each ts es) =
      ap (λ us. for_each us (effects_in (effects_tree es))) (types_again ts)
      ∙ ap (for_each ts) (effects_again es)

  pub effects_again : (es : Effects) → effects_in (effects_tree es) ≡ es
  effects_again no_effects = refl
  effects_again (more_effects e es) =
      ap (λ f. more_effects f (effects_in (effects_tree es))) (effect_again e)
      ∙ ap (more_effects e) (effects_again es)

-- a world has a list of effects for each action
abbrev pub effects_code : Coded Effects
effects_code = code_by Gv itself effects_tree effects_in effects_again
