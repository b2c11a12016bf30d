-- What effects make true or false, as it is found.
use Rattle.std.proofs.Common.{◌≡◌, ◌++◌, ◌↔◌, ◌⊎◌, inl, inr, ℕ, Bool, true, false, true≢false, List, [], ◌∷◌, map, refl, sym, ap, ◌∙◌, subst}
use mathlib.Core.Bool.{beq}
use Rattle.std.specs.List.{Contains}
use Rattle.std.proofs.lemmas.List.{append-nil, append_assoc}
use Rattle.hv_lists.proofs.Contained.{contains_first, in_tail, none_in_empty}
use Rattle.hv_world.specs.Bindings.{GroundAtom}
use Rattle.hv_world.specs.Effects.{Makes, itself, for_objects, SomeMakes, first, later}
use Rattle.hv_world.specs.Groundings.{AreOf}
use Rattle.hv_world.specs.Types.{Typing}
use Rattle.hv_world.specs.Values.{Effect, Effects, becomes, for_each, no_effects, more_effects, effects_of}
use Rattle.hv_world.specs.Views.{effect_view}
use Rattle.hv_world.specs.declared.effect.Effect as code
use Rattle.hv_state.specs.Atoms.{Atoms, Same, row_of}
use Rattle.hv_state.specs.Truth.{ForSome}
use Rattle.hv_state.specs.inside.Makings.{IsMadeBy, IsMadeBySome}
use Rattle.hv_state.specs.inside.Rows.{atom_of, IsRowOf}
use Rattle.hv_state.proofs.SomeLemmas.{SomeOf}
use Rattle.hv_state.proofs.StateLemmas.{same_atom, atom_listed, row_listed}

module _ (w : Typing) where
  -- objects of the types of variables, one after another or all at once
  one_by_one : (P : List ℕ → Type 0) (ts env os : List ℕ) → AreOf w os ts → P (env ++ os) → ForSome w P ts env
  one_by_one P [] env [] of m = subst P (append-nil env) m
  one_by_one P [] env (o ∷ os) of m = absurd of
  one_by_one P (t ∷ ts) env [] of m = absurd of
  one_by_one P (t ∷ ts) env (o ∷ os) of m = (o, of.0, one_by_one P ts (env ++ o ∷ []) os of.1 (subst P (sym (append_assoc env (o ∷ []) os)) m))

  at_once : (P : List ℕ → Type 0) (ts env : List ℕ) → ForSome w P ts env → (os : List ℕ) × AreOf w os ts × P (env ++ os)
  at_once P [] env m = ([], tt, subst P (sym (append-nil env)) m)
  at_once P (t ∷ ts) env m = let rest = at_once P ts (env ++ m.0 ∷ []) m.2 in (m.0 ∷ rest.0, (m.1, rest.1), subst P (append_assoc env (m.0 ∷ []) rest.0) rest.2)

  module _ (b : Bool) where
    mutual
      made_from : (env : List ℕ) (e : Effect) (g : GroundAtom) → Makes w b env e g → IsMadeBy w b g e env
      made_from _ _ _ itself = (refl, refl)
      made_from env (for_each ts es) g (for_objects os of m) = one_by_one (IsMadeBySome w b g es) ts env os of (some_made_from (env ++ os) es g m)

      some_made_from : (env : List ℕ) (es : Effects) (g : GroundAtom) → SomeMakes w b env es g → IsMadeBySome w b g es env
      some_made_from _ no_effects _ m = elim m [ ]
      some_made_from env (more_effects e es) g (first m) = inl (made_from env e g m)
      some_made_from env (more_effects e es) g (later m) = inr (some_made_from env es g m)

    mutual
      made_to : (e : Effect) (env : List ℕ) (g : GroundAtom) → IsMadeBy w b g e env → Makes w b env e g
      made_to (becomes c a) env g m = subst (λ d. Makes w b env (becomes d a) g) (sym m.0) (subst (Makes w b env (becomes b a)) m.1 itself)
      made_to (for_each ts es) env g m = let rest = at_once (IsMadeBySome w b g es) ts env m in for_objects rest.0 rest.1 (some_made_to es (env ++ rest.0) g rest.2)

      some_made_to : (es : Effects) (env : List ℕ) (g : GroundAtom) → IsMadeBySome w b g es env → SomeMakes w b env es g
      some_made_to no_effects env g m = absurd m
      some_made_to (more_effects e es) env g (inl m) = first (made_to e env g m)
      some_made_to (more_effects e es) env g (inr m) = later (some_made_to es env g m)

    pub made_is : (env : List ℕ) (es : Effects) → Same (λ g. IsMadeBySome w b g es env) (SomeMakes w b env es)
    made_is env es g = (some_made_to es env g, some_made_from env es g)

-- several effects
pub made_parts : (w : Typing) (b : Bool) (g : GroundAtom) (env : List ℕ) (xs : List code.Effect) → SomeOf (λ e. IsMadeBy w b g (effect_view e) env) xs ↔ IsMadeBySome w b g (effects_of (map effect_view xs)) env
made_parts w b g env [] = (λ m. m, λ m. m)
made_parts w b g env (x ∷ xs) =
    let rest = made_parts w b g env xs in
    (λ m. elim m [ inl a ↦ inl a | inr c ↦ inr (rest.0 c) ], λ m. elim m [ inl a ↦ inl a | inr c ↦ inr (rest.1 c) ])

-- the rows of the atoms of a set come to others
abbrev pub Joined : List (List ℕ) → Atoms → List (List ℕ) → Type 0
Joined old S new = (r : List ℕ) → Contains new r ↔ (Contains old r ⊎ IsRowOf S r)

pub values_agree : (a b : Bool) → beq a b ≡ true → a ≡ b
values_agree true true e = refl
values_agree true false e = absurd (true≢false (sym e))
values_agree false true e = absurd (true≢false (sym e))
values_agree false false e = refl

pub values_differ : (a b : Bool) → beq a b ≡ false → a ≡ b → ⊥
values_differ true true e same = true≢false e
values_differ true false e same = true≢false same
values_differ false true e same = true≢false (sym same)
values_differ false false e same = true≢false e

pub joined_like : (old new : List (List ℕ)) (S T : Atoms) → Same S T → Joined old S new → Joined old T new
joined_like old new S T same joined r =
    (λ m. elim ((joined r).0 m) [ inl l ↦ inl l | inr x ↦ inr (x.0, (same x.0).0 x.1, x.2) ], λ m. (joined r).1 (elim m [ inl l ↦ inl l | inr x ↦ inr (x.0, (same x.0).1 x.1, x.2) ]))

pub joined_both : (old mid new : List (List ℕ)) (S T : Atoms) → Joined old S mid → Joined mid T new → Joined old (λ g. S g ⊎ T g) new
joined_both old mid new S T one next r = (λ m. from ((next r).0 m), to)
  where
    by_first : Contains old r ⊎ IsRowOf S r → Contains old r ⊎ IsRowOf (λ g. S g ⊎ T g) r
    by_first (inl m) = inl m
    by_first (inr x) = inr (x.0, inl x.1, x.2)

    from : Contains mid r ⊎ IsRowOf T r → Contains old r ⊎ IsRowOf (λ g. S g ⊎ T g) r
    from (inl m) = by_first ((one r).0 m)
    from (inr x) = inr (x.0, inr x.1, x.2)

    put : (g : GroundAtom) → row_of g ≡ r → S g ⊎ T g → Contains new r
    put g e (inl m) = (next r).1 (inl ((one r).1 (inr (g, m, e))))
    put g e (inr m) = (next r).1 (inr (g, m, e))

    to : Contains old r ⊎ IsRowOf (λ g. S g ⊎ T g) r → Contains new r
    to (inl m) = (next r).1 (inl ((one r).1 (inl m)))
    to (inr x) = put x.0 x.2 x.1

-- what effects make true or false
pub joined_made : (old new : List (List ℕ)) (w : Typing) (b : Bool) (env os : List ℕ) (es fs : Effects) → env ≡ os → es ≡ fs → Joined old (λ g. IsMadeBySome w b g es env) new → Joined old (SomeMakes w b os fs) new
joined_made old new w b env os es fs same same' joined =
    subst (λ e. Joined old (SomeMakes w b e fs) new) same (subst (λ x. Joined old (SomeMakes w b env x) new) same' (joined_like old new (λ g. IsMadeBySome w b g es env) (SomeMakes w b env es) (made_is w b env es) joined))

-- rows, each of which is that of an atom
pub rows_again : (rows : List (List ℕ)) (S : Atoms) → ((r : List ℕ) → Contains rows r → IsRowOf S r) → rows ≡ map row_of (map atom_of rows)
rows_again [] S are = refl
rows_again (r ∷ rows) S are =
    let x = are r (contains_first r rows) in
    let this : r ≡ row_of (atom_of r) = sym x.2 ∙ ap (λ y. row_of (atom_of y)) x.2 in
    ap (λ y. y ∷ rows) this ∙ ap (λ ys. row_of (atom_of r) ∷ ys) (rows_again rows S (λ y m. are y (in_tail r rows y m)))

module _ (rows : List (List ℕ)) (S : Atoms) (joined : Joined [] S rows) where
  of_atoms : (r : List ℕ) → Contains rows r → IsRowOf S r
  of_atoms r m = elim ((joined r).0 m) [ inl l ↦ absurd (none_in_empty r l) | inr x ↦ x ]

  pub rows_of_atoms : rows ≡ map row_of (map atom_of rows)
  rows_of_atoms = rows_again rows S of_atoms

  pub atoms_of_rows : Same (Contains (map atom_of rows)) S
  atoms_of_rows g = (
    λ m. (let x = of_atoms (row_of g) (subst (λ ys. Contains ys (row_of g)) (sym rows_of_atoms) (row_listed (map atom_of rows) g m)) in subst S (same_atom x.0 g x.2) x.1),
    λ m. atom_listed (map atom_of rows) g (subst (λ ys. Contains ys (row_of g)) rows_of_atoms ((joined (row_of g)).1 (inr (g, m, refl)))),
  )
