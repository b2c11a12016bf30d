-- States by rows, as sets of atoms.
use Rattle.std.proofs.Common.{◌≡◌, ◌<◌, ◌⊎◌, inl, inr, ℕ, List, [], ◌∷◌, length, map, Result, Ok, Err, OnErr, refl, sym, ap, ◌∙◌, subst, arith}
use Rattle.std.specs.List.{Contains}
use Rattle.std.proofs.lemmas.List.{get_or-map, length-map}
use Rattle.hv_world.specs.Bindings.{GroundAtom, object_of}
use Rattle.hv_world.specs.Values.{object}
use Rattle.hv_state.specs.Atoms.{Same, After, row_of}
use Rattle.hv_state.specs.inside.Rows.{atom_of, Listed, IsWithoutAll, IsWithAll, HasSameRows}

-- a row is of one atom
pub same_atom : (g h : GroundAtom) → row_of g ≡ row_of h → g ≡ h
same_atom g h e = ap atom_of e

pub atom_listed : (gs : List GroundAtom) (g : GroundAtom) → Contains (map row_of gs) (row_of g) → Contains gs g
atom_listed gs g (k, lt, e) =
    let within : k < length gs = omega (arith, lt, length-map gs row_of) in
    (k, within, same_atom _ g (sym (get_or-map row_of gs k g (row_of g) within) ∙ e))

pub row_listed : (gs : List GroundAtom) (g : GroundAtom) → Contains gs g → Contains (map row_of gs) (row_of g)
row_listed gs g (k, lt, e) = (k, omega (arith, lt, length-map gs row_of), get_or-map row_of gs k g (row_of g) lt ∙ ap row_of e)

pub same_if : (xs ys : List (List ℕ)) → xs ≡ ys → Same (Listed xs) (Listed ys)
same_if xs ys e g = (λ m. subst (λ rows. Listed rows g) e m, λ m. subst (λ rows. Listed rows g) (sym e) m)

pub on_err_weaker : {T E P Q : Type 0} (r : Result T E) → (P → Q) → OnErr r P → OnErr r Q
on_err_weaker (Ok x) h p = tt
on_err_weaker (Err e) h p = h p

pub begun : (rows new : List (List ℕ)) (gs : List GroundAtom) → rows ≡ map row_of gs → HasSameRows rows new → Same (Listed new) (Contains gs)
begun rows new gs is same g = (λ m. atom_listed gs g (subst (λ xs. Contains xs (row_of g)) is ((same (row_of g)).0 m)), λ m. (same (row_of g)).1 (subst (λ xs. Contains xs (row_of g)) (sym is) (row_listed gs g m)))

pub applied : (old mid rows new : List (List ℕ)) (deletes adds : List GroundAtom) → IsWithoutAll old (map row_of deletes) mid → rows ≡ map row_of adds → IsWithAll mid rows new → Same (Listed new) (After (Listed old) (Contains deletes) (Contains adds))
applied old mid rows new deletes adds without is all g = (λ m. from ((all (row_of g)).0 m), to)
  where
    from : Contains mid (row_of g) ⊎ Contains rows (row_of g) → After (Listed old) (Contains deletes) (Contains adds) g
    from (inl m) = let kept = (without (row_of g)).0 m in inl (kept.0, λ gone. kept.1 (row_listed deletes g gone))
    from (inr m) = inr (atom_listed adds g (subst (λ xs. Contains xs (row_of g)) is m))

    to : After (Listed old) (Contains deletes) (Contains adds) g → Listed new g
    to (inl (m, kept)) = (all (row_of g)).1 (inl ((without (row_of g)).1 (m, λ gone. kept (atom_listed deletes g gone))))
    to (inr m) = (all (row_of g)).1 (inr (subst (λ xs. Contains xs (row_of g)) (sym is) (row_listed adds g m)))

-- objects as terms stand for themselves
pub objects_are : (env os : List ℕ) → map (object_of env) (map object os) ≡ os
objects_are env [] = refl
objects_are env (o ∷ os) = ap (λ ps. o ∷ ps) (objects_are env os)
