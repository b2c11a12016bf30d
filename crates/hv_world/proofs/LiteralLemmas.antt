-- Terms, and the atoms of literals, one after another.
use Rattle.std.proofs.Common.{◌≡◌, ℕ, ◌+◌, ◌<◌, Bool, true, false, List, [], ◌∷◌, ◌++◌, map, drop, length, get_or, cond, refl, ap, sym, ◌∙◌}
use Rattle.std.proofs.lemmas.List.{append_assoc, drop_more, map-append}
use Rattle.hv_syntax.specs.Values as text
use Rattle.hv_world.specs.Scopes.{Scope}
use Rattle.hv_world.specs.Known.{Known}
use Rattle.hv_world.specs.Values.{Atom}
use Rattle.hv_world.specs.Worlds.{atom_in, added}

module _ {X : Type 0} (xs : List X) (i : ℕ) (x : X) (less : i < length xs) (is : x ≡ get_or xs i x) where
  split : drop i xs ≡ x ∷ drop (i + 1) xs
  split = drop_more xs i x less ∙ ap (λ y. y ∷ drop (i + 1) xs) (sym is)

  -- one more value, of the next of these
  pub value_more : {Y V T : Type 0} (view : X → Y) (value : Y → V) (shown : T → V) (old new : List T) (t : T) (all : List V)
      → map shown old ++ map value (map view (drop i xs)) ≡ all → new ≡ old ++ t ∷ [] → shown t ≡ value (view x)
      → map shown new ++ map value (map view (drop (i + 1) xs)) ≡ all
  value_more view value shown old new t all so_far pushed is_value =
      let others = map value (map view (drop (i + 1) xs)) in
      ap (λ ts. map shown ts ++ others) pushed ∙ ap (λ vs. vs ++ others) (map-append shown old (t ∷ []))
      ∙ append_assoc (map shown old) (shown t ∷ []) others
      ∙ ap (λ v. map shown old ++ v ∷ others) is_value
      ∙ ap (λ ys. map shown old ++ map value (map view ys)) (sym split) ∙ so_far

-- the literal that comes next of those that are left
module _ {T : Type 0} (k : Known) (scope : Scope) (shown : T → Atom) (old : List T) (all : List Atom)
    (left rest : List text.Literal) (l : text.Literal) (next : left ≡ l ∷ rest) (so_far : map shown old ++ added k scope left ≡ all) where
  whole : map shown old ++ cond l.is_positive (atom_in k scope l.atom ∷ added k scope rest) (added k scope rest) ≡ all
  whole = first l.is_positive refl ∙ ap (λ ys. map shown old ++ added k scope ys) (sym next) ∙ so_far
    where
      first : (b : Bool) → l.is_positive ≡ b
          → map shown old ++ cond l.is_positive (atom_in k scope l.atom ∷ added k scope rest) (added k scope rest)
          ≡ map shown old ++ added k scope (l ∷ rest)
      first true e = rw e refl
      first false e = rw e refl

  -- the atom of a literal that is no negation
  pub atom_more : (new : List T) (t : T) → new ≡ old ++ t ∷ [] → shown t ≡ atom_in k scope l.atom → l.is_positive ≡ true
      → map shown new ++ added k scope rest ≡ all
  atom_more new t pushed is_atom positive =
      ap (λ ts. map shown ts ++ added k scope rest) pushed ∙ ap (λ vs. vs ++ added k scope rest) (map-append shown old (t ∷ []))
      ∙ append_assoc (map shown old) (shown t ∷ []) (added k scope rest)
      ∙ ap (λ v. map shown old ++ v ∷ added k scope rest) is_atom
      ∙ ap (λ b. map shown old ++ cond b (atom_in k scope l.atom ∷ added k scope rest) (added k scope rest)) (sym positive) ∙ whole

  -- a negation has none
  pub none_more : l.is_positive ≡ false → map shown old ++ added k scope rest ≡ all
  none_more negative = ap (λ b. map shown old ++ cond b (atom_in k scope l.atom ∷ added k scope rest) (added k scope rest)) (sym negative) ∙ whole
