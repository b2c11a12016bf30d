-- Atoms taken one after another.
use Rattle.std.proofs.Common.{◌≡◌, ◌<◌, ◌≤◌, ◌+◌, ◌++◌, ◌⊎◌, inl, inr, ℕ, Bool, List, [], ◌∷◌, length, map, take, get_or, sym, ap, ◌∙◌, subst}
use Rattle.std.specs.Global.{Vec}
use Rattle.std.specs.List.{Contains}
use Rattle.std.proofs.lemmas.List.{append-nil, append_assoc}
use Rattle.std.proofs.lemmas.List.Elements.{Contains-append_left, Contains-append_right, Contains-append_cases}
use Rattle.hv_lists.proofs.Contained.{contains_first, in_tail, none_in_empty}
use Rattle.hv_world.specs.Bindings.{GroundAtom, atom_under}
use Rattle.hv_world.specs.Types.{Typing}
use Rattle.hv_world.specs.Values.{Atom, becomes}
use Rattle.hv_state.specs.declared.rows.Row.{Row}
use Rattle.hv_state.specs.Atoms.{Atoms, Same, row_of}
use Rattle.hv_state.specs.inside.Histories.{Table}
use Rattle.hv_state.specs.inside.Makings.{IsMadeBy}
use Rattle.hv_state.specs.inside.Notes.{IsSet}
use Rattle.hv_state.specs.inside.Rows.{rows_in, IsRowOf, HaveCome, HaveJoined}
use Rattle.hv_state.specs.inside.Takings.{TakenInTurn, no_more, one_more, HaveBeenTaken}
use Rattle.hv_state.proofs.NoteLemmas.{set_both, set_like, set_nothing}
use Rattle.hv_state.proofs.RowLemmas.{contains_cases}
use Rattle.hv_state.proofs.SomeLemmas.{SomeOf, some_more, taken}
use Rattle.hv_state.proofs.StateLemmas.{row_listed}

-- the first of a list, and the others
pub first_or_later : (g : GroundAtom) (gs : List GroundAtom) → Same (λ h. (g ≡ h) ⊎ Contains gs h) (Contains (g ∷ gs))
first_or_later g gs h =
    (λ m. elim m [ inl e ↦ subst (Contains (g ∷ gs)) e (contains_first g gs) | inr l ↦ in_tail g gs h l ], λ m. elim (contains_cases h g gs m) [ inl e ↦ inl (sym e) | inr l ↦ inr l ])

module _ {X : Type 0} (takes : GroundAtom → X → X → Type 0) where
  pub taken_none : (S : Atoms) → ((g : GroundAtom) → S g → ⊥) → (x : X) → HaveBeenTaken takes S x x
  taken_none S out x = ([], (λ g. (λ m. absurd (none_in_empty g m), λ m. absurd (out g m))), no_more)

  pub taken_one : (g : GroundAtom) (x y : X) → takes g x y → HaveBeenTaken takes (λ h. g ≡ h) x y
  taken_one g x y one = (g ∷ [], (λ h. (λ m. elim ((first_or_later g [] h).1 m) [ inl e ↦ e | inr l ↦ absurd (none_in_empty h l) ], λ e. (first_or_later g [] h).0 (inl e))), one_more one no_more)

  pub taken_like : (S T : Atoms) → Same S T → (x y : X) → HaveBeenTaken takes S x y → HaveBeenTaken takes T x y
  taken_like S T same x y (gs, all, turn) = (gs, (λ g. (λ m. (same g).0 ((all g).0 m), λ m. (all g).1 ((same g).1 m))), turn)

  one_after_others : (gs hs : List GroundAtom) (x y z : X) → TakenInTurn takes gs x y → TakenInTurn takes hs y z → TakenInTurn takes (gs ++ hs) x z
  one_after_others _ hs x _ z no_more next = next
  one_after_others _ hs x y z (one_more {g} {gs} {y = mid} one rest) next = one_more one (one_after_others gs hs mid y z rest next)

  pub taken_both : (S T : Atoms) (x y z : X) → HaveBeenTaken takes S x y → HaveBeenTaken takes T y z → HaveBeenTaken takes (λ g. S g ⊎ T g) x z
  taken_both S T x y z (gs, all, one) (hs, each, next) = (
    gs ++ hs,
    (λ g. (λ m. elim (Contains-append_cases gs hs g m) [ inl l ↦ inl ((all g).0 l) | inr l ↦ inr ((each g).0 l) ], λ m. elim m [ inl a ↦ Contains-append_left gs hs g ((all g).1 a) | inr b ↦ Contains-append_right gs hs g ((each g).1 b) ])),
    one_after_others gs hs x y z one next,
  )

  module _ {Y : Type 0} (P : Y → Atoms) (ys : List Y) (i : ℕ) (old now : X) where
    pub taken_push : (y : Y) (new : X) → i < length ys → y ≡ get_or ys i y → HaveBeenTaken takes (λ g. SomeOf (λ z. P z g) (take i ys)) old now → HaveBeenTaken takes (P y) now new → HaveBeenTaken takes (λ g. SomeOf (λ z. P z g) (take (i + 1) ys)) old new
    taken_push y new lt is so_far next =
        taken_like (λ g. SomeOf (λ z. P z g) (take i ys) ⊎ P y g) (λ g. SomeOf (λ z. P z g) (take (i + 1) ys)) (λ g. some_more (λ z. P z g) ys i y lt is) old new (taken_both (λ g. SomeOf (λ z. P z g) (take i ys)) (P y) old now new so_far next)

    pub taken_all : length ys ≤ i → HaveBeenTaken takes (λ g. SomeOf (λ z. P z g) (take i ys)) old now → HaveBeenTaken takes (λ g. SomeOf (λ z. P z g) ys) old now
    taken_all le = subst (λ zs. HaveBeenTaken takes (λ g. SomeOf (λ z. P z g) zs) old now) (taken ys i le)

  -- an effect that makes an atom true or false, as is asked, or otherwise
  module _ (w : Typing) (b c : Bool) (a : Atom) (env : List ℕ) (old new : X) where
    pub taken_itself : c ≡ b → takes (atom_under env a) old new → HaveBeenTaken takes (λ g. IsMadeBy w b g (becomes c a) env) old new
    taken_itself is one = taken_like (λ g. atom_under env a ≡ g) (λ g. IsMadeBy w b g (becomes c a) env) (λ g. (λ e. (is, e), λ m. m.1)) old new (taken_one (atom_under env a) old new one)

    pub taken_not : (c ≡ b → ⊥) → HaveBeenTaken takes (λ g. IsMadeBy w b g (becomes c a) env) old old
    taken_not out = taken_none (λ g. IsMadeBy w b g (becomes c a) env) (λ g m. out m.0) old

-- rows put behind others in turn
abbrev pub PutsRow : GroundAtom → Vec Row → Vec Row → Type 0
PutsRow g old new = HaveCome old.items (row_of g ∷ []) new.items

rows_put : (gs : List GroundAtom) (old new : Vec Row) → TakenInTurn PutsRow gs old new → rows_in new.items ≡ rows_in old.items ++ map row_of gs
rows_put _ old _ no_more = sym (append-nil (rows_in old.items))
rows_put _ old new (one_more {g} {gs} {y = mid} one rest) = rows_put gs mid new rest ∙ ap (λ rows. rows ++ map row_of gs) one ∙ append_assoc (rows_in old.items) (row_of g ∷ []) (map row_of gs)

row_of_some : (gs : List GroundAtom) (r : List ℕ) → Contains (map row_of gs) r → IsRowOf (Contains gs) r
row_of_some [] r m = absurd (none_in_empty r m)
row_of_some (g ∷ gs) r m = elim (contains_cases r (row_of g) (map row_of gs) m) [ inl e ↦ (g, contains_first g gs, sym e) | inr l ↦ (let (h, at, is) = row_of_some gs r l in (h, in_tail g gs h at, is)) ]

pub rows_joined : (S : Atoms) (old new : Vec Row) → HaveBeenTaken PutsRow S old new → HaveJoined old.items S new.items
rows_joined S old new (gs, all, turn) r = (λ m. from (Contains-append_cases (rows_in old.items) (map row_of gs) r (subst (λ rows. Contains rows r) put m)), λ m. subst (λ rows. Contains rows r) (sym put) (to m))
  where
    put : rows_in new.items ≡ rows_in old.items ++ map row_of gs
    put = rows_put gs old new turn

    from : Contains (rows_in old.items) r ⊎ Contains (map row_of gs) r → Contains (rows_in old.items) r ⊎ IsRowOf S r
    from (inl m) = inl m
    from (inr m) = let (g, at, is) = row_of_some gs r m in inr (g, (all g).0 at, is)

    to : Contains (rows_in old.items) r ⊎ IsRowOf S r → Contains (rows_in old.items ++ map row_of gs) r
    to (inl m) = Contains-append_left (rows_in old.items) (map row_of gs) r m
    to (inr (g, m, is)) = Contains-append_right (rows_in old.items) (map row_of gs) r (subst (Contains (map row_of gs)) is (row_listed gs g ((all g).1 m)))

-- atoms set in turn
pub set_in_turn : (start : Atoms) (from : ℕ) (b : Bool) (gs : List GroundAtom) (t u : Table) → TakenInTurn (λ g. IsSet start (λ h. g ≡ h) from b) gs t u → IsSet start (Contains gs) from b t u
set_in_turn start from b _ t _ no_more = set_nothing start (Contains []) from b none_in_empty t
set_in_turn start from b _ t u (one_more {g} {gs} {y = mid} one rest) =
    set_like start (λ h. (g ≡ h) ⊎ Contains gs h) (Contains (g ∷ gs)) from b (first_or_later g gs) t u (set_both start (λ h. g ≡ h) (Contains gs) from b t mid u one (set_in_turn start from b gs mid u rest))
