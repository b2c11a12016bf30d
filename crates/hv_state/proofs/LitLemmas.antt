-- What a change of the rows that are lit is to a state.
use Rattle.std.proofs.Common.{◌≡◌, ◌≤◌, ◌<◌, ◌*◌, ◌++◌, ◌↔◌, ◌⊎◌, inl, inr, ℕ, List, [], length, map, Result, Ok, Err, IfOk, get_or, ◌+◌, ◌∷◌, refl, sym, subst, ◌∙◌, ap, arith}
use Rattle.std.specs.List.{Contains}
use Rattle.hv_lists.proofs.Contained.{none_in_empty}
use Rattle.hv_state.specs.declared.rows.Row.{Row}
use Rattle.std.proofs.lemmas.List.{get_or_default, get_or-map, length-map, map_push}
use Rattle.std.proofs.lemmas.List.Elements.{Contains-append_left, Contains-append_right, Contains-append_cases, Contains-push, Contains-push_cases}
use Rattle.hv_world.specs.Bindings.{GroundAtom}
use Rattle.hv_state.specs.Atoms.{Same, After, row_of}
use Rattle.hv_state.specs.inside.Rows.{rows_in, Ascend, HasSameRows}
use Rattle.hv_state.specs.inside.Bits.{Has, Bits, Lit, Shown, Knows, AreBits, AreLit, AreDark, AreLacking, IsChanged}
use Rattle.hv_state.proofs.RowLemmas.{contains_cases}
use Rattle.hv_state.proofs.StateLemmas.{atom_listed, row_listed}
use Rattle.hv_state.proofs.BitLemmas.{LitBelow, one_place, lit_more, dark_more}

-- as many words
pub still_bits : (rows : List (List ℕ)) (old new : List ℕ) → AreBits rows old → length new ≡ length old → AreBits rows new
still_bits rows old new bits e = record {
  order = bits.order;
  room = subst (λ n. length rows ≤ 64 * n) (sym e) bits.room;
}

-- first cleared, then set
pub changed : (rows : List (List ℕ)) (old mid new : List ℕ) (deletes adds : List (List ℕ)) → AreDark rows old deletes mid → AreLit rows mid adds new → IsChanged rows old deletes adds new
changed rows old mid new deletes adds dark lit r = (from, to)
  where
    from : Lit (rows, new) r → (Lit (rows, old) r × (Contains deletes r → ⊥)) ⊎ Contains adds r
    from l = elim ((lit r).0 l) [ inl m ↦ inl ((dark r).0 m) | inr a ↦ inr a ]

    to : (Lit (rows, old) r × (Contains deletes r → ⊥)) ⊎ Contains adds r → Lit (rows, new) r
    to (inl o) = (lit r).1 (inl ((dark r).1 o))
    to (inr a) = (lit r).1 (inr a)

-- a table of rows, and of those of more that they lack
module _ (lit rows more new both sorted : List (List ℕ)) (once : HasSameRows lit rows) (lack : AreLacking rows more new) (e : both ≡ rows ++ new) (same : HasSameRows both sorted) where
  of_first : (r : List ℕ) → Contains rows r → Contains sorted r
  of_first r m = (same r).1 (subst (λ xs. Contains xs r) (sym e) (Contains-append_left rows new r m))

  of_second : (r : List ℕ) → Contains new r → Contains sorted r
  of_second r m = (same r).1 (subst (λ xs. Contains xs r) (sym e) (Contains-append_right rows new r m))

  pub knows_more_rows : Knows sorted more
  knows_more_rows r m = elim (lack.all r m) [ inl l ↦ of_first r l | inr n ↦ of_second r n ]

  -- all bits are set, and then those of the new rows cleared
  pub lit_but : (old words : List ℕ) → ((i : ℕ) → i < length sorted → Has old i) → AreDark sorted old new words → (r : List ℕ) → Lit (sorted, words) r ↔ Contains lit r
  lit_but old words set dark r = (from, to)
    where
      from : Lit (sorted, words) r → Contains lit r
      from l = let o = (dark r).0 l in elim (Contains-append_cases rows new r (subst (λ xs. Contains xs r) e ((same r).0 o.0.0))) [ inl m ↦ (once r).0 m | inr n ↦ absurd (o.1 n) ]

      to : Contains lit r → Lit (sorted, words) r
      to m =
          let there = (once r).1 m in
          let at = of_first r there in
          (dark r).1 ((at, set at.0 at.1), λ n. lack.apart r n there)

pub knows_last : (table xs ys both : List (List ℕ)) → both ≡ xs ++ ys → Knows table both → Knows table ys
knows_last table xs ys both e known r m = known r (subst (λ rows. Contains rows r) (sym e) (Contains-append_right xs ys r m))

-- the rows of more that others lack, one after another
abbrev pub IsLackingUpTo : List (List ℕ) → List (List ℕ) → List (List ℕ) → List (List ℕ) → Type 0
IsLackingUpTo rows more new left = ((r : List ℕ) → Contains more r → (Contains rows r ⊎ Contains new r) ⊎ Contains left r) × ((r : List ℕ) → Contains new r → Contains rows r → ⊥)

module _ (rows more new rest : List (List ℕ)) (row : List ℕ) (so_far : IsLackingUpTo rows more new (row ∷ rest)) where
  pub lacks_one_more : (Contains rows row → ⊥) → IsLackingUpTo rows more (new ++ row ∷ []) rest
  lacks_one_more lacks = (all, apart)
    where
      all : (r : List ℕ) → Contains more r → (Contains rows r ⊎ Contains (new ++ row ∷ []) r) ⊎ Contains rest r
      all r m = elim (so_far.0 r m) [
        | inl (inl there) ↦ inl (inl there)
        | inl (inr n) ↦ inl (inr (Contains-append_left new (row ∷ []) r n))
        | inr l ↦ elim (contains_cases r row rest l) [ inl e ↦ inl (inr (subst (λ x. Contains (new ++ x ∷ []) r) e (Contains-push new r))) | inr later ↦ inr later ]
      ]

      apart : (r : List ℕ) → Contains (new ++ row ∷ []) r → Contains rows r → ⊥
      apart r m there = elim (Contains-push_cases new row r m) [ inl old ↦ so_far.1 r old there | inr e ↦ lacks (subst (Contains rows) (sym e) there) ]

  pub has_one_more : Contains rows row → IsLackingUpTo rows more new rest
  has_one_more has = (all, so_far.1)
    where
      all : (r : List ℕ) → Contains more r → (Contains rows r ⊎ Contains new r) ⊎ Contains rest r
      all r m = elim (so_far.0 r m) [
        | inl known ↦ inl known
        | inr l ↦ elim (contains_cases r row rest l) [ inl e ↦ inl (inl (subst (Contains rows) (sym e) has)) | inr later ↦ inr later ]
      ]

pub lacks_all : (rows more new left : List (List ℕ)) → left ≡ [] → IsLackingUpTo rows more new left → AreLacking rows more new
lacks_all rows more new left none so_far = record {
  all = λ r m. elim (so_far.0 r m) [ inl known ↦ known | inr l ↦ absurd (none_in_empty r (subst (λ xs. Contains xs r) none l)) ];
  apart = so_far.1;
}

-- all rows that are lit
pub lit_of_all : (b : Bits) (n : ℕ) (lit : List (List ℕ)) → length b.0 ≤ n → ((r : List ℕ) → Contains lit r ↔ LitBelow b n r) → (r : List ℕ) → Contains lit r ↔ Lit b r
lit_of_all b n lit le before r = (λ m. (let l = (before r).0 m in (l.0, l.2)), λ l. (before r).1 (l.0, omega (arith, l.0.1, le), l.1))

module _ (rows : List Row) (words : List ℕ) (n : ℕ) (lt : n < length rows) (lit : List Row) (before : (r : List ℕ) → Contains (rows_in lit) r ↔ LitBelow (rows_in rows, words) n r) where
  within : n < length (rows_in rows)
  within = omega (arith, lt, length-map rows (λ (u : Row). u.numbers.items))

  pub push_lit : (v u : Row) (new : List Row) → v ≡ get_or rows n v → new ≡ lit ++ u ∷ [] → u.numbers.items ≡ v.numbers.items → Has words n → (r : List ℕ) → Contains (rows_in new) r ↔ LitBelow (rows_in rows, words) (n + 1) r
  push_lit v u new is pushed same h =
      let at : get_or (rows_in rows) n [] ≡ u.numbers.items = get_or-map (λ (u : Row). u.numbers.items) rows n v [] lt ∙ ap (λ (u : Row). u.numbers.items) (sym is) ∙ sym same in
      let seen : rows_in new ≡ rows_in lit ++ u.numbers.items ∷ [] = ap rows_in pushed ∙ map_push (λ (u : Row). u.numbers.items) lit u in
      subst (λ xs. (r : List ℕ) → Contains xs r ↔ LitBelow (rows_in rows, words) (n + 1) r) (sym seen) (lit_more (rows_in rows, words) n u.numbers.items within at (rows_in lit) before h)

  pub skip_dark : (new : List Row) → new ≡ lit → (Has words n → ⊥) → (r : List ℕ) → Contains (rows_in new) r ↔ LitBelow (rows_in rows, words) (n + 1) r
  skip_dark new same dark =
      subst (λ xs. (r : List ℕ) → Contains (rows_in xs) r ↔ LitBelow (rows_in rows, words) (n + 1) r) (sym same) (dark_more (rows_in rows, words) n (get_or (rows_in rows) n []) within refl (rows_in lit) before dark)

pub none_below : (b : Bits) (r : List ℕ) → Contains [] r ↔ LitBelow b 0 r
none_below b r = (λ m. absurd (omega (arith, m.1)), λ l. absurd (omega (arith, l.1)))

-- the bit of a row that was found tells whether it is lit
pub found_lit : (rows : List (List ℕ)) (words : List ℕ) (row : List ℕ) (i : ℕ) → Ascend rows → i < length rows → get_or rows i [] ≡ row → Has words i ↔ Lit (rows, words) row
found_lit rows words row i ascend lt at = (λ h. ((i, lt, get_or_default rows i row [] lt ∙ at), h), λ l. subst (Has words) (one_place rows ascend row row refl l.0 (i, lt, get_or_default rows i row [] lt ∙ at)) l.1)

pub both_ways : {A B C : Type 0} → A ↔ B → B ↔ C → A ↔ C
both_ways ab bc = (λ a. bc.0 (ab.0 a), λ c. ab.1 (bc.1 c))

pub pair_is : (rows rows' : List (List ℕ)) (words words' : List ℕ) → rows ≡ rows' → words ≡ words' → let b : Bits = (rows, words) in let b' : Bits = (rows', words') in b ≡ b'
pair_is rows rows' words words' e f = λ i. (e i, f i)

pub if_ok : {T E : Type 0} (r : Result T E) (P Q : T → Type 0) → ((x : T) → P x → Q x) → IfOk r P → IfOk r Q
if_ok (Ok x) P Q f p = f x p
if_ok (Err e) P Q f p = tt

-- as sets of atoms
pub shown_begun : (b : Bits) (rows : List (List ℕ)) (gs : List GroundAtom) → rows ≡ map row_of gs → ((r : List ℕ) → Lit b r ↔ Contains rows r) → Same (Shown b) (Contains gs)
shown_begun b rows gs is lit g = (λ l. atom_listed gs g (subst (λ xs. Contains xs (row_of g)) is ((lit (row_of g)).0 l)), λ m. (lit (row_of g)).1 (subst (λ xs. Contains xs (row_of g)) (sym is) (row_listed gs g m)))

pub shown_same : (b old : Bits) → b ≡ old → Same (Shown b) (Shown old)
shown_same b old e g = (λ l. subst (λ x. Shown x g) e l, λ l. subst (λ x. Shown x g) (sym e) l)

pub shown_changed : (old mid : Bits) (new : List ℕ) (gone come : List (List ℕ)) (deletes adds : List GroundAtom) → gone ≡ map row_of deletes → come ≡ map row_of adds → ((r : List ℕ) → Lit mid r ↔ Lit old r)
    → IsChanged mid.0 mid.1 gone come new → Same (Shown (mid.0, new)) (After (Shown old) (Contains deletes) (Contains adds))
shown_changed old mid new gone come deletes adds is_gone is_come same change g = (λ l. from ((change (row_of g)).0 l), to)
  where
    deleted : Contains deletes g → Contains gone (row_of g)
    deleted m = subst (λ xs. Contains xs (row_of g)) (sym is_gone) (row_listed deletes g m)

    of_deleted : Contains gone (row_of g) → Contains deletes g
    of_deleted m = atom_listed deletes g (subst (λ xs. Contains xs (row_of g)) is_gone m)

    from : (Lit mid (row_of g) × (Contains gone (row_of g) → ⊥)) ⊎ Contains come (row_of g) → After (Shown old) (Contains deletes) (Contains adds) g
    from (inl (l, kept)) = inl ((same (row_of g)).0 l, λ m. kept (deleted m))
    from (inr m) = inr (atom_listed adds g (subst (λ xs. Contains xs (row_of g)) is_come m))

    to : After (Shown old) (Contains deletes) (Contains adds) g → Shown (mid.0, new) g
    to (inl (l, kept)) = (change (row_of g)).1 (inl ((same (row_of g)).1 l, λ m. kept (of_deleted m)))
    to (inr m) = (change (row_of g)).1 (inr (subst (λ xs. Contains xs (row_of g)) (sym is_come) (row_listed adds g m)))
