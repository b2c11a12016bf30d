-- Places by a hash.
use Rattle.std.proofs.Common.{◌≡◌, ◌<◌, ◌≤◌, ◌+◌, ◌-◌, ◌%◌, ◌⊎◌, inl, inr, ℕ, zero, suc, max, List, [], ◌∷◌, length, map, set, get_or, slice_get, Option, Some, None, Result, Ok, Err, MatchOption, refl, sym, ap, ◌∙◌, subst, arith}
use Rattle.std.specs.List.{Contains}
use Rattle.std.specs.Result.{result_ok}
use Rattle.std.proofs.lemmas.Bool.{cases_eq, cases_lt}
use Rattle.std.proofs.lemmas.List.{get_or_default, get_or-map, length-map, length-set}
use Rattle.std.proofs.lemmas.Option.{slice_get_within}
use Rattle.hv_state.specs.inside.Hashes.{hash, turn_of, bucket, HasRoom, IsPut, IsNoted, AreNoted, TellRows}
use Rattle.hv_state.specs.inside.Rows.{IsPlace}
use Rattle.hv_state.proofs.PlanLemmas.{read_there}
use Rattle.hv_state.proofs.RowLemmas.{gap_lacks}

-- a list with another element at a place
get_same : {X : Type 0} (xs : List X) (i : ℕ) (y : X) → i < length xs → slice_get (set xs i y) i ≡ Some y
get_same [] i y lt = absurd (omega (arith, lt))
get_same (x ∷ xs) zero y lt = refl
get_same (x ∷ xs) (suc i) y lt = get_same xs i y (omega (arith, lt))

get_other : {X : Type 0} (xs : List X) (i j : ℕ) (y : X) → (i ≡ j → ⊥) → slice_get (set xs i y) j ≡ slice_get xs j
get_other [] i j y out = refl
get_other (x ∷ xs) zero zero y out = absurd (out refl)
get_other (x ∷ xs) zero (suc j) y out = refl
get_other (x ∷ xs) (suc i) zero y out = refl
get_other (x ∷ xs) (suc i) (suc j) y out = get_other xs i j y (λ e. out (ap suc e))

abbrev Numbers : Option (List ℕ) → List ℕ
Numbers o = elim o [ None ↦ [] | Some numbers ↦ numbers ]

-- a number put into the list of a hash
module _ (old : List (List ℕ)) (h n : ℕ) (was now : List ℕ) (there : Some was ≡ slice_get old (turn_of old h)) (put : IsPut was n now) where
  abbrev new : List (List ℕ)
  new = set old (turn_of old h) now

  turns : (k : ℕ) → turn_of new k ≡ turn_of old k
  turns k = ap (λ l. k % max l 1) (length-set old (turn_of old h) now)

  here : (k : ℕ) → turn_of old k ≡ turn_of old h → bucket new k ≡ now
  here k e = ap (λ i. Numbers (slice_get new i)) (turns k ∙ e) ∙ ap Numbers (get_same old (turn_of old h) now (slice_get_within old (turn_of old h) was (sym there)))

  was_here : (k : ℕ) → turn_of old k ≡ turn_of old h → bucket old k ≡ was
  was_here k e = ap (λ i. Numbers (slice_get old i)) e ∙ ap Numbers (sym there)

  elsewhere : (k : ℕ) → (turn_of old k ≡ turn_of old h → ⊥) → bucket new k ≡ bucket old k
  elsewhere k out = ap (λ i. Numbers (slice_get new i)) (turns k) ∙ ap Numbers (get_other old (turn_of old h) (turn_of old k) now (λ e. out (sym e)))

  keeps : (k m : ℕ) → (turn_of old k ≡ turn_of old h) ⊎ (turn_of old k ≡ turn_of old h → ⊥) → Contains (bucket old k) (suc m) → Contains (bucket new k) (suc m)
  keeps k m (inl e) at = subst (λ xs. Contains xs (suc m)) (sym (here k e)) (put.keeps m (subst (λ xs. Contains xs (suc m)) (was_here k e) at))
  keeps k m (inr out) at = subst (λ xs. Contains xs (suc m)) (sym (elsewhere k out)) at

  room : (k : ℕ) → (turn_of old k ≡ turn_of old h) ⊎ (turn_of old k ≡ turn_of old h → ⊥) → HasRoom (bucket new k) → HasRoom (bucket old k)
  room k (inl e) free = subst HasRoom (sym (was_here k e)) (put.room (subst HasRoom (here k e) free))
  room k (inr out) free = subst HasRoom (elsewhere k out) free

  pub noted : IsNoted old h n new
  noted =
      record {
        has = λ free. subst (λ xs. Contains xs n) (sym (here h refl)) (put.has (subst HasRoom (here h refl) free));
        keeps = λ k m. keeps k m (cases_eq (turn_of old k) (turn_of old h));
        room = λ k. room k (cases_eq (turn_of old k) (turn_of old h));
      }

-- one row more is noted
pub noted_more : (old new rows : List (List ℕ)) (i n : ℕ) → n ≡ i + 1 → AreNoted old rows i → IsNoted old (hash (get_or rows i [])) n new → AreNoted new rows (i + 1)
noted_more old new rows i n is so_far noted j lt within free = by (cases_lt j i)
  where
    by : (j < i) ⊎ (i ≤ j) → Contains (bucket new (hash (get_or rows j []))) (suc j)
    by (inl before) = noted.keeps (hash (get_or rows j [])) j (so_far j before within (noted.room (hash (get_or rows j [])) free))
    by (inr behind) =
        let here : i ≡ j = omega (arith, behind, lt) in
        let number : n ≡ suc j = omega (arith, is, here) in
        subst (λ m. Contains (bucket new (hash (get_or rows j []))) m) number (subst (λ k. HasRoom (bucket new (hash (get_or rows k []))) → Contains (bucket new (hash (get_or rows k []))) n) here noted.has free)

pub noted_none : (buckets rows : List (List ℕ)) → AreNoted buckets rows 0
noted_none buckets rows j lt = absurd (omega (arith, lt))

pub noted_all : (buckets rows : List (List ℕ)) (i : ℕ) → length rows ≤ i → AreNoted buckets rows i → TellRows buckets rows
noted_all buckets rows i le noted j lt = noted j (omega (arith, lt, le))

-- where there are no lists, there is no room
pub no_room : (rows : List (List ℕ)) → TellRows [] rows
no_room rows j lt within free = absurd (omega (arith, free.1))

-- the rows that a number among the first ones tells of are others
abbrev pub AreOthers : List (List ℕ) → List ℕ → List ℕ → ℕ → Type 0
AreOthers rows row numbers count = (j d m : ℕ) → j < count → get_or numbers j d ≡ suc m → IsPlace rows row (Ok m) → ⊥

-- what has no number among all of them, where there is room, is not there
pub not_there : (buckets rows : List (List ℕ)) (row : List ℕ) → TellRows buckets rows → HasRoom (bucket buckets (hash row)) → AreOthers rows row (bucket buckets (hash row)) (length (bucket buckets (hash row))) → Contains rows row → ⊥
not_there buckets rows row tell free others (i, lt, e) =
    let at : get_or rows i [] ≡ row = get_or_default rows i [] row lt ∙ e in
    let (j, within, is) = subst (λ r. HasRoom (bucket buckets (hash r)) → Contains (bucket buckets (hash r)) (suc i)) at (tell i lt lt) free in
    others j (suc i) i within is (lt, at)

pub others_all : (rows : List (List ℕ)) (row numbers : List ℕ) (i : ℕ) → length numbers ≤ i → AreOthers rows row numbers i → AreOthers rows row numbers (length numbers)
others_all rows row numbers i le others j d m lt = others j d m (omega (arith, lt, le))

-- there is room where the last number is none
pub last_free : (numbers : List ℕ) (last : ℕ) → Some last ≡ slice_get numbers (length numbers - 1) → last ≡ 0 → HasRoom numbers
last_free numbers last is none =
    let (within, at) = read_there numbers (length numbers - 1) last (sym is) in
    (length numbers - 1, within, get_or_default numbers (length numbers - 1) 0 last within ∙ at ∙ none)

-- the row of what stands at a place
pub row_there : {X : Type 0} (numbers : X → List ℕ) (xs : List X) (i : ℕ) (x : X) → i < length xs → x ≡ get_or xs i x → (i < length (map numbers xs)) × (get_or (map numbers xs) i [] ≡ numbers x)
row_there numbers xs i x within is = (omega (arith, within, length-map xs numbers), get_or-map numbers xs i x [] within ∙ ap numbers (sym is))

pub found_or_not : (rows : List (List ℕ)) (row : List ℕ) (found : Result ℕ ℕ) → IsPlace rows row found → MatchOption (result_ok found) (Contains rows row → ⊥) (λ place. IsPlace rows row (Ok place))
found_or_not rows row (Ok place) there = there
found_or_not rows row (Err place) gap = gap_lacks rows place row gap
