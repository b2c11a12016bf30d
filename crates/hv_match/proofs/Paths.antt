-- A candidate is a path of the search.
use Rattle.std.proofs.Common.{◌≡◌, ℕ, zero, suc, ◌-◌, ◌≤◌, List, [], ◌∷◌, ◌++◌, length, get_or, slice_get, refl, sym, ap, ◌∙◌, arith, subst, append_assoc, length-append, Option, Some, None, Contains}
use Rattle.std.proofs.lemmas.List.{append-nil}
use Rattle.std.specs.List.{AllZip}
use Rattle.hv_lists.proofs.Contained.{at_head, contains_at}
use Rattle.hv_lists.proofs.Pairs.{same_length}
use Rattle.hv_world.specs.Values.{Subtask}
use Rattle.hv_match.specs.inside.Search.{IsPath}
use Rattle.hv_match.specs.inside.Puzzles.{Work, Puzzle, bound, pick, options, Done, AreRows, IsMatch}
use Rattle.hv_match.proofs.FirstPlaces.{forced_bound}
use Rattle.hv_match.proofs.Fitting.{has_mem}

path_from : (f : List ℕ → List ℕ) (p xs : List ℕ) → ((ys : List ℕ) (x : ℕ) (zs : List ℕ) → xs ≡ ys ++ x ∷ zs → Contains (f (p ++ ys)) x) → IsPath f p xs
path_from f p [] h = tt
path_from f p (x ∷ xs) h =
    let first = h [] x xs refl in
    let P : List ℕ → Type 0 = λ l. Contains (f l) x in (
      subst P (append-nil p) first,
      path_from f (p ++ x ∷ []) xs (λ ys z zs e. let Q : List ℕ → Type 0 = λ l. Contains (f l) z in subst Q (sym (append_assoc p (x ∷ []) ys)) (h (x ∷ ys) z zs (ap (λ (l : List ℕ). x ∷ l) e))),
    )

-- what stands at a subtask's place does it
done_at : (cs : List (Option Work)) (B M us ys : List ℕ) (x : ℕ) (zs : List ℕ) (ss : List Subtask) (s : Subtask) → AllZip (Done cs B) M ss → M ++ us ≡ ys ++ x ∷ zs → slice_get ss (length ys) ≡ Some s → Done cs B x s
done_at cs B [] us ys x zs [] s a e f = cc
done_at cs B [] us ys x zs (t ∷ ss) s a e f = absurd a
done_at cs B (y ∷ M) us ys x zs [] s a e f = absurd a
done_at cs B (y ∷ M) us [] x zs (t ∷ ss) s a e f =
    let i : y ≡ x = cc in let j : t ≡ s = cc in
    subst (λ z. Done cs B z s) i (subst (λ z. Done cs B y z) j a.0)
done_at cs B (y ∷ M) us (z ∷ ys) x zs (t ∷ ss) s a e f = let g : M ++ us ≡ ys ++ x ∷ zs = cc in done_at cs B M us ys x zs ss s a.1 g f

past_all : (ss : List Subtask) (i : ℕ) → slice_get ss i ≡ None → length ss ≤ i
past_all [] i e = omega arith
past_all (s ∷ ss) zero e = cc
past_all (s ∷ ss) (suc i) e = omega (arith, past_all ss i e)

split_right : (M B ys : List ℕ) (x : ℕ) (zs : List ℕ) → M ++ B ≡ ys ++ x ∷ zs → length M ≤ length ys → (us : List ℕ) × (ys ≡ M ++ us) × (B ≡ us ++ x ∷ zs)
split_right [] B ys x zs e h = (ys, refl, e)
split_right (y ∷ M) B [] x zs e h = absurd (omega arith)
split_right (y ∷ M) B (z ∷ ys) x zs e h =
    let f : M ++ B ≡ ys ++ x ∷ zs = cc in let i : z ≡ y = cc in
    let r = split_right M B ys x zs f (omega arith) in
    (r.0, (let j = r.1 in cc), r.2)

at_split : (us : List ℕ) (x : ℕ) (zs : List ℕ) → get_or (us ++ x ∷ zs) (length us) 0 ≡ x
at_split [] x zs = refl
at_split (u ∷ us) x zs = at_split us x zs

zip_split : (R : ℕ → List ℕ → Type 0) (us : List ℕ) (x : ℕ) (zs : List ℕ) (ts : List (List ℕ)) → AllZip R (us ++ x ∷ zs) ts → R x (get_or ts (length us) [])
zip_split R [] x zs [] a = absurd a
zip_split R [] x zs (t ∷ ts) a = a.0
zip_split R (u ∷ us) x zs [] a = absurd a
zip_split R (u ∷ us) x zs (t ∷ ts) a = zip_split R us x zs ts a.1

pub candidate_path : (pz : Puzzle) → AreRows pz → (M B : List ℕ) → IsMatch pz M B → IsPath (options pz) [] (M ++ B)
candidate_path pz rows M B c = path_from (options pz) [] (M ++ B) (λ ys x zs e. go ys x zs e (slice_get pz.subtasks (length ys)) refl)
  where
    size : length M ≡ length pz.subtasks
    size = same_length (Done pz.children B) M pz.subtasks c.done

    param : (us : List ℕ) (x : ℕ) (zs : List ℕ) → B ≡ us ++ x ∷ zs → (i : ℕ) → i ≡ length us → (r : Option ℕ) → bound pz (M ++ us) i ≡ r → Contains (pick r (get_or pz.ranges i [])) x
    param us x zs e i j None b = let P : List ℕ → Type 0 = λ l. AllZip (λ (o : ℕ) (r : List ℕ). Contains r o) l pz.ranges in rw j (zip_split (λ o r. Contains r o) us x zs pz.ranges (subst P e c.typed))
    param us x zs e i j (Some o) b = let f : o ≡ get_or B i 0 = forced_bound pz M B us i o c b in let k : get_or B i 0 ≡ x = rw (e, j) (at_split us x zs) in at_head o [] x (sym (f ∙ k))

    go : (ys : List ℕ) (x : ℕ) (zs : List ℕ) → M ++ B ≡ ys ++ x ∷ zs → (o : Option Subtask) → slice_get pz.subtasks (length ys) ≡ o →
        Contains (elim o [ Some s ↦ pz.rows (length ys) | None ↦ pick (bound pz ys (length ys - length pz.subtasks)) (get_or pz.ranges (length ys - length pz.subtasks) []) ]) x
    go ys x zs e (Some s) b = has_mem x (pz.rows (length ys)) ((rows (length ys) s b).all s (contains_at pz.subtasks (length ys) s b) refl B x (done_at pz.children B M B ys x zs pz.subtasks s c.done e b))
    go ys x zs e None b =
        let ge : length pz.subtasks ≤ length ys = past_all pz.subtasks (length ys) b in
        let r = split_right M B ys x zs e (omega (arith, size)) in
        let i : length ys - length pz.subtasks ≡ length r.0 = omega (arith, ap length r.1, length-append M r.0, size) in
        let t : bound pz ys (length ys - length pz.subtasks) ≡ bound pz (M ++ r.0) (length ys - length pz.subtasks) = ap (λ (l : List ℕ). bound pz l (length ys - length pz.subtasks)) r.1 in
        rw t (param r.0 x zs r.2 (length ys - length pz.subtasks) i (bound pz (M ++ r.0) (length ys - length pz.subtasks)) refl)
