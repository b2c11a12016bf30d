-- The children and the objects that a certificate names.
use Rattle.std.proofs.Common.{◌≡◌, ℕ, zero, suc, ◌+◌, ◌<◌, Bool, true, false, List, [], ◌∷◌, ◌++◌, Option, Some, None, Result, Ok, Err, OnOk, length, map, take, get_or, slice_get, refl, sym, ap, ◌∙◌, subst}
use Rattle.std.specs.Prelude.{bytes_eq, if◌then◌else◌}
use Rattle.std.specs.Option.{option_map}
use Rattle.std.specs.List.{AllZip}
use Rattle.std.proofs.lemmas.Option.{slice_get_within, get_or_from_slice_get, slice_get-get_or}
use Rattle.hv_lists.specs.Lists.{Once}
use Rattle.hv_lists.proofs.Pairs.{paired_at, zip_back, zip_end}
use Rattle.hv_lists.proofs.Places.{slice_get_here, take_one, map_end}
use Rattle.hv_text.specs.Names.{text_of}
use Rattle.hv_text.specs.declared.name.Name.{Name}
use Rattle.hv_world.specs.Bindings.{object_number}
use Rattle.hv_world.specs.Bounds.{IsSound}
use Rattle.hv_world.specs.Names.{place_in}
use Rattle.hv_world.specs.Worlds.{World}
use Rattle.hv_world.specs.declared.id.ObjectId.{ObjectId}
use Rattle.hv_world.proofs.Cited.{found_at}
use Rattle.std.specs.Cmp.Lexicographic.{bytes_decides}
use Rattle.hv_plan.specs.Trees.{Item}
use Rattle.hv_plan.specs.PlanTrees.{PlanTree}
use Rattle.hv_plan.specs.Ids.{place_of}
use Rattle.hv_plan.proofs.Cited.{place_is}
use Rattle.std.proofs.Common.{nat_eq, eqb-true}
use Rattle.std.proofs.lemmas.List.Sums.{passes_at_first}
use Rattle.hv_order.specs.inside.Writings.{IsIdOf, IsNameIn}
use Rattle.hv_order.specs.inside.Checks.{IsPlaceIn, ArePlacesIn, IsPlaceOf, ArePlacesOf}
use Rattle.hv_order.proofs.ToldApart.{one_id}

-- where an id stands in a list that has each once
pub is_place : (ids : List ℕ) (i p : ℕ) → Once ids → p ≡ place_of ids i → IsPlaceIn ids i p
is_place ids i p once e = record {
  there = λ lt. slice_get-get_or ids p 0 lt ∙ ap Some (here lt);
  only = λ x at. sym (e ∙ place_is ids x i once (slice_get_within ids x i at) (get_or_from_slice_get ids x i 0 at));
}
  where
    here : p < length ids → get_or ids p 0 ≡ i
    here lt =
        let w : place_of ids i < length ids = subst (λ k. k < length ids) e lt in
        let P : ℕ → Type 0 = λ k. i ≡ get_or ids k 0 in
        sym (subst P (sym e) (eqb-true i (get_or ids (place_of ids i) 0) (passes_at_first (nat_eq i) ids 0 w)))

-- the places of ids are those of the children that begin with them
are_places : (t : PlanTree) (xs : List Item) (own ids ps : List ℕ) → AllZip (IsIdOf t) xs own → AllZip (λ p i. IsPlaceIn own i p) ps ids → ArePlacesOf t xs ids ps
are_places t xs own [] [] zip all = tt
are_places t xs own [] (p ∷ ps) zip all = absurd all
are_places t xs own (i ∷ ids) [] zip all = absurd all
are_places t xs own (i ∷ ids) (p ∷ ps) zip all = (one, are_places t xs own ids ps zip all.1)
  where
    same_length : {A B : Type 0} (R : A → B → Type 0) (as' : List A) (bs : List B) → AllZip R as' bs → length as' ≡ length bs
    same_length R [] [] z = refl
    same_length R [] (b ∷ bs) z = absurd z
    same_length R (a ∷ as') [] z = absurd z
    same_length R (a ∷ as') (b ∷ bs) z = ap suc (same_length R as' bs z.1)

    one : IsPlaceOf t xs p i
    one = record {
      there = λ lt.
          let at = all.0.there (subst (λ n. p < n) (same_length (IsIdOf t) xs own zip) lt) in
          zip_back (IsIdOf t) xs own p i zip at;
      only = λ x (y, at, stands).
          let (j, there, id) = paired_at (IsIdOf t) xs own x y zip at in
          let P : ℕ → Type 0 = λ k. slice_get own x ≡ Some k in
          all.0.only x (subst P (one_id t j i y id stands) there);
    }

pub are_put : {T E : Type 0} (t : PlanTree) (xs : List Item) (own seen ids ps : List ℕ) (r : Result T E) → AllZip (IsIdOf t) xs own → seen ≡ own → OnOk r (ArePlacesIn seen ids ps)
    → OnOk r (ArePlacesOf t xs ids ps)
are_put t xs own seen ids ps (Ok x) zip same all = are_places t xs own ids ps zip (subst (λ is. ArePlacesIn is ids ps) same all)
are_put t xs own seen ids ps (Err e) zip same all = tt

-- a name that no object has
pub no_object : (w : World) → IsSound w → (names : List Name) (i : ℕ) (n : Name) (o : Option ObjectId) → i < length names → n ≡ get_or names i n
    → option_map (λ x. x.0) o ≡ place_in w.objects (text_of n) → o ≡ None → (os : List ℕ) → AllZip (IsNameIn w) os names → ⊥
no_object w sound names i n o lt named told none os zip =
    let (k, at, is) = zip_back (IsNameIn w) os names i n zip (slice_get_here names i n lt named) in
    let found = found_at w.objects sound.named.objects k (text_of n) is in
    let missing : option_map (λ x. x.0) o ≡ None = ap (option_map (λ x. x.0)) none in
    let both : Some k ≡ None = sym found ∙ sym told ∙ missing in
    cc

-- where a name stands
pub place_there : (ns : List (List ℕ)) (n : List ℕ) (k : ℕ) → place_in ns n ≡ Some k → slice_get ns k ≡ Some n
place_there [] n k e = absurd (let clash : None ≡ Some k = e in cc)
place_there (m ∷ ms) n k e = go (bytes_eq n m) refl (place_in ms n) refl k e (λ j f. place_there ms n j f)
  where
    go : (b : Bool) → bytes_eq n m ≡ b → (o : Option ℕ) → place_in ms n ≡ o → (k : ℕ) → (if b then Some 0 else option_map suc o) ≡ Some k
        → ((j : ℕ) → place_in ms n ≡ Some j → slice_get ms j ≡ Some n) → slice_get (m ∷ ms) k ≡ Some n
    go true q o p zero f again = ap Some (sym ((bytes_decides n m).0 q))
    go true q o p (suc j) f again = absurd (let clash : Some 0 ≡ Some (suc j) = f in cc)
    go false q None p k f again = absurd (let clash : None ≡ Some k = f in cc)
    go false q (Some i) p zero f again = absurd (let clash : Some (suc i) ≡ Some 0 = f in cc)
    go false q (Some i) p (suc j) f again = let both : Some (suc i) ≡ Some (suc j) = f in let same : i ≡ j = cc in again j (p ∙ ap Some same)

-- the objects of one name more
pub one_named : (w : World) (names : List Name) (i : ℕ) (n : Name) (os : List ObjectId) (o : Option ObjectId) (x : ObjectId) → i < length names → n ≡ get_or names i n
    → option_map (λ x. x.0) o ≡ place_in w.objects (text_of n) → o ≡ Some x
    → AllZip (IsNameIn w) (map object_number os) (take i names) → AllZip (IsNameIn w) (map object_number (os ++ x ∷ [])) (take (i + 1) names)
one_named w names i n os o x lt named told is zip =
    let found : Some x.0 ≡ place_in w.objects (text_of n) = sym (ap (option_map (λ x. x.0)) is) ∙ told in
    let P : Name → Type 0 = λ y. IsNameIn w x.0 y in
    rw (take_one names i n lt, map_end object_number os x)
    (zip_end (IsNameIn w) (map object_number os) (take i names) x.0 (get_or names i n) zip
    (subst P named (place_there w.objects (text_of n) x.0 (sym found))))

-- the place of one id more
pub place_more : (own keys ids ps : List ℕ) (i d p : ℕ) → i < length ids → keys ≡ own → AllZip (λ p i. IsPlaceIn own i p) ps (take i ids)
    → IsPlaceIn keys (get_or ids i d) p → AllZip (λ p i. IsPlaceIn own i p) (ps ++ p ∷ []) (take (i + 1) ids)
place_more own keys ids ps i d p lt same zip is =
    let P : List ℕ → Type 0 = λ ks. IsPlaceIn ks (get_or ids i d) p in
    rw (take_one ids i d lt) (zip_end (λ p i. IsPlaceIn own i p) ps (take i ids) p (get_or ids i d) zip (subst P same is))
