-- Tasks and actions in one list: its members, and how they go by place.
use Rattle.std.proofs.Common.{◌≡◌, zero, suc, ◌<◌, ◌≤◌, Bool, true, false, nat_lt, cond, List, [], ◌∷◌, ◌++◌, length, drop, get_or, All, refl, ap, sym, subst, ◌∙◌, arith}
use Rattle.std.specs.Prelude.{IsPermutation}
use Rattle.std.specs.List.{AllPairs, prefix_len}
use Rattle.std.proofs.lemmas.Bool.{ltb-true}
use Rattle.std.proofs.lemmas.Bool.Decides.{nat_tests}
use Rattle.std.proofs.lemmas.List.{append_assoc, take-append-drop}
use Rattle.std.proofs.lemmas.List.Elements.{All-cons, All-nil, All-head, All-tail, All-append, All-weaker}
use Rattle.std.proofs.lemmas.List.Folds.{length-prefix_len}
use Rattle.std.proofs.lemmas.List.Kept.{AllPairs-cons}
use Rattle.std.proofs.lemmas.List.Sorted.{IsPermutation-refl, IsPermutation-trans, IsPermutation-cons, IsPermutation-append_comm, IsPermutation-append_right, IsPermutation-sym, All-permutation}
use Rattle.std.proofs.lemmas.List.Sums.{take_while-cons}
use Rattle.hv_world.specs.Known.{Declaration, those_before, by_place, GoByPlace}

-- pairs in a list that is cut in two
module _ {X : Type 0} (R : X → X → Type 0) where
  pub pairs_head : (x : X) (xs : List X) → AllPairs R (x ∷ xs) → All (R x) xs
  pairs_head x xs h k d lt = h zero (suc k) d (omega arith) (omega arith)

  pub pairs_tail : (x : X) (xs : List X) → AllPairs R (x ∷ xs) → AllPairs R xs
  pairs_tail x xs h i j d less lt = h (suc i) (suc j) d (omega arith) (omega arith)

  pub pairs_nil : AllPairs R []
  pairs_nil i j d less lt = absurd (omega arith)

  pairs_joined : (xs ys : List X) → AllPairs R xs → AllPairs R ys → All (λ x. All (R x) ys) xs → AllPairs R (xs ++ ys)
  pairs_joined [] ys a b cross = b
  pairs_joined (x ∷ xs) ys a b cross =
      AllPairs-cons R x (xs ++ ys) (All-append (R x) xs ys (pairs_head x xs a) (All-head (λ z. All (R z) ys) x xs cross))
      (pairs_joined xs ys (pairs_tail x xs a) b (All-tail (λ z. All (R z) ys) x xs cross))

  front_all : (P : X → Type 0) (xs ys : List X) → All P (xs ++ ys) → All P xs × All P ys
  front_all P [] ys h = (All-nil P, h)
  front_all P (x ∷ xs) ys h =
      let rest = front_all P xs ys (All-tail P x (xs ++ ys) h) in
      (All-cons P x xs (All-head P x (xs ++ ys) h) rest.0, rest.1)

  pub pairs_front : (xs ys : List X) → AllPairs R (xs ++ ys) → AllPairs R xs
  pairs_front [] ys h = pairs_nil
  pairs_front (x ∷ xs) ys h =
      AllPairs-cons R x xs (front_all (R x) xs ys (pairs_head x (xs ++ ys) h)).0 (pairs_front xs ys (pairs_tail x (xs ++ ys) h))

  pub pairs_back : (xs ys : List X) → AllPairs R (xs ++ ys) → AllPairs R ys
  pairs_back [] ys h = h
  pairs_back (x ∷ xs) ys h = pairs_back xs ys (pairs_tail x (xs ++ ys) h)

  pub pairs_cross : (xs ys : List X) → AllPairs R (xs ++ ys) → All (λ x. All (R x) ys) xs
  pairs_cross [] ys h = All-nil (λ x. All (R x) ys)
  pairs_cross (x ∷ xs) ys h =
      All-cons (λ z. All (R z) ys) x xs (front_all (R x) xs ys (pairs_head x (xs ++ ys) h)).1 (pairs_cross xs ys (pairs_tail x (xs ++ ys) h))

-- the list before a declaration, and the list behind it
module _ (d : Declaration) where
  starts_before : Declaration → Bool
  starts_before e = nat_lt e.start d.start

  abbrev behind : List Declaration → List Declaration
  behind es = drop (length (those_before d es)) es

  halves : (es : List Declaration) → those_before d es ++ behind es ≡ es
  halves es = ap (λ n. those_before d es ++ drop n es) (length-prefix_len (λ e. nat_lt e.start d.start) es) ∙ take-append-drop (prefix_len (λ e. nat_lt e.start d.start) es) es

  before_it : (es : List Declaration) → All (λ e. e.start < d.start) (those_before d es)
  before_it [] = All-nil (λ e. e.start < d.start)
  before_it (e ∷ es) = subst (All (λ x. x.start < d.start)) (sym (take_while-cons (λ x. nat_lt x.start d.start) e es)) (by (nat_lt e.start d.start) refl (before_it es)) where
    by : (b : Bool) → nat_lt e.start d.start ≡ b → All (λ x. x.start < d.start) (those_before d es) → All (λ x. x.start < d.start) (cond b (e ∷ those_before d es) [])
    by true t rest = All-cons (λ x. x.start < d.start) e (those_before d es) (ltb-true e.start d.start t) rest
    by false t rest = All-nil (λ x. x.start < d.start)

  -- of a list by place, those behind do not start before it
  not_before : (es : List Declaration) → GoByPlace es → All (λ e. d.start ≤ e.start) (behind es)
  not_before [] h = All-nil (λ e. d.start ≤ e.start)
  not_before (e ∷ es) h =
      subst (λ xs. All (λ x. d.start ≤ x.start) (drop (length xs) (e ∷ es))) (sym (take_while-cons (λ x. nat_lt x.start d.start) e es))
      (by (nat_lt e.start d.start) refl (not_before es (pairs_tail (λ x y. x.start ≤ y.start) e es h))) where
        by : (b : Bool) → nat_lt e.start d.start ≡ b → All (λ x. d.start ≤ x.start) (behind es) → All (λ x. d.start ≤ x.start) (drop (length (cond b (e ∷ those_before d es) [])) (e ∷ es))
        by true t rest = rest
        by false t rest =
            let no : d.start ≤ e.start = grind (arith, nat_tests, t) in
            All-cons (λ x. d.start ≤ x.start) e es no (All-weaker (λ x. e.start ≤ x.start) (λ x. d.start ≤ x.start) (λ x le. omega (arith, le, no)) es (pairs_head (λ x y. x.start ≤ y.start) e es h))

pub by_place_members : (ds es : List Declaration) → IsPermutation (ds ++ es) (by_place ds es)
by_place_members [] es = IsPermutation-refl es
by_place_members (d ∷ ds) es =
    let front = those_before d es in
    let back = behind d es in
    let turned : IsPermutation ((d ∷ ds) ++ es) (es ++ d ∷ ds) = IsPermutation-append_comm (d ∷ ds) es in
    let cut : es ++ d ∷ ds ≡ front ++ (back ++ d ∷ ds) = ap (λ xs. xs ++ d ∷ ds) (sym (halves d es)) ∙ append_assoc front back (d ∷ ds) in
    let inner : IsPermutation (back ++ d ∷ ds) (d ∷ by_place ds back) =
    IsPermutation-trans _ _ _ (IsPermutation-append_comm back (d ∷ ds)) (IsPermutation-cons d (ds ++ back) (by_place ds back) (by_place_members ds back)) in
    IsPermutation-trans _ _ _ (subst (IsPermutation ((d ∷ ds) ++ es)) cut turned) (IsPermutation-append_right front _ _ inner)

abbrev Goes : Declaration → Declaration → Type 0
Goes x y = x.start ≤ y.start

pub by_place_order : (ds es : List Declaration) → GoByPlace ds → GoByPlace es → GoByPlace (by_place ds es)
by_place_order [] es a b = b
by_place_order (d ∷ ds) es a b =
    let front = those_before d es in
    let back = behind d es in
    let both : GoByPlace (front ++ back) = subst GoByPlace (sym (halves d es)) b in
    let rest : GoByPlace (by_place ds back) = by_place_order ds back (pairs_tail Goes d ds a) (pairs_back Goes front back both) in
    let later : All (Goes d) (by_place ds back) =
    All-permutation (Goes d) (ds ++ back) (by_place ds back) (by_place_members ds back) (All-append (Goes d) ds back (pairs_head Goes d ds a) (not_before d es b)) in
    let from_it : All (Goes d) (d ∷ by_place ds back) = All-cons (Goes d) d (by_place ds back) (omega arith) later in
    pairs_joined Goes front (d ∷ by_place ds back) (pairs_front Goes front back both) (AllPairs-cons Goes d (by_place ds back) later rest)
    (All-weaker (λ x. x.start < d.start) (λ x. All (Goes x) (d ∷ by_place ds back))
    (λ x lt. All-weaker (Goes d) (Goes x) (λ y le. omega (arith, lt, le)) (d ∷ by_place ds back) from_it) front (before_it d es))

-- declarations in one list that a symmetric relation tells from one another are so in both
module _ (R : Declaration → Declaration → Type 0) (turned : (x y : Declaration) → R x y → R y x) where
  pub by_place_apart : (ds es : List Declaration) → AllPairs R (by_place ds es) → AllPairs R (ds ++ es)
  by_place_apart [] es h = h
  by_place_apart (d ∷ ds) es h =
      let front = those_before d es in
      let back = behind d es in
      let rest = by_place ds back in
      let tail : AllPairs R (d ∷ rest) = pairs_back R front (d ∷ rest) h in
      let both : AllPairs R (ds ++ back) = by_place_apart ds back (pairs_tail R d rest tail) in
      let to_both : (x : Declaration) → All (R x) rest → All (R x) (ds ++ back) =
      λ x others. All-permutation (R x) rest (ds ++ back) (IsPermutation-sym (ds ++ back) rest (by_place_members ds back)) others in
      let across : All (λ x. All (R x) (d ∷ rest)) front = pairs_cross R front (d ∷ rest) h in
      let of_front : All (λ x. All (R x) ds × All (R x) back) front =
      All-weaker (λ x. All (R x) (d ∷ rest)) (λ x. All (R x) ds × All (R x) back) (λ x others. front_all R (R x) ds back (to_both x (All-tail (R x) d rest others))) front across in
      let of_it = front_all R (R d) ds back (to_both d (pairs_head R d rest tail)) in
      let it_front : All (R d) front = All-weaker (λ x. All (R x) (d ∷ rest)) (R d) (λ x others. turned x d (All-head (R x) d rest others)) front across in
      let whole : front ++ back ≡ es = halves d es in
      let second : AllPairs R es =
      subst (AllPairs R) whole (pairs_joined R front back (pairs_front R front (d ∷ rest) h) (pairs_back R ds back both) (All-weaker (λ x. All (R x) ds × All (R x) back) (λ x. All (R x) back) (λ x others. others.1) front of_front)) in
      let between : All (λ x. All (R x) (front ++ back)) ds =
      λ k e lt.
      All-append (R (get_or ds k e)) front back (λ j f within. turned (get_or front j f) (get_or ds k e) ((of_front j f within).0 k e lt)) (pairs_cross R ds back both k e lt) in
      AllPairs-cons R d (ds ++ es) (All-append (R d) ds es of_it.0 (subst (All (R d)) whole (All-append (R d) front back it_front of_it.1)))
      (pairs_joined R ds es (pairs_front R ds back both) second (subst (λ xs. All (λ x. All (R x) xs) ds) whole between))
