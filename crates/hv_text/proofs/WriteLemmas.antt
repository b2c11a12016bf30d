-- What was written where a later write fails.
use Rattle.std.proofs.Common.{◌≡◌, ◌<◌, ◌+◌, ◌++◌, ◌∷◌, ℕ, List, Option, suc, length, take, drop, sym, ◌∙◌, ap, subst, get_or, append_assoc}
use Rattle.std.proofs.lemmas.List.{take-append-drop}
use Rattle.std.proofs.lemmas.Grind.{flat_map-append}
use Rattle.std.proofs.Math.Seq.{take-append-add, take-append_seam, drop-cons}
use Rattle.std.proofs.KnownBytes.{Appends-trans}
use Rattle.std.specs.List.{flat_map}
use Rattle.std.specs.Io.KnownBytes.{Appends}
use Rattle.hv_text.specs.Io.{AppendsBeginning}

-- a beginning of a text is one of a longer text
pub longer : (a b : Option (List ℕ)) (xs ys : List ℕ) → AppendsBeginning a b xs → AppendsBeginning a b (xs ++ ys)
longer a b xs ys (n, w) =
    let k = length (take n xs) in
    let same : take k (xs ++ ys) ≡ take n xs =
    ap (λ l. take k (l ++ ys)) (sym (take-append-drop n xs)) ∙ (ap (take k) (append_assoc (take n xs) (drop n xs) ys) ∙ take-append_seam (take n xs) (drop n xs ++ ys)) in
    (k, subst (Appends a b) (sym same) w)

-- a text, and then a beginning of the next
pub behind : (a b c : Option (List ℕ)) (xs ys : List ℕ) → Appends a b xs → AppendsBeginning b c ys → AppendsBeginning a c (xs ++ ys)
behind a b c xs ys w (n, v) =
    (length xs + n, subst (Appends a c) (sym (take-append-add xs ys n)) (Appends-trans a b c xs (take n ys) w v))

-- the texts of the first items were written, and then a beginning of that of the next
pub item_fails : {X : Type 0} (f : X → List ℕ) (a b c : Option (List ℕ)) (xs : List X) (i : ℕ) (d : X) (text : List ℕ) → i < length xs → text ≡ f (get_or xs i d)
    → Appends a b (flat_map f (take i xs)) → AppendsBeginning b c text → AppendsBeginning a c (flat_map f xs)
item_fails {X} f a b c xs i d text h e w v =
    let front = take i xs in
    let x = get_or xs i d in
    let rest = drop (suc i) xs in
    let split : xs ≡ front ++ (x ∷ rest) = sym (take-append-drop i xs) ∙ ap (λ l. take i xs ++ l) (drop-cons xs i d h) in
    let whole : flat_map f xs ≡ (flat_map f front ++ f x) ++ flat_map f rest =
    ap (flat_map f) split ∙ (flat_map-append f front (x ∷ rest) ∙ sym (append_assoc (flat_map f front) (f x) (flat_map f rest))) in
    subst (AppendsBeginning a c) (sym whole) (longer a c (flat_map f front ++ f x) (flat_map f rest) (behind a b c (flat_map f front) (f x) w (subst (AppendsBeginning b c) e v)))
