-- What was written where a later write fails.
use Rattle.std.proofs.Common.{◌≡◌, ◌+◌, ◌++◌, ℕ, List, Option, Result, Ok, Err, OnOk, OnErr, take, drop, sym, ◌∙◌, ap, subst}
use Rattle.std.proofs.lemmas.List.{take-append-drop, map-append}
use Rattle.std.proofs.Math.Seq.{take-add}
use Rattle.std.proofs.KnownBytes.{Appends-trans}
use Rattle.std.specs.Io.KnownBytes.{Appends}
use Rattle.std.specs.Char.{to_ascii_lowercase}
use Rattle.hv_text.specs.Bytes.{lower}
use Rattle.hv_text.specs.Io.{AppendsBeginning}
pub use Rattle.hv_text.proofs.Cited.{longer, behind, item_fails}

-- a text that fails at its first part, which is what was handed on
pub first_fails : (a b : Option (List ℕ)) (xs text ys : List ℕ) → text ≡ xs → AppendsBeginning a b text → AppendsBeginning a b (xs ++ ys)
first_fails a b xs text ys e w = longer a b xs ys (subst (AppendsBeginning a b) e w)

-- a text, and then the next or a beginning of it
pub then_ok : {T E : Type 0} (r : Result T E) (a b c : Option (List ℕ)) (xs first ys second : List ℕ) → first ≡ xs → second ≡ ys
    → Appends a b first → OnOk r (Appends b c second) → OnOk r (Appends a c (xs ++ ys))
then_ok (Ok x) a b c xs first ys second e f w v = Appends-trans a b c xs ys (subst (Appends a b) e w) (subst (Appends b c) f v)
then_ok (Err x) a b c xs first ys second e f w v = tt

pub then_err : {T E : Type 0} (r : Result T E) (a b c : Option (List ℕ)) (xs first ys second : List ℕ) → first ≡ xs → second ≡ ys
    → Appends a b first → OnErr r (AppendsBeginning b c second) → OnErr r (AppendsBeginning a c (xs ++ ys))
then_err (Ok x) a b c xs first ys second e f w v = tt
then_err (Err x) a b c xs first ys second e f w v = behind a b c xs ys (subst (Appends a b) e w) (subst (AppendsBeginning b c) f v)

-- a text that is what was handed on
pub same_ok : {T E : Type 0} (r : Result T E) (a b : Option (List ℕ)) (xs text : List ℕ) → text ≡ xs → OnOk r (Appends a b text) → OnOk r (Appends a b xs)
same_ok r a b xs text e w = subst (λ t. OnOk r (Appends a b t)) e w

pub same_err : {T E : Type 0} (r : Result T E) (a b : Option (List ℕ)) (xs text : List ℕ) → text ≡ xs → OnErr r (AppendsBeginning a b text) → OnErr r (AppendsBeginning a b xs)
same_err r a b xs text e w = subst (λ t. OnErr r (AppendsBeginning a b t)) e w

-- bytes that were written in lower case up to a place, and then so many more, or a beginning of these
pub lower_more : (a b c : Option (List ℕ)) (bytes : List ℕ) (at n k : ℕ) → k ≡ n → Appends a b (lower (take at bytes))
    → Appends b c (lower (take k (drop at bytes))) → Appends a c (lower (take (at + n) bytes))
lower_more a b c bytes at n k e w v =
    let joined : lower (take (at + n) bytes) ≡ lower (take at bytes) ++ lower (take n (drop at bytes)) =
    ap lower (take-add at n bytes) ∙ map-append to_ascii_lowercase (take at bytes) (take n (drop at bytes)) in
    subst (Appends a c) (sym joined) (Appends-trans a b c _ _ w (subst (λ m. Appends b c (lower (take m (drop at bytes)))) e v))

pub lower_fails : (a b c : Option (List ℕ)) (bytes : List ℕ) (at k : ℕ) → Appends a b (lower (take at bytes))
    → AppendsBeginning b c (lower (take k (drop at bytes))) → AppendsBeginning a c (lower bytes)
lower_fails a b c bytes at k w v =
    let part = take k (drop at bytes) in
    let rest = drop k (drop at bytes) in
    let split : bytes ≡ take at bytes ++ (part ++ rest) =
    sym (take-append-drop at bytes) ∙ ap (λ l. take at bytes ++ l) (sym (take-append-drop k (drop at bytes))) in
    let joined : lower bytes ≡ lower (take at bytes) ++ (lower part ++ lower rest) =
    ap lower split ∙ (map-append to_ascii_lowercase (take at bytes) (part ++ rest) ∙ ap (λ l. lower (take at bytes) ++ l) (map-append to_ascii_lowercase part rest)) in
    subst (AppendsBeginning a c) (sym joined)
    (behind a b c (lower (take at bytes)) (lower part ++ lower rest) w (longer b c (lower part) (lower rest) v))
