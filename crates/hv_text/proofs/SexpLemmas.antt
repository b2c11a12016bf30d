-- What a list spells, and what has been read of lists that are still open.
use Rattle.std.proofs.Common.{◌≡◌, ◌+◌, ◌-◌, ◌++◌, ℕ, List, [], ◌∷◌, Option, refl, ap, sym, ◌∙◌, append_assoc, arith, length, take, subst, false, ◌==◌}
use Rattle.std.proofs.lemmas.Grind.{flat_map-append}
use Rattle.std.proofs.lemmas.List.{map-append, length-append}
use Rattle.std.proofs.Math.Seq.{take-append_seam}
use Rattle.std.proofs.lemmas.List.{append-nil}
use Rattle.hv_text.specs.declared.fault.TextKind.{TextKind}
use Rattle.hv_text.specs.declared.sexp.Open.{Open}
use Rattle.hv_text.specs.Words.{Piece, left, right}
use Rattle.hv_text.specs.Trees.{tree, trees, list}
use Rattle.hv_text.specs.Sexps.{spelled, spelled_all, opening, closing}
use Rattle.hv_text.specs.inside.Scan.{spellings, spelling_of_open, places_of_open, fault_from, open_from}
use Rattle.hv_text.specs.declared.span.Span.{Span}
use Rattle.hv_text.specs.declared.sexp.Sexp.{Sexp}

-- what expressions spell as pure data is what they spell one by one
pub same_spelling : (es : List Sexp) → spelled_all (trees es) ≡ spellings es
same_spelling [] = refl
same_spelling (e ∷ es) = ap (λ ps. spelled (tree e) ++ ps) (same_spelling es)

pub closing_is : (start : ℕ) (s : Span) → s.past ≡ s.start + 1 → closing (record { start = start; past = s.past }) ≡ s
closing_is start s e =
    let p : s.past - 1 ≡ s.start = omega arith in
    rw p refl

regroup : (a b h ps : List Piece) (l r : Piece) → (a ++ (b ++ l ∷ [])) ++ h ++ (r ∷ ps) ≡ (a ++ (b ++ (l ∷ h ++ r ∷ []))) ++ ps
regroup a b h ps l r = simp append_assoc

spellings_push : (es : List Sexp) (e : Sexp) → spellings (es ++ e ∷ []) ≡ spellings es ++ spelled (tree e)
spellings_push es e = flat_map-append (λ x. spelled (tree x)) es (e ∷ []) ∙ ap (λ z. spellings es ++ z) (append-nil (spelled (tree e)))

open_push : (os : List Open) (o : Open) → spelling_of_open (os ++ o ∷ []) ≡ spelling_of_open os ++ (spellings o.before.items ++ left (opening o.left) ∷ [])
open_push os o =
    flat_map-append (λ x. spellings x.before.items ++ left (opening x.left) ∷ []) os (o ∷ [])
    ∙ ap (λ z. spelling_of_open os ++ z) (append-nil (spellings o.before.items ++ left (opening o.left) ∷ []))

-- a parenthesis closes the last open list: what has been read stays the same
pub closed : (os os' : List Open) (o : Open) (here here' : List Sexp) (e : Sexp) (s : Span) (ps ps' whole : List Piece)
    → os ≡ os' ++ o ∷ [] → here' ≡ o.before.items ++ e ∷ [] → s.past ≡ s.start + 1
    → tree e ≡ list (trees here) (record { start = o.left.start; past = s.past })
    → ps ≡ right s ∷ ps' → spelling_of_open os ++ spellings here ++ ps ≡ whole → spelling_of_open os' ++ spellings here' ++ ps' ≡ whole
closed os os' o here here' e s ps ps' whole a b t f q w =
    let w1 : spelling_of_open (os' ++ o ∷ []) ++ spellings here ++ (right s ∷ ps') ≡ whole = subst (λ z. spelling_of_open z ++ spellings here ++ (right s ∷ ps') ≡ whole) a (subst (λ z. spelling_of_open os ++ spellings here ++ z ≡ whole) q w) in
    let w2 = subst (λ z. z ++ spellings here ++ (right s ∷ ps') ≡ whole) (open_push os' o) w1 in
    let f0 : spelled (tree e) ≡ left (opening o.left) ∷ spelled_all (trees here) ++ right (closing (record { start = o.left.start; past = s.past })) ∷ [] = ap spelled f in
    let f1 = subst (λ z. spelled (tree e) ≡ left (opening o.left) ∷ z ++ right s ∷ []) (same_spelling here) (subst (λ z. spelled (tree e) ≡ left (opening o.left) ∷ spelled_all (trees here) ++ right z ∷ []) (closing_is o.left.start s t) f0) in
    let g : spellings here' ≡ spellings o.before.items ++ (left (opening o.left) ∷ spellings here ++ right s ∷ [])
    = ap spellings b ∙ spellings_push o.before.items e ∙ ap (λ z. spellings o.before.items ++ z) f1 in
    ap (λ z. spelling_of_open os' ++ z ++ ps') g
    ∙ sym (regroup (spelling_of_open os') (spellings o.before.items) (spellings here) ps' (left (opening o.left)) (right s)) ∙ w2

pub one_less : (xs : List Span) (x : Span) → take (length (xs ++ x ∷ []) - 1) (xs ++ x ∷ []) ≡ xs
one_less xs x = rw (length-append xs (x ∷ [])) (let n : length xs + 1 - 1 ≡ length xs = omega arith in rw (n) (take-append_seam xs (x ∷ [])))

pub open_after : (os os' : List Open) (o : Open) (s : Span) (ps ps' : List Piece) (whole : List Span) → os ≡ os' ++ o ∷ [] → ps ≡ right s ∷ ps'
    → open_from (places_of_open os) ps ≡ whole → open_from (places_of_open os') ps' ≡ whole
open_after os os' o s ps ps' whole a q w =
    let w1 : open_from (places_of_open (os' ++ o ∷ [])) (right s ∷ ps') ≡ whole = subst (λ z. open_from (places_of_open z) (right s ∷ ps') ≡ whole) a (subst (λ z. open_from (places_of_open os) z ≡ whole) q w) in
    let w2 = subst (λ z. open_from z (right s ∷ ps') ≡ whole) (map-append (λ x. x.left) os' (o ∷ [])) w1 in
    subst (λ z. open_from z ps' ≡ whole) (one_less (places_of_open os') o.left) w2

pub fault_after : (n m : ℕ) (s : Span) (ps ps' : List Piece) (whole : Option (TextKind × Span)) → n ≡ m + 1 → ps ≡ right s ∷ ps'
    → fault_from n ps ≡ whole → fault_from m ps' ≡ whole
fault_after n m s ps ps' whole a q w =
    let w1 : fault_from (m + 1) (right s ∷ ps') ≡ whole = subst (λ z. fault_from z (right s ∷ ps') ≡ whole) a (subst (λ z. fault_from n z ≡ whole) q w) in
    let some : (m + 1 == 0) ≡ false = grind arith in let less : m + 1 - 1 ≡ m = omega arith in
    rw (some, less) at w1
