-- What the loops of the plan reader keep, and what the words of a line say.
use Rattle.std.proofs.Common.{◌≡◌, ◌+◌, ◌-◌, ◌*◌, ◌<◌, ◌≤◌, ◌++◌, ◌==◌, ◌&&◌, ℕ, Bool, true, false, not, List, [], ◌∷◌, Vec, Option, None, Some, refl, ap, sym, subst, add-one, ◌∙◌, arith, length, take, drop, map, suc, get_or, if◌then◌else◌}
use Rattle.std.specs.List.{list_all, prefix_len}
use Rattle.std.specs.Char.{is_ascii_digit, to_ascii_lowercase}
use Rattle.std.specs.Str.{bytes_eq}
use Rattle.std.specs.declared.alloc.Global.{Global}
use Rattle.std.proofs.lemmas.Grind.{common_steps}
use Rattle.std.proofs.lemmas.List.{map-append, append_assoc}
use Rattle.std.proofs.lemmas.List.Sums.{prefix_len_is}
use Rattle.std.proofs.Math.Numerals.{one-add}
use Rattle.std.proofs.Math.Seq.{drop-cons}
use Rattle.std.proofs.lemmas.Bool.Decides.{leb_tells}
use Rattle.memchr.specs.Find.{Nowhere, NoneBefore, Passes, is_byte}
use Rattle.hv_lists.proofs.Bools.{both_true}
use Rattle.hv_text.specs.Bytes.{lower, is_word_byte}
use Rattle.hv_text.specs.Words.{Piece, word, left, right, bad, piece_of, first_letter, BeginsBy}
use Rattle.hv_text.specs.declared.span.Span.{Span}
use Rattle.hv_text.specs.declared.words.Word.{Word}
use Rattle.hv_plan.specs.Lines.{NumberedLine, lines, numbered, with_byte, is_end, is_only, before_end}
use Rattle.hv_plan.specs.Plans.{fault_from, IsBodyFault}
use Rattle.hv_plan.specs.Values.{Root}
use Rattle.hv_plan.specs.Forms.{Parts, behind, inside, with_front, is_id, said, is_digits, id_of, value_from, as_number}
use Rattle.hv_plan.specs.inside.Views.{as_id, IsLineFault, Found, too_large, no_ids, as_ids}
use Rattle.hv_plan.specs.declared.fault.PlanFault.{PlanFault}
use Rattle.hv_plan.specs.declared.fault.PlanFault.TheVariants as faults
use Rattle.hv_plan.specs.declared.id.Id.{Id}
use Rattle.hv_plan.specs.declared.id.Id.TheVariants as ids
use Rattle.std.specs.Option.{option_map}
use Rattle.std.specs.Prelude.{MatchBool}

-- a byte within a line
abbrev pub is_inner : ℕ → Bool
is_inner b = not (b == 10)

first_line_by : (x : ℕ) (xs : List ℕ) (b : Bool) → (x == 10) ≡ b
    → with_byte x (lines xs) ≡ (x ∷ take (prefix_len is_inner xs) xs) ∷ lines (drop (prefix_len is_inner xs + 1) xs)
    → lines (x ∷ xs) ≡ take (prefix_len is_inner (x ∷ xs)) (x ∷ xs) ∷ lines (drop (prefix_len is_inner (x ∷ xs) + 1) (x ∷ xs))
first_line_by x xs true e again = rw e refl
first_line_by x xs false e again =
    rw (e, one-add, add-one (suc (prefix_len is_inner xs))) (rw (add-one (prefix_len is_inner xs)) at again)

-- the first line of a text, and the text behind it
pub first_line : (x : ℕ) (xs : List ℕ)
    → lines (x ∷ xs) ≡ take (prefix_len is_inner (x ∷ xs)) (x ∷ xs) ∷ lines (drop (prefix_len is_inner (x ∷ xs) + 1) (x ∷ xs))
first_line x [] = first_line_by x [] (x == 10) refl refl
first_line x (y ∷ ys) = first_line_by x (y ∷ ys) (x == 10) refl (ap (with_byte x) (first_line y ys))

-- the first of the lines of a text that is not empty, and the lines behind it
pub next_line : (n : ℕ) (xs : List ℕ) → (length xs == 0) ≡ false
    → numbered n (lines xs)
    ≡ record { number = n; bytes = take (prefix_len is_inner xs) xs } ∷ numbered (n + 1) (lines (drop (prefix_len is_inner xs + 1) xs))
next_line n [] e = cc
next_line n (x ∷ xs) e = ap (numbered n) (first_line x xs)

other_than_10 : (b : Bool) → (b ≡ true → ⊥) → not b ≡ true
other_than_10 true differs = absurd (differs refl)
other_than_10 false differs = refl

-- the first line ends where the first byte 10 stands, or else where the text ends
pub line_ends_at : (text : List ℕ) (end : ℕ) → NoneBefore (Passes (is_byte 10) text) 0 (length text) end
    → Passes (is_byte 10) text end → prefix_len is_inner text ≡ end
line_ends_at text end none is =
    prefix_len_is is_inner text end 0 (omega (arith, none.high))
    (λ k l. other_than_10 (get_or text k 0 == 10) (none.before k (omega arith) l)) (λ l. rw is refl)

pub line_ends_last : (text : List ℕ) → Nowhere (Passes (is_byte 10) text) 0 (length text)
    → prefix_len is_inner text ≡ length text
line_ends_last text none =
    prefix_len_is is_inner text (length text) 0 (omega arith)
    (λ k l. other_than_10 (get_or text k 0 == 10) (none k (omega arith) l)) (λ l. absurd (omega (arith, l)))

not_is : (b : Bool) → not b ≡ true → b ≡ false
not_is true e = absurd cc
not_is false e = refl

letters_apart : (a b x y : ℕ) (c : Bool) → a ≡ x → Some b ≡ (if c then Some (to_ascii_lowercase y) else None)
    → not (a == b) ≡ true → (x == to_ascii_lowercase y) ≡ false
letters_apart a b x y false same e apart = absurd cc
letters_apart a b x y true same e apart =
    let is : b ≡ to_ascii_lowercase y = cc in
    not_is (x == to_ascii_lowercase y) (rw (same, is) at apart)

apart_words : (a b : ℕ) (xs ys : List ℕ) → (a == b) ≡ false → bytes_eq (a ∷ xs) (b ∷ ys) ≡ false
apart_words a b xs ys e = rw e refl

alone_by : (w m : List ℕ) (s : Span) (ps : List Piece) → bytes_eq w m ≡ false → is_only m (word w s ∷ ps) ≡ false
alone_by w m s [] e = e
alone_by w m s (p ∷ ps) e = refl

-- a word that begins otherwise than a marker is not the marker
pub not_only : (a b : ℕ) (ps : List Piece) (m : List ℕ) → BeginsBy a ps → Some b ≡ first_letter m
    → not (a == b) ≡ true → is_only (lower m) ps ≡ false
not_only a b [] m by e apart = absurd by
not_only a b (word [] s ∷ ps) m by e apart = absurd by
not_only a b (left s ∷ ps) m by e apart = absurd by
not_only a b (right s ∷ ps) m by e apart = absurd by
not_only a b (bad s ∷ ps) m by e apart = absurd by
not_only a b (word (x ∷ w) s ∷ ps) [] by e apart = alone_by (x ∷ w) [] s ps refl
not_only a b (word (x ∷ w) s ∷ ps) (y ∷ ys) by e apart =
    alone_by (x ∷ w) (lower (y ∷ ys)) s ps
    (apart_words x (to_ascii_lowercase y) w (lower ys) (letters_apart a b x y (is_word_byte y) by e apart))

-- a line that says no form makes the fault of the lines that it is the next of
pub line_is_faulty : (f : PlanFault) (rooted : Bool) (l : NumberedLine) (ls whole : List NumberedLine) → IsLineFault f (said l) → is_end l ≡ false
    → fault_from rooted (before_end (l ∷ ls)) ≡ fault_from false whole → IsBodyFault whole f
line_is_faulty (faults.BadByte n) rooted l ls whole h e w = sym w ∙ (rw (e, h) refl)
line_is_faulty (faults.BadLine n) rooted l ls whole h e w = sym w ∙ (rw (e, h) refl)
line_is_faulty (faults.IdTooLarge n) rooted l ls whole h e w = sym w ∙ (rw (e, h) refl)
line_is_faulty (faults.RepeatedRoot n) rooted l ls whole h e w = absurd h
line_is_faulty faults.NoRoot rooted l ls whole h e w = absurd h
line_is_faulty faults.TooLong rooted l ls whole h e w = absurd h
line_is_faulty faults.NoStart rooted l ls whole h e w = absurd h
line_is_faulty faults.NoEnd rooted l ls whole h e w = absurd h
line_is_faulty faults.Memory rooted l ls whole h e w = tt

-- what stands before a parenthesis that comes last
inside_closed : (ps : List Piece) (s : Span) → inside (ps ++ right s ∷ []) ≡ Some ps
inside_closed [] s = refl
inside_closed (word w t ∷ ps) s = ap (option_map (λ qs. word w t ∷ qs)) (inside_closed ps s)
inside_closed (left t ∷ ps) s = ap (option_map (λ qs. left t ∷ qs)) (inside_closed ps s)
inside_closed (bad t ∷ ps) s = ap (option_map (λ qs. bad t ∷ qs)) (inside_closed ps s)
inside_closed (right t ∷ []) s = refl
inside_closed (right t ∷ p ∷ ps) s = ap (option_map (λ qs. right t ∷ qs)) (inside_closed (p ∷ ps) s)

-- where the last piece closes nothing, nothing stands inside
inside_unclosed : (ps : List Piece) (p : Piece) → inside (p ∷ []) ≡ None → inside (ps ++ p ∷ []) ≡ None
inside_unclosed [] p e = e
inside_unclosed (word w t ∷ ps) p e = ap (option_map (λ qs. word w t ∷ qs)) (inside_unclosed ps p e)
inside_unclosed (left t ∷ ps) p e = ap (option_map (λ qs. left t ∷ qs)) (inside_unclosed ps p e)
inside_unclosed (bad t ∷ ps) p e = ap (option_map (λ qs. bad t ∷ qs)) (inside_unclosed ps p e)
inside_unclosed (right t ∷ []) p e = ap (option_map (λ qs. right t ∷ qs)) e
inside_unclosed (right t ∷ q ∷ ps) p e = ap (option_map (λ qs. right t ∷ qs)) (inside_unclosed (q ∷ ps) p e)

pub inside_right : (others ws : List Word) (w : Word) (s : Span) → ws ≡ others ++ w ∷ [] → piece_of w ≡ right s
    → Some (map piece_of others) ≡ inside (map piece_of ws)
inside_right others ws w s e f = rw (e, map-append piece_of others (w ∷ []), f) (sym (inside_closed (map piece_of others) s))

pub inside_other : (others ws : List Word) (w : Word) → ws ≡ others ++ w ∷ [] → inside (piece_of w ∷ []) ≡ None
    → None ≡ inside (map piece_of ws)
inside_other others ws w e f = rw (e, map-append piece_of others (w ∷ [])) (sym (inside_unclosed (map piece_of others) (piece_of w) f))

-- digits have no case
digit_same : (b : ℕ) → is_ascii_digit b ≡ true → to_ascii_lowercase b ≡ b
digit_same b e = grind (arith, common_steps)

digit_lower : (b : ℕ) → is_ascii_digit (to_ascii_lowercase b) ≡ is_ascii_digit b
digit_lower b = grind (arith, common_steps)

digits_lower : (bs : List ℕ) → list_all is_ascii_digit (lower bs) ≡ list_all is_ascii_digit bs
digits_lower [] = refl
digits_lower (b ∷ bs) = rw (digit_lower b, digits_lower bs) refl

pub is_digits-lower : (bs : List ℕ) → is_digits (lower bs) ≡ is_digits bs
is_digits-lower [] = refl
is_digits-lower (b ∷ bs) = rw (digit_lower b, digits_lower bs) refl

digits_same_by : (b : ℕ) (bs : List ℕ) (t : Bool) → is_ascii_digit b ≡ t → (is_ascii_digit b && list_all is_ascii_digit bs) ≡ true
    → (list_all is_ascii_digit bs ≡ true → lower bs ≡ bs) → lower (b ∷ bs) ≡ b ∷ bs
digits_same_by b bs true e h again = let rest : list_all is_ascii_digit bs ≡ true = rw e at h in rw (digit_same b e, again rest) refl
digits_same_by b bs false e h again = let clash : false ≡ true = rw e at h in cc

pub digits_same : (bs : List ℕ) → list_all is_ascii_digit bs ≡ true → lower bs ≡ bs
digits_same [] h = refl
digits_same (b ∷ bs) h = digits_same_by b bs (is_ascii_digit b) refl h (digits_same bs)

pub are_digits : (bs : List ℕ) → is_digits bs ≡ true → list_all is_ascii_digit bs ≡ true
are_digits [] h = refl
are_digits (b ∷ bs) h = h

-- digits behind a number make it no smaller
pub value_from-le : (ds : List ℕ) (v : ℕ) → v ≤ value_from v ds
value_from-le [] v = omega arith
value_from-le (d ∷ ds) v = omega (arith, value_from-le ds (v * 10 + (d - 48)))

number_by : (x v : ℕ) (t : Bool) → is_id x ≡ t → Some v ≡ (if t then Some x else None) → (v ≡ x) × (is_id v ≡ true)
number_by x v true e h = let same : v ≡ x = cc in (same, rw same e)
number_by x v false e h = cc

-- a number that is there is the number, and fits
pub number_there : (x v : ℕ) → Some v ≡ as_number x → (v ≡ x) × (is_id v ≡ true)
number_there x v h = number_by x v (is_id x) refl h

missing_by : (x : ℕ) (t : Bool) → is_id x ≡ t → None ≡ (if t then Some x else None) → is_id x ≡ false
missing_by x true e h = cc
missing_by x false e h = e

-- a number that is not there is too large
pub number_missing : (x : ℕ) → None ≡ as_number x → is_id x ≡ false
number_missing x h = missing_by x (is_id x) refl h

larger_too : (x y : ℕ) → x ≤ y → is_id x ≡ false → is_id y ≡ false
larger_too x y h e = grind (arith, common_steps, leb_tells)

-- where a digit makes the number too large, the whole is
pub digit_too_large : (ds : List ℕ) (i v w : ℕ) → i < length ds → None ≡ as_number (v * 10 + (get_or ds i 0 - 48)) → value_from v (drop i ds) ≡ w → as_number w ≡ None
digit_too_large ds i v w h e f =
    let g : value_from (v * 10 + (get_or ds i 0 - 48)) (drop (suc i) ds) ≡ w = rw (drop-cons ds i 0 h) at f in
    let large : is_id w ≡ false = larger_too _ w (subst (λ z. v * 10 + (get_or ds i 0 - 48) ≤ z) g (value_from-le (drop (suc i) ds) _)) (number_missing _ e) in
    rw large refl

-- what a word of digits is as an id
pub id_there : (bs : List ℕ) (i : ℕ) → is_digits bs ≡ true → Some i ≡ as_number (value_from 0 bs) → ids.Fits i ≡ as_id (id_of (lower bs))
id_there bs i d e =
    let n = number_there (value_from 0 bs) i e in
    rw (digits_same bs (are_digits bs d), d, ← n.0, n.1) refl

pub id_large : (bs : List ℕ) → is_digits bs ≡ true → None ≡ as_number (value_from 0 bs) → ids.TooLarge ≡ as_id (id_of (lower bs))
id_large bs d e =
    let n = number_missing (value_from 0 bs) e in
    rw (digits_same bs (are_digits bs d), d, n) refl

pub id_none : (bs : List ℕ) → is_digits bs ≡ false → ids.NoId ≡ as_id (id_of (lower bs))
id_none bs d = let n = is_digits-lower bs in rw (n, d) refl

-- digits of which one makes the number too large have no value of 64 bits
pub no_value : (ds : List ℕ) (i v : ℕ) → i < length ds
    → (is_ascii_digit (get_or ds i 0) ≡ true → None ≡ as_number (v * 10 + (get_or ds i 0 - 48)))
    → value_from v (drop i ds) ≡ value_from 0 ds → list_all is_ascii_digit (drop i ds) ≡ list_all is_ascii_digit ds
    → is_digits ds ≡ true → None ≡ as_number (value_from 0 ds)
no_value ds i v within unfit same all digits =
    let left : list_all is_ascii_digit (drop i ds) ≡ true = all ∙ are_digits ds digits in
    let here : list_all is_ascii_digit (get_or ds i 0 ∷ drop (suc i) ds) ≡ true = rw (drop-cons ds i 0 within) at left in
    let digit = both_true (is_ascii_digit (get_or ds i 0)) (list_all is_ascii_digit (drop (suc i) ds)) here in
    sym (digit_too_large ds i v (value_from 0 ds) within (unfit digit.0) same)

-- what bytes without such a value are as an id
pub id_missing : (bs : List ℕ) (r : Id) (b : Bool) → is_digits bs ≡ b → MatchBool b (r ≡ ids.TooLarge) (r ≡ ids.NoId)
    → (is_digits bs ≡ true → None ≡ as_number (value_from 0 bs)) → r ≡ as_id (id_of (lower bs))
id_missing bs r true e is none = is ∙ id_large bs e (none e)
id_missing bs r false e is none = is ∙ id_none bs e

-- what words are as ids, where ids stand before the others, and they fit or not
abbrev pub ids_read : Bool → List ℕ → Option (List ℕ) → Found
ids_read true front r = as_ids (behind front r)
ids_read false front None = no_ids
ids_read false front (Some is) = too_large

-- the root lines that were found
abbrev pub found_roots : Option (Vec ℕ Global × ℕ) → List Root
found_roots None = []
found_roots (Some r) = record { ids = r.0.items; line = r.1 } ∷ []

-- words before the parts
pub with_front-append : (a b : List Piece) (o : Option Parts) → with_front a (with_front b o) ≡ with_front (a ++ b) o
with_front-append a b None = refl
with_front-append a b (Some h) = ap (λ xs. Some (record { before = xs; after = h.after })) (sym (append_assoc a b h.before))
