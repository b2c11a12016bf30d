-- Words in lower case, with one space between them, can be told apart.
use Rattle.std.proofs.Common.{◌≡◌, ◌&&◌, ◌<◌, ◌≤◌, ◌^◌, ℕ, Bool, true, false, Option, None, Some, MatchOption, IfSome, List, [], ◌∷◌, ◌++◌, refl, sym, ap, ◌∙◌, arith, append_assoc, codes, decimal, length, map, take, drop, not, nat_le, suc, ◌+◌}
use Rattle.std.proofs.lemmas.Grind.{common_steps}
use Rattle.std.proofs.lemmas.Fmt.{decimal_is_IsNumeral}
use Rattle.std.proofs.lemmas.Str.Parse.{digit_from_value}
use Rattle.std.specs.List.{list_all, prefix_len}
use Rattle.std.specs.Char.{to_ascii_lowercase, digit_value}
use Rattle.std.specs.Str.Parse.{AllDigits}
use Rattle.hv_lists.proofs.Bools.{both_true}
use Rattle.hv_text.specs.Bytes.{is_word_byte, is_word, lower}
use Rattle.hv_text.specs.Names.{text_of}
use Rattle.hv_text.specs.declared.name.Name.{Name}
use Rattle.hv_certificate.specs.Forms.{IsId}
use Rattle.hv_certificate.specs.inside.Words.{is_name_byte, begins, goes_on, IsWord, AreWords, words_text, line_text}
use Rattle.hv_certificate.specs.inside.Reading.{IsNoNumber}

pub head_same : (a b : ℕ) (xs ys : List ℕ) → a ∷ xs ≡ b ∷ ys → (a ≡ b) × (xs ≡ ys)
head_same a b xs ys e = (cc, cc)

-- where two texts begin with a word that goes no further, the words are one
pub split_word : (u v x y : List ℕ) → list_all is_name_byte u ≡ true → list_all is_name_byte v ≡ true
    → begins x ≡ false → begins y ≡ false → u ++ x ≡ v ++ y → (u ≡ v) × (x ≡ y)
split_word [] [] x y p q f g e = (refl, e)
split_word [] (b ∷ v) x y p q f g e =
    let h = both_true (is_name_byte b) (list_all is_name_byte v) q in
    absurd (cc (h.0, ap begins e, f))
split_word (a ∷ u) [] x y p q f g e =
    let h = both_true (is_name_byte a) (list_all is_name_byte u) p in
    absurd (cc (h.0, ap begins e, g))
split_word (a ∷ u) (b ∷ v) x y p q f g e =
    let (same, rest) = head_same a b (u ++ x) (v ++ y) e in
    let hp = both_true (is_name_byte a) (list_all is_name_byte u) p in
    let hq = both_true (is_name_byte b) (list_all is_name_byte v) q in
    let (us, xs) = split_word u v x y hp.1 hq.1 f g rest in
    (cc (same, us), xs)

-- a word goes no further where words, each behind a space, or what begins with no byte of a name
-- stand behind it
pub ends_before : (ws : List (List ℕ)) (x : List ℕ) → begins x ≡ false → begins (words_text ws ++ x) ≡ false
ends_before [] x f = f
ends_before (w ∷ ws) x f = refl

pub word_begins : (w x : List ℕ) → begins w ≡ true → begins (w ++ x) ≡ true
word_begins [] x e = absurd cc
word_begins (b ∷ w) x e = e

more_words : (w x : List ℕ) (ws : List (List ℕ)) → words_text (w ∷ ws) ++ x ≡ 32 ∷ (w ++ (words_text ws ++ x))
more_words w x ws = ap (λ t. 32 ∷ t) (append_assoc w (words_text ws) x)

pub words_same : (us vs : List (List ℕ)) (x y : List ℕ) → AreWords us → AreWords vs → begins x ≡ false → begins y ≡ false
    → goes_on x ≡ false → goes_on y ≡ false → words_text us ++ x ≡ words_text vs ++ y → (us ≡ vs) × (x ≡ y)
words_same [] [] x y p q f g i j e = (refl, e)
words_same [] (v ∷ vs) x y p q f g i j e =
    let is : x ≡ 32 ∷ (v ++ (words_text vs ++ y)) = e ∙ more_words v y vs in
    absurd (cc (ap goes_on is, word_begins v (words_text vs ++ y) q.0.some, i))
words_same (u ∷ us) [] x y p q f g i j e =
    let is : y ≡ 32 ∷ (u ++ (words_text us ++ x)) = sym e ∙ more_words u x us in
    absurd (cc (ap goes_on is, word_begins u (words_text us ++ x) p.0.some, j))
words_same (u ∷ us) (v ∷ vs) x y p q f g i j e =
    let whole = sym (more_words u x us) ∙ e ∙ more_words v y vs in
    let (_, rest) = head_same 32 32 (u ++ (words_text us ++ x)) (v ++ (words_text vs ++ y)) whole in
    let (one, more) = split_word u v (words_text us ++ x) (words_text vs ++ y) p.0.letters q.0.letters (ends_before us x f) (ends_before vs y g) rest in
    let (all, end) = words_same us vs x y p.1 q.1 f g i j more in
    (cc (one, all), end)

line_parts : (w x : List ℕ) (ws : List (List ℕ)) → line_text w ws ++ x ≡ w ++ (words_text ws ++ (10 ∷ x))
line_parts w x ws = append_assoc w (words_text ws ++ codes "\n") x ∙ ap (λ t. w ++ t) (append_assoc (words_text ws) (codes "\n") x)

-- two texts that begin with a line begin with one line
pub lines_same : (w v : List ℕ) (ws vs : List (List ℕ)) (x y : List ℕ) → IsWord w → AreWords ws → IsWord v → AreWords vs
    → line_text w ws ++ x ≡ line_text v vs ++ y → (w ≡ v) × (ws ≡ vs) × (x ≡ y)
lines_same w v ws vs x y p ps q qs e =
    let whole = sym (line_parts w x ws) ∙ e ∙ line_parts v y vs in
    let (one, more) = split_word w v (words_text ws ++ (10 ∷ x)) (words_text vs ++ (10 ∷ y)) p.letters q.letters
    (ends_before ws (10 ∷ x) refl) (ends_before vs (10 ∷ y) refl) whole in
    let (all, end) = words_same ws vs (10 ∷ x) (10 ∷ y) ps qs refl refl refl refl more in
    let (_, behind) = head_same 10 10 x y end in
    (one, all, behind)

-- what words are

low_byte : (b : ℕ) → is_word_byte b ≡ true → is_name_byte (to_ascii_lowercase b) ≡ true
low_byte b e = grind (arith, common_steps)

low_bytes : (bs : List ℕ) → list_all is_word_byte bs ≡ true → list_all is_name_byte (lower bs) ≡ true
low_bytes [] e = refl
low_bytes (b ∷ bs) e =
    let h = both_true (is_word_byte b) (list_all is_word_byte bs) e in
    rw (low_byte b h.0) (low_bytes bs h.1)

low_word : (bs : List ℕ) → is_word bs ≡ true → IsWord (lower bs)
low_word [] e = absurd cc
low_word (b ∷ bs) e =
    let h = both_true (is_word_byte b) (list_all is_word_byte bs) e in
    record { some = low_byte b h.0; letters = rw (low_byte b h.0) (low_bytes bs h.1) }

pub name_word : (n : Name) → IsWord (text_of n)
name_word n = low_word n.bytes.now n.is_word

pub names_words : (ns : List Name) → AreWords (map text_of ns)
names_words [] = tt
names_words (n ∷ ns) = (name_word n, names_words ns)

digit_byte : (b : ℕ) → 48 ≤ b → b ≤ 57 → is_name_byte b ≡ true
digit_byte b low high = grind (arith, common_steps)

digit_letter : (b : ℕ) → digit_value b < 10 → is_name_byte b ≡ true
digit_letter b e = let range = digit_from_value b e in digit_byte b range.0 range.1

digits_letters : (ds : List ℕ) → AllDigits 10 ds → list_all is_name_byte ds ≡ true
digits_letters [] d = refl
digits_letters (b ∷ ds) d = rw (digit_letter b d.0) (digits_letters ds d.1)

digits_word : (ds : List ℕ) → 0 < length ds → AllDigits 10 ds → IsWord ds
digits_word [] some d = absurd (omega arith)
digits_word (b ∷ ds) some d = record { some = digit_letter b d.0; letters = digits_letters (b ∷ ds) d }

pub decimal_word : (n : ℕ) → n < 2 ^ 64 → IsWord (decimal n)
decimal_word n h = let is = decimal_is_IsNumeral n h in digits_word (decimal n) is.0.0 is.0.1

-- letter case of digits

digit_low : (b : ℕ) → 48 ≤ b → b ≤ 57 → to_ascii_lowercase b ≡ b
digit_low b low high = grind (arith, common_steps)

low_digit : (b c : ℕ) → to_ascii_lowercase b ≡ c → 48 ≤ c → c ≤ 57 → b ≡ c
low_digit b c e low high = grind (arith, common_steps)

digits_low : (ds : List ℕ) → AllDigits 10 ds → lower ds ≡ ds
digits_low [] d = refl
digits_low (b ∷ ds) d =
    let range = digit_from_value b d.0 in
    rw (digit_low b range.0 range.1, digits_low ds d.1) refl

low_digits : (bs ds : List ℕ) → AllDigits 10 ds → lower bs ≡ ds → bs ≡ ds
low_digits [] [] d e = refl
low_digits [] (c ∷ ds) d e = absurd cc
low_digits (b ∷ bs) [] d e = absurd cc
low_digits (b ∷ bs) (c ∷ ds) d e =
    let (first, others) = head_same (to_ascii_lowercase b) c (lower bs) ds e in
    let range = digit_from_value c d.0 in
    let one = low_digit b c first range.0 range.1 in
    let all = low_digits bs ds d.1 others in cc

-- what bytes are as a number, they are in lower case
pub number_low : (bs : List ℕ) (r : Option ℕ) → MatchOption r (IsNoNumber bs) (λ n. bs ≡ decimal n) → IfSome r IsId
    → MatchOption r (IsNoNumber (lower bs)) (λ n. lower bs ≡ decimal n)
number_low bs None never i = λ n h e. never n h (low_digits bs (decimal n) (decimal_is_IsNumeral n h).0.1 e)
number_low bs (Some n) is i = ap lower is ∙ digits_low (decimal n) (decimal_is_IsNumeral n i).0.1

-- the word at the front

low_letter : (b : ℕ) → is_name_byte b ≡ true → to_ascii_lowercase b ≡ b
low_letter b e = grind (arith, common_steps)

word_letter : (b : ℕ) → is_name_byte b ≡ true → is_word_byte b ≡ true
word_letter b e = (both_true (is_word_byte b) (not (nat_le 65 b && nat_le b 90)) e).0

pub record IsAfter (bs : List ℕ) (n : ℕ) : Type 0 where
  pub whole : bs ≡ lower (take n bs) ++ drop n bs
  pub ends : begins (drop n bs) ≡ false
  pub letters : list_all is_word_byte (take n bs) ≡ true
  pub within : n ≤ length bs

after_by : (b : ℕ) (bs : List ℕ) (v : Bool) → is_name_byte b ≡ v → IsAfter bs (prefix_len is_name_byte bs)
    → IsAfter (b ∷ bs) (prefix_len is_name_byte (b ∷ bs))
after_by b bs true e h =
    let same : 1 + prefix_len is_name_byte bs ≡ suc (prefix_len is_name_byte bs) = omega arith in
    let n : prefix_len is_name_byte (b ∷ bs) ≡ suc (prefix_len is_name_byte bs) = rw (e, same) refl in
    rw n record {
      whole = rw (low_letter b e) (ap (λ t. b ∷ t) h.whole);
      ends = h.ends;
      letters = rw (word_letter b e) h.letters;
      within = omega (arith, h.within);
    }
after_by b bs false e h =
    let n : prefix_len is_name_byte (b ∷ bs) ≡ 0 = rw e refl in
    rw n record { whole = refl; ends = e; letters = refl; within = omega arith }

pub after_word : (bs : List ℕ) → IsAfter bs (prefix_len is_name_byte bs)
after_word [] = record { whole = refl; ends = refl; letters = refl; within = omega arith }
after_word (b ∷ bs) = after_by b bs (is_name_byte b) refl (after_word bs)

pub front_read : (left bs : List ℕ) (n : ℕ) → n ≡ prefix_len is_name_byte left → bs ≡ take n left
    → (left ≡ lower bs ++ drop n left) × (begins (drop n left) ≡ false)
front_read left bs n e is =
    let h = after_word left in
    rw (is, e) (h.whole, h.ends)

front_word_by : (b n : ℕ) (bs : List ℕ) (v : Bool) → is_name_byte b ≡ v → n ≡ prefix_len is_name_byte (b ∷ bs)
    → (n ≡ 0 → ⊥) → is_word (take n (b ∷ bs)) ≡ true
front_word_by b n bs false e is some = absurd (some (is ∙ rw e refl))
front_word_by b n bs true e is some =
    let same : 1 + prefix_len is_name_byte bs ≡ suc (prefix_len is_name_byte bs) = omega arith in
    let whole : n ≡ suc (prefix_len is_name_byte bs) = is ∙ rw (e, same) refl in
    rw (whole, word_letter b e) (after_word bs).letters

-- the bytes of a name at the front are a word, and where there are none no name begins there
pub front_word : (left : List ℕ) (n : ℕ) → n ≡ prefix_len is_name_byte left → (n ≡ 0 → ⊥) → is_word (take n left) ≡ true
front_word [] n is some = absurd (some is)
front_word (b ∷ bs) n is some = front_word_by b n bs (is_name_byte b) refl is some

front_none_by : (b n : ℕ) (bs : List ℕ) (v : Bool) → is_name_byte b ≡ v → n ≡ prefix_len is_name_byte (b ∷ bs) → n ≡ 0
    → is_name_byte b ≡ false
front_none_by b n bs false e is none = e
front_none_by b n bs true e is none =
    let whole : n ≡ 1 + prefix_len is_name_byte bs = is ∙ rw e refl in
    absurd (omega (arith, whole, none))

pub front_none : (left : List ℕ) (n : ℕ) → n ≡ prefix_len is_name_byte left → n ≡ 0 → begins left ≡ false
front_none [] n is none = refl
front_none (b ∷ bs) n is none = front_none_by b n bs (is_name_byte b) refl is none

-- a line of words that is not ended
pub line_not_ended : (t f a r : List ℕ) (ws : List (List ℕ)) → t ≡ f ++ a → a ≡ words_text ws ++ r → IsWord f → AreWords ws
    → begins a ≡ false → begins r ≡ false → goes_on r ≡ false → ((x : List ℕ) → r ≡ 10 ∷ x → ⊥)
    → (w : List ℕ) (vs : List (List ℕ)) (rest : List ℕ) → IsWord w → AreWords vs → t ≡ line_text w vs ++ rest → ⊥
line_not_ended t f a r ws e g p ps i j k never = λ w vs rest q qs h.
    let whole = sym e ∙ h ∙ line_parts w rest vs in
    let (_, more) = split_word f w a (words_text vs ++ (10 ∷ rest)) p.letters q.letters i (ends_before vs (10 ∷ rest) refl) whole in
    let (_, end) = words_same ws vs r (10 ∷ rest) ps qs j refl k refl (sym g ∙ more) in
    never rest end

pub no_bytes : (r : List ℕ) → length r ≡ 0 → (x : List ℕ) → r ≡ 10 ∷ x → ⊥
no_bytes [] e x f = absurd cc
no_bytes (b ∷ r) e x f = omega (arith, e)
