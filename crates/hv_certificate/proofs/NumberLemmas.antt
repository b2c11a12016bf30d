-- Numbers are read digit by digit.
use Rattle.std.proofs.Common.{◌≡◌, ◌+◌, ◌*◌, ◌<◌, ◌≤◌, ℕ, zero, suc, Option, None, Some, MatchOption, IfSome, List, [], ◌∷◌, sym, ap, subst, ◌∙◌, arith, decimal, drop, get_or, length, refl, ◌^◌}
use Rattle.std.proofs.Math.Seq.{drop-cons}
use Rattle.std.proofs.lemmas.Fmt.{decimal_is_IsNumeral, decimal-digits_value, decimal_digit, first_decimal}
use Rattle.std.proofs.lemmas.Str.Parse.{IsNumeralModel}
use Rattle.std.specs.Char.{digit_value}
use Rattle.std.specs.Str.Parse.{AllDigits, digits_value_after, digits_value}
use Rattle.hv_certificate.specs.Forms.{IsId}
use Rattle.hv_certificate.specs.inside.Reading.{IsNoNumber, IsNoDigit, IsValueOf}

own : IsNumeralModel (AllDigits 10) (digits_value 10)
own = record { to = λ ds d. d; from = λ ds d. d; same = λ ds d. refl }

no_less : (n : ℕ) (ds : List ℕ) → n ≤ digits_value_after 10 n ds
no_less n [] = omega arith
no_less n (d ∷ ds) = omega (arith, no_less (n * 10 + digit_value d) ds)

digits_behind : (i : ℕ) (ds : List ℕ) → AllDigits 10 ds → AllDigits 10 (drop i ds)
digits_behind zero ds d = d
digits_behind (suc i) [] d = d
digits_behind (suc i) (b ∷ ds) d = digits_behind i ds d.1

digit_first : (b : ℕ) (ds bs : List ℕ) → bs ≡ b ∷ ds → AllDigits 10 bs → digit_value b < 10
digit_first b ds bs is d = (subst (AllDigits 10) is d).0

-- bytes of which one is no digit, or makes the number too large, are no number
pub no_number : (bs : List ℕ) (i v : ℕ) → i < length bs → IsNoDigit v (get_or bs i 0)
    → digits_value_after 10 v (drop i bs) ≡ digits_value 10 bs → IsNoNumber bs
no_number bs i v within unfit same n h is =
    let b = get_or bs i 0 in
    let front : drop i bs ≡ b ∷ drop (suc i) bs = drop-cons bs i 0 within in
    let numeral = decimal_is_IsNumeral n h in
    let digits = digits_behind i bs (subst (AllDigits 10) (sym is) numeral.0.1) in
    let value : digits_value_after 10 v (drop i bs) ≡ n = same ∙ ap (digits_value 10) is ∙ numeral.1 in
    let more : digits_value_after 10 (v * 10 + digit_value b) (drop (suc i) bs) ≡ n = rw front at value in
    unfit (digit_first b (drop (suc i) bs) (drop i bs) front digits) (omega (arith, no_less (v * 10 + digit_value b) (drop (suc i) bs), more, h))

-- a number has a digit, and none but 0 begins with a zero
pub no_bytes_no_number : (bs : List ℕ) → length bs ≡ 0 → IsNoNumber bs
no_bytes_no_number bs none n h is =
    let numeral = decimal_is_IsNumeral n h in
    omega (arith, none, numeral.0.0, ap length is)

no_zero_leads : (n : ℕ) → n < 2 ^ 64 → get_or (decimal n) 0 0 ≡ 48 → 1 < length (decimal n) → ⊥
no_zero_leads zero h first long = omega (arith, long, ap length (decimal_digit 0 (omega arith)))
no_zero_leads (suc n) h first long = omega (arith, first_decimal (suc n) (omega arith) h, first)

pub zero_leads_no_number : (b : ℕ) (ds bs : List ℕ) → bs ≡ b ∷ ds → b ≡ 48 → 0 < length ds → IsNoNumber bs
zero_leads_no_number b ds bs front zero' some n h is =
    let numeral = decimal_is_IsNumeral n h in
    let whole : decimal n ≡ b ∷ ds = sym is ∙ front in
    no_zero_leads n h (ap (λ ds. get_or ds 0 0) whole ∙ zero') (omega (arith, some, ap length whole))

-- digits without a leading zero are the number that they stand for
pub number_is : (bs : List ℕ) (b : ℕ) (ds : List ℕ) (r : Option ℕ) → bs ≡ b ∷ ds → (b ≡ 48 → ds ≡ [])
    → MatchOption r (IsNoNumber bs) (IsValueOf bs) → IfSome r IsId
    → MatchOption r (IsNoNumber bs) (λ n. bs ≡ decimal n)
number_is bs b ds None front alone is id = is
number_is bs b ds (Some n) front alone is id =
    sym (decimal-digits_value own bs is.0 (omega (arith, ap length front))
    (λ lead. ap length front ∙ ap (λ xs. suc (length xs)) (alone (sym (ap (λ xs. get_or xs 0 0) front) ∙ lead)))
    (omega (arith, is.1, id))) ∙ ap decimal (sym is.1)
