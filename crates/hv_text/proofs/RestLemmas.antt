-- What stands from a place on, and what it spells.
use Rattle.std.proofs.Common.{◌≡◌, ◌==◌, ◌+◌, ◌-◌, ◌≤◌, ◌++◌, ℕ, Bool, true, false, List, [], ◌∷◌, None, inl, inr, length, take, refl, ap, sym, ◌∙◌, subst, arith, append_assoc}
use Rattle.std.proofs.lemmas.List.{length-append, length-take}
use Rattle.hv_text.specs.Trees.{Tree, Trees, tree, trees, word, list, none, more}
use Rattle.hv_text.specs.Words as found
use Rattle.hv_text.specs.Words.{Piece, left, right, bad, pieces}
use Rattle.hv_text.specs.Sexps.{spelled, spelled_all, opening, closing, AreExpressions}
use Rattle.hv_text.specs.inside.Scan.{fault_from, open_from, IsBalanced}
use Rattle.hv_text.specs.Rests.{Rest, last, lost, upto, add, add_all, enclose, rest_from, here, IsOut}
use Rattle.hv_text.specs.declared.sexp.Sexp.{Sexp}
use Rattle.hv_text.specs.declared.span.Span.{Span}
use Rattle.hv_text.specs.declared.fault.TextKind.TheVariants as kinds
use Rattle.hv_text.specs.declared.fault.TheConstants.{MOST_BYTES, MOST_OPEN}
use Rattle.hv_text.proofs.FaultLemmas.{if_none, is_sound, none_open, not_zero}
use Rattle.hv_text.proofs.ShapeLemmas.{AreWhole, text_whole}
use Rattle.hv_text.proofs.TreeLemmas.{list_spelled}

pub add_behind : (es : List Sexp) (e : Sexp) (r : Rest) → add_all (trees (es ++ e ∷ [])) r ≡ add_all (trees es) (add (tree e) r)
add_behind [] e r = refl
add_behind (d ∷ es) e r = ap (add (tree d)) (add_behind es e r)

add_all_last : (ts : Trees) → add_all ts (last none) ≡ last ts
add_all_last none = refl
add_all_last (more t ts) = ap (add t) (add_all_last ts)

add_all_lost : (ts : Trees) → add_all ts (lost none) ≡ lost ts
add_all_lost none = refl
add_all_lost (more t ts) = ap (add t) (add_all_lost ts)

add_all_upto : (ts : Trees) (e : ℕ) (r : Rest) → add_all ts (upto none e r) ≡ upto ts e r
add_all_upto none e r = refl
add_all_upto (more t ts) e r = ap (add t) (add_all_upto ts e r)

pub one_more : (es es' : List Sexp) (e : Sexp) (whole r r' : Rest) → es' ≡ es ++ e ∷ [] → whole ≡ add_all (trees es) r → r ≡ add (tree e) r' → whole ≡ add_all (trees es') r'
one_more es es' e whole r r' a b c = b ∙ ap (add_all (trees es)) c ∙ sym (add_behind es e r') ∙ ap (λ x. add_all (trees x) r') (sym a)

pub list_read : (s : Span) (p : ℕ) (ts : Trees) (t : Tree) (whole a z r : Rest) → whole ≡ enclose s a → a ≡ add_all ts z → z ≡ upto none p r
    → t ≡ list ts (record { start = s.start; past = p }) → whole ≡ add t r
list_read s p ts t whole a z r f g h e =
    f ∙ ap (enclose s) (g ∙ ap (add_all ts) h ∙ add_all_upto ts p r) ∙ ap (λ x. add x r) (sym e)

pub no_list : (s : Span) (ts : Trees) (whole a z : Rest) → whole ≡ enclose s a → a ≡ add_all ts z → IsOut z → here whole ≡ none
no_list s ts whole a z f g (inl h) = ap here (f ∙ ap (enclose s) (g ∙ ap (add_all ts) h ∙ add_all_last ts))
no_list s ts whole a z f g (inr h) = ap here (f ∙ ap (enclose s) (g ∙ ap (add_all ts) h ∙ add_all_lost ts))

pub no_word : (w : List ℕ) (s : Span) (z r : Rest) → z ≡ add (word w s) r → here z ≡ none → IsOut z
no_word w s z (last ts) e h = absurd cc
no_word w s z (lost ts) e h = absurd cc
no_word w s z (upto ts p r) e h = absurd cc

pub no_left : (s : Span) (z r : Rest) → z ≡ enclose s r → here z ≡ none → IsOut z
no_left s z (last ts) e h = inr e
no_left s z (lost ts) e h = inr e
no_left s z (upto ts p (last us)) e h = absurd cc
no_left s z (upto ts p (lost us)) e h = absurd cc
no_left s z (upto ts p (upto us q r)) e h = absurd cc

-- what they spell
abbrev spelled_rest : Rest → List Piece
spelled_rest (last ts) = spelled_all ts
spelled_rest (lost ts) = spelled_all ts
spelled_rest (upto ts e r) = spelled_all ts ++ right (record { start = e - 1; past = e }) ∷ spelled_rest r

-- how many lists are open
abbrev levels : Rest → ℕ
levels (last ts) = 0
levels (lost ts) = 0
levels (upto ts e r) = 1 + levels r

-- no fault comes
abbrev IsWhole : Rest → Type 0
IsWhole (last ts) = Unit {0}
IsWhole (lost ts) = ⊥
IsWhole (upto ts e r) = IsWhole r

spelled_add : (t : Tree) (r : Rest) → spelled_rest (add t r) ≡ spelled t ++ spelled_rest r
spelled_add t (last ts) = refl
spelled_add t (lost ts) = refl
spelled_add t (upto ts e r) = append_assoc (spelled t) (spelled_all ts) (right (record { start = e - 1; past = e }) ∷ spelled_rest r)

levels_add : (t : Tree) (r : Rest) → levels (add t r) ≡ levels r
levels_add t (last ts) = refl
levels_add t (lost ts) = refl
levels_add t (upto ts e r) = refl

whole_add : (t : Tree) (r : Rest) → IsWhole r → IsWhole (add t r)
whole_add t (last ts) w = w
whole_add t (lost ts) w = w
whole_add t (upto ts e r) w = w

added_whole : (t : Tree) (r : Rest) → IsWhole (add t r) → IsWhole r
added_whole t (last ts) w = w
added_whole t (lost ts) w = w
added_whole t (upto ts e r) w = w

record FitsRest (n : ℕ) (r : Rest) (ps : List Piece) : Type 0 where
  spells : spelled_rest r ≡ ps
  open_in : levels r ≡ n
  whole : IsWhole r

abbrev Fits : ℕ → List Piece → Type 0
Fits n ps = FitsRest n (rest_from n ps) ps

word_fits : (n : ℕ) (w : List ℕ) (s : Span) (ps : List Piece) → Fits n ps → Fits n (found.word w s ∷ ps)
word_fits n w s ps h =
    record {
      spells = spelled_add (word w s) (rest_from n ps) ∙ ap (λ x. found.word w s ∷ x) h.spells;
      open_in = levels_add (word w s) (rest_from n ps) ∙ h.open_in;
      whole = whole_add (word w s) (rest_from n ps) h.whole;
    }

right_place : (s : Span) → s.past ≡ s.start + 1 → record { start = s.past - 1; past = s.past } ≡ s
right_place s e = let p : s.past - 1 ≡ s.start = omega arith in rw p refl

right_fits : (n : ℕ) (s : Span) (ps : List Piece) → s.past ≡ s.start + 1 → (n == 0) ≡ false → Fits (n - 1) ps → Fits n (right s ∷ ps)
right_fits n s ps e f h =
    let some = not_zero n f in
    let r : Rest = rest_from (n - 1) ps in
    let fits : FitsRest n (upto none s.past r) (right s ∷ ps) =
    record { spells = ap (λ x. right x ∷ spelled_rest r) (right_place s e) ∙ ap (λ x. right s ∷ x) h.spells; open_in = omega (arith, h.open_in, some); whole = h.whole } in
    rw f fits

-- a `(` before a list that is ended
closed_fits : (n : ℕ) (s : Span) (r : Rest) (ps : List Piece) → s.past ≡ s.start + 1 → FitsRest (n + 1) r ps → FitsRest n (enclose s r) (left s ∷ ps)
closed_fits n s (last ts) ps e h = absurd (omega (arith, h.open_in))
closed_fits n s (lost ts) ps e h = absurd h.whole
closed_fits n s (upto ts p r) ps e h =
    let place : Span = record { start = s.start; past = p } in
    let first : opening place ≡ s = rw (sym e) refl in
    record {
      spells = spelled_add (list ts place) r ∙ list_spelled ts place (spelled_rest r) ∙ ap (λ x. left x ∷ (spelled_all ts ++ (right (closing place) ∷ spelled_rest r))) first ∙ ap (λ x. left s ∷ x) h.spells;
      open_in = levels_add (list ts place) r ∙ omega (arith, h.open_in);
      whole = whole_add (list ts place) r h.whole;
    }

fits : (ps : List Piece) (os : List Span) (n : ℕ) → length os ≡ n → AreWhole ps → fault_from n ps ≡ None → open_from os ps ≡ [] → Fits n ps
fits [] os n l w f c = let z : length os ≡ 0 = ap length c in record { spells = refl; open_in = omega (arith, l, z); whole = tt }
fits (found.word t s ∷ ps) os n l w f c = word_fits n t s ps (fits ps os n l w.1 f c)
fits (bad s ∷ ps) os n l w f c = absurd cc
fits (left s ∷ ps) os n l w f c =
    let d = if_none (n == MOST_OPEN) (kinds.TooDeep, s) (fault_from (n + 1) ps) f in
    let h = fits ps (os ++ s ∷ []) (n + 1) (omega (arith, length-append os (s ∷ []))) w.1 d.1 c in
    let closed = closed_fits n s (rest_from (n + 1) ps) ps w.0 h in
    rw d.0 closed
fits (right s ∷ ps) os n l w f c =
    let d = if_none (n == 0) (kinds.Unopened, s) (fault_from (n - 1) ps) f in
    right_fits n s ps w.0 d.0 (fits ps (take (length os - 1) os) (n - 1) (omega (arith, length-take (length os - 1) os, l)) w.1 d.1 c)

whole_rest : (r : Rest) → levels r ≡ 0 → IsWhole r → (r ≡ last (here r)) × (spelled_rest r ≡ spelled_all (here r))
whole_rest (last ts) e w = (refl, refl)
whole_rest (lost ts) e w = absurd w
whole_rest (upto ts p r) e w = absurd (omega (arith, e))

-- the expressions of a text without a fault are what is to come at its beginning
pub expressions_to_come : (text : List ℕ) → IsBalanced text → AreExpressions text (here (rest_from 0 (pieces text)))
expressions_to_come text h =
    let f = fits (pieces text) [] 0 refl (text_whole text) h.sound h.closed in
    let w = whole_rest (rest_from 0 (pieces text)) f.open_in f.whole in
    record { size = h.size; sound = is_sound (pieces text) h.sound; closed = none_open (pieces text) h.sound h.closed; spelled = sym w.1 ∙ f.spells }

no_length : (os : List Span) → length os ≡ 0 → os ≡ []
no_length [] e = refl
no_length (s ∷ os) e = absurd cc

-- a list that ends is not lost
inside_whole : (s : Span) (r : Rest) → IsWhole (enclose s r) → IsWhole r × (levels r ≡ levels (enclose s r) + 1)
inside_whole s (last ts) w = absurd w
inside_whole s (lost ts) w = absurd w
inside_whole s (upto ts p r) w =
    let t : Tree = list ts (record { start = s.start; past = p }) in (added_whole t r w, omega (arith, levels_add t r))

-- where what is to come has no fault, and ends as many lists as are open, there is none
known : (ps : List Piece) (os : List Span) (n : ℕ) → length os ≡ n → IsWhole (rest_from n ps) → levels (rest_from n ps) ≡ n → (fault_from n ps ≡ None) × (open_from os ps ≡ [])
known [] os n l w e = (refl, no_length os (omega (arith, l, e)))
known (found.word t s ∷ ps) os n l w e = known ps os n l (added_whole (word t s) (rest_from n ps) w) (sym (levels_add (word t s) (rest_from n ps)) ∙ e)
known (bad s ∷ ps) os n l w e = absurd w
known (left s ∷ ps) os n l w e = tell (λ i j. known ps (os ++ s ∷ []) (n + 1) (omega (arith, length-append os (s ∷ []))) i j) (n == MOST_OPEN) refl
  where
    tell : (IsWhole (rest_from (n + 1) ps) → levels (rest_from (n + 1) ps) ≡ n + 1 → (fault_from (n + 1) ps ≡ None) × (open_from (os ++ s ∷ []) ps ≡ []))
        → (b : Bool) → (n == MOST_OPEN) ≡ b → (fault_from n (left s ∷ ps) ≡ None) × (open_from os (left s ∷ ps) ≡ [])
    tell go true d = absurd (rw d at w)
    tell go false d =
        let w' : IsWhole (enclose s (rest_from (n + 1) ps)) = rw d at w in
        let e' : levels (enclose s (rest_from (n + 1) ps)) ≡ n = rw d at e in
        let i = inside_whole s (rest_from (n + 1) ps) w' in
        let h = go i.0 (omega (arith, i.1, e')) in (rw d h.0, h.1)
known (right s ∷ ps) os n l w e = tell (λ i j. known ps (take (length os - 1) os) (n - 1) (omega (arith, length-take (length os - 1) os, l)) i j) (n == 0) refl
  where
    tell : (IsWhole (rest_from (n - 1) ps) → levels (rest_from (n - 1) ps) ≡ n - 1 → (fault_from (n - 1) ps ≡ None) × (open_from (take (length os - 1) os) ps ≡ []))
        → (b : Bool) → (n == 0) ≡ b → (fault_from n (right s ∷ ps) ≡ None) × (open_from os (right s ∷ ps) ≡ [])
    tell go true d = absurd (rw d at w)
    tell go false d =
        let w' : IsWhole (rest_from (n - 1) ps) = rw d at w in
        let e' : 1 + levels (rest_from (n - 1) ps) ≡ n = rw d at e in
        let h = go w' (omega (arith, e')) in (rw d h.0, h.1)

-- what is to come up to the end of a text, from its beginning on, are its expressions
pub whole_text : (text : List ℕ) → length text ≤ MOST_BYTES → rest_from 0 (pieces text) ≡ last (here (rest_from 0 (pieces text))) → AreExpressions text (here (rest_from 0 (pieces text)))
whole_text text size e =
    let w : IsWhole (rest_from 0 (pieces text)) = subst IsWhole (sym e) tt in
    let k = known (pieces text) [] 0 refl w (ap levels e) in
    expressions_to_come text (record { size = size; sound = k.0; closed = k.1 })
