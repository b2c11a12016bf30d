-- Texts that grow part by part.
use Rattle.std.proofs.Common.{◌≡◌, ◌++◌, ◌+◌, ◌<◌, ◌≤◌, ℕ, List, [], ◌∷◌, length, map, drop, get_or, refl, codes, ap, sym, ◌∙◌, arith}
use Rattle.std.proofs.lemmas.List.{append-nil, append_assoc, drop_more}
use Rattle.hv_text.specs.Trees.{Tree, none, more}
use Rattle.hv_syntax.specs.declared.word.Placed.{Placed}
use Rattle.hv_syntax.specs.declared.formula.FormulaText.{FormulaText}
use Rattle.hv_syntax.specs.declared.effect.ItemText.{ItemText}
use Rattle.hv_syntax.specs.Values.{formulas_of, effect}
use Rattle.hv_reading.specs.inside.Formulas.{and_all}
use Rattle.hv_syntax.specs.Views.{word_view, constant_view, formula_view, item_view}
use Rattle.hv_reading.specs.Canonical.{text, spaced, each, conjunction, conjunction_or_one, word_expression, term_expression, formula_expression, formula_expressions, item_expressions, with_members}
use Rattle.hv_reading.specs.CanonicalSections.{lines, unless_empty, section_of_each}

-- a text o that has grown by a to p
pub record Grown (o a p : List ℕ) : Type 0 where
  pub is : p ≡ o ++ a

-- it has grown by one part, and then by others
pub step : (a : List ℕ) {o p r q : List ℕ} → p ≡ o ++ a → Grown p r q → Grown o (a ++ r) q
step a {o} {p} {r} {q} e g = record { is = g.is ∙ ap (λ x. x ++ r) e ∙ append_assoc o a r }

-- by a part that is the text of what is seen as y
pub step_seen : {A : Type 0} (f : A → List ℕ) {x y : A} {o p r q : List ℕ} → x ≡ y → p ≡ o ++ f x → Grown p r q → Grown o (f y ++ r) q
step_seen f {x} {y} {o} {p} {r} {q} v e g = step (f y) (e ∙ ap (λ z. o ++ f z) v) g

-- by a last part
pub end : {o a p : List ℕ} → p ≡ o ++ a → Grown o a p
end e = record { is = e }

pub end_seen : {A : Type 0} (f : A → List ℕ) {x y : A} {o p : List ℕ} → x ≡ y → p ≡ o ++ f x → Grown o (f y) p
end_seen f {x} {y} {o} {p} v e = record { is = e ∙ ap (λ z. o ++ f z) v }

-- by nothing more
pub padded : {o a p : List ℕ} → Grown o a p → Grown o (a ++ []) p
padded {o} {a} {p} g = record { is = g.is ∙ ap (λ x. o ++ x) (sym (append-nil a)) }

-- by some parts together, and then one more
pub closed : (r : List ℕ) {o a p q : List ℕ} → Grown o a p → q ≡ p ++ r → Grown o (a ++ r) q
closed r {o} {a} {p} {q} g e = step a g.is (end e)

pub grown : (o : List ℕ) {a p : List ℕ} → Grown o a p → p ≡ o ++ a
grown o g = g.is

pub lines_append : (ts us : List Tree) → lines (ts ++ us) ≡ lines ts ++ lines us
lines_append [] us = refl
lines_append (t ∷ ts) us = ap (λ x. text t ++ 10 ∷ x) (lines_append ts us) ∙ sym (append_assoc (text t) (10 ∷ lines ts) (lines us))

-- a text o that has grown by the lines of these sections to p
pub record GrownBy (o : List ℕ) (ts : List Tree) (p : List ℕ) : Type 0 where
  pub is : p ≡ o ++ lines ts

pub sections : {A : Type 0} (f : A → List Tree) {x y : A} {o p : List ℕ} → x ≡ y → p ≡ o ++ lines (f x) → GrownBy o (f y) p
sections f {x} {y} {o} {p} v e = record { is = e ∙ ap (λ z. o ++ lines (f z)) v }

-- and by more sections
pub and_sections : {A : Type 0} (f : A → List Tree) {x y : A} {o p q : List ℕ} {ts : List Tree} → GrownBy o ts p → x ≡ y → q ≡ p ++ lines (f x) → GrownBy o (ts ++ f y) q
and_sections f {x} {y} {o} {p} {q} {ts} g v e =
    record { is = e ∙ ap (λ z. z ++ lines (f x)) g.is ∙ append_assoc o (lines ts) (lines (f x)) ∙ ap (λ z. o ++ (lines ts ++ lines (f z))) v ∙ ap (λ z. o ++ z) (sym (lines_append ts (f y))) }

-- a title x, and the sections behind it, in their frame
pub framed : {o x p q r s : List ℕ} {ts : List Tree} → Grown o x p → q ≡ p ++ 41 ∷ 10 ∷ [] → GrownBy q ts r → s ≡ r ++ 41 ∷ 10 ∷ [] → Grown o (x ++ 41 ∷ [] ++ 10 ∷ lines ts ++ 41 ∷ 10 ∷ []) s
framed {o} {x} {p} {q} {r} {s} {ts} g e h k =
    let parts : x ++ 41 ∷ [] ++ 10 ∷ lines ts ++ 41 ∷ 10 ∷ [] ≡ x ++ (41 ∷ 10 ∷ [] ++ (lines ts ++ 41 ∷ 10 ∷ [])) =
    append_assoc (x ++ 41 ∷ []) (10 ∷ lines ts) (41 ∷ 10 ∷ []) ∙ append_assoc x (41 ∷ []) (10 ∷ (lines ts ++ 41 ∷ 10 ∷ [])) in
    let all : Grown o (x ++ (41 ∷ 10 ∷ [] ++ (lines ts ++ 41 ∷ 10 ∷ []))) s = step x g.is (step (41 ∷ 10 ∷ []) e (step (lines ts) h.is (end k))) in
    record { is = all.is ∙ ap (λ y. o ++ y) (sym parts) }

-- one more section on a line
pub put_line : {A B : Type 0} (f : A → Tree) (view : B → A) (xs : List B) (i : ℕ) (x : B) (o start : List ℕ) {p q : List ℕ} → i < length xs → x ≡ get_or xs i x
    → p ≡ o ++ text (f (view x)) → q ≡ p ++ 10 ∷ [] → o ++ lines (section_of_each f (map view (drop i xs))) ≡ start
    → q ++ lines (section_of_each f (map view (drop (i + 1) xs))) ≡ start
put_line f view xs i x o start {p} {q} lt is e g so_far =
    let rest : List ℕ = lines (section_of_each f (map view (drop (i + 1) xs))) in
    let here : drop i xs ≡ x ∷ drop (i + 1) xs = drop_more xs i x lt ∙ ap (λ y. y ∷ drop (i + 1) xs) (sym is) in
    let all : Grown o (text (f (view x)) ++ (10 ∷ [] ++ rest)) (q ++ rest) = step (text (f (view x))) e (step (10 ∷ []) g (end refl)) in
    all.is ∙ sym (ap (λ ys. o ++ lines (section_of_each f (map view ys))) here) ∙ so_far

-- the field of members, where there are some
pub field_of_some : {A B : Type 0} (k : List ℕ) (f : A → Tree) (view : B → A) (xs : List B) → 1 ≤ length xs
    → (32 ∷ k) ++ ((32 ∷ text (conjunction (each f (map view xs)))) ++ []) ≡ spaced (with_members k (each f (map view xs)) none)
field_of_some k f view [] some = absurd (omega arith)
field_of_some k f view (x ∷ xs) some = refl

-- the section of members, where there are some
pub section_of_some : {A B : Type 0} (k : List ℕ) (f : A → Tree) (view : B → A) (xs : List B) → 1 ≤ length xs
    → 40 ∷ (k ++ (spaced (each f (map view xs)) ++ 41 ∷ 10 ∷ [])) ≡ lines (unless_empty k (each f (map view xs)))
section_of_some k f view [] some = absurd (omega arith)
section_of_some k f view (x ∷ xs) some =
    let members : List ℕ = spaced (each f (map view (x ∷ xs))) in
    ap (λ y. 40 ∷ y) (sym (append_assoc (k ++ members) (41 ∷ []) (10 ∷ []) ∙ append_assoc k members (41 ∷ 10 ∷ [])))

-- the text of a conjunction of some formulas
pub conjunction_of_some : (xs : List FormulaText) → 1 ≤ length xs
    → codes "(and" ++ (spaced (formula_expressions (formulas_of (map formula_view xs))) ++ 41 ∷ []) ≡ text (formula_expression (and_all (map formula_view xs)))
conjunction_of_some [] some = absurd (omega arith)
conjunction_of_some (x ∷ xs) some = refl

-- the text of a conjunction of some items, and where one of them stands alone
pub conjunction_of_items : (xs : List ItemText) → 1 ≤ length xs
    → codes "(and" ++ (spaced (item_expressions (effect (map item_view xs))) ++ 41 ∷ []) ≡ text (conjunction (item_expressions (effect (map item_view xs))))
conjunction_of_items [] some = absurd (omega arith)
conjunction_of_items (x ∷ xs) some = refl

pub conjunction_of_several : (xs : List ItemText) → 2 ≤ length xs
    → codes "(and" ++ (spaced (item_expressions (effect (map item_view xs))) ++ 41 ∷ []) ≡ text (conjunction_or_one (item_expressions (effect (map item_view xs))))
conjunction_of_several [] some = absurd (omega arith)
conjunction_of_several (x ∷ []) some = absurd (omega arith)
conjunction_of_several (x ∷ y ∷ xs) some = refl

-- words as terms are written as words
pub names_as_terms : (ws : List Placed) → each word_expression (map word_view ws) ≡ each term_expression (map constant_view ws)
names_as_terms [] = refl
names_as_terms (w ∷ ws) = ap (more (word_expression (word_view w))) (names_as_terms ws)
