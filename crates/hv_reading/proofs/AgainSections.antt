-- Canonical sections are read one after another.
use Rattle.std.proofs.Common.{◌≡◌, ◌||◌, ℕ, Bool, true, false, List, [], ◌∷◌, ◌++◌, Option, Some, None, Result, Ok, Err, option_map, refl, sym, ap, ◌∙◌, codes, if◌then◌else◌}
use Rattle.std.proofs.lemmas.List.{append-nil, append_assoc}
use Rattle.std.specs.Prelude.{IfSome, IfOk, option_and_then}
use Rattle.hv_text.specs.Trees.{Tree, word, list, Trees, none, more, trees_of, place_of}
use Rattle.hv_text.specs.Words.{nowhere}
use Rattle.hv_text.specs.declared.span.Span.{Span}
use Rattle.hv_reading.specs.declared.word.Sort.TheVariants as sorts
use Rattle.hv_reading.specs.declared.fault.SyntaxKind.{SyntaxKind}
use Rattle.hv_reading.specs.declared.fault.SyntaxKind.TheVariants as kinds
use Rattle.hv_reading.specs.declared.section.Standing.{Standing}
use Rattle.hv_syntax.specs.Values.{WordAt}
use Rattle.hv_reading.specs.Words.{is, is_the_word}
use Rattle.hv_reading.specs.inside.Words.{sorted_word_of}
use Rattle.hv_reading.specs.inside.Reading.{only}
use Rattle.hv_reading.specs.Unsupported.{has_unsupported}
use Rattle.hv_reading.specs.Sections.{headed, is_headed_by, occurs}
use Rattle.hv_reading.specs.inside.Sections.{refused, one_name, title_of, defined_with, define_form, sections_of, judged, section_by, at_place, section_of, ◌>>=◌, sections_from}
use Rattle.hv_reading.specs.Canonical.{word_expression}
use Rattle.hv_reading.specs.CanonicalSections.{unless_empty}
use Rattle.hv_reading.specs.Bare.{bare_word}
use Rattle.hv_reading.proofs.Again.{IsReadAgain, sorted_again}

abbrev pub IsNameAgain : WordAt → Type 0
IsNameAgain w = IsReadAgain (sorted_word_of sorts.Name) word_expression bare_word w

pub if_else : {A : Type 0} (P : A → Type 0) (b : Bool) (o r : Option A) → IfSome o P → IfSome r P → IfSome (if b then o else r) P
if_else P true o r h k = h
if_else P false o r h k = k

name_of_only : (o : Option Tree) → IfSome (option_and_then (sorted_word_of sorts.Name) o) IsNameAgain
name_of_only None = tt
name_of_only (Some t) = sorted_again sorts.Name t

pub one_name_again : (ts : Trees) → IfSome (one_name ts) IsNameAgain
one_name_again ts = name_of_only (only ts)

title_again : (v : List ℕ) (t : Tree) → IfSome (title_of v t) IsNameAgain
title_again v (word w s) = tt
title_again v (list none s) = tt
title_again v (list (more t ts) s) = if_else IsNameAgain (is_the_word v t) (one_name ts) None (one_name_again ts) tt

abbrev IsTitleAgain : WordAt × Trees × Span → Type 0
IsTitleAgain p = IsNameAgain p.0

titled : (ts : Trees) (s : Span) (o : Option WordAt) → IfSome o IsNameAgain → IfSome (option_map (defined_with ts s) o) IsTitleAgain
titled ts s None h = tt
titled ts s (Some n) h = h

define_again : (v : List ℕ) (t : Tree) → IfSome (define_form v t) IsTitleAgain
define_again v (word w s) = tt
define_again v (list none s) = tt
define_again v (list (more d none) s) = tt
define_again v (list (more d (more t ts)) s) =
    if_else IsTitleAgain (is_the_word (codes "define") d) (option_map (defined_with ts s) (title_of v t)) None (titled ts s (title_of v t) (title_again v t)) tt

define_of_only : (v : List ℕ) (o : Option Tree) → IfSome (option_and_then (define_form v) o) IsTitleAgain
define_of_only v None = tt
define_of_only v (Some t) = define_again v t

-- the name of what is defined is read again
pub sections_again : (v : List ℕ) (ts : Trees) → IfSome (sections_of v ts) IsTitleAgain
sections_again v ts = define_of_only v (only ts)

-- what holds of all sections, and is kept when one is added, holds of the whole
module _ {S : Type 0} (standing : List ℕ → Standing) (spelled : List ℕ → Span → Trees → Option S) (P : S → Type 0)
    (good : (w : List ℕ) (s : Span) (ts : Trees) → IfSome (spelled w s ts) P) where
  judged_good : (k : Option SyntaxKind) (odd : Bool) (o : Option S) → IfSome o P → (p : Span) → IfOk (at_place p (judged k odd o)) P
  judged_good (Some kind) odd o h p = tt
  judged_good None odd None h p = tt
  judged_good None odd (Some s) h p = h

  by_good : (before : List Tree) (p : Span) (o : Option (List ℕ × Trees)) → IfOk (at_place p (section_by standing spelled before p o)) P
  by_good before p None = tt
  by_good before p (Some (w, ts)) = judged_good (refused (standing w) (occurs w before)) (has_unsupported w ts) (spelled w p ts) (good w p ts) p

  section_good : (before : List Tree) (t : Tree) → IfOk (section_of standing spelled before t) P
  section_good before t = by_good before (place_of t) (headed t)

  module _ {V : Type 0} (add : V → S → V) (Q : V → Type 0) (kept : (v : V) (s : S) → Q v → P s → Q (add v s)) where
    then_good : (r : Result S (SyntaxKind × Span)) (f : S → Result V (SyntaxKind × Span)) → IfOk r P → ((s : S) → P s → IfOk (f s) Q) → IfOk (r >>= f) Q
    then_good (Ok s) f h k = k s h
    then_good (Err e) f h k = tt

    pub sections_good : (ts : Trees) (v : V) (before : List Tree) → Q v → IfOk (sections_from (section_of standing spelled) add v before ts) Q
    sections_good none v before h = h
    sections_good (more t ts) v before h =
        then_good (section_of standing spelled before t) (λ s. sections_from (section_of standing spelled) add (add v s) (before ++ t ∷ []) ts) (section_good before t)
        (λ s k. sections_good ts (add v s) (before ++ t ∷ []) (kept v s h k))

-- a section of a head that may stand once is read, where none of its head stands before it
pub once_read : {S : Type 0} (r odd : Bool) (o : Option S) (s : S) → r ≡ false → o ≡ Some s → at_place nowhere (judged (if r then Some kinds.RepeatedSection else None) odd o) ≡ Ok s
once_read r odd o s e h = rw (e, h) refl

pub often_read : {S : Type 0} (odd : Bool) (o : Option S) (s : S) → o ≡ Some s → at_place nowhere (judged None odd o) ≡ Ok s
often_read odd o s h = rw h refl

nor_by : (b : Bool) (x y : Bool) → b || x ≡ false → (x ≡ false → y ≡ false) → b || y ≡ false
nor_by true x y h k = h
nor_by false x y h k = k h

-- what does not stand in either does not stand in both
pub nor : (v : List ℕ) (xs ys : List Tree) → occurs v xs ≡ false → occurs v ys ≡ false → occurs v (xs ++ ys) ≡ false
nor v [] ys h k = k
nor v (x ∷ xs) ys h k = nor_by (is_headed_by v x) (occurs v xs) (occurs v (xs ++ ys)) h (λ e. nor v xs ys e k)

pub not_in_other : (v k : List ℕ) (ts : Trees) → is k v ≡ false → occurs v (unless_empty k ts) ≡ false
not_in_other v k none e = refl
not_in_other v k (more t ts) e = rw e refl

module _ {V S : Type 0} (section : List Tree → Tree → Result S (SyntaxKind × Span)) (add : V → S → V) where
  -- behind b, these sections make v to w
  pub record Reads (v : V) (b ts : List Tree) (w : V) : Type 0 where
    pub is : (us : List Tree) → sections_from section add v b (trees_of (ts ++ us)) ≡ sections_from section add w (b ++ ts) (trees_of us)

  pub reads_one : (v : V) (b : List Tree) (t : Tree) (s : S) → section b t ≡ Ok s → Reads v b (t ∷ []) (add v s)
  reads_one v b t s e = record { is = λ us. ap (λ r. r >>= (λ s. sections_from section add (add v s) (b ++ t ∷ []) (trees_of us))) e }

  pub reads_none : (v : V) (b : List Tree) → Reads v b [] v
  reads_none v b = record { is = λ us. ap (λ x. sections_from section add v x (trees_of us)) (sym (append-nil b)) }

  pub reads_both : (v u w : V) (b ts us : List Tree) → Reads v b ts u → Reads u (b ++ ts) us w → Reads v b (ts ++ us) w
  reads_both v u w b ts us f g =
      record { is = λ r. ap (λ x. sections_from section add v b (trees_of x)) (append_assoc ts us r) ∙ f.is (us ++ r) ∙ g.is r ∙ ap (λ x. sections_from section add w x (trees_of r)) (append_assoc b ts us) }

  pub reads_all : (v w : V) (ts : List Tree) → Reads v [] ts w → sections_from section add v [] (trees_of ts) ≡ Ok w
  reads_all v w ts f = ap (λ x. sections_from section add v [] (trees_of x)) (sym (append-nil ts)) ∙ f.is []
