-- One expression of a typed list.
use Rattle.std.proofs.Common.{◌≡◌, ◌==◌, map, ℕ, ◌+◌, ◌<◌, Bool, true, false, List, [], ◌∷◌, ◌++◌, length, drop, get_or, Option, Some, None, refl, sym, ap, ◌∙◌, codes}
use Rattle.std.proofs.lemmas.List.{append_assoc}
use Rattle.hv_text.specs.Names.{text_of}
use Rattle.hv_text.specs.Trees.{Tree, word, Trees, more, tree, trees}
use Rattle.hv_text.specs.declared.name.Name.{Name}
use Rattle.hv_text.specs.declared.span.Span.{Span}
use Rattle.hv_text.specs.declared.sexp.Sexp.{Sexp, Word}
use Rattle.hv_reading.specs.declared.word.Sort.{Sort}
use Rattle.hv_reading.specs.declared.word.Sort.TheVariants as sorts
use Rattle.hv_syntax.specs.declared.word.Placed.{Placed}
use Rattle.hv_reading.specs.Words.{is, is_sort}
use Rattle.hv_reading.specs.inside.Reading.{both, behind}
use Rattle.hv_syntax.specs.Values.{WordAt, word_at, of_type, TypedBy}
use Rattle.hv_reading.specs.TypedLists.{with_type}
use Rattle.hv_reading.specs.inside.TypedLists.{with_rest, typed_by, type_name_of, is_empty}
use Rattle.hv_syntax.specs.Views.{word_view}
use Rattle.hv_reading.proofs.Lists.{tree-Word, member_at}

pub some_wait : (xs : List Placed) → false ≡ (length xs == 0) → is_empty (map word_view xs) ≡ false
some_wait [] h = cc
some_wait (x ∷ xs) h = refl

pub here_is : (es : List Sexp) (i : ℕ) (e : Sexp) (n : Name) (s : Span) → i < length es → e ≡ get_or es i e → e ≡ Word n s
    → trees (drop i es) ≡ more (word (text_of n) s) (trees (drop (i + 1) es))
here_is es i e n s lt is word_is = member_at es i e lt is ∙ ap (λ t. more t (trees (drop (i + 1) es))) (ap tree word_is ∙ tree-Word n s)

module _ {T : Type 0} (read : Tree → Option T) (not_written : T) (sort : Sort) where
  -- the type of words that wait, and the rest
  behind_rest : (f : List (TypedBy T)) (v : List WordAt) (n : T) (r : Option (List (TypedBy T))) → behind f (both (with_rest v) (Some n) r) ≡ behind (f ++ with_type n v) r
  behind_rest f v n None = refl
  behind_rest f v n (Some xs) = ap Some (sym (append_assoc f (with_type n v) xs))

  module _ (f f' : List (TypedBy T)) (v v' : List WordAt) (b b' : Bool) (ts : Trees) (all : Option (List (TypedBy T))) where
    pub after_type : (t : Tree) (n : T) → b ≡ true → read t ≡ Some n → f' ≡ f ++ with_type n v → v' ≡ [] → b' ≡ false
        → behind f (typed_by read not_written sort b v (more t ts)) ≡ all → behind f' (typed_by read not_written sort b' v' ts) ≡ all
    after_type t n on named grown emptied off so_far =
        let here : behind f (typed_by read not_written sort b v (more t ts)) ≡ behind f (both (with_rest v) (Some n) (typed_by read not_written sort false [] ts)) = rw (on, named) refl in
        rw (grown, emptied, off) (sym (behind_rest f v n (typed_by read not_written sort false [] ts)) ∙ sym here ∙ so_far)

    pub after_dash : (w : List ℕ) (s : Span) → b ≡ false → is w (codes "-") ≡ true → is_empty v ≡ false → f' ≡ f → v' ≡ v → b' ≡ true
        → behind f (typed_by read not_written sort b v (more (word w s) ts)) ≡ all → behind f' (typed_by read not_written sort b' v' ts) ≡ all
    after_dash w s off dash some same kept on so_far =
        let here : behind f (typed_by read not_written sort b v (more (word w s) ts)) ≡ behind f (typed_by read not_written sort true v ts) = rw (off, dash, some) refl in
        rw (same, kept, on) (sym here ∙ so_far)

    pub after_name : (w : List ℕ) (s : Span) → b ≡ false → is w (codes "-") ≡ false → is_sort sort w ≡ true → f' ≡ f → v' ≡ v ++ word_at w s ∷ [] → b' ≡ false
        → behind f (typed_by read not_written sort b v (more (word w s) ts)) ≡ all → behind f' (typed_by read not_written sort b' v' ts) ≡ all
    after_name w s off other named same grown still so_far =
        let here : behind f (typed_by read not_written sort b v (more (word w s) ts)) ≡ behind f (typed_by read not_written sort false (v ++ word_at w s ∷ []) ts) = rw (off, other, named) refl in
        rw (same, grown, still) (sym here ∙ so_far)

-- a name is a type of names
pub name_read : (w : List ℕ) (s : Span) → is_sort sorts.Name w ≡ true → type_name_of (word w s) ≡ Some (of_type (word_at w s))
name_read w s h = rw h refl
