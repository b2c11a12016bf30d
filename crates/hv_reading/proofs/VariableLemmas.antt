-- The names of the type of variables.
use Rattle.std.proofs.Common.{◌≡◌, ◌≤◌, List, [], ◌∷◌, length, refl, arith}
use Rattle.hv_text.specs.Trees.{trees}
use Rattle.hv_text.specs.declared.sexp.Sexp.{Sexp}
use Rattle.hv_reading.specs.declared.word.Sort.TheVariants as sorts
use Rattle.hv_reading.specs.inside.Reading.{every}
use Rattle.hv_reading.specs.inside.Words.{sorted_word_of}
use Rattle.hv_reading.specs.inside.TypedLists.{some_names}

pub they_are_some : (es : List Sexp) → 1 ≤ length es → some_names (trees es) ≡ every (sorted_word_of sorts.Name) (trees es)
they_are_some [] h = absurd (omega arith)
they_are_some (e ∷ es) h = refl
