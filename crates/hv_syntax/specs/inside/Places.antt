-- What is asked of words and places before they are kept by place alone.
use Rattle.std.specs.Prelude.{◌&&◌, ℕ, Bool, List}
use Rattle.std.specs.List.{list_all}
use Rattle.std.specs.Str.{bytes_eq}
use Rattle.hv_text.specs.Bytes.{is_word, bytes_at}
use Rattle.hv_text.specs.Names.{bytes_of}
use Rattle.hv_text.specs.declared.span.Span.{Span}
use Rattle.hv_syntax.specs.declared.word.Placed.{Placed}
use Rattle.hv_syntax.specs.declared.init.by_place.PlacedHead.{PlacedHead}

-- whether a text has a word at a place
abbrev pub has_word : List ℕ → Span → Bool
has_word text s = is_word (bytes_at text s)

-- whether it has words at all places of a literal
abbrev pub have_words : List ℕ → PlacedHead × List Span → Bool
have_words text (h, ss) = has_word text h.symbol && list_all (has_word text) ss

-- whether it has this word at its place
abbrev pub stands_in : List ℕ → Placed → Bool
stands_in text w = bytes_eq (bytes_of w.name) (bytes_at text w.span)
