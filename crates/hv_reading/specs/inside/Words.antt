-- How the code reads: what words may be.
use Rattle.std.specs.Prelude.{Option, Some, None, if◌then◌else◌}
use Rattle.hv_text.specs.Trees.{Tree, word, list}
use Rattle.hv_reading.specs.declared.word.Sort.{Sort}
use Rattle.hv_reading.specs.declared.word.Head.{Head}
use Rattle.hv_reading.specs.declared.word.Head.TheVariants as heads
use Rattle.hv_syntax.specs.Values.{WordAt, word_at}
use Rattle.hv_reading.specs.Words.{head_of, is_sort}

-- a word of this sort
abbrev pub sorted_word_of : Sort → Tree → Option WordAt
sorted_word_of sort (word w s) = if is_sort sort w then Some (word_at w s) else None
sorted_word_of sort (list ts s) = None

-- a word, where it is a symbol
abbrev pub symbol_by : Head → WordAt → Option WordAt
symbol_by heads.Symbol w = Some w
symbol_by _ w = None

-- a symbol
abbrev pub symbol_of : Tree → Option WordAt
symbol_of (word w s) = symbol_by (head_of w) (word_at w s)
symbol_of (list ts s) = None
