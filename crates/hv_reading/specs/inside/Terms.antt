-- How the code reads: the grammar of terms, atoms and tasks.
use Rattle.std.specs.Prelude.{Option, Some, None}
use Rattle.hv_text.specs.Trees.{Tree, word, list, none, more}
use Rattle.hv_reading.specs.declared.word.Sort.{Sort}
use Rattle.hv_reading.specs.declared.word.Sort.TheVariants as sorts
use Rattle.hv_reading.specs.Words.{sort_of}
use Rattle.hv_reading.specs.inside.Words.{symbol_of}
use Rattle.hv_reading.specs.inside.Reading.{both, every}
use Rattle.hv_syntax.specs.Values.{WordAt, word_at, Term, constant, variable, Atom, atom_with}

-- a term by the sort of its word
abbrev pub term_by : Sort → WordAt → Option Term
term_by sorts.Name w = Some (constant w)
term_by sorts.Variable w = Some (variable w)
term_by sorts.Keyword w = None
term_by sorts.Mark w = None

-- a term: a name or a variable
abbrev pub term_of : Tree → Option Term
term_of (word w s) = term_by (sort_of w) (word_at w s)
term_of (list ts s) = None

-- an atom, or a task: `(symbol term*)`
abbrev pub atom_of : Tree → Option Atom
atom_of (word w s) = None
atom_of (list none s) = None
atom_of (list (more t ts) s) = both atom_with (symbol_of t) (every term_of ts)
