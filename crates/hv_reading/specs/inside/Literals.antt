-- How the code reads: the grammar of literals.
use Rattle.std.specs.Prelude.{true, false, Option, Some, None, option_map, option_and_then, if◌then◌else◌}
use Rattle.hv_text.specs.Trees.{Tree}
use Rattle.hv_syntax.specs.Values.{Literal, literal}
use Rattle.hv_reading.specs.inside.Terms.{atom_of}
use Rattle.hv_reading.specs.inside.Lists.{negated}
use Rattle.hv_reading.specs.Literals.{are_constants}

-- what stands behind `not`, or the whole where nothing does
abbrev pub literal_by : Option Tree → Tree → Option Literal
literal_by (Some t) e = option_map (literal false) (atom_of t)
literal_by None e = option_map (literal true) (atom_of e)

-- a literal: an atom, or `(not atom)`
abbrev pub literal_of : Tree → Option Literal
literal_of e = literal_by (negated e) e

-- a literal, where its terms are names
abbrev pub if_ground : Literal → Option Literal
if_ground l = if are_constants l.atom.terms then Some l else None

-- a literal whose terms are names
abbrev pub ground_literal_of : Tree → Option Literal
ground_literal_of e = option_and_then if_ground (literal_of e)
