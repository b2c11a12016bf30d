use Rattle.std.proofs.Common.{◌≡◌, drop, map}
use Rattle.hv_text.specs.Trees.{trees}
use Rattle.hv_reading.specs.inside.Reading.{every, behind}
use Rattle.hv_reading.specs.inside.Formulas.{formula_of}
use Rattle.hv_syntax.specs.Views.{formula_view}
use Rattle.hv_reading.proofs.formula.+formula.Given as goal

-- what has been read, and behind it what the rest spells, is what all spell
abbrev pub invariant-read_formulas-loop-e : goal.invariant-read_formulas-loop-e
invariant-read_formulas-loop-e l = behind (map formula_view l.parts.items) (every formula_of (trees (drop l.e-index l.es))) ≡ every formula_of (trees l.es)
