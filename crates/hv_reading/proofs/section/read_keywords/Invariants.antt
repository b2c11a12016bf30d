use Rattle.std.proofs.Common.{◌≡◌, drop, map}
use Rattle.hv_text.specs.Trees.{trees}
use Rattle.hv_reading.specs.inside.Reading.{every, behind}
use Rattle.hv_reading.specs.inside.Sections.{keyword_of}
use Rattle.hv_syntax.specs.Views.{word_view}
use Rattle.hv_reading.proofs.section.read_keywords.Given as goal

abbrev pub invariant-loop-e : goal.invariant-loop-e
invariant-loop-e l = behind (map word_view l.keywords.items) (every keyword_of (trees (drop l.e-index l.es))) ≡ every keyword_of (trees l.es)
