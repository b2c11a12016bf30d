use Rattle.std.proofs.Common.{◌≡◌, drop, map}
use Rattle.hv_text.specs.Trees.{trees}
use Rattle.hv_reading.specs.inside.Reading.{every, behind}
use Rattle.hv_reading.specs.inside.Effects.{item_of}
use Rattle.hv_syntax.specs.Views.{item_view}
use Rattle.hv_reading.proofs.effect.+effect.Given as goal

-- what has been read, and behind it what the rest spells, is what all spell
abbrev pub invariant-read_items-loop-e : goal.invariant-read_items-loop-e
invariant-read_items-loop-e l = behind (map item_view l.items.items) (every item_of (trees (drop l.e-index l.es))) ≡ every item_of (trees l.es)
