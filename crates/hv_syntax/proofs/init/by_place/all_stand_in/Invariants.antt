use Rattle.std.proofs.Common.{◌≡◌, drop}
use Rattle.std.specs.List.{list_all}
use Rattle.hv_syntax.specs.inside.Places.{stands_in}
use Rattle.hv_syntax.proofs.init.by_place.all_stand_in.Given as goal

-- what is left decides
abbrev pub invariant-loop-word : goal.invariant-loop-word
invariant-loop-word l = list_all (stands_in l.text) (drop l.word-index l.words) ≡ list_all (stands_in l.text) l.words
