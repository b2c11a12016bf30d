use Rattle.std.proofs.Common.{◌≡◌, true, drop, map, take}
use Rattle.std.specs.List.{list_all}
use Rattle.hv_syntax.specs.Views.{word_view, word_in}
use Rattle.hv_syntax.specs.inside.Places.{has_word}
use Rattle.hv_syntax.proofs.init.by_place.fill_words.Given as goal

abbrev pub invariant-loop-place : goal.invariant-loop-place
invariant-loop-place l = (map word_view l.room.items ≡ map (word_in l.text) (take l.place-index l.places))
    × (list_all (has_word l.text) (drop l.place-index l.places) ≡ true)
