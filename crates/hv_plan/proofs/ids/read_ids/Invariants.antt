use Rattle.std.proofs.Common.{◌≡◌, drop, map, true}
use Rattle.std.specs.List.{list_all}
use Rattle.hv_text.specs.Words.{piece_of}
use Rattle.hv_plan.specs.Forms.{every, id_at, is_id}
use Rattle.hv_plan.specs.inside.Views.{as_ids}
use Rattle.hv_plan.proofs.Lemmas.{ids_read}
use Rattle.hv_plan.proofs.ids.read_ids.Given as goal

-- the ids so far and those of the words that are left decide as all words do
abbrev pub invariant-loop-word : goal.invariant-loop-word
invariant-loop-word l =
    (ids_read l.fits l.ids.items (every id_at (map piece_of (drop l.word-index l.words))) ≡ as_ids (every id_at (map piece_of l.words)))
    × (list_all is_id l.ids.items ≡ true)
