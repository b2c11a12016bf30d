use Rattle.std.proofs.Common.{◌≡◌, length, take, decimal, map, All}
use Rattle.hv_text.specs.Names.{text_of}
use Rattle.hv_certificate.specs.Forms.{IsId}
use Rattle.hv_certificate.proofs.choice.read_ids.Given as goal

-- the words so far are ids, and these are they
abbrev pub invariant-loop-word : goal.invariant-loop-word
invariant-loop-word l =
    (length l.ids.items ≡ l.word-index)
    × (map text_of (take l.word-index l.words) ≡ map decimal l.ids.items)
    × All IsId l.ids.items
