use Rattle.std.proofs.Common.{◌≡◌, ◌++◌, length, false, map}
use Rattle.hv_text.specs.Names.{text_of}
use Rattle.hv_certificate.specs.inside.Words.{begins, words_text}
use Rattle.hv_certificate.proofs.words.read_words.Given as goal

-- the words so far, and what is left, are the whole; no word goes on there
abbrev pub invariant-words : goal.invariant-words
invariant-words l =
    (l.fn.left ≡ words_text (map text_of l.words.items) ++ l.rest) × (begins l.rest ≡ false)

abbrev pub decreases-words : goal.decreases-words
decreases-words l = length l.rest
