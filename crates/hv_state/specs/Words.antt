-- Words of bits.
use Rattle.std.specs.Prelude.{ℕ, List, [], ◌∷◌, bit_and, bit_or}
use Rattle.std.specs.Int.{bit_not, w64}

-- the words after deletes and then adds, for lists of one length
abbrev pub next_words : List ℕ → List ℕ → List ℕ → List ℕ
next_words (r ∷ row) (d ∷ deletes) (a ∷ adds) =
    bit_or (bit_and r (bit_not w64 d)) a ∷ next_words row deletes adds
next_words _ _ _ = []
