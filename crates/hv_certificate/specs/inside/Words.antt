-- A line as words.
use Rattle.std.specs.Prelude.{◌≡◌, ◌==◌, ◌&&◌, ℕ, Bool, true, false, not, List, [], ◌∷◌, ◌++◌, codes, decimal, map, nat_le}
use Rattle.std.specs.List.{flat_map, list_all}
use Rattle.hv_text.specs.Names.{text_of}
use Rattle.hv_text.specs.Bytes.{is_word_byte}
use Rattle.hv_certificate.specs.declared.certificate.Choice.{Choice}

-- a byte of a name in lower case
abbrev pub is_name_byte : ℕ → Bool
is_name_byte b = is_word_byte b && not (nat_le 65 b && nat_le b 90)

-- whether such a byte comes first
abbrev pub begins : List ℕ → Bool
begins [] = false
begins (b ∷ bs) = is_name_byte b

-- whether a space comes first, and such a byte behind it
abbrev pub goes_on : List ℕ → Bool
goes_on [] = false
goes_on (b ∷ bs) = b == 32 && begins bs

-- a name in lower case
pub record IsWord (w : List ℕ) : Type 0 where
  pub some : begins w ≡ true
  pub letters : list_all is_name_byte w ≡ true

abbrev pub AreWords : List (List ℕ) → Type 0
AreWords [] = Unit {0}
AreWords (w ∷ ws) = IsWord w × AreWords ws

-- words, each behind a space
abbrev pub words_text : List (List ℕ) → List ℕ
words_text ws = flat_map (λ w. codes " " ++ w) ws

-- a line of a word and these behind it
abbrev pub line_text : List ℕ → List (List ℕ) → List ℕ
line_text w ws = w ++ (words_text ws ++ codes "\n")

-- the words of a choice, and of a decomposition line behind its id
abbrev pub choice_words : Choice → List (List ℕ)
choice_words c =
    codes "children" ∷ map decimal c.children.items
    ++ codes "objects" ∷ map text_of c.objects.items

abbrev pub node_words : (ℕ × Choice × ℕ) → List (List ℕ)
node_words l = choice_words l.1 ++ codes "pre" ∷ decimal l.2 ∷ []
