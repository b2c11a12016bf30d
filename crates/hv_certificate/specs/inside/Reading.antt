-- What each function reads, and where it reads nothing.
use Rattle.std.specs.Prelude.{◌≡◌, ◌<◌, ◌+◌, ◌*◌, ℕ, List, [], ◌∷◌, ◌++◌, Option, None, Some, codes, decimal, map, All}
use Rattle.std.specs.Char.{digit_value}
use Rattle.std.specs.Str.Parse.{AllDigits, digits_value}
use Rattle.hv_text.specs.Names.{text_of}
use Rattle.hv_certificate.specs.Texts.{root_text, node_text, nodes_text}
use Rattle.hv_certificate.specs.Forms.{IsId, IsIndex, HasIds, IsLine, lines, IsFirstOff}
use Rattle.hv_certificate.specs.inside.Words.{IsWord, AreWords, line_text, choice_words}
use Rattle.hv_certificate.specs.declared.certificate.Choice.{Choice}
use Rattle.hv_certificate.specs.declared.fault.CertFault.{CertFault}
use Rattle.hv_certificate.specs.declared.fault.CertFault.TheVariants as faults
use Rattle.hv_certificate.specs.declared.words.LineWords.{LineWords}

-- a word is no number
abbrev pub IsNoNumber : List ℕ → Type 0
IsNoNumber w = (n : ℕ) → IsId n → w ≡ decimal n → ⊥

-- digits, leading zeros allowed, and what they stand for
abbrev pub IsValueOf : List ℕ → ℕ → Type 0
IsValueOf ds n = AllDigits 10 ds × (n ≡ digits_value 10 ds)

-- a byte is no digit that may stand behind a number
abbrev pub IsNoDigit : ℕ → ℕ → Type 0
IsNoDigit n b = digit_value b < 10 → IsId (n * 10 + digit_value b) → ⊥

-- the first of words is no number, where there is one
abbrev pub IsNoNumberAt : List (List ℕ) → Type 0
IsNoNumberAt [] = Unit {0}
IsNoNumberAt (w ∷ ws) = IsNoNumber w

-- words do not end with an index
abbrev pub IsNoIndex : List (List ℕ) → Type 0
IsNoIndex ws =
    (vs : List (List ℕ)) (n : ℕ) → IsIndex n → ws ≡ vs ++ codes "pre" ∷ decimal n ∷ [] → ⊥

-- the choice that words are
abbrev pub IsChoiceRead : List (List ℕ) → Option Choice → Type 0
IsChoiceRead ws (Some c) = HasIds c × (ws ≡ choice_words c)
IsChoiceRead ws None = (c : Choice) → HasIds c → ws ≡ choice_words c → ⊥

-- the line at the front
abbrev pub IsLineRead : List ℕ → Option LineWords → Type 0
IsLineRead left (Some l) =
    left ≡ line_text (text_of l.first) (map text_of l.words.now) ++ l.behind.now
IsLineRead left None =
    (w : List ℕ) (ws : List (List ℕ)) (rest : List ℕ) → IsWord w → AreWords ws
    → left ≡ line_text w ws ++ rest → ⊥

-- no line of a form stands at the front
abbrev pub NoFirst : List ℕ → Type 0
NoFirst left = (rest : List ℕ) → left ≡ codes "solves\n" ++ rest → ⊥

abbrev pub NoRoot : List ℕ → Type 0
NoRoot left = (c : Choice) (rest : List ℕ) → HasIds c → left ≡ root_text c ++ rest → ⊥

abbrev pub NoNode : List ℕ → Type 0
NoNode left =
    (e : ℕ × Choice × ℕ) (rest : List ℕ) → IsLine e → left ≡ node_text e ++ rest → ⊥

-- the lines that are read from the third line of a text on
pub record IsRead (left : List ℕ) (ls : List (ℕ × Choice × ℕ)) : Type 0 where
  pub numbers : All IsLine ls
  pub spelled : left ≡ nodes_text ls

-- the fault from the third line of a text on
abbrev pub IsOff : List ℕ → CertFault → Type 0
IsOff left faults.TooLong = ⊥
IsOff left (faults.BadCertificate n) = IsFirstOff 2 (lines left) n
IsOff left faults.Memory = Unit {0}
