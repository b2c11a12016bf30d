-- The forms of the lines of a certificate's text, and the first line that is not of its form.
use Rattle.std.specs.Prelude.{◌≡◌, ◌==◌, ◌+◌, ◌^◌, ◌<◌, ◌≤◌, ℕ, zero, suc, List, [], ◌∷◌, length, codes, All, if◌then◌else◌}
use Rattle.hv_text.specs.declared.fault.TheConstants.{MOST_BYTES}
use Rattle.hv_certificate.specs.Texts.{root_text, node_text, cert_text}
use Rattle.hv_certificate.specs.declared.certificate.Choice.{Choice}
use Rattle.hv_certificate.specs.declared.certificate.Certificate.{Certificate}
use Rattle.hv_certificate.specs.declared.fault.CertFault.{CertFault}
use Rattle.hv_certificate.specs.declared.fault.CertFault.TheVariants as faults

-- an id has at most 64 bits, and the index of a state at most 32
abbrev pub IsId : ℕ → Type 0
IsId n = n < 2 ^ 64

abbrev pub IsIndex : ℕ → Type 0
IsIndex n = n < 2 ^ 32

-- so have all of a choice, of a line and of a certificate
abbrev pub HasIds : Choice → Type 0
HasIds c = All IsId c.children.items

abbrev pub IsLine : (ℕ × Choice × ℕ) → Type 0
IsLine l = IsId l.0 × HasIds l.1 × IsIndex l.2

abbrev pub HasNumbers : Certificate → Type 0
HasNumbers c = HasIds c.root × All IsLine c.lines.items

-- a byte at the front of the first line
abbrev pub with_byte : ℕ → List (List ℕ) → List (List ℕ)
with_byte b [] = (b ∷ []) ∷ []
with_byte b (l ∷ ls) = (b ∷ l) ∷ ls

-- the lines of a text, each with the byte 10 that ends it; the last may have none
abbrev pub lines : List ℕ → List (List ℕ)
lines [] = []
lines (b ∷ bs) = if b == 10 then (b ∷ []) ∷ lines bs else with_byte b (lines bs)

-- a line before which so many stand is of its form: it is `solves`, the line of `root`, or that of
-- a decomposition line
abbrev pub IsOfForm : ℕ → List ℕ → Type 0
IsOfForm zero l = l ≡ codes "solves\n"
IsOfForm (suc zero) l = (c : Choice) × HasIds c × (l ≡ root_text c)
IsOfForm (suc (suc n)) l = (e : ℕ × Choice × ℕ) × IsLine e × (l ≡ node_text e)

-- The number of the first line that is not of its form, among lines before which so many stand:
--     missing    the text ends before its line 1 or 2
--     off        the next line is not of its form
--     later      it is, and one behind it is the first that is not
pub data IsFirstOff : ℕ → List (List ℕ) → ℕ → Type 0 where
  missing : (n : ℕ) → n < 2 → IsFirstOff n [] (n + 1)
  off : (n : ℕ) (l : List ℕ) (ls : List (List ℕ)) → (IsOfForm n l → ⊥)
      → IsFirstOff n (l ∷ ls) (n + 1)
  later : (n k : ℕ) (l : List ℕ) (ls : List (List ℕ)) → IsOfForm n l → IsFirstOff (n + 1) ls k
      → IsFirstOff n (l ∷ ls) k

-- the text is that of a certificate, within the size limit
pub record IsCertText (text : List ℕ) (c : Certificate) : Type 0 where
  pub size : length text ≤ MOST_BYTES
  pub numbers : HasNumbers c
  pub spelled : text ≡ cert_text c

-- why a text is no certificate's; that memory ran out says nothing of the text
abbrev pub IsCertFault : List ℕ → CertFault → Type 0
IsCertFault text faults.TooLong = MOST_BYTES < length text
IsCertFault text (faults.BadCertificate n) =
    (length text ≤ MOST_BYTES) × IsFirstOff 0 (lines text) n
IsCertFault text faults.Memory = length text ≤ MOST_BYTES
