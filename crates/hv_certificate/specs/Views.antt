-- What a certificate says, letter case of names aside.
use Rattle.std.specs.Prelude.{ℕ, List, map}
use Rattle.hv_text.specs.Names.{text_of}
use Rattle.hv_certificate.specs.declared.certificate.Choice.{Choice}
use Rattle.hv_certificate.specs.declared.certificate.Certificate.{Certificate}

-- the children and the objects of a node
pub record ChoiceView : Type 0 where
  pub children : List ℕ
  pub objects : List (List ℕ)

-- the id of a decomposition line, what is chosen for it, and the index of its precondition's state
pub record LineView : Type 0 where
  pub id : ℕ
  pub choice : ChoiceView
  pub index : ℕ

pub record CertificateView : Type 0 where
  pub root : ChoiceView
  pub lines : List LineView

abbrev pub choice_view : Choice → ChoiceView
choice_view c = record { children = c.children.items; objects = map text_of c.objects.items }

abbrev pub line_view : (ℕ × Choice × ℕ) → LineView
line_view l = record { id = l.0; choice = choice_view l.1; index = l.2 }

abbrev pub certificate_view : Certificate → CertificateView
certificate_view c = record { root = choice_view c.root; lines = map line_view c.lines.items }
