-- A section that is not read.
use Rattle.std.proofs.Common.{◌≡◌, ℕ, Bool, true, false, List, Option, Some, None, Err, refl}
use Rattle.hv_text.specs.Trees.{Tree, Trees, place_of}
use Rattle.hv_text.specs.declared.span.Span.{Span}
use Rattle.hv_reading.specs.declared.section.Standing.{Standing}
use Rattle.hv_reading.specs.declared.refusal.Refusal.{Refusal}
use Rattle.hv_reading.specs.declared.refusal.Refusal.TheVariants as refusals
use Rattle.hv_reading.specs.declared.fault.SyntaxFault.{SyntaxFault}
use Rattle.hv_reading.specs.inside.Reading.{Fails}
use Rattle.hv_reading.specs.inside.Faults.{OfExpressions, IsUnread}
use Rattle.hv_reading.specs.Unsupported.{has_unsupported}
use Rattle.hv_reading.specs.Sections.{headed, occurs}
use Rattle.hv_reading.specs.inside.Sections.{refused, unspelled, section_of}

of_unspelled : (odd : Bool) (s : Span) (P : Type 0) → P → OfExpressions (unspelled odd) s P
of_unspelled true s P p = p
of_unspelled false s P p = p

module _ {S : Type 0} (standing : List ℕ → Standing) (spelled : List ℕ → Span → Trees → Option S) (before : List Tree) (t : Tree) (w : List ℕ) (ts : Trees) (s : Span) where
  pub unread_is : (r : Refusal) (f : SyntaxFault) (stands : Standing) → s ≡ place_of t → Some (w, ts) ≡ headed t → stands ≡ standing w → None ≡ refused stands (occurs w before)
      → Fails r (spelled w s ts) → IsUnread r (has_unsupported w ts) s f
      → OfExpressions f.kind f.span (section_of standing spelled before t ≡ Err (f.kind, f.span))
  unread_is refusals.Memory f stands here head same none e u = rw (u.0, u.1) refl
  unread_is refusals.NoSpelling f stands here head same none e u =
      let is : section_of standing spelled before t ≡ Err (unspelled (has_unsupported w ts), s) = rw (← here, ← head, ← same, ← none, e) refl in
      rw (u.0, u.1) (of_unspelled (has_unsupported w ts) s _ is)
