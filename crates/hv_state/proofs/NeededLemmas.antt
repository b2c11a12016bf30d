-- A true formula has the atoms that it needs.
use Rattle.std.proofs.Common.{List, ℕ, []}
use Rattle.std.specs.List.{All}
use Rattle.std.proofs.lemmas.List.Elements.{All-nil, All-cons, All-append}
use Rattle.hv_world.specs.Values.{Atom, Formula, Formulas, holds, and, or, not, imply, forall, exists, equal, no_formulas, more_formulas}
use Rattle.hv_world.specs.Types.{Typing}
use Rattle.hv_world.specs.Bindings.{atom_under}
use Rattle.hv_state.specs.Atoms.{Atoms}
use Rattle.hv_state.specs.Truth.{True, AllTrue}
use Rattle.hv_state.specs.Needed.{needed, needed_alone, of_parts}

module _ (w : Typing) (S : Atoms) (env : List ℕ) where
  abbrev Are : List Atom → Type 0
  Are as' = All (λ a. S (atom_under env a)) as'

  none : Are []
  none = All-nil (λ a. S (atom_under env a))

  alone_true : (f : Formula) → True w S f env → Are (needed_alone f)
  alone_true (holds a) h = All-cons (λ b. S (atom_under env b)) a [] h none
  alone_true (and fs) h = none
  alone_true (or fs) h = none
  alone_true (not f) h = none
  alone_true (imply f g) h = none
  alone_true (forall ts f) h = none
  alone_true (exists ts f) h = none
  alone_true (equal s t) h = none

  parts_true : (fs : Formulas) → AllTrue w S fs env → Are (of_parts needed_alone fs)
  parts_true no_formulas h = none
  parts_true (more_formulas f fs) h = All-append (λ a. S (atom_under env a)) (needed_alone f) (of_parts needed_alone fs) (alone_true f h.0) (parts_true fs h.1)

  pub needed_true : (f : Formula) → True w S f env → Are (needed f)
  needed_true (holds a) h = alone_true (holds a) h
  needed_true (and fs) h = parts_true fs h
  needed_true (or fs) h = none
  needed_true (not f) h = none
  needed_true (imply f g) h = none
  needed_true (forall ts f) h = none
  needed_true (exists ts f) h = none
  needed_true (equal s t) h = none
