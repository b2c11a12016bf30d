use Rattle.std.proofs.Common.{◌≡◌, ◌≤◌, ◌++◌, ◌∷◌, [], true, false, nat_le, map, length, refl, sym, subst, ap, arith, le-leb, ◌∙◌}
use Rattle.std.specs.List.{slice_index}
use Rattle.std.proofs.lemmas.List.{length-map}
use Rattle.hv_lists.proofs.Bools.{if_true}
use Rattle.hv_world.specs.Bindings.{ground_atom, object_of, atom_under}
use Rattle.hv_world.specs.Views.{term_view, atom_view}
use Rattle.hv_state.specs.Atoms.{atom_read, IsPassedOver}
use Rattle.hv_state.specs.Ever.{ever_rows, is_listed}
use Rattle.hv_match.specs.Possible.{is_possible}
use Rattle.hv_match.proofs.SkipLemmas.{never_with, numbers_written}
use Rattle.hv_match.proofs.puzzle.Puzzle.next_object.Goals as goal

pub returns : goal.returns
returns c o le lt B g is =
    let found = c.in-Some-Variable-default in
    let before = found.before.now in
    let into = c.write_known.new.into in
    let rows = ever_rows c.args.ever in
    let a = atom_view c.args.atom.now in
    let predicate = c.args.atom.now.predicate.0 in
    let known : map (object_of B) (map term_view before) ≡ into = c.if-not-write_known.ensures refl B g in
    let size : length into ≡ length before = sym (ap length known) ∙ length-map (map term_view before) (object_of B) ∙ length-map before term_view in
    let read : atom_read c.of_numbers.result ≡ ground_atom predicate (into ++ c.args.from ∷ []) = c.of_numbers.ensures ∙ ap (ground_atom predicate) (numbers_written into (length before) c.args.from size c.if-count-ge-MOST_TERMS.false) in
    let passed : IsPassedOver (λ h. is_listed rows h ≡ true) (ground_atom predicate (into ++ c.args.from ∷ [])) c.next_possible.result = subst (λ h. IsPassedOver (λ k. is_listed rows k ≡ true) h c.next_possible.result) read c.next_possible.ensures in
    let split = sym c.deref.ensures ∙ found.ensures.cases.0 in
    let last : object_of B (term_view found.field-0-0.now) ≡ o = ap (λ t. object_of B (term_view t)) found.field-0-0-is ∙ ap (slice_index B) c.if-last-parameter.false ∙ is in
    let never : is_listed rows (atom_under B a) ≡ false = never_with rows predicate c.args.atom.now.terms.items before found.field-0-0.now into c.args.from o c.next_possible.result B split c.if-count-ge-MOST_TERMS.false known last passed le lt in
    let many : length a.terms ≤ 3 = omega (arith, c.if-count-ge-MOST_TERMS.false, found.ensures.cases.1, ap length c.deref.ensures, length-map c.args.atom.now.terms.items term_view) in
    subst (λ ever. is_possible ever B a ≡ false) (sym c.requires) (if_true (nat_le (length a.terms) 3) (is_listed rows (atom_under B a)) true (le-leb _ _ many) ∙ never)
