use Rattle.std.proofs.Common.{◌≡◌, Some, map, slice_get, sym, refl, subst, ◌∙◌}
use Rattle.std.specs.Cmp.Lexicographic.{bytes_decides}
use Rattle.hv_lists.proofs.Places.{slice_get_here, map_some}
use Rattle.hv_text.specs.Bytes.{lower}
use Rattle.hv_text.specs.Names.{text_of}
use Rattle.hv_world.specs.Names.{place_in}
use Rattle.hv_world.proofs.NameLemmas.{place_of_key}
use Rattle.hv_world.proofs.names.is_written_at.Goals as goal

pub returns-in-Some : goal.returns-in-Some
returns-in-Some c = λ on.
    let keys = c.args.names.now.keys in
    let other = c.in-Some.other.now in
    let here = slice_get_here c.as_slice.result.now c.args.place other (c.in-Some.ensures.lookup.3).0 c.in-Some.ensures.lookup.1 in
    let there = subst (λ ks. slice_get ks c.args.place ≡ Some other) c.as_slice.ensures.keys here in
    let alike = (bytes_decides c.written.result.now c.written-in-Some.result.now).0 (sym c.eq.ensures ∙ on) in
    let bytes = sym c.written.ensures ∙ alike ∙ c.written-in-Some.ensures in
    let same = subst (λ bs. text_of other ≡ lower bs) bytes refl in
    subst (λ n. place_in (map text_of keys) n ≡ Some c.args.place) same
    (place_of_key keys c.args.place (text_of other) c.as_slice.ensures.unique (map_some text_of keys c.args.place other there))
