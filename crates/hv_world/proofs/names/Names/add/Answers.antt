use Rattle.std.proofs.Common.{◌≡◌, Some, None, sym, ap, ◌∙◌, bytes_eq}
use Rattle.std.specs.Option.{is_some}
use Rattle.std.proofs.Math.Path.{fun_ext}
use Rattle.indexmap.specs.IndexMap.{insert_entry}
use Rattle.hv_text.specs.Names.{text_of}
use Rattle.hv_world.specs.inside.Tables.{place_beside, places_by}
use Rattle.hv_world.proofs.NameLemmas.{beside_is, place-insert, place-kept, place-back}
use Rattle.hv_world.proofs.names.Names.add.Goals as goal

pub returns-in_ok-insert-in-Some-clause-places : goal.returns-in_ok-insert-in-Some-clause-places
returns-in_ok-insert-in-Some-clause-places c =
    let entries = c.args.self.now.places.entries in
    let name = text_of c.args.name in
    let had : place_beside entries name ≡ Some c.in-Some.first =
    sym (beside_is entries name) ∙ sym c.in_ok-index.ensures.old ∙ c.in-Some.is in
    ap (λ es q. place_beside es q)
    (c.in_ok-insert-in-Some.ensures.entries ∙ ap (λ es. insert_entry (λ a b. bytes_eq (text_of a) (text_of b)) es c.args.name c.in-Some.first) c.in_ok-index.ensures.entries)
    ∙ fun_ext (λ q. place-back entries c.args.name c.args.place c.in-Some.first q had ∙ sym (place-kept (places_by c.args.self.now) name c.args.place (ap is_some had) q))

pub returns-in-None-clause-places : goal.returns-in-None-clause-places
returns-in-None-clause-places c =
    let entries = c.args.self.now.places.entries in
    let name = text_of c.args.name in
    let absent : place_beside entries name ≡ None =
    sym (beside_is entries name) ∙ sym c.in_ok-index.ensures.old ∙ c.in-None.is in
    ap (λ es q. place_beside es q) c.in_ok-index.ensures.entries ∙ fun_ext (λ q. place-insert entries c.args.name c.args.place q absent)
