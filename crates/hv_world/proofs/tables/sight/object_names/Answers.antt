use Rattle.std.proofs.Common.{[], map, ap, sym, ◌∙◌}
use Rattle.std.proofs.lemmas.List.{map-append}
use Rattle.hv_syntax.specs.Values.{Typed}
use Rattle.hv_syntax.specs.Views.{typed_view}
use Rattle.hv_text.specs.Names.{text_of}
use Rattle.hv_world.specs.Names.{with_names}
use Rattle.hv_world.specs.Known.{variables}
use Rattle.hv_world.proofs.TableLemmas.{with_names-append}
use Rattle.hv_world.proofs.tables.sight.object_names.Goals as goal

pub returns-clause-keys : goal.returns-clause-keys
returns-clause-keys c =
    let constants = map typed_view c.args.constants.now in
    let objects = map typed_view c.args.objects.now in
    c.in_ok-add_names-2.ensures.keys
    ∙ ap (λ ns. with_names ns (variables objects)) (c.in_ok-add_names.ensures.keys ∙ ap (λ ks. with_names (map text_of ks) (variables constants)) c.in_ok-names.ensures.empty)
    ∙ sym (with_names-append [] (variables constants) (variables objects))
    ∙ ap (with_names []) (sym (map-append (λ (v : Typed). v.name.text) constants objects))
