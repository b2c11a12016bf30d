use Rattle.std.proofs.Common.{◌≡◌, ◌+◌, ◌++◌, length, map, ap, sym, ◌∙◌}
use Rattle.std.proofs.lemmas.List.{length-map}
use Rattle.hv_text.specs.Names.{text_of}
use Rattle.hv_syntax.specs.Views.{typed_view}
use Rattle.hv_world.specs.inside.Tables.{known_by}
use Rattle.hv_world.specs.Worlds.{type_pair, object_pair, eithers_pairs}
use Rattle.hv_world.proofs.BuildLemmas.{pairs_below, both_added}
use Rattle.hv_world.proofs.InternLemmas.{of_both}
use Rattle.hv_world.proofs.build.typing_in.Goals as goal

pub new-requires-clause-parents : goal.new-requires-clause-parents
new-requires-clause-parents c =
    let k = known_by c.args.tables.now in
    let types : length k.types + length k.eithers ≡ c.in_ok-types.types = sym c.in_ok-types.ensures in
    let own = c.in_ok-parents.ensures ∙ ap (map (type_pair k)) c.types.ensures in
    pairs_below (λ p. (p.0.0, p.1.0)) c.add_eithers_pairs.new.pairs.items _ _ _ _ _ (c.in_ok-add_eithers_pairs.ensures ∙ ap (λ xs. xs ++ eithers_pairs k (length k.types) k.eithers) own) c.requires.parents types types

pub new-requires-clause-declared : goal.new-requires-clause-declared
new-requires-clause-declared c =
    let k = known_by c.args.tables.now in
    let types : length k.types + length k.eithers ≡ c.in_ok-types.types = sym c.in_ok-types.ensures in
    let objects = length-map c.args.tables.now.objects.keys text_of ∙ sym c.len-2.ensures.len in
    let added =
    both_added (object_pair k) (map typed_view c.constants.result.now) (map typed_view c.objects.result.now) (ap (map (λ p. (p.0.0, p.1.0))) c.in_ok-declared.ensures.items) c.in_ok-add_object_pairs.ensures c.in_ok-add_object_pairs-2.ensures in
    pairs_below (λ p. (p.0.0, p.1.0)) c.add_object_pairs-2.new.pairs.items _ _ _ _ _ (added ∙ of_both (λ vs ws. map (object_pair k) (vs ++ ws)) c.constants.ensures c.objects.ensures) c.requires.declared objects types
