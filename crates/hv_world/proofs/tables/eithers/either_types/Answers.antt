use Rattle.std.proofs.Common.{[], map, ap, sym, ◌∙◌}
use Rattle.std.specs.List.{flat_map}
use Rattle.hv_text.specs.declared.seed.Seeded.{Seeded}
use Rattle.hv_world.specs.Eithers.{with_lists}
use Rattle.hv_world.specs.inside.Seeds.{with_taken_in, start_from}
use Rattle.hv_world.specs.inside.Tables.{names_in}
use Rattle.hv_world.specs.inside.Gathers.{lists_in}
use Rattle.hv_world.proofs.EitherTables.{flat_names}
use Rattle.hv_world.proofs.tables.eithers.either_types.Goals as goal

pub returns-clause-keys : goal.returns-clause-keys
returns-clause-keys c =
    c.in_ok-add_lists.ensures.keys ∙ (λ i. with_lists (map names_in (c.with_hasher-eithers.ensures.empty i)) (map names_in (c.deref-2.ensures.value i))) ∙ c.in_ok-lists.ensures []

pub returns-clause-seed : goal.returns-clause-seed
returns-clause-seed c = (
  lists_in c.in_ok-lists.lists,
  sym (c.in_ok-add_lists.ensures.keys ∙ (λ i. with_lists (map names_in (c.with_hasher-eithers.ensures.empty i)) (map names_in (c.deref-2.ensures.value i)))),
  ap (λ (h : Seeded). h.start) (c.in_ok-add_lists.ensures.seed ∙ c.with_hasher-eithers.ensures.hasher) ∙ c.with_lists.ensures
      ∙ (λ i. with_taken_in (c.new.ensures i) (flat_map names_in (c.deref.ensures.value i))) ∙ ap start_from (flat_names c.in_ok-lists.lists.items),
)
