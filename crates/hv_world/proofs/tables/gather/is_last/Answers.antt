use Rattle.std.proofs.Common.{◌≡◌, true, map, ap, sym, ◌∙◌}
use Rattle.hv_syntax.specs.Views.{word_view}
use Rattle.hv_text.specs.Names.{text_of}
use Rattle.hv_world.specs.Names.{names}
use Rattle.hv_world.specs.Eithers.{are_same}
use Rattle.hv_world.proofs.GatherLemmas.{ends_with}
use Rattle.hv_world.proofs.tables.gather.is_last.Goals as goal

pub returns-in-Some : goal.returns-in-Some
returns-in-Some c t =
    let item = c.in-Some.ensures.item in
    let ns = names (map word_view c.args.words.now) in
    let is : are_same (map text_of c.in-Some.last.now.items) ns ≡ true = ap (λ l. are_same (map text_of l) ns) (sym c.deref.ensures.value) ∙ sym c.are_same.ensures ∙ t in
    ends_with c.args.lists.now c.in-Some.last.now ns item.3.0 item.3.1 is
