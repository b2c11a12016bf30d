use Rattle.std.proofs.Common.{map, ap, sym, ◌∙◌}
use Rattle.hv_text.specs.Names.{text_of}
use Rattle.hv_syntax.specs.Views.{variable_view}
use Rattle.hv_world.specs.Names.{place_in}
use Rattle.hv_world.proofs.NameLemmas.{place_from_start}
use Rattle.hv_world.proofs.RepeatLemmas.{variables_are}
use Rattle.hv_world.proofs.names.place_among.Goals as goal

pub loop-place-init : goal.loop-place-init
loop-place-init c =
    let list = c.args.list.now in
    let name = text_of c.args.name in
    place_from_start name (map (λ t. (variable_view t).name.text) list) ∙ ap (λ ns. place_in ns name) (sym (variables_are list))
