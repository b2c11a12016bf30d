use Rattle.std.proofs.Common.{map, ap, ◌∙◌}
use Rattle.std.specs.Option.{is_some}
use Rattle.hv_text.specs.Names.{text_of}
use Rattle.hv_world.proofs.NameLemmas.{somewhere}
use Rattle.hv_world.proofs.tables.Tables.object_behind.Goals as goal

pub returns-clause-known : goal.returns-clause-known
returns-clause-known c =
    ap is_some c.place_behind.ensures ∙ somewhere (map text_of c.args.self.now.objects.keys) (text_of c.args.name)
