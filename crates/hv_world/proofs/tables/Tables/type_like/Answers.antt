use Rattle.std.proofs.Common.{map, ap, ◌∙◌}
use Rattle.std.specs.Option.{is_some}
use Rattle.hv_text.specs.Names.{text_of}
use Rattle.hv_world.proofs.NameLemmas.{somewhere}
use Rattle.hv_world.proofs.tables.Tables.type_like.Goals as goal

pub returns-clause-known : goal.returns-clause-known
returns-clause-known c =
    ap is_some c.place_like.ensures ∙ somewhere (map text_of c.args.self.now.types.names.keys) (text_of c.args.name)
