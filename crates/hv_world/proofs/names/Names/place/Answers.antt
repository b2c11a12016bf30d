use Rattle.std.proofs.Common.{sym, ap, ◌∙◌}
use Rattle.std.specs.Option.{option_copied}
use Rattle.hv_text.specs.Names.{text_of}
use Rattle.hv_world.proofs.NameLemmas.{beside_is}
use Rattle.hv_world.proofs.names.Names.place.Goals as goal

pub returns-in-Some-get : goal.returns-in-Some-get
returns-in-Some-get c =
    ap option_copied (sym c.in-Some-get.is) ∙ c.get.ensures.value ∙ beside_is c.args.self.now.places.entries (text_of c.args.name)

pub returns-in-None : goal.returns-in-None
returns-in-None c =
    ap option_copied (sym c.in-None.is) ∙ c.get.ensures.value ∙ beside_is c.args.self.now.places.entries (text_of c.args.name)
