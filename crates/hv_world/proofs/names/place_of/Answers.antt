use Rattle.std.proofs.Common.{sym, ◌∙◌}
use Rattle.hv_text.specs.Names.{text_of}
use Rattle.hv_world.proofs.NameLemmas.{place-map}
use Rattle.hv_world.proofs.names.place_of.Goals as goal

pub returns-then-stands_at : goal.returns-then-stands_at
returns-then-stands_at c = sym (c.stands_at.ensures c.if-stands_at.true)

pub returns-then-stands_at-2 : goal.returns-then-stands_at-2
returns-then-stands_at-2 c = sym (c.stands_at-2.ensures c.if-stands_at-2.true)

pub returns : goal.returns
returns c = c.get_index_of.ensures.index ∙ sym (place-map text_of (text_of c.args.name) c.args.names.now.keys)
