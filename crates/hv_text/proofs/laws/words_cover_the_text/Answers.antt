use Rattle.hv_text.proofs.CoverLemmas.{held_once}
use Rattle.hv_text.proofs.laws.words_cover_the_text.Goals as goal

pub returns : goal.returns
returns c = held_once c.args.text.now
