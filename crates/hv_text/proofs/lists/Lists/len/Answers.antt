use Rattle.std.proofs.Common.{◌≡◌, ◌∙◌, length, sym, ap, rules}
use Rattle.hv_text.proofs.ListLemmas.{length_cut}
use Rattle.hv_text.proofs.lists.Lists.len.Goals as goal

pub returns : goal.returns
returns g c =
    let same : c.len.result ≡ length c.self.inside.ends.items = search rules in
    same ∙ sym (length_cut 0 c.self.inside.ends.items c.self.inside.items.items) ∙ ap length c.self.view_is
