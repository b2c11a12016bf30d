use Rattle.std.proofs.Common.{◌≡◌, ◌∙◌, length, sym, ap, rules}
use Rattle.hv_lists.proofs.Heads.{with_length}
use Rattle.hv_text.proofs.headed.Headed.len.Goals as goal

pub returns : goal.returns
returns g c =
    let same : c.len.result ≡ length c.self.inside.heads.items = search rules in
    same ∙ sym (with_length (λ h l. (h, l)) c.self.inside.heads.items c.self.inside.lists) ∙ ap length c.self.view_is
