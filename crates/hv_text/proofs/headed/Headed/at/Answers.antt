use Rattle.std.proofs.Common.{◌≡◌, ◌<◌, ◌∙◌, Some, ap, sym, length, slice_get, rules, arith}
use Rattle.hv_lists.proofs.Heads.{with_length, with_at}
use Rattle.hv_text.proofs.headed.Headed.at.Goals as goal

pub index-requires : goal.index-requires
index-requires g c =
    let heads = c.self.inside.heads.items in
    let many : length c.args.self.now ≡ length heads = sym (ap length c.self.view_is) ∙ with_length (λ h l. (h, l)) heads c.self.inside.lists in
    let lt : c.args.place < length heads = omega (arith, many, c.requires) in
    search rules

pub returns : goal.returns
returns g c =
    let heads = c.self.inside.heads.items in
    let lists = c.self.inside.lists in
    let many : length c.args.self.now ≡ length heads = sym (ap length c.self.view_is) ∙ with_length (λ h l. (h, l)) heads lists in
    let lt : c.args.place < length heads = omega (arith, many, c.requires) in
    sym (ap (λ v. slice_get v c.args.place) c.self.view_is)
    ∙ with_at (λ h l. (h, l)) heads lists c.args.place c.index.result.now lt c.index.ensures
    ∙ ap (λ l. Some (c.index.result.now, l)) (sym c.at.ensures)
