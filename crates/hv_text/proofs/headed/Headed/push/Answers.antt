use Rattle.std.proofs.Common.{◌≡◌, ◌++◌, ◌∷◌, [], ◌∙◌, ap}
use Rattle.hv_lists.specs.Lists.{with_lists}
use Rattle.hv_lists.proofs.Heads.{with_more}
use Rattle.hv_text.proofs.headed.Headed.push.Goals as goal

pub returns-clause-put : goal.returns-clause-put
returns-clause-put g c =
    let heads = c.self.inside.heads.items in
    let lists = c.self.inside.lists in
    let pushed : c.push_reserved.new.self.items ≡ heads ++ c.args.head ∷ [] = c.push_reserved.ensures.items ∙ ap (λ hs. hs ++ c.args.head ∷ []) c.reserve.ensures.items in
    (λ i. with_lists (λ h l. (h, l)) (pushed i) (c.in_ok-push.ensures.lists i))
    ∙ with_more (λ h l. (h, l)) heads lists c.args.head c.args.list.now c.self.invariant
    ∙ ap (λ v. v ++ (c.args.head, c.args.list.now) ∷ []) c.self.view_is
