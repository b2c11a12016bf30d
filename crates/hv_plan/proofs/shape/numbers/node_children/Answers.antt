use Rattle.std.proofs.Common.{◌≡◌, ◌+◌, ◌<◌, ℕ, List, subst, sym, length, Contains}
use Rattle.hv_plan.proofs.shape.numbers.node_children.Goals as goal

pub push_items-requires : goal.push_items-requires
push_items-requires c = λ x h.
    let numbers : c.deref.result.now ≡ c.args.numbering.now.numbers.items = cc (c.deref.ensures.value) in
    let P : List ℕ → Type 0 = λ xs. Contains xs x in
    subst (λ ns. x < c.args.actions + length ns) (sym numbers) (c.requires.lists _ x (subst P c.at.ensures h))

pub push_items-requires-2 : goal.push_items-requires-2
push_items-requires-2 c = λ x h.
    let numbers : c.deref-2.result.now ≡ c.args.numbering.now.numbers.items = cc (c.deref-2.ensures.value) in
    subst (λ ns. x < c.args.actions + length ns) (sym numbers) (c.requires.root x h)
