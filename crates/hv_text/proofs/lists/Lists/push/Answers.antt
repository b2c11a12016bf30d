use Rattle.std.proofs.Common.{◌≡◌, ◌+◌, ◌≤◌, ◌++◌, ◌∷◌, [], length, subst, ap, sym, ◌∙◌, rules, arith}
use Rattle.std.proofs.lemmas.List.{length-append}
use Rattle.hv_text.specs.inside.Lists.{cut, EndUp}
use Rattle.hv_text.proofs.ListLemmas.{pushed, ends_pushed}
use Rattle.hv_text.proofs.lists.Lists.push.Goals as goal

pub invariant_of-self-in-Ok : goal.invariant_of-self-in-Ok
invariant_of-self-in-Ok g c =
    let ends = c.self.inside.ends.items in
    let items = c.self.inside.items.items in
    let all : c.len.result ≡ length c.extend_from_slice.new.self.items = search rules in
    let size : length c.extend_from_slice.new.self.items ≡ length items + length c.args.list.now = ap length c.in_ok-extend_from_slice.ensures.items ∙ length-append items c.args.list.now in
    let more : length items ≤ length c.extend_from_slice.new.self.items = omega (arith, size) in
    subst (λ es. EndUp 0 es (length c.extend_from_slice.new.self.items)) (sym c.in-Ok.ensures)
    (ends_pushed 0 ends c.len.result (length items) (length c.extend_from_slice.new.self.items) c.self.invariant more all)

pub returns-in-Ok-clause-lists : goal.returns-in-Ok-clause-lists
returns-in-Ok-clause-lists g c =
    let ends = c.self.inside.ends.items in
    let items = c.self.inside.items.items in
    let all : c.len.result ≡ length c.extend_from_slice.new.self.items = search rules in
    (λ i. cut 0 (c.in-Ok.ensures i) (c.in_ok-extend_from_slice.ensures.items i))
    ∙ pushed 0 ends c.len.result items c.args.list.now c.self.invariant (all ∙ ap length c.in_ok-extend_from_slice.ensures.items)
    ∙ ap (λ ls. ls ++ c.args.list.now ∷ []) c.self.view_is
