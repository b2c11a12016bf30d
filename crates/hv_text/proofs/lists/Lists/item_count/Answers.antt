use Rattle.std.proofs.Common.{◌≡◌, ◌+◌, ◌∙◌, length, ap, rules, arith}
use Rattle.std.specs.Prelude.{sum_by}
use Rattle.hv_text.specs.inside.Lists.{cut}
use Rattle.hv_text.proofs.ListLemmas.{items_of_all}
use Rattle.hv_text.proofs.lists.Lists.item_count.Goals as goal

pub returns : goal.returns
returns g c =
    let ends = c.self.inside.ends.items in
    let items = c.self.inside.items.items in
    let same : c.len.result ≡ length items = search rules in
    let all : length items ≡ 0 + sum_by length (cut 0 ends items) = items_of_all 0 ends items c.self.invariant in
    let none : 0 + sum_by length (cut 0 ends items) ≡ sum_by length (cut 0 ends items) = omega arith in
    same ∙ all ∙ none ∙ ap (λ ls. sum_by length ls) c.self.view_is
