use Rattle.std.proofs.Common.{◌≡◌, ◌<◌, ◌≤◌, ◌∙◌, [], length, rules, ap}
use Rattle.std.specs.Prelude.{slice_index_or}
use Rattle.hv_text.specs.inside.Lists.{between, start_of}
use Rattle.hv_text.proofs.ListLemmas.{cut_at, cut_past}
use Rattle.hv_text.proofs.lists.Lists.at.Goals as goal

pub returns-in-Some : goal.returns-in-Some
returns-in-Some g c =
    let ends = c.self.inside.ends.items in
    let items = c.self.inside.items.items in
    let lt : c.args.place < length ends = search rules in
    let is : c.in-Some.end.now ≡ slice_index_or ends c.args.place c.in-Some.end.now = search rules in
    c.between.ensures
    ∙ (λ i. between (c.start.ensures i) c.in-Some.end.now (c.deref-in-Some.ensures.value i))
    ∙ (λ i. between (start_of 0 (c.deref-in-Some-2.ensures.value i) c.args.place) c.in-Some.end.now items)
    ∙ cut_at 0 ends items c.args.place c.in-Some.end.now lt is
    ∙ ap (λ ls. slice_index_or ls c.args.place []) c.self.view_is

pub returns-in-None : goal.returns-in-None
returns-in-None g c =
    let past : length c.self.inside.ends.items ≤ c.args.place = search rules in
    cut_past 0 c.self.inside.ends.items c.self.inside.items.items c.args.place past ∙ ap (λ ls. slice_index_or ls c.args.place []) c.self.view_is
