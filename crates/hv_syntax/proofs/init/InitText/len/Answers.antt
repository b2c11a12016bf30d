use Rattle.std.proofs.Common.{◌≡◌, ◌+◌, ◌-◌, ◌^◌, ◌∙◌, map, length, sym, ap, ap₂, length-append}
use Rattle.std.specs.Prelude.{min}
use Rattle.std.proofs.lemmas.List.{length-map}
use Rattle.hv_syntax.specs.ProblemViews.{headed_literal, by_place_view}
use Rattle.hv_syntax.proofs.init.InitText.len.Goals as goal

pub returns : goal.returns
returns c =
    let i = c.args.self.now in
    c.saturating_add.ensures
    ∙ ap (λ n. min n (2 ^ 64 - 1))
    (ap₂ ◌+◌ c.len.ensures (c.len-2.ensures ∙ sym (length-map i.by_words headed_literal))
    ∙ sym (length-append (by_place_view i.by_place) (map headed_literal i.by_words)))
