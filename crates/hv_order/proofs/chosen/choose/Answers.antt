use Rattle.std.proofs.Common.{◌≡◌, ◌∙◌, sym, None}
use Rattle.hv_order.specs.inside.Walks.{said_of}
use Rattle.hv_order.proofs.ChosenStands.{not_none, one_more_chosen}
use Rattle.hv_order.proofs.RunLemmas.{same_or}
use Rattle.hv_order.proofs.chosen.choose.Goals as goal

pub unreachable-requires : goal.unreachable-requires
unreachable-requires c =
    let i = c.loop-stand.stand-index in
    let here : said_of c.args.stands.now i ≡ c.stand-item.result = same_or c.args.stands.now i None c.stand-item.result c.loop-stand-test.true ∙ sym c.stand-item.is in
    not_none c.args.stands.now i c.stand-item.result c.requires c.loop-stand-test.true here c.in-None.is

pub loop-stand-preserved : goal.loop-stand-preserved
loop-stand-preserved c =
    let i = c.loop-stand.stand-index in
    let here : said_of c.args.stands.now i ≡ c.stand-item.result = same_or c.args.stands.now i None c.stand-item.result c.loop-stand-test.true ∙ sym c.stand-item.is in
    rw c.in_ok-push-in-Some.ensures.items
    (one_more_chosen c.args.stands.now c.loop-stand.chosen.items i c.in-Some.stand c.chosen_by.result c.loop-stand.invariant (here ∙ c.in-Some.is) c.chosen_by.ensures)
