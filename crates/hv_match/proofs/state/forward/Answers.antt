use Rattle.std.proofs.Common.{◌-◌, length, arith, sym}
use Rattle.hv_match.proofs.Turns.{none_left}
use Rattle.hv_match.proofs.state.forward.Goals as goal

pub returns-in-None-clause-coming : goal.returns-in-None-clause-coming
returns-in-None-clause-coming g c =
    let options = (g.R.Rule.search c.args.rule.now).options in
    let levels = (g.R.Rule.search c.args.rule.now).levels in
    let le = rw c.deref.ensures.value at c.in-None.ensures.choice in
    let none = none_left options (g.R.Rule.search c.args.rule.now).good (levels - length c.args.at.now.chosen.items) c.args.at.now.chosen.items c.args.at.now.next (omega (arith, c.requires.short)) le in
    let back = rw none at c.back.ensures.coming in
    sym back
