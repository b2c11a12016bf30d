use Rattle.std.proofs.lemmas.List.{take-append-le}
use Rattle.std.proofs.Common.{◌≡◌, ◌∙◌, sym, take, ◌+◌, ◌<◌, ◌-◌, ◌++◌, ◌∷◌, [], length, slice_index_or, vec_len, ◌^◌, arith, ap, length-append}
use Rattle.std.proofs.lemmas.List.Elements.{All-pop}
use Rattle.hv_match.proofs.Turns.{back_coming, back_steps, path_pop, none_numbers}
use Rattle.hv_match.proofs.Told.{told_first}
use Rattle.hv_match.proofs.state.back.Goals as goal

last : (g : _) (c : goal.After-at-1 g) → c.args.at.now.chosen.items ≡ c.pop-in-Some.new.self.items ++ slice_index_or c.args.at.now.chosen.items (vec_len c.args.at.now.chosen - 1) 0 ∷ []
last g c =
    let some : 0 < vec_len c.args.at.now.chosen = omega (arith, c.args.at.now.chosen.ok.0, ap length c.in-Some.ensures.items, length-append c.pop.new.self.items (c.in-Some.number ∷ []), c.requires.place.even) in
    let e = c.pop-in-Some.ensures.value 0 some in
    rw e at c.pop-in-Some.ensures.items

pub returns-in-Some-clause-place : goal.returns-in-Some-clause-place
returns-in-Some-clause-place g c =
    let e = last g c in
    let place = c.requires.place in
    let path = rw e at place.path in
    let one = length-append c.pop-in-Some.new.self.items (slice_index_or c.args.at.now.chosen.items (vec_len c.args.at.now.chosen - 1) 0 ∷ []) in
    let other = length-append c.pop.new.self.items (c.in-Some.number ∷ []) in
    record {
      short = omega (arith, ap length e, one, place.short);
      even = omega (arith, ap length e, ap length c.in-Some.ensures.items, one, other, place.even);
      path = path_pop (g.R.Rule.search c.args.rule.now).options [] _ _ path;
      told = told_first (g.R.Rule.search c.args.rule.now).distinct c.args.at.now.made_at.items c.pop-in-Some.new.self.items (slice_index_or c.args.at.now.chosen.items (vec_len c.args.at.now.chosen - 1) 0) (rw e at place.told);
      wide = place.wide;
      numbers = (All-pop (λ n. n + 1 < 2 ^ 64) c.args.at.now.numbers.items c.pop.new.self.items c.pop.result c.pop.ensures.items place.numbers).0;
    }

pub returns-in-Some-clause-coming : goal.returns-in-Some-clause-coming
returns-in-Some-clause-coming g c =
    rw c.requires.running (back_coming (g.R.Rule.search c.args.rule.now).options (g.R.Rule.search c.args.rule.now).good (g.R.Rule.search c.args.rule.now).levels _ _ _ _ _ _ _ (last g c) c.in-Some.ensures.items c.requires.place.even c.requires.place.short)

pub returns-in-Some-clause-steps : goal.returns-in-Some-clause-steps
returns-in-Some-clause-steps g c =
    rw c.requires.running (back_steps (g.R.Rule.search c.args.rule.now).options (g.R.Rule.search c.args.rule.now).levels _ _ _ _ _ _ _ (last g c) c.in-Some.ensures.items c.requires.place.even c.requires.place.short)

pub returns-in-None-clause-steps : goal.returns-in-None-clause-steps
returns-in-None-clause-steps g c = rw c.requires.running (none_numbers (g.R.Rule.search c.args.rule.now).options (g.R.Rule.search c.args.rule.now).levels _ _ _ c.requires.place.even (omega (arith, c.args.at.now.numbers.ok.0, c.in-None.ensures.cases)))

pub returns-in-Some-clause-front : goal.returns-in-Some-clause-front
returns-in-Some-clause-front g c n le =
    sym (ap (take n) (last g c) ∙ take-append-le n c.pop-in-Some.new.self.items (slice_index_or c.args.at.now.chosen.items (vec_len c.args.at.now.chosen - 1) 0 ∷ []) le)
