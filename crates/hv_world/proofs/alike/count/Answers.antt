use Rattle.std.proofs.Common.{◌<◌, ◌+◌, Some, map, unwrap_or, ap, ◌∙◌, sym, subst, arith, rules}
use Rattle.hv_world.specs.inside.Kept.{key_view}
use Rattle.hv_world.specs.Alike.{number_in}
use Rattle.hv_world.proofs.AlikeLemmas.{inserted, small_there}
use Rattle.hv_world.proofs.ClassLemmas.{inserted_at, value_replaced}
use Rattle.hv_world.proofs.alike.count.Goals as goal

pub overflow_add-size : goal.overflow_add-size
overflow_add-size c =
    let found = ap (λ o. unwrap_or o 0) (sym c.in-Some.is ∙ c.in_ok-number.ensures.old) in
    let few : c.in-Some.before + 1 < 18446744073709551616 =
    subst (λ m. m + 1 < 18446744073709551616) (sym found) (small_there 18446744073709551616 _ c.args.sizes.now.entries (omega arith) c.requires.small) in
    search (rules, few)

pub returns-clause-counted : goal.returns-clause-counted
returns-clause-counted c =
    let es = c.args.sizes.now.entries in
    let size = ap (λ o. unwrap_or o 0 + 1) (sym c.in-Some.is ∙ c.in_ok-number.ensures.old) in
    ap (map (λ e. (key_view e.0, e.1))) (value_replaced c.args.key 1 (c.in-Some.before + 1) es c.in_ok-number.number c.insert_full.new.self.entries c.in_ok-number.ensures.entries c.in_ok-number.ensures.index)
    ∙ inserted c.args.key (c.in-Some.before + 1) es size

pub returns-clause-number : goal.returns-clause-number
returns-clause-number c =
    let es = c.args.sizes.now.entries in
    ap (λ l. number_in (key_view c.args.key) (map (λ e. (key_view e.0, e.1)) l)) (value_replaced c.args.key 1 (c.in-Some.before + 1) es c.in_ok-number.number c.insert_full.new.self.entries c.in_ok-number.ensures.entries c.in_ok-number.ensures.index)
    ∙ inserted_at c.args.key (c.in-Some.before + 1) es ∙ ap Some (sym c.in_ok-number.ensures.index)

pub returns-in_default-clause-counted : goal.returns-in_default-clause-counted
returns-in_default-clause-counted c =
    let size = ap (λ o. unwrap_or o 0 + 1) (sym c.in_default.is ∙ c.in_ok-number.ensures.old) in
    ap (map (λ e. (key_view e.0, e.1))) c.in_ok-number.ensures.entries ∙ inserted c.args.key 1 c.args.sizes.now.entries size

pub returns-in_default-clause-number : goal.returns-in_default-clause-number
returns-in_default-clause-number c =
    ap (λ l. number_in (key_view c.args.key) (map (λ e. (key_view e.0, e.1)) l)) c.in_ok-number.ensures.entries
    ∙ inserted_at c.args.key 1 c.args.sizes.now.entries ∙ ap Some (sym c.in_ok-number.ensures.index)
