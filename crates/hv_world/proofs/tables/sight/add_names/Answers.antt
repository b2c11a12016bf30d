use Rattle.std.proofs.Common.{arith, ap, ◌∙◌}
use Rattle.hv_world.proofs.TableLemmas.{names_next}
use Rattle.hv_world.proofs.tables.sight.add_names.Goals as goal

pub loop-typed-preserved : goal.loop-typed-preserved
loop-typed-preserved c =
    let l = c.loop-typed in
    let named =
    names_next c.args.list.now l.typed-index c.typed-item.result (omega arith) c.typed-item.is l.names.keys c.insert.new.self.keys c.name.result _ (c.name.ensures ∙ ap (λ w. w.text) c.name-word.ensures) c.in_ok-insert.ensures.keys l.invariant.0 in
    (named, c.in_ok-insert.ensures.hasher ∙ l.invariant.1)
