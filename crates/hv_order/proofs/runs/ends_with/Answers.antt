use Rattle.std.proofs.Common.{◌≡◌, ◌∙◌, true, false, Some, None, sym, ap}
use Rattle.hv_order.specs.declared.trial.Run.{Run}
use Rattle.hv_order.proofs.runs.ends_with.Goals as goal

pub returns-in-None : goal.returns-in-None
returns-in-None c = (λ e. absurd (let k : false ≡ true = e in cc), λ w. absurd (let k : None ≡ Some w.run = c.in-None.ensures.value ∙ w.is_last in cc))

pub returns-in-Some : goal.returns-in-Some
returns-in-Some c =
    let here = c.in-Some.previous.now in (
      λ e. record { run = here; is_last = sym c.in-Some.ensures.value; finish_is = c.is_same.ensures.0 e },
      λ w.
          let both : Some here ≡ Some w.run = c.in-Some.ensures.value ∙ w.is_last in
          let k : here ≡ w.run = cc in
          c.is_same.ensures.1 (ap (λ (r : Run). r.finish) k ∙ w.finish_is),
    )
