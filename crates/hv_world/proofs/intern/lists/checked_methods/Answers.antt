use Rattle.std.proofs.Common.{◌≡◌, ◌≢◌, None, arith, ap, sym, subst, ◌∙◌, map, drop, ◌+◌, ◌++◌}
use Rattle.std.specs.Prelude.{MatchOption}
use Rattle.hv_syntax.specs.DeclarationViews.{method_view as said_method}
use Rattle.hv_world.specs.declared.fault.Side.TheVariants as sides
use Rattle.hv_world.specs.MethodViews.{method_view}
use Rattle.hv_world.specs.StaticRules.{method_faults}
use Rattle.hv_world.specs.Worlds.{method_in}
use Rattle.hv_world.specs.inside.Tables.{known_by}
use Rattle.hv_world.proofs.FaultLemmas.{faults_next, none_both}
use Rattle.hv_world.proofs.LiteralLemmas.{value_more}
use Rattle.hv_world.proofs.intern.lists.checked_methods.Goals as goal
use Rattle.hv_world.proofs.intern.lists.checked_methods.Goals.{in-Some+in_ok-push, in_default}

pub loop-method-preserved : goal.loop-method-preserved
loop-method-preserved c =
    let l = c.loop-method in
    let a = c.args in
    let k = known_by a.tables.now in
    let x = c.method-item.result in
    let checked = c.in_ok-checked.checked in
    let others = map (method_in k) (map said_method (drop (l.method-index + 1) a.methods.now)) in (
      λ none.
          let both = none_both l.found checked.fault (sym c.earlier-found.ensures ∙ none) in
          elim c.match-value.branch [
            | in-Some+in_ok-push w ↦
                let is = subst (λ o. MatchOption o (checked.fault ≢ None) (λ m. method_view m ≡ method_in k (said_method x))) w.in-Some.is c.in_ok-checked.ensures.value in
                ap (λ v. map method_view v.items ++ others) w.numbered-is
                ∙ value_more a.methods.now l.method-index x (omega arith) c.method-item.is said_method (method_in k) method_view
                l.numbered.items w.push.new.self.items w.in-Some.method _ (l.invariant.0 both.0) w.in_ok-push.ensures.items is
            | in_default w ↦ absurd (subst (λ o. MatchOption o (checked.fault ≢ None) (λ m. method_view m ≡ method_in k (said_method x))) w.in_default.is c.in_ok-checked.ensures.value both.1)
          ],
      faults_next said_method (method_faults k sides.Domain) a.methods.now l.method-index x l.found checked.fault
          c.earlier-found.result _ (omega arith) c.method-item.is c.in_ok-checked.ensures.fault c.earlier-found.ensures l.invariant.1,
    )
