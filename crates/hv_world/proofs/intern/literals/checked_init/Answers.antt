use Rattle.std.proofs.Common.{◌≡◌, [], ◌∷◌, ◌++◌, ap, sym, ◌∙◌}
use Rattle.hv_syntax.specs.ProblemViews.{literals_left}
use Rattle.hv_syntax.specs.Views.{ground_literal_view}
use Rattle.hv_world.specs.declared.fault.Side.TheVariants as sides
use Rattle.hv_world.specs.Scopes.{parameters}
use Rattle.hv_world.specs.StaticRules.{atom_faults}
use Rattle.hv_world.specs.FactViews.{atom_over}
use Rattle.hv_world.specs.inside.Tables.{known_by}
use Rattle.hv_world.proofs.FaultLemmas.{faults_left}
use Rattle.hv_world.proofs.LiteralLemmas.{atom_more, none_more}
use Rattle.hv_world.proofs.intern.literals.checked_init.Goals as goal

pub all-preserved-in-Continue-branch-5 : goal.all-preserved-in-Continue-branch-5
all-preserved-in-Continue-branch-5 c =
    let l = c.all in
    let a = c.args in
    let k = known_by a.tables.now in
    let x = ground_literal_view c.in-Some.literal in
    let left = literals_left l.literals in
    let rest = literals_left c.next_in.new.self in
    let next : left ≡ x ∷ rest = rw (c.in-Some.is) at c.in_ok-literal.ensures in
    let pushed = c.in_ok-push.ensures ∙ ap (λ os. l.facts.facts ++ (c.in_ok-checked.checked.value, os) ∷ []) c.deref.ensures.value in (
      atom_more k (parameters []) atom_over l.facts.facts _ left rest x next l.invariant.0
          c.push.new.self.facts (c.in_ok-checked.checked.value, c.checked_fact.new.objects.items) pushed
          c.in_ok-checked.ensures.value (sym c.is_positive.ensures ∙ c.if-is_positive.true),
      faults_left (λ y. atom_faults k sides.Problem (parameters []) y.atom) left rest x l.found c.in_ok-checked.checked.fault c.earlier-found.result _ next
          c.in_ok-checked.ensures.fault c.earlier-found.ensures l.invariant.1,
    )

pub all-preserved : goal.all-preserved
all-preserved c =
    let l = c.all in
    let a = c.args in
    let k = known_by a.tables.now in
    let x = ground_literal_view c.in-Some.literal in
    let left = literals_left l.literals in
    let rest = literals_left c.next_in.new.self in
    let next : left ≡ x ∷ rest = rw (c.in-Some.is) at c.in_ok-literal.ensures in (
      none_more k (parameters []) atom_over l.facts.facts _ left rest x next l.invariant.0
          (sym c.is_positive.ensures ∙ c.if-is_positive.false),
      faults_left (λ y. atom_faults k sides.Problem (parameters []) y.atom) left rest x l.found c.in_ok-checked.checked.fault c.earlier-found.result _ next
          c.in_ok-checked.ensures.fault c.earlier-found.ensures l.invariant.1,
    )
