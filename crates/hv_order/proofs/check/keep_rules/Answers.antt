use Rattle.std.proofs.Common.{ℕ, true, List, length, sym, subst}
use Rattle.std.specs.Prelude.{slice_index}
use Rattle.std.proofs.lemmas.Result.{err_from_is_err_and}
use Rattle.hv_world.specs.WorldViews.{world_view}
use Rattle.hv_plan.specs.BuiltTrees.{tree_view}
use Rattle.hv_plan.specs.PlanTrees.{tree_of}
use Rattle.hv_order.specs.Certificates.{AreFinishes}
use Rattle.hv_order.specs.Settings.{setting}
use Rattle.hv_order.specs.inside.Checks.{ArePlaces, AreEntries, KeepAll, IsLate, finish_in}
use Rattle.hv_order.proofs.Misfitting.{other_refused, wrong_refused_as, late_refused, certified_by, late_in, keep_in}
use Rattle.hv_order.proofs.PlanWalks.{is_setting}
use Rattle.hv_order.proofs.check.keep_rules.Goals as goal

pub returns-in-Some-clause-refused : goal.returns-in-Some-clause-refused
returns-in-Some-clause-refused c =
    let w = world_view c.args.world.now in
    let t = tree_view c.args.tree.now in
    let p = c.args.trace.now in
    other_refused (setting t p true) (is_setting w t p true c.requires.trace c.requires.tree c.is_sound.ensures c.requires.top c.requires.small) c.args.certificate.now c.in-Some.place c.in-Some.ensures

pub returns-in_err-entries-clause-refused : goal.returns-in_err-entries-clause-refused
returns-in_err-entries-clause-refused c =
    let w = world_view c.args.world.now in
    let t = tree_view c.args.tree.now in
    let p = c.args.trace.now in
    let P : List ℕ → Type 0 = λ ps. ArePlaces t ps in
    let e = err_from_is_err_and c.from_residual-in_err-entries.result c.from_residual-in_err-entries.ensures.1 in
    rw (e.1, e.2)
    (wrong_refused_as (setting t p true) (is_setting w t p true c.requires.trace c.requires.tree c.is_sound.ensures c.requires.top c.requires.small) c.args.certificate.now
    c.deref.result.now (subst P (sym c.deref.ensures.value) c.in_ok-places.ensures) c.in_err-entries.field-0.0 c.in_err-entries.ensures.wrong)

pub returns-in-None-clause-certified : goal.returns-in-None-clause-certified
returns-in-None-clause-certified c =
    let w = world_view c.args.world.now in
    let t = tree_view c.args.tree.now in
    let p = c.args.trace.now in
    let cert = c.args.certificate.now in
    let q = setting t p true in
    let P : List ℕ → Type 0 = λ ps. ArePlaces t ps in
    let Ms = c.in_ok-entries.entries.matchings in
    let ks = c.in_ok-entries.entries.starts.items in
    let E : List ℕ → Type 0 = λ ps. AreEntries q cert ps Ms ks in
    let F : List ℕ → Type 0 = λ is. AreFinishes (tree_of t) (slice_index is) (finish_in c.in_ok-finishes.finishes.items) in
    let L : List ℕ → Type 0 = λ fs. KeepAll w t Ms ks fs (length t.actions) in
    certified_by q (is_setting w t p true c.requires.trace c.requires.tree c.is_sound.ensures c.requires.top c.requires.small) cert
    c.in_ok-places.places.items c.in_ok-places.ensures Ms ks c.in_ok-finishes.finishes.items
    (subst E c.deref.ensures.value c.in_ok-entries.ensures.entries) (subst F c.deref-2.ensures.value c.in_ok-finishes.ensures)
    c.in_default.ensures
    (keep_in w t p c.requires.trace Ms ks c.in_ok-finishes.finishes.items (subst L c.deref-3.ensures.value c.in-None.ensures))

pub returns-clause-refused : goal.returns-clause-refused
returns-clause-refused c =
    let w = world_view c.args.world.now in
    let t = tree_view c.args.tree.now in
    let p = c.args.trace.now in
    let cert = c.args.certificate.now in
    let q = setting t p true in
    let place = c.in-Some-late.place in
    let Ms = c.in_ok-entries.entries.matchings in
    let ks = c.in_ok-entries.entries.starts.items in
    let E : List ℕ → Type 0 = λ ps. AreEntries q cert ps Ms ks in
    let F : List ℕ → Type 0 = λ is. AreFinishes (tree_of t) (slice_index is) (finish_in c.in_ok-finishes.finishes.items) in
    let L : List ℕ → Type 0 = λ fs. IsLate w t Ms ks fs c.deref-4.result.now (length t.actions) place in
    let M : List ℕ → Type 0 = λ ps. IsLate w t Ms ks c.in_ok-finishes.finishes.items ps (length t.actions) place in
    late_refused q (is_setting w t p true c.requires.trace c.requires.tree c.is_sound.ensures c.requires.top c.requires.small) cert
    c.in_ok-places.places.items c.in_ok-places.ensures Ms ks c.in_ok-finishes.finishes.items
    (subst E c.deref.ensures.value c.in_ok-entries.ensures.entries) (subst F c.deref-2.ensures.value c.in_ok-finishes.ensures) place
    (late_in w t p c.requires.trace Ms ks c.in_ok-finishes.finishes.items c.in_ok-places.places.items place
    (subst M c.deref-4.ensures.value (subst L c.deref-3.ensures.value c.in-Some-late.ensures)))
