use Rattle.std.proofs.Common.{◌≡◌, ◌∙◌, ℕ, List, Bool, true, None, Some, ap, map, length, if◌then◌else◌}
use Rattle.hv_world.specs.Views.{name_view, subtask_view}
use Rattle.hv_world.specs.Values.{TaskName}
use Rattle.hv_plan.specs.Fits.{names_of}
use Rattle.hv_plan.specs.Forms.{every}
use Rattle.hv_plan.specs.inside.Tallies.{number_in}
use Rattle.hv_plan.proofs.FitLemmas.{every_some}
use Rattle.hv_plan.proofs.TallyLemmas.{AreNumbers, numbers_within, unknown_differs, names_same_or_not}
use Rattle.hv_plan.proofs.subtasks.Tally.have_same_names.Goals as goal

-- names whose numbers were put
numbered : (ts as' : ℕ) (ms : List TaskName) (ns : List ℕ) (b : Bool) → every (number_in ts as') ms ≡ (if b then Some ns else None) → b ≡ true → AreNumbers ts as' ms ns
numbered ts as' ms ns b put is = every_some (number_in ts as') ms ns (put ∙ ap (λ t. if t then Some ns else None) is)

pub returns-then-not-branch-2-clause-same : goal.returns-then-not-branch-2-clause-same
returns-then-not-branch-2-clause-same c =
    let ts = c.args.sizes.tasks in
    let as' = c.args.sizes.actions in
    let ms = map name_view c.args.self.now.names.items in
    let us = names_of (map subtask_view c.args.subtasks.now) in
    let ns = c.put_numbers.new.numbers.items in
    let vs = c.put_numbers_of_subtasks.new.numbers.items in
    let own = numbered ts as' ms ns c.in_ok-put_numbers.field-0 (rw c.deref.ensures.value at c.in_ok-put_numbers.ensures) c.if-not-branch.false in
    let none : every (number_in ts as') us ≡ None = c.in_ok-put_numbers_of_subtasks.ensures ∙ ap (λ t. if t then Some vs else None) c.if-not-branch-2.true in
    unknown_differs ts as' ms us ns own none

pub have_same_counts-requires-clause-one : goal.have_same_counts-requires-clause-one
have_same_counts-requires-clause-one c =
    let ts = c.args.sizes.tasks in
    let as' = c.args.sizes.actions in
    let us = names_of (map subtask_view c.args.subtasks.now) in
    let vs = c.put_numbers_of_subtasks.new.numbers.items in
    rw (c.deref-2.ensures.value, c.deref_mut.ensures.value)
    (numbers_within ts as' us vs (length c.args.self.now.counts.items) c.requires.size
    (numbered ts as' us vs c.in_ok-put_numbers_of_subtasks.field-0 c.in_ok-put_numbers_of_subtasks.ensures c.if-not-branch-2.false))

pub have_same_counts-requires-clause-other : goal.have_same_counts-requires-clause-other
have_same_counts-requires-clause-other c =
    let ts = c.args.sizes.tasks in
    let as' = c.args.sizes.actions in
    let ms = map name_view c.args.self.now.names.items in
    let ns = c.put_numbers.new.numbers.items in
    rw (c.deref-3.ensures.value, c.deref_mut.ensures.value)
    (numbers_within ts as' ms ns (length c.args.self.now.counts.items) c.requires.size
    (numbered ts as' ms ns c.in_ok-put_numbers.field-0 (rw c.deref.ensures.value at c.in_ok-put_numbers.ensures) c.if-not-branch.false))

pub returns-clause-same : goal.returns-clause-same
returns-clause-same c =
    let ts = c.args.sizes.tasks in
    let as' = c.args.sizes.actions in
    let ms = map name_view c.args.self.now.names.items in
    let us = names_of (map subtask_view c.args.subtasks.now) in
    let ns = c.put_numbers.new.numbers.items in
    let vs = c.put_numbers_of_subtasks.new.numbers.items in
    names_same_or_not ts as' ms us ns vs
    (numbered ts as' ms ns c.in_ok-put_numbers.field-0 (rw c.deref.ensures.value at c.in_ok-put_numbers.ensures) c.if-not-branch.false)
    (numbered ts as' us vs c.in_ok-put_numbers_of_subtasks.field-0 c.in_ok-put_numbers_of_subtasks.ensures c.if-not-branch-2.false)
    c.have_same_counts.result (rw (c.deref-2.ensures.value, c.deref-3.ensures.value) at c.have_same_counts.ensures.same)
