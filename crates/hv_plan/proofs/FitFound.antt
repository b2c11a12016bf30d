-- Lines that form a tree fit a world, or have a cause for which they do not.
use Rattle.std.proofs.Common.{◌≡◌, ◌≢◌, ℕ, zero, suc, ◌⊎◌, inl, inr, List, [], ◌∷◌, map, length, slice_get, Option, Some, None, refl, ap, sym, subst, ◌∙◌, arith}
use Rattle.std.specs.Prelude.{Contains, MatchOption}
use Rattle.std.specs.List.{AllZip}
use Rattle.hv_lists.proofs.Contained.{contains_first, in_tail}
use Rattle.hv_lists.proofs.Numbers.{either}
use Rattle.hv_world.specs.Types.{Of}
use Rattle.hv_world.specs.Values.{TaskName, compound, primitive, Subtask}
use Rattle.hv_world.specs.Bindings.{GroundAction, ground_action}
use Rattle.hv_world.specs.Names.{place_in}
use Rattle.hv_world.specs.Worlds.{World, Method, task_named, method_named}
use Rattle.hv_plan.specs.Values as text
use Rattle.hv_plan.specs.Values.{Plan}
use Rattle.hv_plan.specs.Forms.{every}
use Rattle.hv_plan.specs.Shapes.{Parent, parents, FormTree}
use Rattle.hv_plan.specs.Fits.{parameters_of, AreObjects, IsForTask, FitWorld, multiplicity, names_of}
use Rattle.hv_world.specs.Groundings.{AreOf}
use Rattle.hv_plan.specs.Causes.{IsCause}
use Rattle.hv_plan.specs.inside.LineFaults.{Entry, action_entry, line_entry, entries, IsAtFault, IsSmallest, count, type, IsArgumentFault, unknown, objects, earlier, IsEarliest, FaultIn}
use Rattle.hv_plan.specs.inside.ChildFaults.{IsChildFault, ChildFaultIn, IsMethodCause}
use Rattle.hv_plan.specs.inside.Tallies as names
use Rattle.hv_plan.specs.inside.FitViews.{Decomposed, IsDecomposed}
use Rattle.hv_plan.specs.PlanTrees.{IsActionOf}
use Rattle.hv_plan.specs.declared.cause.CauseKind.{CauseKind}
use Rattle.hv_plan.specs.declared.cause.CauseKind.TheVariants as kinds
use Rattle.hv_plan.specs.declared.cause.Cause.{Cause}
use Rattle.hv_plan.proofs.FitLemmas.{contains_cons, every_some, every_none, task_unknown, method_unknown, argument_fault, has_no_method, method_known, names_task, names_action, not_for_task, action_has_no_fault, decomposed_has_no_fault}
use Rattle.hv_plan.proofs.EarliestLemmas.{earlier_none, earliest_of_no_line, earliest_of_lists, earliest_of_one, earliest_of_none, earliest_of_both}
use Rattle.hv_plan.proofs.FormLaws.{contains_flat, form_has_no_cause, fault_is_cause}
use Rattle.hv_plan.proofs.TallyLemmas.{name_member}
use Rattle.hv_plan.proofs.ChildLemmas.{earliest_of_children}
use Rattle.hv_plan.proofs.WorldLaws.{child_fault_is_cause}
use Rattle.hv_plan.proofs.FitWorldLemmas.{has_method, names_for, fit_unless_at_fault}

-- whether a method is for a task
same_compound : (u t : ℕ) → compound u ≡ compound t → u ≡ t
same_compound u t e = cc

abbrev IsFor : Option Method → ℕ → Type 0
IsFor o t = MatchOption o ⊥ (λ m. IsForTask m.task t)

is_for : (o : Option Method) (t : ℕ) → IsFor o t ⊎ (IsFor o t → ⊥)
is_for None t = inr (λ f. f)
is_for (Some m) t = of_task m.task
  where
    of_name : (n : TaskName) → (n ≡ compound t) ⊎ (n ≡ compound t → ⊥)
    of_name (compound u) = by (either u t)
      where
        by : (u ≡ t) ⊎ (u ≢ t) → (compound u ≡ compound t) ⊎ (compound u ≡ compound t → ⊥)
        by (inl e) = inl (ap compound e)
        by (inr n) = inr (λ e. n (same_compound u t e))
    of_name (primitive b) = inr (λ e. cc)

    of_task : (o : Option Subtask) → IsForTask o t ⊎ (IsForTask o t → ⊥)
    of_task None = inr (λ f. f)
    of_task (Some x) = of_name x.name

-- a name that is not as often in one list as in another
abbrev Differ : List TaskName → List TaskName → Type 0
Differ ns ms = (n : TaskName) × (multiplicity n ns ≡ multiplicity n ms → ⊥)

agree_or_differ : (ns ms : List TaskName) → ((n : TaskName) → multiplicity n ns ≡ multiplicity n ms) ⊎ Differ ns ms
agree_or_differ ns ms = join (among ns) (among ms)
  where
    Agree : List TaskName → Type 0
    Agree xs = (n : TaskName) → Contains xs n → multiplicity n ns ≡ multiplicity n ms

    among : (xs : List TaskName) → Agree xs ⊎ Differ ns ms
    among [] = inl (λ n (k, lt, e). absurd (omega arith))
    among (x ∷ xs) = by (either (multiplicity x ns) (multiplicity x ms)) (among xs)
      where
        by : (multiplicity x ns ≡ multiplicity x ms) ⊎ (multiplicity x ns ≢ multiplicity x ms) → Agree xs ⊎ Differ ns ms → Agree (x ∷ xs) ⊎ Differ ns ms
        by (inr n) rest = inr (x, n)
        by (inl e) (inr d) = inr d
        by (inl e) (inl all) = inl (λ n h. elim (contains_cons x xs n h) [ inl same ↦ subst (λ y. multiplicity y ns ≡ multiplicity y ms) same e | inr rest ↦ all n rest ])

    of_all : Agree ns → Agree ms → (n : TaskName) → multiplicity n ns ≡ multiplicity n ms
    of_all all all' n = by (multiplicity n ns) (multiplicity n ms) refl refl
      where
        by : (a b : ℕ) → multiplicity n ns ≡ a → multiplicity n ms ≡ b → multiplicity n ns ≡ multiplicity n ms
        by zero zero p q = p ∙ sym q
        by (suc a) b p q = all n (name_member n ns (omega (arith, p)))
        by zero (suc b) p q = all' n (name_member n ms (omega (arith, q)))

    join : Agree ns ⊎ Differ ns ms → Agree ms ⊎ Differ ns ms → ((n : TaskName) → multiplicity n ns ≡ multiplicity n ms) ⊎ Differ ns ms
    join (inr d) other = inr d
    join (inl all) (inr d) = inr d
    join (inl all) (inl all') = inl (of_all all all')

names_cause : (ns ms : List TaskName) (l : ℕ) → (o : Option Cause) × IsMethodCause ns ms l o
names_cause ns ms l = by (either (length ns) (length ms)) (agree_or_differ ns ms)
  where
    by : (length ns ≡ length ms) ⊎ (length ns ≢ length ms) → ((n : TaskName) → multiplicity n ns ≡ multiplicity n ms) ⊎ Differ ns ms → (o : Option Cause) × IsMethodCause ns ms l o
    by (inr differ) d = (Some (record { kind = kinds.ChildCount; line = l }), (refl, names.count differ))
    by (inl same) (inr (n, differ)) = (Some (record { kind = kinds.ChildNames; line = l }), (refl, names.names same n differ))
    by (inl same) (inl each) = (None, record { as_many = same; as_often = each })

module _ (w : World) (decided : (o t : ℕ) → Of w.typing o t ⊎ (Of w.typing o t → ⊥)) where
  are_of : (os ts : List ℕ) → AreOf w.typing os ts ⊎ (AreOf w.typing os ts → ⊥)
  are_of [] [] = inl tt
  are_of [] (t ∷ ts) = inr (λ all. all)
  are_of (o ∷ os) [] = inr (λ all. all)
  are_of (o ∷ os) (t ∷ ts) = by (decided o t) (are_of os ts)
    where
      by : Of w.typing o t ⊎ (Of w.typing o t → ⊥) → AreOf w.typing os ts ⊎ (AreOf w.typing os ts → ⊥) → AreOf w.typing (o ∷ os) (t ∷ ts) ⊎ (AreOf w.typing (o ∷ os) (t ∷ ts) → ⊥)
      by (inl a) (inl b) = inl (a, b)
      by (inl a) (inr n) = inr (λ all. n all.1)
      by (inr n) rest = inr (λ all. n all.0)

  -- the objects of arguments, or what keeps them from being as the parameters
  abbrev Fit : TaskName → List (List ℕ) → Type 0
  Fit t ns = (os : List ℕ) × AreObjects w ns os × AreOf w.typing os (parameters_of w t)

  abbrev Unfit : TaskName → List (List ℕ) → Type 0
  Unfit t ns = (k : CauseKind) × IsArgumentFault w t ns k

  fit_arguments : (t : TaskName) (ns : List (List ℕ)) → Fit t ns ⊎ Unfit t ns
  fit_arguments t ns = by (every (place_in w.objects) ns) refl
    where
      sized : (os : List ℕ) → AreObjects w ns os → (length os ≡ length (parameters_of w t)) ⊎ (length os ≢ length (parameters_of w t))
          → AreOf w.typing os (parameters_of w t) ⊎ (AreOf w.typing os (parameters_of w t) → ⊥) → Fit t ns ⊎ Unfit t ns
      sized os found (inr differ) typed = inr (kinds.ArgumentCount, objects os kinds.ArgumentCount found (count differ))
      sized os found (inl same) (inr not) = inr (kinds.ArgumentType, objects os kinds.ArgumentType found (type same not))
      sized os found (inl same) (inl typed) = inl (os, found, typed)

      by : (o : Option (List ℕ)) → every (place_in w.objects) ns ≡ o → Fit t ns ⊎ Unfit t ns
      by None e = let (n, in', none) = every_none (place_in w.objects) ns e in inr (kinds.UnknownObject, unknown n in' none)
      by (Some os) e = sized os (every_some (place_in w.objects) ns os e) (either (length os) (length (parameters_of w t))) (are_of os (parameters_of w t))

  -- what a line says by itself, or the cause of the smallest number
  abbrev Smallest : Entry → Type 0
  Smallest e = (k : CauseKind) × IsSmallest w e k

  fit_action : (a : text.Action) → ((g : GroundAction) × IsActionOf w a g) ⊎ Smallest (action_entry a)
  fit_action a = by (task_named w a.name) refl
    where
      named : (t : TaskName) → task_named w a.name ≡ Some t → Fit t a.arguments ⊎ Unfit t a.arguments → ((g : GroundAction) × IsActionOf w a g) ⊎ Smallest (action_entry a)
      named t e (inr (k, f)) = inr (k, argument_fault w (action_entry a) t e (λ g. has_no_method w a g) k f)
      named (primitive n) e (inl (os, found, typed)) = inl (ground_action n os, record { name = e; objects = found; typed = typed })
      named (compound n) e (inl (os, found, typed)) = inr (kinds.NotPrimitive, names_task w a n os e found typed)

      by : (o : Option TaskName) → task_named w a.name ≡ o → ((g : GroundAction) × IsActionOf w a g) ⊎ Smallest (action_entry a)
      by None e = inr (kinds.UnknownTask, task_unknown w (action_entry a) e)
      by (Some t) e = named t e (fit_arguments t a.arguments)

  fit_line : (d : text.Decomposition) → ((x : Decomposed) × IsDecomposed w d x) ⊎ Smallest (line_entry d)
  fit_line d = by (task_named w d.name) refl
    where
      Answer : Type 0
      Answer = ((x : Decomposed) × IsDecomposed w d x) ⊎ Smallest (line_entry d)

      of_method : (t v : ℕ) → task_named w d.name ≡ Some (compound t) → method_named w d.method ≡ Some v → (os : List ℕ) → AreObjects w d.arguments os
          → AreOf w.typing os (parameters_of w (compound t)) → IsFor (slice_get w.methods v) t ⊎ (IsFor (slice_get w.methods v) t → ⊥) → Answer
      of_method t v e m os found typed (inl its) =
          inl (record { task = t; objects = os; method = v }, record { says = record { name = e; objects = found; typed = typed }; named = m; is_for = its })
      of_method t v e m os found typed (inr not) = inr (kinds.OtherTask, not_for_task w d t v os e m found typed not)

      named : (t : TaskName) (v : ℕ) → task_named w d.name ≡ Some t → method_named w d.method ≡ Some v → Fit t d.arguments ⊎ Unfit t d.arguments → Answer
      named t v e m (inr (k, f)) = inr (k, argument_fault w (line_entry d) t e (λ g. method_known w d v m g) k f)
      named (primitive n) v e m (inl (os, found, typed)) = inr (kinds.NotAbstract, names_action w d n v os e m found typed)
      named (compound n) v e m (inl (os, found, typed)) = of_method n v e m os found typed (is_for (slice_get w.methods v) n)

      by_method : (t : TaskName) → task_named w d.name ≡ Some t → (o : Option ℕ) → method_named w d.method ≡ o → Answer
      by_method t e None m = inr (kinds.UnknownMethod, method_unknown w (line_entry d) t e (d.method, refl, m))
      by_method t e (Some v) m = named t v e m (fit_arguments t d.arguments)

      by : (o : Option TaskName) → task_named w d.name ≡ o → Answer
      by None e = inr (kinds.UnknownTask, task_unknown w (line_entry d) e)
      by (Some t) e = by_method t e (method_named w d.method) refl

  -- what lines say, and the cause that is reported of those for which one is at fault by itself
  module _ {D N : Type 0} (entry : D → Entry) (Is : D → N → Type 0) (sound : (d : D) (n : N) → Is d n → (k : CauseKind) → IsAtFault w (entry d) k → ⊥)
      (each : (d : D) → ((n : N) × Is d n) ⊎ Smallest (entry d)) where
    record Fitted (ds : List D) : Type 0 where
      pub found : Option Cause
      pub earliest : IsEarliest (FaultIn w (map entry ds)) found
      pub says : found ≡ None → (ns : List N) × AllZip Is ds ns

    fit_lines : (ds : List D) → Fitted ds
    fit_lines [] = record { found = None; earliest = earliest_of_no_line (IsAtFault w) (λ e. e.said.line); says = λ e. ([], tt) }
    fit_lines (d ∷ ds) = join (each d) (fit_lines ds)
      where
        join : ((n : N) × Is d n) ⊎ Smallest (entry d) → Fitted ds → Fitted (d ∷ ds)
        join (inl (n, is)) rest =
            record {
              found = earlier None rest.found;
              earliest = earliest_of_both w (entry d ∷ []) (map entry ds) None rest.found (earliest_of_none w (entry d) (sound d n is)) rest.earliest;
              says = λ e. let (ns, all) = rest.says e in (n ∷ ns, (is, all));
            }
        join (inr (k, smallest)) rest =
            let c : Cause = record { kind = k; line = (entry d).said.line } in
            record {
              found = earlier (Some c) rest.found;
              earliest = earliest_of_both w (entry d ∷ []) (map entry ds) (Some c) rest.found (earliest_of_one w (entry d) k smallest) rest.earliest;
              says = λ e. absurd (some_cause c (earlier_none (Some c) rest.found e).0);
            }
          where
            some_cause : (c : Cause) → Some c ≡ None → ⊥
            some_cause c e = cc

  module _ (p : Plan) (form : FormTree p) where
    abbrev Answer : Type 0
    Answer = FitWorld w p ⊎ ((c : Cause) × IsCause w p c)

    module _ (gs : List GroundAction) (xs : List Decomposed) (actions : AllZip (IsActionOf w) p.actions gs) (lines : AllZip (IsDecomposed w) p.decompositions xs) where
      child_cause : (q : Parent) → Contains (parents p) q → (o : Option Cause) × IsEarliest (ChildFaultIn w p (q ∷ [])) o
      child_cause q x =
          let (m, is_method) = has_method w p form gs xs actions lines q x in
          let (ns, named) = names_for w p form gs xs actions lines q.children (λ i y. form.children i (contains_flat (λ q. q.children) (parents p) q i x y)) in
          let (o, is) = names_cause ns (names_of m.network.subtasks) q.line in
          (o, earliest_of_children w p form q m is_method ns named q.line o refl is)

      children_cause : (qs : List Parent) → ((q : Parent) → Contains qs q → Contains (parents p) q) → (o : Option Cause) × IsEarliest (ChildFaultIn w p qs) o
      children_cause [] among = (None, earliest_of_no_line (IsChildFault w p) (λ q. q.line))
      children_cause (q ∷ qs) among =
          let (o, one) = child_cause q (among q (contains_first q qs)) in
          let (u, rest) = children_cause qs (λ r h. among r (in_tail q qs r h)) in
          (earlier o u, earliest_of_lists (IsChildFault w p) (λ q. q.line) (q ∷ []) qs o u one rest)

      by_children : (o : Option Cause) × IsEarliest (ChildFaultIn w p (parents p)) o → Answer
      by_children (None, none) = inl (fit_unless_at_fault w p form gs xs actions lines none)
      by_children (Some c, first) = inr (c, child_fault_is_cause w p form gs xs actions lines c first)

    by_lines : (o : Option Cause) → IsEarliest (FaultIn w (entries p)) o
        → (o ≡ None → (gs : List GroundAction) × (xs : List Decomposed) × AllZip (IsActionOf w) p.actions gs × AllZip (IsDecomposed w) p.decompositions xs) → Answer
    by_lines (Some c) first says = inr (c, fault_is_cause w p (form_has_no_cause w p form) c first)
    by_lines None none says =
        let (gs, xs, actions, lines) = says refl in
        by_children gs xs actions lines (children_cause gs xs actions lines (parents p) (λ q h. h))

    -- the lines fit the world, or there is a cause
    pub fit_or_cause : Answer
    fit_or_cause =
        let a = fit_lines action_entry (IsActionOf w) (λ a g is. action_has_no_fault w a g.action g.objects is) fit_action p.actions in
        let d = fit_lines line_entry (IsDecomposed w) (decomposed_has_no_fault w) fit_line p.decompositions in
        by_lines (earlier a.found d.found) (earliest_of_both w (map action_entry p.actions) (map line_entry p.decompositions) a.found d.found a.earliest d.earliest)
        (λ e. let (one, other) = earlier_none a.found d.found e in let (gs, actions) = a.says one in let (xs, lines) = d.says other in (gs, xs, actions, lines))
