-- A plan fits a world where each line says what the world has and no children are at fault.
use Rattle.std.proofs.Common.{◌≡◌, ℕ, Bool, true, false, nat_eq, inl, inr, List, [], ◌∷◌, map, length, Some, None, refl, ap, subst, ◌∙◌}
use Rattle.std.specs.Prelude.{Contains, All, get_or, option_and_then, slice_get}
use Rattle.std.specs.List.{AllZip}
use Rattle.std.proofs.lemmas.Bool.{eqb-true, eqb-false}
use Rattle.std.proofs.lemmas.List.Elements.{Contains-get_or, Contains-append_cases}
use Rattle.hv_lists.proofs.Contained.{contains_first, in_tail, map_mem}
use Rattle.hv_world.specs.Values.{TaskName, compound, primitive}
use Rattle.hv_world.specs.Bindings.{GroundAction}
use Rattle.hv_world.specs.Worlds.{World, Method, task_named}
use Rattle.hv_plan.specs.Values as text
use Rattle.hv_plan.specs.Values.{Plan}
use Rattle.hv_plan.specs.Shapes.{head, heads, ids, Parent, root_parent, line_parent, parents, FormTree}
use Rattle.hv_plan.specs.Fits.{FitsAction, FitsDecomposition, FitsSubtasks, FitWorld, IsNamed, multiplicity, names_of, method_of}
use Rattle.hv_plan.specs.inside.FitViews.{IsDecomposed}
use Rattle.hv_plan.specs.inside.LineFaults.{IsEarliest}
use Rattle.hv_plan.specs.inside.ChildFaults.{ChildFaultIn}
use Rattle.hv_plan.specs.PlanTrees.{IsActionOf}
use Rattle.hv_plan.specs.declared.cause.CauseKind.TheVariants as kinds
use Rattle.hv_plan.specs.inside.FitViews.{Decomposed}
use Rattle.hv_plan.proofs.FitLemmas.{contains_cons, partner, method_of_name}
use Rattle.hv_plan.proofs.FormLaws.{contains_flat}

-- what holds of each member holds of all
all_by : {X : Type 0} (P : X → Type 0) (xs : List X) → ((x : X) → Contains xs x → P x) → All P xs
all_by P xs h = λ k d lt. h (get_or xs k d) (Contains-get_or xs k d lt)

-- numbers that can't differ are the same
pub same_unless : (m n : ℕ) → ((m ≡ n → ⊥) → ⊥) → m ≡ n
same_unless m n not = go (nat_eq m n) refl
  where
    go : (b : Bool) → nat_eq m n ≡ b → m ≡ n
    go true e = eqb-true m n e
    go false e = absurd (not (eqb-false m n e))

module _ (w : World) (p : Plan) (form : FormTree p) (gs : List GroundAction) (xs : List Decomposed)
    (actions : AllZip (IsActionOf w) p.actions gs) (lines : AllZip (IsDecomposed w) p.decompositions xs) where
  action_fits : (a : text.Action) → Contains p.actions a → FitsAction w a
  action_fits a x =
      let (g, says) = partner (IsActionOf w) p.actions gs a actions x in
      record { action = g.action; objects = g.objects; says = says }

  line_fits : (d : text.Decomposition) → Contains p.decompositions d → FitsDecomposition w d
  line_fits d x =
      let (z, says) = partner (IsDecomposed w) p.decompositions xs d lines x in
      let (m, numbered) = method_of_name w d.method z.method says.named in
      record {
        task = z.task;
        objects = z.objects;
        says = says.says;
        number = z.method;
        method = m;
        named = says.named;
        numbered = numbered;
        is_for = rw numbered at says.is_for;
      }

  -- the line that an id begins names a task or an action
  head_is_named : (a : text.Action) → Contains (heads p) a → (n : TaskName) × (task_named w a.name ≡ Some n)
  head_is_named a x = elim (Contains-append_cases p.actions (map head p.decompositions) a x) [ inl y ↦ of_action y | inr y ↦ of_line (map_mem head p.decompositions a y) ]
    where
      of_action : Contains p.actions a → (n : TaskName) × (task_named w a.name ≡ Some n)
      of_action y = let fit = action_fits a y in (primitive fit.action, fit.says.name)

      of_line : (d : text.Decomposition) × Contains p.decompositions d × (head d ≡ a) → (n : TaskName) × (task_named w a.name ≡ Some n)
      of_line (d, y, same) = let fit = line_fits d y in (compound fit.task, subst (λ b. task_named w b.name ≡ Some (compound fit.task)) same fit.says.name)

  id_is_named : (i : ℕ) → Contains (ids p) i → (n : TaskName) × IsNamed w p i n
  id_is_named i x =
      let (a, begins, same) = map_mem (λ a. a.id) (heads p) i x in
      let (n, name) = head_is_named a begins in
      (n, record { line = a; begins = begins; id = same; name = name })

  pub names_for : (is : List ℕ) → ((i : ℕ) → Contains is i → Contains (ids p) i) → (ns : List TaskName) × AllZip (IsNamed w p) is ns
  names_for [] begin = ([], tt)
  names_for (i ∷ is) begin =
      let (n, named) = id_is_named i (begin i (contains_first i is)) in
      let (ns, all) = names_for is (λ j x. begin j (in_tail i is j x)) in
      (n ∷ ns, (named, all))

  -- a line that names children has a method
  pub has_method : (q : Parent) → Contains (parents p) q → (m : Method) × (method_of w q.method ≡ Some m)
  has_method q x = elim (contains_cons (root_parent p.root) (map line_parent p.decompositions) q x) [ inl same ↦ of_root same | inr y ↦ of_line (map_mem line_parent p.decompositions q y) ]
    where
      of_root : root_parent p.root ≡ q → (m : Method) × (method_of w q.method ≡ Some m)
      of_root same = (w.top, subst (λ r. method_of w r.method ≡ Some w.top) same refl)

      of_line : (d : text.Decomposition) × Contains p.decompositions d × (line_parent d ≡ q) → (m : Method) × (method_of w q.method ≡ Some m)
      of_line (d, y, same) =
          let fit = line_fits d y in
          (fit.method, subst (λ r. method_of w r.method ≡ Some fit.method) same (ap (option_and_then (slice_get w.methods)) fit.named ∙ fit.numbered))

  module _ (none : IsEarliest (ChildFaultIn w p (parents p)) None) where
    children_fit : (q : Parent) → Contains (parents p) q → FitsSubtasks w p q
    children_fit q x =
        let (m, is_method) = has_method q x in
        let (ns, named) = names_for q.children (λ i y. form.children i (contains_flat (λ q. q.children) (parents p) q i x y)) in
        record {
          method = m;
          is_method = is_method;
          names = ns;
          are_named = named;
          as_many = same_unless (length q.children) (length m.network.subtasks) (λ differ. none kinds.ChildCount q.line (q, x, (m, is_method, differ), refl));
          as_often = λ n. same_unless (multiplicity n ns) (multiplicity n (names_of m.network.subtasks)) (λ differ. none kinds.ChildNames q.line (q, x, (m, ns, n, is_method, named, differ), refl));
        }

    -- the lines fit the world, where no children are at fault
    pub fit_unless_at_fault : FitWorld w p
    fit_unless_at_fault =
        record {
          actions = all_by (FitsAction w) p.actions action_fits;
          decompositions = all_by (FitsDecomposition w) p.decompositions line_fits;
          children = all_by (FitsSubtasks w p) (parents p) children_fit;
        }
