-- Which lines qualify for which causes, and that a plan that forms a tree and fits a world has none.
use Rattle.std.proofs.Common.{◌≡◌, ℕ, suc, ◌<◌, ◌≤◌, ◌⊎◌, inl, inr, List, [], ◌∷◌, ◌++◌, map, length, Some, None, refl, ap, sym, subst, ◌∙◌, arith}
use Rattle.std.specs.Prelude.{Contains, flat_map}
use Rattle.std.specs.List.{AllZip}
use Rattle.std.proofs.lemmas.List.Concat.{flat_map-cons}
use Rattle.std.proofs.lemmas.List.Elements.{All-contains, Contains-append_cases, Contains-append_left, Contains-append_right}
use Rattle.hv_lists.proofs.Contained.{mem_map, map_mem}
use Rattle.hv_lists.proofs.EachOnce.{once_tail, once_left, once_right, once_apart}
use Rattle.hv_world.specs.Values.{TaskName}
use Rattle.hv_lists.specs.Lists.{Once}
use Rattle.hv_world.specs.Worlds.{World, task_named, method_named}
use Rattle.hv_plan.specs.Values as text
use Rattle.hv_plan.specs.Values.{Plan}
use Rattle.hv_plan.specs.Shapes.{head, heads, parents, FormTree}
use Rattle.hv_plan.specs.Fits.{parameters_of, AreObjects, FitsAction, FitsDecomposition, FitsSubtasks, FitWorld, IsNamed, multiplicity, names_of, method_of}
use Rattle.hv_plan.specs.Causes.{number, Qualifies, repeated_id, unknown_child, child_before, child_twice, unreached, unknown_task, unknown_method, unknown_object, argument_count, argument_type, not_primitive, not_abstract, other_task, child_count, child_names, IsCause}
use Rattle.hv_plan.specs.inside.LineFaults.{Entry, action_entry, line_entry, entries, IsAtFault, IsEarliest, FaultIn}
use Rattle.hv_plan.specs.declared.cause.CauseKind.{CauseKind}
use Rattle.hv_plan.specs.declared.cause.CauseKind.TheVariants as kinds
use Rattle.hv_plan.specs.declared.cause.Cause.{Cause}
use Rattle.hv_plan.proofs.FitLemmas.{contains_cons, action_has_no_fault, line_has_no_fault}

-- a line that begins with an id, and what it says of the id
pub entry_of_head : (p : Plan) (a : text.Action) → Contains (heads p) a → (e : Entry) × Contains (entries p) e × (e.said ≡ a)
entry_of_head p a in' = elim (Contains-append_cases p.actions (map head p.decompositions) a in') [ inl x ↦ of_action x | inr x ↦ of_line (map_mem head p.decompositions a x) ]
  where
    of_action : Contains p.actions a → (e : Entry) × Contains (entries p) e × (e.said ≡ a)
    of_action x = (action_entry a, Contains-append_left (map action_entry p.actions) (map line_entry p.decompositions) (action_entry a) (mem_map action_entry p.actions a x), refl)

    of_line : (d : text.Decomposition) × Contains p.decompositions d × (head d ≡ a) → (e : Entry) × Contains (entries p) e × (e.said ≡ a)
    of_line (d, x, same) = (line_entry d, Contains-append_right (map action_entry p.actions) (map line_entry p.decompositions) (line_entry d) (mem_map line_entry p.decompositions d x), same)

module _ (w : World) (p : Plan) where
  by_head : (k : CauseKind) (a : text.Action) → Contains (heads p) a → ((e : Entry) → e.said ≡ a → IsAtFault w e k) → FaultIn w (entries p) k a.line
  by_head k a in' f = let (e, x, same) = entry_of_head p a in' in (e, x, f e same, ap (λ b. b.line) same)

  by_action : (k : CauseKind) (a : text.Action) → Contains p.actions a → IsAtFault w (action_entry a) k → FaultIn w (entries p) k a.line
  by_action k a x f = (action_entry a, Contains-append_left (map action_entry p.actions) (map line_entry p.decompositions) (action_entry a) (mem_map action_entry p.actions a x), f, refl)

  by_line : (k : CauseKind) (d : text.Decomposition) → Contains p.decompositions d → IsAtFault w (line_entry d) k → FaultIn w (entries p) k d.line
  by_line k d x f = (line_entry d, Contains-append_right (map action_entry p.actions) (map line_entry p.decompositions) (line_entry d) (mem_map line_entry p.decompositions d x), f, refl)

  -- a line qualifies by the form of the tree, by what stands on it alone, or by its children
  pub qualifies_by : (k : CauseKind) (l : ℕ) → Qualifies w p k l → (number k < 54) ⊎ (FaultIn w (entries p) k l ⊎ (61 < number k))
  qualifies_by _ _ (repeated_id a b x y e lt) = inl (omega arith)
  qualifies_by _ _ (unknown_child q i x y none) = inl (omega arith)
  qualifies_by _ _ (child_before q r i x y lt u v) = inl (omega arith)
  qualifies_by _ _ (child_twice q x twice) = inl (omega arith)
  qualifies_by _ _ (unreached a x none) = inl (omega arith)
  qualifies_by _ _ (unknown_task a x none) = inr (inl (by_head kinds.UnknownTask a x (λ e same. subst (λ b. task_named w b.name ≡ None) (sym same) none)))
  qualifies_by _ _ (unknown_method d x none) = inr (inl (by_line kinds.UnknownMethod d x (d.method, refl, none)))
  qualifies_by _ _ (unknown_object a n x y none) =
      inr (inl (by_head kinds.UnknownObject a x (λ e same. (n, subst (λ b. Contains b.arguments n) (sym same) y, none))))
  qualifies_by _ _ (argument_count a t x named differ) =
      inr (inl (by_head kinds.ArgumentCount a x (λ e same. (t, subst (λ b. task_named w b.name ≡ Some t) (sym same) named, λ as_many. differ (subst (λ b. length b.arguments ≡ length (parameters_of w t)) same as_many)))))
  qualifies_by _ _ (argument_type a t os x named found untyped) =
      inr (inl (by_head kinds.ArgumentType a x (λ e same. (t, os, subst (λ b. task_named w b.name ≡ Some t) (sym same) named, subst (λ b. AreObjects w b.arguments os) (sym same) found, untyped))))
  qualifies_by _ _ (not_primitive a t x named) = inr (inl (by_action kinds.NotPrimitive a x (t, refl, named)))
  qualifies_by _ _ (not_abstract d a x named) = inr (inl (by_line kinds.NotAbstract d x (d.method, a, refl, named)))
  qualifies_by _ _ (other_task d t m x named of other) = inr (inl (by_line kinds.OtherTask d x (d.method, t, m, refl, named, of, other)))
  qualifies_by _ _ (child_count q m x of differ) = inr (inr (omega arith))
  qualifies_by _ _ (child_names q m names n x of named differ) = inr (inr (omega arith))

  said_action : (a : text.Action) → Contains p.actions a → Contains (heads p) a
  said_action a x = Contains-append_left p.actions (map head p.decompositions) a x

  said_line : (d : text.Decomposition) → Contains p.decompositions d → Contains (heads p) (head d)
  said_line d x = Contains-append_right p.actions (map head p.decompositions) (head d) (mem_map head p.decompositions d x)

  action_qualifies : (k : CauseKind) (a : text.Action) → Contains p.actions a → IsAtFault w (action_entry a) k → Qualifies w p k a.line
  action_qualifies kinds.RepeatedId a x f = absurd f
  action_qualifies kinds.UnknownChild a x f = absurd f
  action_qualifies kinds.TwoParents a x f = absurd f
  action_qualifies kinds.Unreached a x f = absurd f
  action_qualifies kinds.UnknownTask a x f = unknown_task a (said_action a x) f
  action_qualifies kinds.UnknownMethod a x (n, is, none) = cc
  action_qualifies kinds.UnknownObject a x (n, y, none) = unknown_object a n (said_action a x) y none
  action_qualifies kinds.ArgumentCount a x (t, named, differ) = argument_count a t (said_action a x) named differ
  action_qualifies kinds.ArgumentType a x (t, os, named, found, untyped) = argument_type a t os (said_action a x) named found untyped
  action_qualifies kinds.NotPrimitive a x (t, is, named) = not_primitive a t x named
  action_qualifies kinds.NotAbstract a x (n, b, is, named) = cc
  action_qualifies kinds.OtherTask a x (n, t, m, is, named, of, other) = cc
  action_qualifies kinds.ChildCount a x f = absurd f
  action_qualifies kinds.ChildNames a x f = absurd f

  line_qualifies : (k : CauseKind) (d : text.Decomposition) → Contains p.decompositions d → IsAtFault w (line_entry d) k → Qualifies w p k d.line
  line_qualifies kinds.RepeatedId d x f = absurd f
  line_qualifies kinds.UnknownChild d x f = absurd f
  line_qualifies kinds.TwoParents d x f = absurd f
  line_qualifies kinds.Unreached d x f = absurd f
  line_qualifies kinds.UnknownTask d x f = unknown_task (head d) (said_line d x) f
  line_qualifies kinds.UnknownMethod d x (n, is, none) = unknown_method d x (its_method n is (λ m. method_named w m ≡ None) none)
    where
      its_method : (n : List ℕ) → Some d.method ≡ Some n → (P : List ℕ → Type 0) → P n → P d.method
      its_method n is P h = let same : d.method ≡ n = cc in subst P (sym same) h
  line_qualifies kinds.UnknownObject d x (n, y, none) = unknown_object (head d) n (said_line d x) y none
  line_qualifies kinds.ArgumentCount d x (t, named, differ) = argument_count (head d) t (said_line d x) named differ
  line_qualifies kinds.ArgumentType d x (t, os, named, found, untyped) = argument_type (head d) t os (said_line d x) named found untyped
  line_qualifies kinds.NotPrimitive d x (t, is, named) = cc
  line_qualifies kinds.NotAbstract d x (n, b, is, named) = not_abstract d b x named
  line_qualifies kinds.OtherTask d x (n, t, m, is, named, of, other) =
      let same : d.method ≡ n = cc in
      other_task d t m x named (subst (λ v. method_of w (Some v) ≡ Some m) (sym same) of) other
  line_qualifies kinds.ChildCount d x f = absurd f
  line_qualifies kinds.ChildNames d x f = absurd f

  pub fault_qualifies : (k : CauseKind) (l : ℕ) → FaultIn w (entries p) k l → Qualifies w p k l
  fault_qualifies k l (e, x, f, is) =
      subst (λ n. Qualifies w p k n) is
      (elim (Contains-append_cases (map action_entry p.actions) (map line_entry p.decompositions) e x) [ inl y ↦ of_action (map_mem action_entry p.actions e y) | inr y ↦ of_line (map_mem line_entry p.decompositions e y) ])
    where
      of_action : (a : text.Action) × Contains p.actions a × (action_entry a ≡ e) → Qualifies w p k e.said.line
      of_action (a, y, same) = subst (λ z. Qualifies w p k z.said.line) same (action_qualifies k a y (subst (λ z. IsAtFault w z k) (sym same) f))

      of_line : (d : text.Decomposition) × Contains p.decompositions d × (line_entry d ≡ e) → Qualifies w p k e.said.line
      of_line (d, y, same) = subst (λ z. Qualifies w p k z.said.line) same (line_qualifies k d y (subst (λ z. IsAtFault w z k) (sym same) f))

  fault_number : (e : Entry) (k : CauseKind) → IsAtFault w e k → (54 ≤ number k) × (number k ≤ 61)
  fault_number e kinds.RepeatedId f = absurd f
  fault_number e kinds.UnknownChild f = absurd f
  fault_number e kinds.TwoParents f = absurd f
  fault_number e kinds.Unreached f = absurd f
  fault_number e kinds.UnknownTask f = (omega arith, omega arith)
  fault_number e kinds.UnknownMethod f = (omega arith, omega arith)
  fault_number e kinds.UnknownObject f = (omega arith, omega arith)
  fault_number e kinds.ArgumentCount f = (omega arith, omega arith)
  fault_number e kinds.ArgumentType f = (omega arith, omega arith)
  fault_number e kinds.NotPrimitive f = (omega arith, omega arith)
  fault_number e kinds.NotAbstract f = (omega arith, omega arith)
  fault_number e kinds.OtherTask f = (omega arith, omega arith)
  fault_number e kinds.ChildCount f = absurd f
  fault_number e kinds.ChildNames f = absurd f

  -- the cause that is reported of those for which a line is at fault by itself, where none comes of the form of the tree
  pub fault_is_cause : ((k : CauseKind) (l : ℕ) → Qualifies w p k l → number k < 54 → ⊥) → (c : Cause) → IsEarliest (FaultIn w (entries p)) (Some c) → IsCause w p c
  fault_is_cause formed c ((e, x, f, is), first) =
      record { qualifies = fault_qualifies c.kind c.line (e, x, f, is); smallest = smallest; first = at_first }
    where
      bounds : (54 ≤ number c.kind) × (number c.kind ≤ 61)
      bounds = fault_number e c.kind f

      smallest : (k : CauseKind) (l : ℕ) → number k < number c.kind → Qualifies w p k l → ⊥
      smallest k l lt q =
          let most : number c.kind ≤ 61 = bounds.1 in
          elim (qualifies_by k l q) [ inl form ↦ formed k l q form | inr other ↦ elim other [ inl fault ↦ elim (first k l fault) [ inl less ↦ omega arith | inr same ↦ (let e : number c.kind ≡ number k = same.0 in omega arith) ] | inr more ↦ omega arith ] ]

      at_first : (l : ℕ) → Qualifies w p c.kind l → c.line ≤ l
      at_first l q =
          let least : 54 ≤ number c.kind = bounds.0 in
          let most : number c.kind ≤ 61 = bounds.1 in
          elim (qualifies_by c.kind l q) [ inl form ↦ absurd (omega arith) | inr other ↦ elim other [ inl fault ↦ elim (first c.kind l fault) [ inl less ↦ absurd (omega arith) | inr same ↦ same.1 ] | inr more ↦ absurd (omega arith) ] ]

-- lists in which no number stands twice
once_head : (n : ℕ) (ns : List ℕ) (m : ℕ) → Once (n ∷ ns) → Contains ns m → n ≡ m → ⊥
once_head n ns m once (k, lt, e) same = once 0 (suc k) m (omega arith) (omega arith) (same ∙ sym e)

once_by : {X : Type 0} (f : X → ℕ) (xs : List X) → Once (map f xs) → (x y : X) → Contains xs x → Contains xs y → f x ≡ f y → x ≡ y
once_by f [] once x y (k, lt, e) in' same = absurd (omega arith)
once_by f (z ∷ xs) once x y inx iny same =
    elim (contains_cons z xs x inx) [
      | inl ex ↦ elim (contains_cons z xs y iny) [ inl ey ↦ sym ex ∙ ey | inr ry ↦ absurd (once_head (f z) (map f xs) (f y) once (mem_map f xs y ry) (ap f ex ∙ same)) ]
      | inr rx ↦ elim (contains_cons z xs y iny) [ inl ey ↦ absurd (once_head (f z) (map f xs) (f x) once (mem_map f xs x rx) (ap f ey ∙ sym same)) | inr ry ↦ once_by f xs (once_tail (f z) (map f xs) once) x y rx ry same ]
    ]

-- lists of lists of numbers
module _ {X : Type 0} (f : X → List ℕ) where
  pub contains_flat : (xs : List X) (x : X) (n : ℕ) → Contains xs x → Contains (f x) n → Contains (flat_map f xs) n
  contains_flat [] x n (k, lt, e) in' = absurd (omega arith)
  contains_flat (y ∷ xs) x n inx in' =
      subst (λ ns. Contains ns n) (sym (flat_map-cons f y xs))
      (elim (contains_cons y xs x inx) [ inl e ↦ Contains-append_left (f y) (flat_map f xs) n (subst (λ z. Contains (f z) n) (sym e) in') | inr rest ↦ Contains-append_right (f y) (flat_map f xs) n (contains_flat xs x n rest in') ])

  once_among : (xs : List X) (x : X) → Once (flat_map f xs) → Contains xs x → Once (f x)
  once_among [] x once (k, lt, e) = absurd (omega arith)
  once_among (y ∷ xs) x once in' =
      let once' : Once (f y ++ flat_map f xs) = subst Once (flat_map-cons f y xs) once in
      elim (contains_cons y xs x in') [ inl e ↦ subst (λ z. Once (f z)) e (once_left (f y) (flat_map f xs) once') | inr rest ↦ once_among xs x (once_right (f y) (flat_map f xs) once') rest ]

  one_list : (xs : List X) (x y : X) (n : ℕ) → Once (flat_map f xs) → Contains xs x → Contains xs y → Contains (f x) n → Contains (f y) n → x ≡ y
  one_list [] x y n once (k, lt, e) iny nx ny = absurd (omega arith)
  one_list (z ∷ xs) x y n once inx iny nx ny =
      let once' : Once (f z ++ flat_map f xs) = subst Once (flat_map-cons f z xs) once in
      elim (contains_cons z xs x inx) [
        | inl ex ↦ elim (contains_cons z xs y iny) [ inl ey ↦ sym ex ∙ ey | inr ry ↦ absurd (once_apart (f z) (flat_map f xs) n once' (subst (λ u. Contains (f u) n) (sym ex) nx) (contains_flat xs y n ry ny)) ]
        | inr rx ↦ elim (contains_cons z xs y iny) [ inl ey ↦ absurd (once_apart (f z) (flat_map f xs) n once' (subst (λ u. Contains (f u) n) (sym ey) ny) (contains_flat xs x n rx nx)) | inr ry ↦ one_list xs x y n (once_right (f z) (flat_map f xs) once') rx ry nx ny ]
      ]

module _ (w : World) (p : Plan) (form : FormTree p) where
  -- no cause comes of the form of a tree
  pub form_has_no_cause : (k : CauseKind) (l : ℕ) → Qualifies w p k l → number k < 54 → ⊥
  form_has_no_cause _ _ (repeated_id a b x y same lt) below =
      let one : a ≡ b = once_by (λ a. a.id) (heads p) form.distinct a b x y same in
      let lines : a.line ≡ b.line = ap (λ a. a.line) one in
      omega arith
  form_has_no_cause _ _ (unknown_child q i x y none) below =
      none (form.children i (contains_flat (λ q. q.children) (parents p) q i x y))
  form_has_no_cause _ _ (child_before q r i x y lt u v) below =
      let one : q ≡ r = one_list (λ q. q.children) (parents p) q r i form.once x y u v in
      let lines : q.line ≡ r.line = ap (λ q. q.line) one in
      omega arith
  form_has_no_cause _ _ (child_twice q x twice) below = twice (once_among (λ q. q.children) (parents p) q form.once x)
  form_has_no_cause _ _ (unreached a x none) below = none (form.reached a.id (mem_map (λ a. a.id) (heads p) a x))
  form_has_no_cause _ _ (unknown_task a x none) below = omega arith
  form_has_no_cause _ _ (unknown_method d x none) below = omega arith
  form_has_no_cause _ _ (unknown_object a n x y none) below = omega arith
  form_has_no_cause _ _ (argument_count a t x named differ) below = omega arith
  form_has_no_cause _ _ (argument_type a t os x named found untyped) below = omega arith
  form_has_no_cause _ _ (not_primitive a t x named) below = omega arith
  form_has_no_cause _ _ (not_abstract d a x named) below = omega arith
  form_has_no_cause _ _ (other_task d t m x named of other) below = omega arith
  form_has_no_cause _ _ (child_count q m x of differ) below = omega arith
  form_has_no_cause _ _ (child_names q m names n x of named differ) below = omega arith

  -- an id names one task or action
  pub named_one : (i : ℕ) (n m : TaskName) → IsNamed w p i n → IsNamed w p i m → n ≡ m
  named_one i n m a b =
      let one : a.line ≡ b.line = once_by (λ a. a.id) (heads p) form.distinct a.line b.line a.begins b.begins (a.id ∙ sym b.id) in
      let other : task_named w a.line.name ≡ Some m = subst (λ z. task_named w z.name ≡ Some m) (sym one) b.name in
      let own : task_named w a.line.name ≡ Some n = a.name in
      cc

  pub names_one : (is : List ℕ) (ns ms : List TaskName) → AllZip (IsNamed w p) is ns → AllZip (IsNamed w p) is ms → ns ≡ ms
  names_one [] [] [] a b = refl
  names_one [] [] (m ∷ ms) a b = absurd b
  names_one [] (n ∷ ns) ms a b = absurd a
  names_one (i ∷ is) [] ms a b = absurd a
  names_one (i ∷ is) (n ∷ ns) [] a b = absurd b
  names_one (i ∷ is) (n ∷ ns) (m ∷ ms) (x, a) (y, b) = (λ t. named_one i n m x y t ∷ names_one is ns ms a b t)

  module _ (fits : FitWorld w p) where
    -- no line is at fault by itself
    no_fault : (k : CauseKind) (l : ℕ) → FaultIn w (entries p) k l → ⊥
    no_fault k l (e, x, f, is) =
        elim (Contains-append_cases (map action_entry p.actions) (map line_entry p.decompositions) e x) [ inl y ↦ of_action (map_mem action_entry p.actions e y) | inr y ↦ of_line (map_mem line_entry p.decompositions e y) ]
      where
        of_action : (a : text.Action) × Contains p.actions a × (action_entry a ≡ e) → ⊥
        of_action (a, y, same) =
            let fit = All-contains (FitsAction w) p.actions a fits.actions y in
            action_has_no_fault w a fit.action fit.objects fit.says k (subst (λ z. IsAtFault w z k) (sym same) f)

        of_line : (d : text.Decomposition) × Contains p.decompositions d × (line_entry d ≡ e) → ⊥
        of_line (d, y, same) =
            let fit = All-contains (FitsDecomposition w) p.decompositions d fits.decompositions y in
            line_has_no_fault w d fit.task fit.number fit.method fit.objects fit.says fit.named fit.numbered fit.is_for k (subst (λ z. IsAtFault w z k) (sym same) f)

    -- the children of each line are as its method's subtasks
    children_fit : (k : CauseKind) (l : ℕ) → Qualifies w p k l → 61 < number k → ⊥
    children_fit _ _ (repeated_id a b x y same lt) above = omega arith
    children_fit _ _ (unknown_child q i x y none) above = omega arith
    children_fit _ _ (child_before q r i x y lt u v) above = omega arith
    children_fit _ _ (child_twice q x twice) above = omega arith
    children_fit _ _ (unreached a x none) above = omega arith
    children_fit _ _ (unknown_task a x none) above = omega arith
    children_fit _ _ (unknown_method d x none) above = omega arith
    children_fit _ _ (unknown_object a n x y none) above = omega arith
    children_fit _ _ (argument_count a t x named differ) above = omega arith
    children_fit _ _ (argument_type a t os x named found untyped) above = omega arith
    children_fit _ _ (not_primitive a t x named) above = omega arith
    children_fit _ _ (not_abstract d a x named) above = omega arith
    children_fit _ _ (other_task d t m x named of other) above = omega arith
    children_fit _ _ (child_count q m x of differ) above =
        let fit = All-contains (FitsSubtasks w p) (parents p) q fits.children x in
        let own : method_of w q.method ≡ Some fit.method = fit.is_method in
        let same : fit.method ≡ m = cc in
        differ (subst (λ m. length q.children ≡ length m.network.subtasks) same fit.as_many)
    children_fit _ _ (child_names q m names n x of named differ) above =
        let fit = All-contains (FitsSubtasks w p) (parents p) q fits.children x in
        let own : method_of w q.method ≡ Some fit.method = fit.is_method in
        let same : fit.method ≡ m = cc in
        let names' : fit.names ≡ names = names_one q.children fit.names names fit.are_named named in
        differ (subst (λ ns. multiplicity n ns ≡ multiplicity n (names_of m.network.subtasks)) names' (subst (λ m. multiplicity n fit.names ≡ multiplicity n (names_of m.network.subtasks)) same (fit.as_often n)))

    pub tree_has_no_cause : (k : CauseKind) (l : ℕ) → Qualifies w p k l → ⊥
    tree_has_no_cause k l q =
        elim (qualifies_by w p k l q) [ inl form' ↦ form_has_no_cause k l q form' | inr other ↦ elim other [ inl fault ↦ no_fault k l fault | inr more ↦ children_fit k l q more ] ]
